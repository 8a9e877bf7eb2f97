-- Chunks without their numbers.
use Rattle.std.specs.Prelude.{ℕ}
use Rattle.ci_base.specs.declared.numbers.PropNo.{PropNo}
use Rattle.ci_chunk.specs.Talk.{value_bytes}
use Rattle.ci_filters.specs.declared.content.Content.{Content}
use Rattle.ci_filters.specs.declared.content.Content.TheVariants.{Words, Held}

-- of which property a chunk is, and what it holds
pub record Item : Type 0 where
  pub property : PropNo
  pub content : Content

-- the bytes of a text that is a value; words are handed out in pieces
abbrev pub held_bytes : Content → ℕ
held_bytes (Words _) = 0
held_bytes (Held value) = value_bytes value
