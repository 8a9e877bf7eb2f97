-- Keys: a word in a property.
use Rattle.std.specs.Prelude.{◌≡◌, ◌⊎◌, ◌≤◌, ℕ, length}
use Rattle.std.specs.declared.cmp.Ordering.{Ordering}
use Rattle.std.specs.Cmp.Lexicographic.{slice_cmp}
use Rattle.std.specs.Ordering.{nat_cmp, on, then_cmp}
use Rattle.ci_keys.specs.declared.key.Key.{Key}

-- keys are in order by property, and at one property by the bytes of the word
abbrev pub key_cmp : Key → Key → Ordering
key_cmp = then_cmp (on (λ k. k.property.0) nat_cmp) (on (λ k. k.word) (slice_cmp nat_cmp))

-- a property that may have words: the text of a document, its name, or a text that describes it
abbrev pub MayHaveWords : ℕ → Type 0
MayHaveWords property = (property ≡ 1) ⊎ (property ≡ 2) ⊎ (5 ≤ property) × (property ≤ 9)

-- a key of the index: a word of 1 to 128 bytes, in a property that may have words
pub record IsIndexKey (key : Key) : Type 0 where
  pub property : MayHaveWords key.property.0
  pub some : 1 ≤ length key.word
  pub short : length key.word ≤ 128
