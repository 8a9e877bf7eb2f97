-- A document that is being read: the answers to the calls, and what is left to be said after each.
use Rattle.std.specs.Prelude.{◌≡◌, ℕ, ◌+◌, ◌==◌, min, nat_le, List, [], ◌∷◌, Option, Some, None, length, drop, if◌then◌else◌}
use Rattle.ci_base.specs.declared.value.Value.{Value as AnyValue}
use Rattle.ci_chunk.specs.Plain.{paragraph}
use Rattle.ci_chunk.specs.Statuses.{s_ok, last_text, end_of_chunks, no_more_text, no_text, no_more_values, no_values}
use Rattle.ci_chunk.specs.Talk.{value_bytes}
use Rattle.ci_chunk.specs.declared.chunk.ChunkState.{ChunkState}
use Rattle.ci_chunk.specs.declared.chunk.ChunkState.TheVariants.{Text as HasText, Value as HasValue}
use Rattle.ci_chunk.specs.declared.status.Status.{Status as Code}
use Rattle.ci_chunk.specs.declared.talk.Answer.{Answer}
use Rattle.ci_chunk.specs.declared.talk.Answer.TheVariants as said
use Rattle.ci_words.specs.Front.{front_within}
use Rattle.ci_filters.specs.Contents.{Item}
use Rattle.ci_filters.specs.declared.content.Content.{Content}
use Rattle.ci_filters.specs.declared.content.Content.TheVariants as holds
use Rattle.ci_filters.specs.declared.given.Given.{Given}
use Rattle.ci_filters.specs.declared.given.Given.TheVariants.{Nothing, Words, Held}

-- a document: the number of its next chunk, the chunks still to be told, and what is left of the one that was told last
pub record Open : Type 0 where
  pub next : ℕ
  pub ahead : List Item
  pub given : Given

-- a document of which nothing was told
abbrev pub fresh : List Item → Open
fresh items = record { next = 1; ahead = items; given = Nothing }

-- what a chunk has, by what it holds
abbrev pub state_of : Content → ChunkState
state_of (holds.Words _) = HasText
state_of (holds.Held _) = HasValue

-- what is left of it when it is told: all
abbrev pub left_of : Content → Given
left_of (holds.Words text) = Words text
left_of (holds.Held value) = Held (Some value)

-- the bytes of a text value that is left
abbrev pub left_bytes : Given → ℕ
left_bytes (Held (Some value)) = value_bytes value
left_bytes (Held None) = 0
left_bytes (Words _) = 0
left_bytes Nothing = 0

-- GetChunk is answered with the next chunk, and with END_OF_CHUNKS where there is none
abbrev pub next_chunk : Open → List Item → Answer × Open
next_chunk document [] = (said.Status end_of_chunks, document)
next_chunk document (item ∷ items) = (
  said.Chunk (paragraph document.next (state_of item.content) item.property),
  record { next = document.next + 1; ahead = items; given = left_of item.content },
)

abbrev pub say_chunk : Open → Answer × Open
say_chunk document = next_chunk document document.ahead

-- the most bytes of a piece of text: what the call asks for, if that is from 4 to 16,384
abbrev pub piece_bytes : ℕ → ℕ
piece_bytes max = if nat_le 4 max then min max 16384 else 16384

-- the status beside a piece tells whether it is the last: nothing is left behind it
abbrev pub piece_status : List ℕ → Code
piece_status left = if length left == 0 then last_text else s_ok

-- GetText is answered with the longest front of what is left of the words that has whole characters and fits
abbrev pub say_words : ℕ → List ℕ → Answer × List ℕ
say_words max text =
    let piece = front_within (piece_bytes max) text in
    let left = drop (length piece) text in
    if length text == 0 then (said.Status no_more_text, text) else (said.Text (piece_status left) piece, left)

-- and with NO_TEXT where the chunk has no words
abbrev pub text_from : ℕ → Open → Given → Answer × Open
text_from max document (Words text) = let it = say_words max text in (it.0, record document { given = Words it.1 })
text_from max document (Held _) = (said.Status no_text, document)
text_from max document Nothing = (said.Status no_text, document)

abbrev pub say_text : ℕ → Open → Answer × Open
say_text max document = text_from max document document.given

-- GetValue is answered with the chunk's value, and once more with NO_MORE_VALUES
abbrev pub say_held : Option AnyValue → Answer × Option AnyValue
say_held (Some value) = (said.Value s_ok value, None)
say_held None = (said.Status no_more_values, None)

-- and with NO_VALUES where the chunk has none
abbrev pub value_from : Open → Given → Answer × Open
value_from document (Held value) = let it = say_held value in (it.0, record document { given = Held it.1 })
value_from document (Words _) = (said.Status no_values, document)
value_from document Nothing = (said.Status no_values, document)

abbrev pub say_value : Open → Answer × Open
say_value document = value_from document document.given

-- this was said, and this is left; or nothing was said, for want of memory, and nothing has changed
abbrev pub Says : {S : Type 0} → Answer × S → Option Answer → S → S → Type 0
Says {S} it (Some answer) before after = (answer ≡ it.0) × (after ≡ it.1)
Says {S} it None before after = after ≡ before
