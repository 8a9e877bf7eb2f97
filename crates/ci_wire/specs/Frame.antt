-- How a frame is spelled: its length as a varint, then its body, which is a byte for its kind and the fields.
use Rattle.std.specs.Prelude.{◌≡◌, ℕ, ◌^◌, ◌<◌, ◌≤◌, ◌⊎◌, ⊤, List, [], ◌∷◌, ◌++◌, length, IsUtf8, FitsSigned}
use Rattle.std.specs.Int.{w64}
use Rattle.ci_base.specs.Path.{IsPath}
use Rattle.ci_base.specs.Varint.{varint}
use Rattle.ci_base.specs.declared.value.Value.{Value as Held}
use Rattle.ci_base.specs.declared.value.Value.TheVariants.{Int, Str}
use Rattle.ci_chunk.specs.declared.chunk.Break.{Break}
use Rattle.ci_chunk.specs.declared.chunk.Break.TheVariants.{NoBreak, Eow, Eos, Eop, Eoc}
use Rattle.ci_chunk.specs.declared.chunk.ChunkState.{ChunkState}
use Rattle.ci_chunk.specs.declared.chunk.ChunkState.TheVariants.{Text as HasText, Value as HasValue, FilterOwnedValue}
use Rattle.ci_chunk.specs.declared.chunk.StatChunk.{StatChunk}
use Rattle.ci_chunk.specs.declared.status.Status.{Status as Code}
use Rattle.ci_chunk.specs.declared.talk.Answer.{Answer as Said}
use Rattle.ci_chunk.specs.declared.talk.Answer.TheVariants.{Status, Chunk, Text, Value}
use Rattle.ci_chunk.specs.declared.talk.Call.{Call as Asked}
use Rattle.ci_chunk.specs.declared.talk.Call.TheVariants.{Init, GetChunk, GetText, GetValue}
use Rattle.ci_wire.specs.Numbers.{u16_bytes, u32_bytes, i64_bytes}
use Rattle.ci_wire.specs.declared.frame.Frame.{Frame}
use Rattle.ci_wire.specs.declared.frame.Frame.TheVariants.{Call, Answer}

-- the byte of a break
abbrev pub break_byte : Break → ℕ
break_byte NoBreak = 0
break_byte Eow = 1
break_byte Eos = 2
break_byte Eop = 3
break_byte Eoc = 4

-- the byte of a chunk's state
abbrev pub state_byte : ChunkState → ℕ
state_byte HasText = 1
state_byte HasValue = 2
state_byte FilterOwnedValue = 4

-- what is told of a chunk, in 24 bytes
unfoldable pub chunk_bytes : StatChunk → List ℕ
chunk_bytes chunk =
    u32_bytes chunk.id
    ++ (break_byte chunk.break_type ∷ state_byte chunk.state ∷ u32_bytes chunk.locale
    ++ (u16_bytes chunk.property.0
    ++ (u32_bytes chunk.source ++ (u32_bytes chunk.start ++ u32_bytes chunk.length))))

-- a value: a byte for its kind, then the number or the text
abbrev pub value_bytes : Held → List ℕ
value_bytes (Int number) = 1 ∷ i64_bytes number
value_bytes (Str text) = 2 ∷ text

-- a body: the byte of the frame's kind, then its fields
abbrev pub call_body : Asked → List ℕ
call_body (Init flags path) = 1 ∷ u32_bytes flags ++ path
call_body GetChunk = 2 ∷ []
call_body (GetText max) = 3 ∷ u32_bytes max
call_body GetValue = 4 ∷ []

abbrev pub answer_body : Said → List ℕ
answer_body (Status status) = 16 ∷ u32_bytes status.0
answer_body (Chunk chunk) = 17 ∷ chunk_bytes chunk
answer_body (Text status text) = 18 ∷ u32_bytes status.0 ++ text
answer_body (Value status value) = 19 ∷ u32_bytes status.0 ++ value_bytes value

abbrev pub body : Frame → List ℕ
body (Call call) = call_body call
body (Answer answer) = answer_body answer

-- the one spelling of a frame
unfoldable pub frame_spelling : Frame → List ℕ
frame_spelling frame = varint (length (body frame)) ++ body frame

-- a text that a frame may have
pub record IsShortText (text : List ℕ) : Type 0 where
  pub utf8 : IsUtf8 text
  pub short : length text ≤ 65536

-- what is told of a chunk is within its bytes
pub record IsChunk (chunk : StatChunk) : Type 0 where
  pub id : chunk.id < 2 ^ 32
  pub locale : chunk.locale < 2 ^ 32
  pub property : chunk.property.0 < 2 ^ 16
  pub source : chunk.source < 2 ^ 32
  pub start : chunk.start < 2 ^ 32
  pub length : chunk.length < 2 ^ 32

-- a value that a frame may have
abbrev pub IsShortValue : Held → Type 0
IsShortValue (Int number) = FitsSigned w64 number
IsShortValue (Str text) = IsShortText text

-- the statuses beside a text: S_OK, and that it is the chunk's last
abbrev pub IsTextStatus : Code → Type 0
IsTextStatus status = (status.0 ≡ 0) ⊎ (status.0 ≡ 0x41709)

-- the statuses beside a value
abbrev pub IsValueStatus : Code → Type 0
IsValueStatus status = (status.0 ≡ 0) ⊎ (status.0 ≡ 0x4170A)

-- the grammar: what may stand in the fields of a call, and of an answer
abbrev pub IsCall : Asked → Type 0
IsCall (Init flags path) = (flags < 2 ^ 32) × IsPath path
IsCall GetChunk = ⊤
IsCall (GetText max) = max < 2 ^ 32
IsCall GetValue = ⊤

abbrev pub IsAnswer : Said → Type 0
IsAnswer (Status status) = status.0 < 2 ^ 32
IsAnswer (Chunk chunk) = IsChunk chunk
IsAnswer (Text status text) = IsTextStatus status × IsShortText text
IsAnswer (Value status value) = IsValueStatus status × IsShortValue value

abbrev pub IsFrame : Frame → Type 0
IsFrame (Call call) = IsCall call
IsFrame (Answer answer) = IsAnswer answer

-- no frame of the grammar has this body
abbrev pub NoFrame : List ℕ → Type 0
NoFrame bytes = (frame : Frame) → IsFrame frame → ¬ (body frame ≡ bytes)

-- a text value isn't too long for a frame
abbrev pub IsLittle : Held → Type 0
IsLittle (Int _) = ⊤
IsLittle (Str text) = length text ≤ 65536

-- an answer that can be encoded: the status that a text or a value asks for, and not too long a text
abbrev pub CanEncode : Said → Type 0
CanEncode (Status _) = ⊤
CanEncode (Chunk _) = ⊤
CanEncode (Text status text) = IsTextStatus status × (length text ≤ 65536)
CanEncode (Value status value) = IsValueStatus status × IsLittle value
