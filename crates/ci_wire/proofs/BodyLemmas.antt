-- The kind of a body tells its frame.
use Rattle.std.proofs.Common.{◌≡◌, ◌≢◌, ℕ, ◌^◌, ◌<◌, ◌≤◌, List, [], ◌∷◌, ◌++◌, length, ap, sym, ◌∙◌, arith, length-append, append-nil, ◌⊎◌, inl, inr, lit≤, subst, Err, IsErrOf, get_or, drop, take, take-append-drop}
use Rattle.ci_base.specs.Path.{IsPath}
use Rattle.ci_base.specs.declared.value.Value.TheVariants.{Int, Str}
use Rattle.ci_base.specs.declared.value.Value.{Value as Held}
use Rattle.ci_chunk.specs.declared.chunk.StatChunk.{StatChunk}
use Rattle.ci_chunk.specs.declared.status.Status.{Status as Code}
use Rattle.ci_chunk.specs.declared.talk.Answer.{Answer as Said}
use Rattle.ci_chunk.specs.declared.talk.Answer.TheVariants.{Status, Chunk, Text, Value}
use Rattle.ci_chunk.specs.declared.talk.Call.{Call as Asked}
use Rattle.ci_chunk.specs.declared.talk.Call.TheVariants.{Init, GetChunk, GetText, GetValue}
use Rattle.ci_wire.specs.Frame.{IsCall, IsAnswer, IsShortText, IsShortValue, IsTextStatus, IsValueStatus, NoFrame, break_byte, state_byte, call_body, answer_body, chunk_bytes, value_bytes}
use Rattle.ci_chunk.specs.declared.chunk.Break.{Break}
use Rattle.ci_chunk.specs.declared.chunk.ChunkState.{ChunkState}
use Rattle.ci_wire.proofs.NumbersLemmas.{fronts, two, length-u16, length-u32, length-i64, u32_front}
use Rattle.ci_wire.specs.Numbers.{u16_bytes, u32_bytes, i64_bytes}
use Rattle.ci_wire.specs.declared.frame.Frame.TheVariants.{Call, Answer}

-- the byte of a kind
pub call_first : (call : Asked) → get_or (call_body call) 0 0 ≤ 4
call_first (Init flags path) = lit≤ tt
call_first GetChunk = lit≤ tt
call_first (GetText max) = lit≤ tt
call_first GetValue = lit≤ tt

pub answer_first : (answer : Said) → 16 ≤ get_or (answer_body answer) 0 0
answer_first (Status status) = lit≤ tt
answer_first (Chunk chunk) = lit≤ tt
answer_first (Text status text) = lit≤ tt
answer_first (Value status value) = lit≤ tt

-- where no frame of a kind has the fields, none has the body
pub no_init : (fields : List ℕ) → ((flags : ℕ) (path : List ℕ) → IsCall (Init flags path) → ¬ (u32_bytes flags ++ path ≡ fields)) → NoFrame (1 ∷ fields)
no_init fields none (Call (Init flags path)) grammar e = none flags path grammar (ap (λ xs. drop 1 xs) e)
no_init fields none (Call _) grammar e = absurd (omega (arith, ap (λ xs. get_or xs 0 0) e))
no_init fields none (Answer answer) grammar e = absurd (omega (arith, answer_first answer, ap (λ xs. get_or xs 0 0) e))

pub no_get_chunk : (fields : List ℕ) → ¬ ([] ≡ fields) → NoFrame (2 ∷ fields)
no_get_chunk fields none (Call GetChunk) grammar e = none (ap (λ xs. drop 1 xs) e)
no_get_chunk fields none (Call _) grammar e = absurd (omega (arith, ap (λ xs. get_or xs 0 0) e))
no_get_chunk fields none (Answer answer) grammar e = absurd (omega (arith, answer_first answer, ap (λ xs. get_or xs 0 0) e))

pub no_get_text : (fields : List ℕ) → ((max : ℕ) → ¬ (u32_bytes max ≡ fields)) → NoFrame (3 ∷ fields)
no_get_text fields none (Call (GetText max)) grammar e = none max (ap (λ xs. drop 1 xs) e)
no_get_text fields none (Call _) grammar e = absurd (omega (arith, ap (λ xs. get_or xs 0 0) e))
no_get_text fields none (Answer answer) grammar e = absurd (omega (arith, answer_first answer, ap (λ xs. get_or xs 0 0) e))

pub no_get_value : (fields : List ℕ) → ¬ ([] ≡ fields) → NoFrame (4 ∷ fields)
no_get_value fields none (Call GetValue) grammar e = none (ap (λ xs. drop 1 xs) e)
no_get_value fields none (Call _) grammar e = absurd (omega (arith, ap (λ xs. get_or xs 0 0) e))
no_get_value fields none (Answer answer) grammar e = absurd (omega (arith, answer_first answer, ap (λ xs. get_or xs 0 0) e))

pub no_status : (fields : List ℕ) → ((status : Code) → ¬ (u32_bytes status.0 ≡ fields)) → NoFrame (16 ∷ fields)
no_status fields none (Answer (Status status)) grammar e = none status (ap (λ xs. drop 1 xs) e)
no_status fields none (Answer _) grammar e = absurd (omega (arith, ap (λ xs. get_or xs 0 0) e))
no_status fields none (Call call) grammar e = absurd (omega (arith, call_first call, ap (λ xs. get_or xs 0 0) e))

pub no_chunk : (fields : List ℕ) → ((chunk : StatChunk) → ¬ (chunk_bytes chunk ≡ fields)) → NoFrame (17 ∷ fields)
no_chunk fields none (Answer (Chunk chunk)) grammar e = none chunk (ap (λ xs. drop 1 xs) e)
no_chunk fields none (Answer _) grammar e = absurd (omega (arith, ap (λ xs. get_or xs 0 0) e))
no_chunk fields none (Call call) grammar e = absurd (omega (arith, call_first call, ap (λ xs. get_or xs 0 0) e))

pub no_text : (fields : List ℕ) → ((status : Code) (text : List ℕ) → IsAnswer (Text status text) → ¬ (u32_bytes status.0 ++ text ≡ fields)) → NoFrame (18 ∷ fields)
no_text fields none (Answer (Text status text)) grammar e = none status text grammar (ap (λ xs. drop 1 xs) e)
no_text fields none (Answer _) grammar e = absurd (omega (arith, ap (λ xs. get_or xs 0 0) e))
no_text fields none (Call call) grammar e = absurd (omega (arith, call_first call, ap (λ xs. get_or xs 0 0) e))

pub no_value : (fields : List ℕ) → ((status : Code) (value : Held) → IsAnswer (Value status value) → ¬ (u32_bytes status.0 ++ value_bytes value ≡ fields)) → NoFrame (19 ∷ fields)
no_value fields none (Answer (Value status value)) grammar e = none status value grammar (ap (λ xs. drop 1 xs) e)
no_value fields none (Answer _) grammar e = absurd (omega (arith, ap (λ xs. get_or xs 0 0) e))
no_value fields none (Call call) grammar e = absurd (omega (arith, call_first call, ap (λ xs. get_or xs 0 0) e))

-- four bytes of a number at least
length-front : (n : ℕ) (rest fields : List ℕ) → u32_bytes n ++ rest ≡ fields → 4 ≤ length fields
length-front n rest fields e = omega (arith, ap length e, length-append (u32_bytes n) rest, length-u32 n)

pub no_init-short : (fields : List ℕ) → length fields < 4 → NoFrame (1 ∷ fields)
no_init-short fields short = no_init fields (λ flags path grammar e. absurd (omega (arith, length-front flags path fields e)))

pub no_init-path : (fields path : List ℕ) (flags : ℕ) → fields ≡ u32_bytes flags ++ path → flags < 2 ^ 32 → ¬ IsPath path → NoFrame (1 ∷ fields)
no_init-path fields path flags spelled range isnt = no_init fields (λ n other grammar e.
    let f = u32_front n flags other path grammar.0 range (e ∙ spelled) in
    isnt (let P : List ℕ → Type 0 = λ p. IsPath p in subst P f.1 grammar.1))

-- the number is all of the four bytes
pub u32_whole : (fields rest : List ℕ) (n : ℕ) → fields ≡ u32_bytes n ++ rest → length fields ≡ 4 → u32_bytes n ≡ fields
u32_whole fields [] n spelled whole = sym (append-nil (u32_bytes n)) ∙ sym spelled
u32_whole fields (b ∷ rest) n spelled whole =
    absurd (omega (arith, ap length spelled, length-append (u32_bytes n) (b ∷ rest), length-u32 n))

pub no_get_text-length : (fields : List ℕ) → length fields ≢ 4 → NoFrame (3 ∷ fields)
no_get_text-length fields other = no_get_text fields (λ max e. other (sym (ap length e) ∙ length-u32 max))

pub no_status-length : (fields : List ℕ) → length fields ≢ 4 → NoFrame (16 ∷ fields)
no_status-length fields other = no_status fields (λ status e. other (sym (ap length e) ∙ length-u32 status.0))

pub no_text-short : (fields : List ℕ) → length fields < 4 → NoFrame (18 ∷ fields)
no_text-short fields short = no_text fields (λ status text grammar e. absurd (omega (arith, length-front status.0 text fields e)))

-- the statuses of texts and values are numbers of four bytes
pub text_status-fits : (status : Code) → IsTextStatus status → status.0 < 2 ^ 32
text_status-fits status (inl e) = omega arith
text_status-fits status (inr e) = omega arith

pub value_status-fits : (status : Code) → IsValueStatus status → status.0 < 2 ^ 32
value_status-fits status (inl e) = omega arith
value_status-fits status (inr e) = omega arith

pub no_text-status : (fields rest : List ℕ) (status : Code) → fields ≡ u32_bytes status.0 ++ rest → status.0 < 2 ^ 32
    → ¬ IsTextStatus status → NoFrame (18 ∷ fields)
no_text-status fields rest status spelled range isnt = no_text fields (λ other text grammar e.
    let f = u32_front other.0 status.0 text rest (text_status-fits other grammar.0) range (e ∙ spelled) in
    isnt (let P : ℕ → Type 0 = λ n. (n ≡ 0) ⊎ (n ≡ 0x41709) in subst P f.0 grammar.0))

pub no_text-text : (fields rest : List ℕ) (status : Code) → fields ≡ u32_bytes status.0 ++ rest → status.0 < 2 ^ 32
    → ¬ IsShortText rest → NoFrame (18 ∷ fields)
no_text-text fields rest status spelled range isnt = no_text fields (λ other text grammar e.
    let f = u32_front other.0 status.0 text rest (text_status-fits other grammar.0) range (e ∙ spelled) in
    isnt (let P : List ℕ → Type 0 = λ t. IsShortText t in subst P f.1 grammar.1))

pub no_value-short : (fields : List ℕ) → length fields < 4 → NoFrame (19 ∷ fields)
no_value-short fields short = no_value fields (λ status value grammar e. absurd (omega (arith, length-front status.0 (value_bytes value) fields e)))

pub no_value-status : (fields rest : List ℕ) (status : Code) → fields ≡ u32_bytes status.0 ++ rest → status.0 < 2 ^ 32
    → ¬ IsValueStatus status → NoFrame (19 ∷ fields)
no_value-status fields rest status spelled range isnt = no_value fields (λ other value grammar e.
    let f = u32_front other.0 status.0 (value_bytes value) rest (value_status-fits other grammar.0) range (e ∙ spelled) in
    isnt (let P : ℕ → Type 0 = λ n. (n ≡ 0) ⊎ (n ≡ 0x4170A) in subst P f.0 grammar.0))

pub no_value-value : (fields rest : List ℕ) (status : Code) → fields ≡ u32_bytes status.0 ++ rest → status.0 < 2 ^ 32
    → ((v : Held) → IsShortValue v → ¬ (value_bytes v ≡ rest)) → NoFrame (19 ∷ fields)
no_value-value fields rest status spelled range none = no_value fields (λ other value grammar e.
    let f = u32_front other.0 status.0 (value_bytes value) rest (value_status-fits other grammar.0) range (e ∙ spelled) in
    none value grammar.1 f.1)

-- a value with the kind of a number has eight bytes behind it
pub no_int-length : (rest : List ℕ) → length rest ≢ 8 → (v : Held) → IsShortValue v → ¬ (value_bytes v ≡ 1 ∷ rest)
no_int-length rest other (Int n) grammar e = let f : i64_bytes n ≡ rest = ap (λ xs. drop 1 xs) e in other (sym (ap length f) ∙ length-i64 n)
no_int-length rest other (Str text) grammar e = absurd (omega (arith, ap (λ xs. get_or xs 0 0) e))

pub length-chunk : (chunk : StatChunk) → length (chunk_bytes chunk) ≡ 24
unfolding chunk_bytes
length-chunk chunk =
    omega (
      arith,
      length-append (u32_bytes chunk.id) (break_byte chunk.break_type ∷ state_byte chunk.state ∷ u32_bytes chunk.locale ++ (u16_bytes chunk.property.0 ++ (u32_bytes chunk.source ++ (u32_bytes chunk.start ++ u32_bytes chunk.length)))),
      length-append (u32_bytes chunk.locale) (u16_bytes chunk.property.0 ++ (u32_bytes chunk.source ++ (u32_bytes chunk.start ++ u32_bytes chunk.length))),
      length-append (u16_bytes chunk.property.0) (u32_bytes chunk.source ++ (u32_bytes chunk.start ++ u32_bytes chunk.length)),
      length-append (u32_bytes chunk.source) (u32_bytes chunk.start ++ u32_bytes chunk.length),
      length-append (u32_bytes chunk.start) (u32_bytes chunk.length),
      length-u32 chunk.id,
      length-u32 chunk.locale,
      length-u16 chunk.property.0,
      length-u32 chunk.source,
      length-u32 chunk.start,
      length-u32 chunk.length,
    )

pub no_chunk-length : (fields : List ℕ) → length fields ≢ 24 → NoFrame (17 ∷ fields)
no_chunk-length fields other = no_chunk fields (λ chunk e. other (sym (ap length e) ∙ length-chunk chunk))

-- the bytes of a chunk tell its break and its state
pub chunk_pair : (chunk : StatChunk) (id a b : ℕ) (rest : List ℕ) → chunk_bytes chunk ≡ u32_bytes id ++ (a ∷ b ∷ rest)
    → (break_byte chunk.break_type ≡ a) × (state_byte chunk.state ≡ b)
unfolding chunk_bytes
chunk_pair chunk id a b rest e =
    let f = (fronts (u32_bytes chunk.id) (u32_bytes id) _ (a ∷ b ∷ rest) (length-u32 chunk.id ∙ sym (length-u32 id)) e).1 in
    (ap (λ xs. get_or xs 0 0) f, ap (λ xs. get_or xs 1 0) f)

-- the break and the state stand behind the number
pub pair_at : (fields after pair rest : List ℕ) (id : ℕ) → fields ≡ u32_bytes id ++ after → pair ≡ take 2 after → length pair ≡ 2
    → rest ≡ drop 2 after → fields ≡ u32_bytes id ++ (get_or pair 0 0 ∷ get_or pair 1 0 ∷ rest)
pair_at fields after pair rest id spelled front two_bytes back =
    let whole : pair ++ rest ≡ after = rw (front, back) (take-append-drop 2 after) in
    spelled ∙ ap (λ xs. u32_bytes id ++ xs) (sym (ap (λ xs. xs ++ rest) (two pair two_bytes) ∙ whole))

-- no chunk has another break, or another state
pub no_chunk-break : (fields after pair rest : List ℕ) (id : ℕ) → fields ≡ u32_bytes id ++ after → pair ≡ take 2 after → length pair ≡ 2
    → rest ≡ drop 2 after → ((b : Break) → break_byte b ≢ get_or pair 0 0) → NoFrame (17 ∷ fields)
no_chunk-break fields after pair rest id spelled front two_bytes back none = no_chunk fields (λ chunk e.
    none chunk.break_type (chunk_pair chunk id _ _ rest (e ∙ pair_at fields after pair rest id spelled front two_bytes back)).0)

pub no_chunk-state : (fields after pair rest : List ℕ) (id : ℕ) → fields ≡ u32_bytes id ++ after → pair ≡ take 2 after → length pair ≡ 2
    → rest ≡ drop 2 after → ((s : ChunkState) → state_byte s ≢ get_or pair 1 0) → NoFrame (17 ∷ fields)
no_chunk-state fields after pair rest id spelled front two_bytes back none = no_chunk fields (λ chunk e.
    none chunk.state (chunk_pair chunk id _ _ rest (e ∙ pair_at fields after pair rest id spelled front two_bytes back)).1)

-- an error is the same one under every type of value
pub same_err : {T U E : Type 0} (a b : E) → IsErrOf {T = T} (Err a) b → IsErrOf {T = U} (Err a) b
same_err {T} {U} {E} a b e = let f : a ≡ b = cc in ap (λ x. Err x) f
