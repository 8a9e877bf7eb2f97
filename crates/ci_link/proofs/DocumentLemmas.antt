-- A reader that heard one answer more stands behind it.
use Rattle.std.proofs.Common.{◌≡◌, ℕ, Bool, true, false, ◌+◌, ◌^◌, ◌<◌, ◌≤◌, ◌++◌, ◌==◌, ◌&&◌, ◌||◌, List, [], ◌∷◌, Some, None, length, refl, ap, sym, ◌∙◌, arith, append_assoc, append-nil, nat_lt, cond, inl, inr}
use Rattle.std.specs.List.{list_all}
use Rattle.std.proofs.lemmas.Bool.{cases_lt, lt-ltb, le-ltb, ltb-true, and_parts, and_from, and_right}
use Rattle.std.proofs.Math.Bool.{and-true}
use Rattle.ci_base.specs.declared.value.Value.{Value as Held}
use Rattle.ci_chunk.specs.Talk.{Talk}
use Rattle.ci_chunk.specs.declared.chunk.ChunkState.{ChunkState}
use Rattle.ci_chunk.specs.declared.chunk.ChunkState.TheVariants.{Text as HasText, Value as HasValue, FilterOwnedValue}
use Rattle.ci_chunk.specs.declared.chunk.StatChunk.{StatChunk}
use Rattle.ci_chunk.specs.declared.outcome.Outcome.TheVariants.{Failed, Refused}
use Rattle.ci_chunk.specs.declared.piece.Piece.{Piece}
use Rattle.ci_chunk.specs.declared.piece.Piece.TheVariants as piece
use Rattle.ci_chunk.specs.declared.status.Status.{Status as Code}
use Rattle.ci_chunk.specs.declared.talk.Answer.{Answer}
use Rattle.ci_chunk.specs.declared.talk.Answer.TheVariants as said
use Rattle.ci_chunk.specs.declared.talk.Call.{Call}
use Rattle.ci_chunk.specs.declared.talk.Call.TheVariants.{GetChunk, GetValue}
use Rattle.ci_link.specs.Document.{Hears, Keeps, Stands, asked, counted, is_above, stage_for}
use Rattle.ci_link.specs.Pieces.{asks_chunk, bytes_in, bytes_of_value, chunks_of, id_in, ids_of, piece_of, pieces_of, size_of, text_of}
use Rattle.ci_link.specs.Reading.{Answered, Ask, Ends, Illegal, done as Finished, after, after_chunk, after_counted, after_state, after_status, clip_bytes, clip_chunks, init_call, or_done, text_call}
use Rattle.ci_link.specs.declared.document.Document.{Document}
use Rattle.ci_link.specs.declared.stage.Stage.TheVariants.{Opening, Chunks, Text, Value}
use Rattle.ci_link.proofs.PiecesLemmas.{chunks_of-push, ids_of-push, pieces_of-chunk, size_of-push}

-- what an answer does to a reader, part by part
pub stands_push : (path : List ℕ) (old new : Document) (talk : Talk) (answer : Answer) → Stands path old talk
    → after talk (asked path old.stage) answer ≡ Ask (asked path new.stage)
    → new.chunks ≡ old.chunks + asks_chunk (asked path old.stage) → new.size ≡ old.size + bytes_in answer
    → ((id : ℕ) → list_all (λ other. nat_lt other id) (ids_of talk ++ id_in answer) ≡ is_above new.last id)
    → Keeps (talk ++ (asked path old.stage, answer) ∷ []) new.pieces new.stage
    → Stands path new (talk ++ (asked path old.stage, answer) ∷ [])
stands_push path old new talk answer stands goes_on chunks size last pieces = record {
  begun = Answered talk (asked path old.stage) answer (asked path new.stage) stands.begun goes_on;
  chunks = chunks ∙ ap (λ n. n + asks_chunk (asked path old.stage)) stands.chunks ∙ sym (chunks_of-push talk (asked path old.stage) answer);
  size = size ∙ ap (λ n. n + bytes_in answer) stands.size ∙ sym (size_of-push talk (asked path old.stage) answer);
  last = λ id. ap (λ ids. list_all (λ other. nat_lt other id) ids) (ids_of-push talk (asked path old.stage) answer) ∙ last id;
  pieces = pieces;
}

-- the identifiers stay where no chunk was told
last_kept : (path : List ℕ) (document : Document) (talk : Talk) → Stands path document talk
    → (id : ℕ) → list_all (λ other. nat_lt other id) (ids_of talk ++ []) ≡ is_above document.last id
last_kept path document talk stands id = ap (λ ids. list_all (λ other. nat_lt other id) ids) (append-nil (ids_of talk)) ∙ stands.last id

-- exchanges behind one more
behind : (talk : Talk) (call : Call) (answer : Answer) (more : Talk) → (talk ++ (call, answer) ∷ []) ++ more ≡ talk ++ (call, answer) ∷ more
behind talk call answer more = append_assoc talk ((call, answer) ∷ []) more

-- the document is open
pub stands_opened : (path : List ℕ) (document : Document) (talk : Talk) (status : Code) → status.0 < 2 ^ 31
    → Stands path (record document { stage = Opening }) talk
    → Stands path (record document { stage = Chunks }) (talk ++ (init_call path, said.Status status) ∷ [])
stands_opened path document talk status passes stands =
    stands_push path (record document { stage = Opening }) (record document { stage = Chunks }) talk (said.Status status) stands
    (rw (lt-ltb status.0 (2 ^ 31) passes) refl) (omega arith) (omega arith) (last_kept path (record document { stage = Opening }) talk stands)
    (rw (stands.pieces.0, stands.pieces.1) refl)

-- a chunk was told
keeps_told : (talk : Talk) (pieces : List Piece) (chunk : StatChunk) (state : ChunkState)
    → ((more : Talk) → pieces_of (talk ++ (GetChunk, said.Chunk chunk) ∷ more) ≡ pieces ++ (piece_of chunk state more ++ pieces_of more))
    → Keeps (talk ++ (GetChunk, said.Chunk chunk) ∷ []) pieces (stage_for chunk state)
keeps_told talk pieces chunk HasText e = λ more. ap pieces_of (behind talk GetChunk (said.Chunk chunk) more) ∙ e more
keeps_told talk pieces chunk HasValue e = λ more. ap pieces_of (behind talk GetChunk (said.Chunk chunk) more) ∙ e more
keeps_told talk pieces chunk FilterOwnedValue e = e [] ∙ append-nil pieces

last_told : (ids : List ℕ) (least id : ℕ) → list_all (λ other. nat_lt other least) ids ≡ true
    → list_all (λ other. nat_lt other id) (ids ++ least ∷ []) ≡ nat_lt least id
last_told [] least id below = and-true (nat_lt least id)
last_told (other ∷ ids) least id below =
    let both = and_parts (nat_lt other least) (list_all (λ o. nat_lt o least) ids) below in
    let rest = last_told ids least id both.1 in
    elim (cases_lt least id) [
      | inl above ↦ (let t = lt-ltb least id above in
          and_from _ _ (lt-ltb other id (omega (arith, ltb-true other least both.0))) (rest ∙ t) ∙ sym t)
      | inr under ↦ (let t = le-ltb least id under in
          and_right _ _ (rest ∙ t) ∙ sym t)
    ]

after_state_asked : (path : List ℕ) (chunk : StatChunk) (state : ChunkState) → after_state state ≡ Ask (asked path (stage_for chunk state))
after_state_asked path chunk HasText = refl
after_state_asked path chunk HasValue = refl
after_state_asked path chunk FilterOwnedValue = refl

or_done_asked : (pieces : List Piece) (state : ChunkState) → or_done pieces (after_state state) ≡ Finished pieces
or_done_asked pieces HasText = refl
or_done_asked pieces HasValue = refl
or_done_asked pieces FilterOwnedValue = refl

-- a chunk was told, with an identifier above those before it
pub hears_told : (path : List ℕ) (document : Document) (talk : Talk) (chunk : StatChunk) → is_above document.last chunk.id ≡ true
    → Stands path (record document { stage = Chunks }) talk
    → Hears path talk GetChunk (said.Chunk chunk) (counted (record document { last = Some chunk.id; stage = stage_for chunk chunk.state }))
hears_told path document talk chunk above stands =
    let old : Document = record document { stage = Chunks } in
    let told : Document = record document { last = Some chunk.id; stage = stage_for chunk chunk.state } in
    let below : list_all (λ other. nat_lt other chunk.id) (ids_of talk) ≡ true = stands.last chunk.id ∙ above in
    let legal : after_chunk talk (said.Chunk chunk) ≡ after_state chunk.state = rw below refl in
    elim (cases_lt (document.chunks + 1) clip_chunks) [
      | inl fewer ↦ (
          let test = lt-ltb (document.chunks + 1) clip_chunks fewer in
          let same : nat_lt (chunks_of talk + 1) clip_chunks ≡ true = ap (λ n. nat_lt (n + 1) clip_chunks) (sym stands.chunks) ∙ test in
          let goes_on : after_counted talk (said.Chunk chunk) ≡ Ask (asked path told.stage) =
          ap (λ b. cond b (after_chunk talk (said.Chunk chunk)) (or_done (pieces_of talk) (after_chunk talk (said.Chunk chunk)))) same
          ∙ legal ∙ after_state_asked path chunk chunk.state in
          let kept = keeps_told talk document.pieces chunk chunk.state (λ more. pieces_of-chunk talk (said.Chunk chunk) more
          ∙ ap (λ p. p ++ (piece_of chunk chunk.state more ++ pieces_of more)) stands.pieces) in
          let result = stands_push path old (record told { chunks = document.chunks + 1 }) talk (said.Chunk chunk) stands goes_on refl (omega arith)
          (λ id. last_told (ids_of talk) chunk.id id below) kept in
          rw test result)
      | inr most ↦ (
          let test = le-ltb (document.chunks + 1) clip_chunks most in
          let same : nat_lt (chunks_of talk + 1) clip_chunks ≡ false = ap (λ n. nat_lt (n + 1) clip_chunks) (sym stands.chunks) ∙ test in
          let done : after_counted talk (said.Chunk chunk) ≡ Finished document.pieces =
          ap (λ b. cond b (after_chunk talk (said.Chunk chunk)) (or_done (pieces_of talk) (after_chunk talk (said.Chunk chunk)))) same
          ∙ ap (λ n. or_done (pieces_of talk) n) legal ∙ or_done_asked (pieces_of talk) chunk.state ∙ ap (λ p. Finished p) stands.pieces in
          rw test done)
    ]

-- a chunk can't be had
pub hears_passed : (path : List ℕ) (document : Document) (talk : Talk) (status : Code) → (status.0 == 0x80041700) ≡ false
    → ((status.0 == 0x80041707) || (status.0 == 0x80041708)) ≡ true → Stands path (record document { stage = Chunks }) talk
    → Hears path talk GetChunk (said.Status status) (counted (record document { stage = Chunks }))
hears_passed path document talk status isnt passes stands =
    let old : Document = record document { stage = Chunks } in
    let legal : after_chunk talk (said.Status status) ≡ Ask GetChunk = rw (isnt, passes) refl in
    elim (cases_lt (document.chunks + 1) clip_chunks) [
      | inl fewer ↦ (
          let test = lt-ltb (document.chunks + 1) clip_chunks fewer in
          let same : nat_lt (chunks_of talk + 1) clip_chunks ≡ true = ap (λ n. nat_lt (n + 1) clip_chunks) (sym stands.chunks) ∙ test in
          let goes_on : after_counted talk (said.Status status) ≡ Ask GetChunk =
          ap (λ b. cond b (after_chunk talk (said.Status status)) (or_done (pieces_of talk) (after_chunk talk (said.Status status)))) same ∙ legal in
          let kept : pieces_of (talk ++ (GetChunk, said.Status status) ∷ []) ≡ document.pieces =
          pieces_of-chunk talk (said.Status status) [] ∙ append-nil (pieces_of talk) ∙ stands.pieces in
          let result = stands_push path old (record old { chunks = document.chunks + 1 }) talk (said.Status status) stands goes_on refl (omega arith)
          (last_kept path old talk stands) kept in
          rw test result)
      | inr most ↦ (
          let test = le-ltb (document.chunks + 1) clip_chunks most in
          let same : nat_lt (chunks_of talk + 1) clip_chunks ≡ false = ap (λ n. nat_lt (n + 1) clip_chunks) (sym stands.chunks) ∙ test in
          let done : after_counted talk (said.Status status) ≡ Finished document.pieces =
          ap (λ b. cond b (after_chunk talk (said.Status status)) (or_done (pieces_of talk) (after_chunk talk (said.Status status)))) same
          ∙ ap (λ n. or_done (pieces_of talk) n) legal ∙ ap (λ p. Finished p) stands.pieces in
          rw test done)
    ]

-- the text goes on
pub stands_text : (path : List ℕ) (document : Document) (talk : Talk) (chunk : StatChunk) (text part joined : List ℕ) (status : Code) (size : ℕ)
    → Stands path (record document { stage = Text chunk text }) talk
    → size ≡ document.size + length part → size ≤ clip_bytes → ((status.0 == 0) && nat_lt 0 (length part)) ≡ true → joined ≡ text ++ part
    → Stands path (record document { size = size; stage = Text chunk joined }) (talk ++ (text_call, said.Text status part) ∷ [])
stands_text path document talk chunk text part joined status size stands total fits goes_on join =
    let old : Document = record document { stage = Text chunk text } in
    stands_push path old (record document { size = size; stage = Text chunk joined }) talk (said.Text status part) stands
    (rw (le-ltb clip_bytes (size_of talk + length part) (omega (arith, stands.size)), goes_on) refl)
    (omega arith) total (last_kept path old talk stands)
    (λ more. ap pieces_of (behind talk text_call (said.Text status part) more) ∙ stands.pieces ((text_call, said.Text status part) ∷ more)
    ∙ ap (λ t. document.pieces ++ piece.Words chunk t ∷ pieces_of more) (sym (append_assoc text part (text_of more)) ∙ ap (λ t. t ++ text_of more) (sym join)))

-- the text ended with a part
pub stands_last : (path : List ℕ) (document : Document) (talk : Talk) (chunk : StatChunk) (text part joined : List ℕ) (pieces : List Piece) (status : Code) (size : ℕ)
    → Stands path (record document { stage = Text chunk text }) talk
    → size ≡ document.size + length part → size ≤ clip_bytes → ((status.0 == 0) && nat_lt 0 (length part)) ≡ false → joined ≡ text ++ part
    → pieces ≡ document.pieces ++ piece.Words chunk joined ∷ []
    → Stands path (record document { pieces = pieces; size = size; stage = Chunks }) (talk ++ (text_call, said.Text status part) ∷ [])
stands_last path document talk chunk text part joined pieces status size stands total fits ends join ended =
    let old : Document = record document { stage = Text chunk text } in
    stands_push path old (record document { pieces = pieces; size = size; stage = Chunks }) talk (said.Text status part) stands
    (rw (le-ltb clip_bytes (size_of talk + length part) (omega (arith, stands.size)), ends) refl)
    (omega arith) total (last_kept path old talk stands)
    (stands.pieces ((text_call, said.Text status part) ∷ [])
    ∙ ap (λ t. document.pieces ++ piece.Words chunk t ∷ []) (ap (λ t. text ++ t) (append-nil part) ∙ sym join) ∙ sym ended)

-- the text ended with a status
pub stands_ended : (path : List ℕ) (document : Document) (talk : Talk) (chunk : StatChunk) (text : List ℕ) (pieces : List Piece) (status : Code)
    → Stands path (record document { stage = Text chunk text }) talk → ((status.0 == 0x80041701) || (status.0 == 0x80041705)) ≡ true
    → pieces ≡ document.pieces ++ piece.Words chunk text ∷ []
    → Stands path (record document { pieces = pieces; stage = Chunks }) (talk ++ (text_call, said.Status status) ∷ [])
stands_ended path document talk chunk text pieces status stands ends ended =
    let old : Document = record document { stage = Text chunk text } in
    stands_push path old (record document { pieces = pieces; stage = Chunks }) talk (said.Status status) stands
    (rw ends refl) (omega arith) (omega arith) (last_kept path old talk stands)
    (stands.pieces ((text_call, said.Status status) ∷ [])
    ∙ ap (λ t. document.pieces ++ piece.Words chunk t ∷ []) (append-nil text) ∙ sym ended)

-- the value came
pub stands_value : (path : List ℕ) (document : Document) (talk : Talk) (chunk : StatChunk) (value : Held) (pieces : List Piece) (status : Code) (size : ℕ)
    → Stands path (record document { stage = Value chunk }) talk → size ≡ document.size + bytes_of_value value → size ≤ clip_bytes
    → pieces ≡ document.pieces ++ piece.Held chunk (Some value) ∷ []
    → Stands path (record document { pieces = pieces; size = size; stage = Chunks }) (talk ++ (GetValue, said.Value status value) ∷ [])
stands_value path document talk chunk value pieces status size stands total fits ended =
    let old : Document = record document { stage = Value chunk } in
    stands_push path old (record document { pieces = pieces; size = size; stage = Chunks }) talk (said.Value status value) stands
    (rw (le-ltb clip_bytes (size_of talk + bytes_of_value value) (omega (arith, stands.size))) refl)
    (omega arith) total (last_kept path old talk stands)
    (stands.pieces ((GetValue, said.Value status value) ∷ []) ∙ sym ended)

-- no value came
pub stands_valueless : (path : List ℕ) (document : Document) (talk : Talk) (chunk : StatChunk) (pieces : List Piece) (status : Code)
    → Stands path (record document { stage = Value chunk }) talk → ((status.0 == 0x80041702) || (status.0 == 0x80041706)) ≡ true
    → pieces ≡ document.pieces ++ piece.Held chunk None ∷ []
    → Stands path (record document { pieces = pieces; stage = Chunks }) (talk ++ (GetValue, said.Status status) ∷ [])
stands_valueless path document talk chunk pieces status stands ends ended =
    let old : Document = record document { stage = Value chunk } in
    stands_push path old (record document { pieces = pieces; stage = Chunks }) talk (said.Status status) stands
    (rw ends refl) (omega arith) (omega arith) (last_kept path old talk stands)
    (stands.pieces ((GetValue, said.Status status) ∷ []) ∙ sym ended)

-- the value doesn't fit
pub done_value : (path : List ℕ) (document : Document) (talk : Talk) (chunk : StatChunk) (value : Held) (pieces : List Piece) (status : Code)
    → Stands path (record document { stage = Value chunk }) talk → clip_bytes < document.size + bytes_of_value value
    → pieces ≡ document.pieces ++ piece.Held chunk None ∷ []
    → after talk GetValue (said.Value status value) ≡ Finished pieces
done_value path document talk chunk value pieces status stands over ended =
    rw (lt-ltb clip_bytes (size_of talk + bytes_of_value value) (omega (arith, stands.size)))
    (ap (λ p. Finished p) (ap pieces_of (sym (append-nil talk)) ∙ stands.pieces [] ∙ sym ended))

-- a status that isn't a failing one
pub passes_from : (n : ℕ) → (2 ^ 31 ≤ n → false ≡ true) → n < 2 ^ 31
passes_from n never = elim (cases_lt n (2 ^ 31)) [ inl below ↦ below | inr above ↦ (let f = never above in cc) ]

-- ---- a status that tells its call nothing of its own

or_done-status : (pieces : List Piece) (status : Code) → or_done pieces (after_status status) ≡ after_status status
or_done-status pieces status = by ((status.0 == 0x8004170B) || (status.0 == 0x8004170C)) (nat_lt status.0 (2 ^ 31))
  where
    by : (refuses passes : Bool) → or_done pieces (cond refuses (Ends (Refused status)) (cond passes Illegal (Ends (Failed status)))) ≡ cond refuses (Ends (Refused status)) (cond passes Illegal (Ends (Failed status)))
    by true passes = refl
    by false true = refl
    by false false = refl

pub status_opening : (path : List ℕ) (talk : Talk) (status : Code) → 2 ^ 31 ≤ status.0 → after talk (init_call path) (said.Status status) ≡ after_status status
status_opening path talk status failing = rw (le-ltb status.0 (2 ^ 31) failing) refl

pub status_chunk : (talk : Talk) (status : Code) → (status.0 == 0x80041700) ≡ false → ((status.0 == 0x80041707) || (status.0 == 0x80041708)) ≡ false
    → after talk GetChunk (said.Status status) ≡ after_status status
status_chunk talk status isnt none = by (nat_lt (chunks_of talk + 1) clip_chunks)
  where
    own : after_chunk talk (said.Status status) ≡ after_status status
    own = rw (isnt, none) refl

    by : (fewer : Bool) → cond fewer (after_chunk talk (said.Status status)) (or_done (pieces_of talk) (after_chunk talk (said.Status status))) ≡ after_status status
    by true = own
    by false = ap (λ n. or_done (pieces_of talk) n) own ∙ or_done-status (pieces_of talk) status

pub status_text : (talk : Talk) (status : Code) → ((status.0 == 0x80041701) || (status.0 == 0x80041705)) ≡ false → after talk text_call (said.Status status) ≡ after_status status
status_text talk status none = rw none refl

pub status_value : (talk : Talk) (status : Code) → ((status.0 == 0x80041702) || (status.0 == 0x80041706)) ≡ false → after talk GetValue (said.Status status) ≡ after_status status
status_value talk status none = rw none refl
