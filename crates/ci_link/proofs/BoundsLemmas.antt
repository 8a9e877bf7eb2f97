-- A document that is being read has a piece for each chunk at most, and no more text than was counted: it is within the bounds of a transcript.
use Rattle.std.proofs.Common.{◌≡◌, ℕ, Bool, true, false, ◌+◌, ◌-◌, ◌<◌, ◌≤◌, ◌++◌, ◌==◌, ◌&&◌, List, [], ◌∷◌, Option, None, length, ap, sym, ◌∙◌, arith, append-nil, length-append, nat_lt, cond, inl, inr}
use Rattle.std.proofs.lemmas.Bool.{cases_lt, le-ltb, lt-ltb}
use Rattle.std.proofs.lemmas.List.Sums.{sum_by-append}
use Rattle.ci_base.specs.declared.value.Value.{Value as Held}
use Rattle.ci_chunk.specs.Sizes.{IsBounded, piece_length, text_length}
use Rattle.ci_chunk.specs.Talk.{Talk}
use Rattle.ci_chunk.specs.declared.chunk.ChunkState.{ChunkState}
use Rattle.ci_chunk.specs.declared.chunk.ChunkState.TheVariants.{Text as HasText, Value as HasValue, FilterOwnedValue}
use Rattle.ci_chunk.specs.declared.chunk.StatChunk.{StatChunk}
use Rattle.ci_chunk.specs.declared.piece.Piece.{Piece}
use Rattle.ci_chunk.specs.declared.piece.Piece.TheVariants as piece
use Rattle.ci_chunk.specs.declared.talk.Answer.{Answer}
use Rattle.ci_chunk.specs.declared.talk.Answer.TheVariants as said
use Rattle.ci_chunk.specs.declared.talk.Call.{Call}
use Rattle.ci_chunk.specs.declared.talk.Call.TheVariants.{Init, GetChunk, GetText, GetValue}
use Rattle.ci_link.specs.Document.{Stands}
use Rattle.ci_link.specs.Pieces.{asks_chunk, before_text, bytes_in, bytes_of_value, chunks_of, piece_in, piece_of, pieces_of, size_of, text_of}
use Rattle.ci_link.specs.Reading.{Answered, Ask, Ends, Illegal, IsBegun, Next, Opening, after, after_chunk, clip_bytes, clip_chunks, cut_text, done, or_done, text_call}
use Rattle.ci_link.specs.declared.document.Document.{Document}
use Rattle.ci_link.specs.declared.stage.Stage.TheVariants.{Text, Value}
use Rattle.ci_link.proofs.PiecesLemmas.{chunks_of-push, size_of-push}

few-state : (chunk : StatChunk) (state : ChunkState) (rest : Talk) → length (piece_of chunk state rest) ≤ 1
few-state chunk HasText rest = omega arith
few-state chunk HasValue rest = omega arith
few-state chunk FilterOwnedValue rest = omega arith

few-in : (call : Call) (answer : Answer) (rest : Talk) → length (piece_in call answer rest) ≤ asks_chunk call
few-in GetChunk (said.Chunk chunk) rest = few-state chunk chunk.state rest
few-in GetChunk (said.Status _) rest = omega arith
few-in GetChunk (said.Text _ _) rest = omega arith
few-in GetChunk (said.Value _ _) rest = omega arith
few-in (Init _ _) answer rest = omega arith
few-in (GetText _) answer rest = omega arith
few-in GetValue answer rest = omega arith

-- a piece for each chunk at most
few-pieces : (talk : Talk) → length (pieces_of talk) ≤ chunks_of talk
few-pieces [] = omega arith
few-pieces (e ∷ rest) = omega (arith, length-append (piece_in e.0 e.1 rest) (pieces_of rest), few-in e.0 e.1 rest, few-pieces rest)

short-state : (chunk : StatChunk) (state : ChunkState) (rest : Talk) → text_length (piece_of chunk state rest) ≤ length (text_of rest)
short-state chunk HasText rest = omega arith
short-state chunk HasValue rest = omega arith
short-state chunk FilterOwnedValue rest = omega arith

short-in : (call : Call) (answer : Answer) (rest : Talk)
    → length (before_text call answer (text_of rest)) + text_length (piece_in call answer rest) ≤ bytes_in answer + length (text_of rest)
short-in GetChunk (said.Chunk chunk) rest = omega (arith, short-state chunk chunk.state rest)
short-in GetChunk (said.Status _) rest = omega arith
short-in GetChunk (said.Text _ _) rest = omega arith
short-in GetChunk (said.Value _ _) rest = omega arith
short-in (Init _ _) answer rest = omega arith
short-in (GetText _) (said.Text _ text) rest = omega (arith, length-append text (text_of rest))
short-in (GetText _) (said.Chunk _) rest = omega arith
short-in (GetText _) (said.Status _) rest = omega arith
short-in (GetText _) (said.Value _ _) rest = omega arith
short-in GetValue answer rest = omega arith

-- no more text than was counted
short-pieces : (talk : Talk) → length (text_of talk) + text_length (pieces_of talk) ≤ size_of talk
short-pieces [] = omega arith
short-pieces (e ∷ rest) = omega (arith, sum_by-append piece_length (piece_in e.0 e.1 rest) (pieces_of rest), short-in e.0 e.1 rest, short-pieces rest)

never-asks : (pieces : List Piece) (next : Next) (call : Call) → or_done pieces next ≡ Ask call → ⊥
never-asks pieces (Ask _) call e = (let f = e in cc)
never-asks pieces (Ends _) call e = (let f = e in cc)
never-asks pieces Illegal call e = (let f = e in cc)

-- a document that goes on has asked for fewer chunks than it may
few-asked : (before : Talk) (call : Call) (answer : Answer) (next : Call) → after before call answer ≡ Ask next → chunks_of before < clip_chunks
    → chunks_of before + asks_chunk call < clip_chunks
few-asked before GetChunk answer next asks few = elim (cases_lt (chunks_of before + 1) clip_chunks) [
  | inl fewer ↦ fewer
  | inr most ↦ (let over : after before GetChunk answer ≡ or_done (pieces_of before) (after_chunk before answer) =
      ap (λ b. cond b (after_chunk before answer) (or_done (pieces_of before) (after_chunk before answer))) (le-ltb (chunks_of before + 1) clip_chunks most) in
      absurd (never-asks (pieces_of before) (after_chunk before answer) next (sym over ∙ asks)))
]
few-asked before (Init _ _) answer next asks few = omega (arith, few)
few-asked before (GetText _) answer next asks few = omega (arith, few)
few-asked before GetValue answer next asks few = omega (arith, few)

never-passes : (bytes : ℕ) (pieces : List Piece) (rest : Next) (call : Call) → cond (nat_lt clip_bytes bytes) (done pieces) rest ≡ Ask call → bytes ≤ clip_bytes
never-passes bytes pieces rest call asks = elim (cases_lt clip_bytes bytes) [
  | inl over ↦ (let ended : done pieces ≡ Ask call = sym (ap (λ b. cond b (done pieces) rest) (lt-ltb clip_bytes bytes over)) ∙ asks in cc)
  | inr within ↦ within
]

illegal-counted : (b : Bool) (pieces : List Piece) (call : Call) → cond b Illegal (or_done pieces Illegal) ≡ Ask call → ⊥
illegal-counted true pieces call e = (let f = e in cc)
illegal-counted false pieces call e = (let f = e in cc)

illegal-asks : (call : Call) → Illegal ≡ Ask call → ⊥
illegal-asks call e = (let f = e in cc)

-- and counted no more bytes than it may have
short-counted : (before : Talk) (call : Call) (answer : Answer) (next : Call) → after before call answer ≡ Ask next → size_of before ≤ clip_bytes
    → size_of before + bytes_in answer ≤ clip_bytes
short-counted before call (said.Status _) next asks short = omega (arith, short)
short-counted before call (said.Chunk _) next asks short = omega (arith, short)
short-counted before (GetText _) (said.Text status text) next asks short =
    never-passes (size_of before + length text) (pieces_of (cut_text before status text)) (cond ((status.0 == 0) && nat_lt 0 (length text)) (Ask text_call) (Ask GetChunk)) next asks
short-counted before GetValue (said.Value status value) next asks short = never-passes (size_of before + bytes_of_value value) (pieces_of before) (Ask GetChunk) next asks
short-counted before GetChunk (said.Text _ _) next asks short = absurd (illegal-counted (nat_lt (chunks_of before + 1) clip_chunks) (pieces_of before) next asks)
short-counted before GetChunk (said.Value _ _) next asks short = absurd (illegal-counted (nat_lt (chunks_of before + 1) clip_chunks) (pieces_of before) next asks)
short-counted before (Init _ _) (said.Text _ _) next asks short = absurd (illegal-asks next asks)
short-counted before (Init _ _) (said.Value _ _) next asks short = absurd (illegal-asks next asks)
short-counted before (GetText _) (said.Value _ _) next asks short = absurd (illegal-asks next asks)
short-counted before GetValue (said.Text _ _) next asks short = absurd (illegal-asks next asks)

few-begun : (path : List ℕ) (talk : Talk) (call : Call) → IsBegun path talk call → chunks_of talk < clip_chunks
few-begun path _ _ Opening = omega arith
few-begun path _ _ (Answered talk call answer next begun asks) =
    omega (arith, few-asked talk call answer next asks (few-begun path talk call begun), chunks_of-push talk call answer)

short-begun : (path : List ℕ) (talk : Talk) (call : Call) → IsBegun path talk call → size_of talk ≤ clip_bytes
short-begun path _ _ Opening = omega arith
short-begun path _ _ (Answered talk call answer next begun asks) =
    omega (arith, short-counted talk call answer next asks (short-begun path talk call begun), size_of-push talk call answer)

-- a reader with a piece that is due: with it the pieces are within the bounds
bounded-by : (path : List ℕ) (document : Document) (talk : Talk) (due ended : Piece) → Stands path document talk
    → pieces_of (talk ++ []) ≡ document.pieces ++ due ∷ [] → piece_length ended ≤ piece_length due + (clip_bytes - document.size)
    → IsBounded (document.pieces ++ ended ∷ [])
bounded-by path document talk due ended stands pieces fits =
    let whole : pieces_of talk ≡ document.pieces ++ due ∷ [] = ap pieces_of (sym (append-nil talk)) ∙ pieces in
    let count = ap (λ ps. length ps) whole in
    let bytes = ap (λ ps. text_length ps) whole in
    record {
      count = omega (arith, length-append document.pieces (due ∷ []), length-append document.pieces (ended ∷ []), count, few-pieces talk, few-begun path talk _ stands.begun);
      bytes = omega (
        arith,
        sum_by-append piece_length document.pieces (due ∷ []),
        sum_by-append piece_length document.pieces (ended ∷ []),
        bytes,
        short-pieces talk,
        short-begun path talk _ stands.begun,
        stands.size,
        fits,
      );
    }

pub bounded-text : (path : List ℕ) (document : Document) (talk : Talk) (chunk : StatChunk) (text joined : List ℕ)
    → Stands path (record document { stage = Text chunk text }) talk → length joined ≤ length text + (clip_bytes - document.size)
    → IsBounded (document.pieces ++ piece.Words chunk joined ∷ [])
bounded-text path document talk chunk text joined stands fits =
    bounded-by path (record document { stage = Text chunk text }) talk (piece.Words chunk (text ++ [])) (piece.Words chunk joined) stands (stands.pieces [])
    (omega (arith, fits, ap (λ t. length t) (append-nil text)))

pub bounded-value : (path : List ℕ) (document : Document) (talk : Talk) (chunk : StatChunk) (value : Option Held)
    → Stands path (record document { stage = Value chunk }) talk → IsBounded (document.pieces ++ piece.Held chunk value ∷ [])
bounded-value path document talk chunk value stands =
    bounded-by path (record document { stage = Value chunk }) talk (piece.Held chunk None) (piece.Held chunk value) stands (stands.pieces []) (omega arith)
