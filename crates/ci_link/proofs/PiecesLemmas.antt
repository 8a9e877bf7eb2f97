-- What one exchange more does to the pieces, the size, the chunks and the identifiers of a document.
use Rattle.std.proofs.Common.{◌≡◌, ℕ, true, ◌+◌, ◌++◌, List, [], ◌∷◌, refl, ap, sym, ◌∙◌, arith, append_assoc, append-nil, nat_lt}
use Rattle.std.specs.List.{list_all}
use Rattle.std.proofs.lemmas.Bool.{and_parts, and_from, ltb-true, lt-ltb}
use Rattle.ci_chunk.specs.Talk.{Talk}
use Rattle.ci_chunk.specs.declared.talk.Answer.{Answer}
use Rattle.ci_chunk.specs.declared.talk.Answer.TheVariants.{Status, Chunk, Text, Value}
use Rattle.ci_chunk.specs.declared.talk.Call.{Call}
use Rattle.ci_chunk.specs.declared.talk.Call.TheVariants.{Init, GetChunk, GetText, GetValue}
use Rattle.ci_chunk.specs.declared.chunk.ChunkState.{ChunkState}
use Rattle.ci_chunk.specs.declared.chunk.ChunkState.TheVariants.{Text as HasText, Value as HasValue, FilterOwnedValue}
use Rattle.ci_chunk.specs.declared.chunk.StatChunk.{StatChunk}
use Rattle.ci_link.specs.Pieces.{asks_chunk, before_text, bytes_in, chunks_of, id_in, ids_of, piece_in, piece_of, pieces_of, size_of, text_of, value_of}

pub chunks_of-push : (talk : Talk) (call : Call) (answer : Answer) → chunks_of (talk ++ (call, answer) ∷ []) ≡ chunks_of talk + asks_chunk call
chunks_of-push [] call answer = omega arith
chunks_of-push (e ∷ talk) call answer = omega (arith, chunks_of-push talk call answer)

pub size_of-push : (talk : Talk) (call : Call) (answer : Answer) → size_of (talk ++ (call, answer) ∷ []) ≡ size_of talk + bytes_in answer
size_of-push [] call answer = omega arith
size_of-push (e ∷ talk) call answer = omega (arith, size_of-push talk call answer)

pub ids_of-push : (talk : Talk) (call : Call) (answer : Answer) → ids_of (talk ++ (call, answer) ∷ []) ≡ ids_of talk ++ id_in answer
ids_of-push [] call answer = append-nil (id_in answer)
ids_of-push (e ∷ talk) call answer = ap (λ ids. id_in e.1 ++ ids) (ids_of-push talk call answer) ∙ sym (append_assoc (id_in e.1) (ids_of talk) (id_in answer))

-- a chunk that is asked for ends the text and the value before it
before_text-more : (call : Call) (answer : Answer) (x y : List ℕ) → x ≡ y → before_text call answer x ≡ before_text call answer y
before_text-more call answer x y e = ap (λ t. before_text call answer t) e

text_of-chunk : (talk : Talk) (answer : Answer) (rest : Talk) → text_of (talk ++ (GetChunk, answer) ∷ rest) ≡ text_of talk
text_of-chunk [] answer rest = refl
text_of-chunk (e ∷ talk) answer rest = before_text-more e.0 e.1 _ _ (text_of-chunk talk answer rest)

value_of-chunk : (talk : Talk) (answer : Answer) (rest : Talk) → value_of (talk ++ (GetChunk, answer) ∷ rest) ≡ value_of talk
value_of-chunk [] answer rest = refl
value_of-chunk (e ∷ talk) answer rest = refl

piece_of-chunk : (chunk : StatChunk) (state : ChunkState) (talk : Talk) (answer : Answer) (rest : Talk)
    → piece_of chunk state (talk ++ (GetChunk, answer) ∷ rest) ≡ piece_of chunk state talk
piece_of-chunk chunk HasText talk answer rest = rw (text_of-chunk talk answer rest) refl
piece_of-chunk chunk HasValue talk answer rest = rw (value_of-chunk talk answer rest) refl
piece_of-chunk chunk FilterOwnedValue talk answer rest = refl

piece_in-chunk : (call : Call) (told : Answer) (talk : Talk) (answer : Answer) (rest : Talk)
    → piece_in call told (talk ++ (GetChunk, answer) ∷ rest) ≡ piece_in call told talk
piece_in-chunk GetChunk (Chunk chunk) talk answer rest = piece_of-chunk chunk chunk.state talk answer rest
piece_in-chunk GetChunk (Status _) talk answer rest = refl
piece_in-chunk GetChunk (Text _ _) talk answer rest = refl
piece_in-chunk GetChunk (Value _ _) talk answer rest = refl
piece_in-chunk (Init _ _) told talk answer rest = refl
piece_in-chunk (GetText _) told talk answer rest = refl
piece_in-chunk GetValue told talk answer rest = refl

pub pieces_of-chunk : (talk : Talk) (answer : Answer) (rest : Talk)
    → pieces_of (talk ++ (GetChunk, answer) ∷ rest) ≡ pieces_of talk ++ (piece_in GetChunk answer rest ++ pieces_of rest)
pieces_of-chunk [] answer rest = refl
pieces_of-chunk (e ∷ talk) answer rest =
    ap (λ p. p ++ pieces_of (talk ++ (GetChunk, answer) ∷ rest)) (piece_in-chunk e.0 e.1 talk answer rest)
    ∙ ap (λ p. piece_in e.0 e.1 talk ++ p) (pieces_of-chunk talk answer rest)
    ∙ sym (append_assoc (piece_in e.0 e.1 talk) (pieces_of talk) (piece_in GetChunk answer rest ++ pieces_of rest))

-- a number above one that is above all is above all
pub all_below : (ids : List ℕ) (least id : ℕ) → list_all (λ other. nat_lt other least) ids ≡ true → nat_lt least id ≡ true
    → list_all (λ other. nat_lt other id) ids ≡ true
all_below [] least id below above = refl
all_below (other ∷ ids) least id below above =
    let both = and_parts (nat_lt other least) (list_all (λ o. nat_lt o least) ids) below in
    and_from _ _ (lt-ltb other id (omega (arith, ltb-true other least both.0, ltb-true least id above))) (all_below ids least id both.1 above)
