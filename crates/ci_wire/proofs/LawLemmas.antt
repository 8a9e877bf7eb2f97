-- A spelling tells its frame.
use Rattle.std.proofs.Common.{◌≡◌, ℕ, ◌^◌, ◌<◌, ◌≤◌, List, [], ◌∷◌, ◌++◌, length, refl, ap, sym, ◌∙◌, arith, get_or, drop, append_assoc, append-nil, length-append}
use Rattle.std.specs.List.{flat_map}
use Rattle.std.proofs.lemmas.Bool.{and_parts, leb-true}
use Rattle.ci_base.specs.Path.{IsPath}
use Rattle.ci_base.specs.Varint.{varint}
use Rattle.ci_base.specs.declared.value.Value.{Value as Held}
use Rattle.ci_base.specs.declared.value.Value.TheVariants.{Int, Str}
use Rattle.ci_chunk.specs.declared.chunk.Break.{Break}
use Rattle.ci_chunk.specs.declared.chunk.Break.TheVariants.{NoBreak, Eow, Eos, Eop, Eoc}
use Rattle.ci_chunk.specs.declared.chunk.ChunkState.{ChunkState}
use Rattle.ci_chunk.specs.declared.chunk.ChunkState.TheVariants.{Text as HasText, Value as HasValue, FilterOwnedValue}
use Rattle.ci_chunk.specs.declared.chunk.StatChunk.{StatChunk}
use Rattle.ci_chunk.specs.declared.status.Status.{Status as Code}
use Rattle.ci_chunk.specs.declared.talk.Answer.{Answer as Said}
use Rattle.ci_chunk.specs.declared.talk.Answer.TheVariants.{Status, Chunk, Text, Value}
use Rattle.ci_chunk.specs.declared.talk.Call.{Call as Asked}
use Rattle.ci_chunk.specs.declared.talk.Call.TheVariants.{Init, GetChunk, GetText, GetValue}
use Rattle.ci_wire.specs.Frame.{IsCall, IsAnswer, IsChunk, IsFrame, IsShortValue, body, break_byte, state_byte, call_body, answer_body, chunk_bytes, value_bytes, frame_spelling}
use Rattle.ci_wire.specs.Numbers.{u32_bytes}
use Rattle.ci_wire.specs.Stream.{AreFrames, BeginsWithFrame, IsBad, IsPartial, IsSize}
use Rattle.ci_wire.specs.declared.frame.Frame.{Frame}
use Rattle.ci_wire.specs.declared.frame.Frame.TheVariants.{Call, Answer}
use Rattle.ci_wire.proofs.NumbersLemmas.{fronts, length-u32, length-i64, u16_front, u32_front, i64_same}
use Rattle.ci_wire.proofs.BodyLemmas.{call_first, answer_first, length-chunk, text_status-fits, value_status-fits}
use Rattle.ci_wire.proofs.StreamLemmas.{IsWhole, one_varint, varint_rest, whole_not_partial, whole_not_bad}

break_same : (a b : Break) → break_byte a ≡ break_byte b → a ≡ b
break_same NoBreak NoBreak e = refl
break_same Eow Eow e = refl
break_same Eos Eos e = refl
break_same Eop Eop e = refl
break_same Eoc Eoc e = refl
break_same NoBreak b e = absurd (omega arith)
break_same Eow b e = absurd (omega arith)
break_same Eos b e = absurd (omega arith)
break_same Eop b e = absurd (omega arith)
break_same Eoc b e = absurd (omega arith)

state_same : (a b : ChunkState) → state_byte a ≡ state_byte b → a ≡ b
state_same HasText HasText e = refl
state_same HasValue HasValue e = refl
state_same FilterOwnedValue FilterOwnedValue e = refl
state_same HasText b e = absurd (omega arith)
state_same HasValue b e = absurd (omega arith)
state_same FilterOwnedValue b e = absurd (omega arith)

-- the bytes of numbers alone tell them
u32_alone : (m n : ℕ) → m < 2 ^ 32 → n < 2 ^ 32 → u32_bytes m ≡ u32_bytes n → m ≡ n
u32_alone m n p q e = (u32_front m n [] [] p q (append-nil _ ∙ e ∙ sym (append-nil _))).0

-- chunks of which the same is told are one
abbrev chunk_of : ℕ → Break → ChunkState → ℕ → ℕ → ℕ → ℕ → ℕ → StatChunk
chunk_of id break_type state locale property source start size = record {
  id = id;
  break_type = break_type;
  state = state;
  locale = locale;
  property = record { 0 = property };
  source = source;
  start = start;
  length = size;
}

of_same : (i j : ℕ) (b c : Break) (s t : ChunkState) (l m p q u v w x y z : ℕ) → i ≡ j → b ≡ c → s ≡ t → l ≡ m → p ≡ q → u ≡ v → w ≡ x → y ≡ z
    → chunk_of i b s l p u w y ≡ chunk_of j c t m q v x z
of_same i j b c s t l m p q u v w x y z e1 e2 e3 e4 e5 e6 e7 e8 = cc

chunk_same : (a b : StatChunk) → IsChunk a → IsChunk b → chunk_bytes a ≡ chunk_bytes b → a ≡ b
unfolding chunk_bytes
chunk_same a b p q e =
    let f = u32_front a.id b.id _ _ p.id q.id e in
    let break_is : a.break_type ≡ b.break_type = break_same a.break_type b.break_type (ap (λ xs. get_or xs 0 0) f.1) in
    let state_is : a.state ≡ b.state = state_same a.state b.state (ap (λ xs. get_or xs 1 0) f.1) in
    let g = u32_front a.locale b.locale _ _ p.locale q.locale (ap (λ xs. drop 2 xs) f.1) in
    let h = u16_front a.property.0 b.property.0 _ _ p.property q.property g.1 in
    let i = u32_front a.source b.source _ _ p.source q.source h.1 in
    let j = u32_front a.start b.start _ _ p.start q.start i.1 in
    let k = u32_alone a.length b.length p.length q.length j.1 in
    of_same a.id b.id a.break_type b.break_type a.state b.state a.locale b.locale a.property.0 b.property.0 a.source b.source a.start b.start a.length b.length
    f.0 break_is state_is g.0 h.0 i.0 j.0 k

value_same : (a b : Held) → IsShortValue a → IsShortValue b → value_bytes a ≡ value_bytes b → a ≡ b
value_same (Int m) (Int n) p q e = ap (λ x. Int x) (i64_same m n p q (ap (λ xs. drop 1 xs) e))
value_same (Str s) (Str t) p q e = ap (λ x. Str x) (ap (λ xs. drop 1 xs) e)
value_same (Int m) (Str t) p q e = absurd (omega (arith, ap (λ xs. get_or xs 0 0) e))
value_same (Str s) (Int n) p q e = absurd (omega (arith, ap (λ xs. get_or xs 0 0) e))

code_same : (a b : Code) → a.0 ≡ b.0 → a ≡ b
code_same a b e = let of : ℕ → Code = λ n. record { 0 = n } in ap of e

call_same : (a b : Asked) → IsCall a → IsCall b → call_body a ≡ call_body b → a ≡ b
call_same (Init f s) (Init g t) p q e =
    let h = u32_front f g s t p.0 q.0 (ap (λ xs. drop 1 xs) e) in ap (λ n. Init n s) h.0 ∙ ap (λ x. Init g x) h.1
call_same (GetText m) (GetText n) p q e = ap (λ x. GetText x) (u32_alone m n p q (ap (λ xs. drop 1 xs) e))
call_same GetChunk GetChunk p q e = refl
call_same GetValue GetValue p q e = refl
call_same (Init f s) b p q e = absurd (omega (arith, ap (λ xs. get_or xs 0 0) e))
call_same (GetText m) b p q e = absurd (omega (arith, ap (λ xs. get_or xs 0 0) e))
call_same GetChunk b p q e = absurd (omega (arith, ap (λ xs. get_or xs 0 0) e))
call_same GetValue b p q e = absurd (omega (arith, ap (λ xs. get_or xs 0 0) e))

answer_same : (a b : Said) → IsAnswer a → IsAnswer b → answer_body a ≡ answer_body b → a ≡ b
answer_same (Status s) (Status t) p q e = ap (λ x. Status x) (code_same s t (u32_alone s.0 t.0 p q (ap (λ xs. drop 1 xs) e)))
answer_same (Chunk c) (Chunk d) p q e = ap (λ x. Chunk x) (chunk_same c d p q (ap (λ xs. drop 1 xs) e))
answer_same (Text s x) (Text t y) p q e =
    let h = u32_front s.0 t.0 x y (text_status-fits s p.0) (text_status-fits t q.0) (ap (λ xs. drop 1 xs) e) in
    ap (λ z. Text z x) (code_same s t h.0) ∙ ap (λ z. Text t z) h.1
answer_same (Value s x) (Value t y) p q e =
    let h = u32_front s.0 t.0 (value_bytes x) (value_bytes y) (value_status-fits s p.0) (value_status-fits t q.0) (ap (λ xs. drop 1 xs) e) in
    ap (λ z. Value z x) (code_same s t h.0) ∙ ap (λ z. Value t z) (value_same x y p.1 q.1 h.1)
answer_same (Status s) b p q e = absurd (omega (arith, ap (λ xs. get_or xs 0 0) e))
answer_same (Chunk c) b p q e = absurd (omega (arith, ap (λ xs. get_or xs 0 0) e))
answer_same (Text s x) b p q e = absurd (omega (arith, ap (λ xs. get_or xs 0 0) e))
answer_same (Value s x) b p q e = absurd (omega (arith, ap (λ xs. get_or xs 0 0) e))

body_same : (a b : Frame) → IsFrame a → IsFrame b → body a ≡ body b → a ≡ b
body_same (Call a) (Call b) p q e = ap (λ x. Call x) (call_same a b p q e)
body_same (Answer a) (Answer b) p q e = ap (λ x. Answer x) (answer_same a b p q e)
body_same (Call a) (Answer b) p q e = absurd (omega (arith, call_first a, answer_first b, ap (λ xs. get_or xs 0 0) e))
body_same (Answer a) (Call b) p q e = absurd (omega (arith, answer_first a, call_first b, ap (λ xs. get_or xs 0 0) e))

path_short : (path : List ℕ) → IsPath path → length path ≤ 1024
path_short path p = leb-true (length path) 1024 (and_parts _ _ (and_parts _ _ (and_parts _ _ p.form).0).0).0

value_short : (v : Held) → IsShortValue v → length (value_bytes v) ≤ 65537
value_short (Int n) p = omega (arith, length-i64 n)
value_short (Str t) p = omega (arith, p.short)

-- a frame of the grammar has a size that a body may have
body_size : (frame : Frame) → IsFrame frame → IsSize (length (body frame))
body_size (Call (Init flags path)) p = let n = length-append (u32_bytes flags) path in let m = length-u32 flags in let s = path_short path p.1 in (omega arith, omega arith)
body_size (Call GetChunk) p = (omega arith, omega arith)
body_size (Call (GetText max)) p = let m = length-u32 max in (omega arith, omega arith)
body_size (Call GetValue) p = (omega arith, omega arith)
body_size (Answer (Status s)) p = let m = length-u32 s.0 in (omega arith, omega arith)
body_size (Answer (Chunk c)) p = let m = length-chunk c in (omega arith, omega arith)
body_size (Answer (Text s t)) p = let n = length-append (u32_bytes s.0) t in let m = length-u32 s.0 in let k = p.1.short in (omega arith, omega arith)
body_size (Answer (Value s v)) p =
    let n = length-append (u32_bytes s.0) (value_bytes v) in let m = length-u32 s.0 in let k = value_short v p.1 in (omega arith, omega arith)

-- a frame at the front is a whole body there
frame_whole : (bytes rest : List ℕ) (frame : Frame) → BeginsWithFrame bytes frame rest → IsWhole bytes (body frame) rest
unfolding frame_spelling
frame_whole bytes rest frame begins = record {
  in_range = body_size frame begins.grammar;
  whole = begins.spelled ∙ append_assoc (varint (length (body frame))) (body frame) rest;
}

pub frame_not_partial : (bytes rest : List ℕ) (frame : Frame) → BeginsWithFrame bytes frame rest → IsPartial bytes → ⊥
frame_not_partial bytes rest frame begins partial = whole_not_partial bytes (body frame) rest (frame_whole bytes rest frame begins) partial

pub frame_not_bad : (bytes rest : List ℕ) (frame : Frame) → BeginsWithFrame bytes frame rest → IsBad bytes → ⊥
frame_not_bad bytes rest frame begins bad = whole_not_bad bytes (body frame) rest frame (frame_whole bytes rest frame begins) begins.grammar refl bad

-- spellings at the front of one list are those of one frame, and one rest follows them
pub one_frame : (a b : Frame) (rest more : List ℕ) → IsFrame a → IsFrame b → frame_spelling a ++ rest ≡ frame_spelling b ++ more → (a ≡ b) × (rest ≡ more)
unfolding frame_spelling
one_frame a b rest more p q e =
    let f : varint (length (body a)) ++ (body a ++ rest) ≡ varint (length (body b)) ++ (body b ++ more) =
    sym (append_assoc (varint (length (body a))) (body a) rest) ∙ e ∙ append_assoc (varint (length (body b))) (body b) more in
    let size = one_varint _ _ _ _ f in
    let both = fronts (body a) (body b) rest more size (varint_rest _ _ _ _ f) in
    (body_same a b p q both.0, both.1)

-- the frames of a list are told by it
pub one_list : (bytes : List ℕ) (xs ys : List Frame) (rest more : List ℕ) → AreFrames bytes xs rest → AreFrames bytes ys more → xs ≡ ys
one_list bytes [] [] rest more p q = refl
one_list bytes [] (y ∷ ys) rest more p q = absurd (p.no_more y (flat_map frame_spelling ys ++ more) (record {
  grammar = q.each.0;
  spelled = sym p.spelled ∙ q.spelled ∙ append_assoc (frame_spelling y) (flat_map frame_spelling ys) more;
}))
one_list bytes (x ∷ xs) [] rest more p q = absurd (q.no_more x (flat_map frame_spelling xs ++ rest) (record {
  grammar = p.each.0;
  spelled = sym q.spelled ∙ p.spelled ∙ append_assoc (frame_spelling x) (flat_map frame_spelling xs) rest;
}))
one_list bytes (x ∷ xs) (y ∷ ys) rest more p q =
    let e : frame_spelling x ++ (flat_map frame_spelling xs ++ rest) ≡ frame_spelling y ++ (flat_map frame_spelling ys ++ more) =
    sym (append_assoc (frame_spelling x) (flat_map frame_spelling xs) rest) ∙ sym p.spelled ∙ q.spelled ∙ append_assoc (frame_spelling y) (flat_map frame_spelling ys) more in
    let both = one_frame x y _ _ p.each.0 q.each.0 e in
    let tails : xs ≡ ys = one_list (flat_map frame_spelling xs ++ rest) xs ys rest more
    (record { each = p.each.1; spelled = refl; no_more = p.no_more })
    (record { each = q.each.1; spelled = both.1; no_more = q.no_more }) in
    ap (λ z. z ∷ xs) both.0 ∙ ap (λ zs. y ∷ zs) tails
