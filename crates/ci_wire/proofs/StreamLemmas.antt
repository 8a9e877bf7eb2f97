-- What bytes begin with: a frame, less than one, or none.
use Rattle.std.proofs.Common.{◌≡◌, ℕ, ◌+◌, ◌^◌, ◌<◌, ◌≤◌, List, [], ◌∷◌, ◌++◌, length, take, drop, refl, ap, sym, ◌∙◌, arith, ◌⊎◌, inl, inr, subst, take-append-drop, append_assoc, append-nil, length-append, length-take}
use Rattle.std.proofs.lemmas.List.{append_cancel_left, drop-drop}
use Rattle.std.proofs.Math.Seq.{take-append_seam}
use Rattle.ci_base.specs.Varint.{varint}
use Rattle.ci_base.proofs.VarintLemmas.{one_number}
use Rattle.ci_wire.specs.Frame.{IsFrame, NoFrame, body, frame_spelling}
use Rattle.ci_wire.specs.Stream.{BeginsWithFrame, HasNoSize, IsBad, IsPartial, IsSize}
use Rattle.ci_wire.specs.declared.frame.Frame.{Frame}
use Rattle.ci_wire.proofs.NumbersLemmas.{fronts}

-- bytes that begin with a whole body
pub record IsWhole (bytes size_of rest : List ℕ) : Type 0 where
  pub in_range : IsSize (length size_of)
  pub whole : bytes ≡ varint (length size_of) ++ (size_of ++ rest)

-- a varint at the front tells its number
pub one_varint : (a b : ℕ) (x y : List ℕ) → varint a ++ x ≡ varint b ++ y → a ≡ b
unfolding varint
one_varint a b x y e = one_number 9 a b x y e

-- and then what follows it
pub varint_rest : (a b : ℕ) (x y : List ℕ) → varint a ++ x ≡ varint b ++ y → x ≡ y
varint_rest a b x y e =
    let same : a ≡ b = one_varint a b x y e in
    let f : varint b ++ x ≡ varint b ++ y = ap (λ n. varint n ++ x) (sym same) ∙ e in
    append_cancel_left (varint b) x y f

-- of two lists with a front in common one is a front of the other
overlap : (a b x y : List ℕ) → a ++ x ≡ b ++ y → ((r : List ℕ) × (a ≡ b ++ r)) ⊎ ((r : List ℕ) × (b ≡ a ++ r) × (0 < length r))
overlap a [] x y e = inl (a, refl)
overlap [] (c ∷ b) x y e = inr (c ∷ b, refl, omega arith)
overlap (d ∷ a) (c ∷ b) x y e =
    let first : d ≡ c = cc in
    let tail : a ++ x ≡ b ++ y = ap (λ zs. drop 1 zs) e in
    elim (overlap a b x y tail) [
      | inl r ↦ (let f : d ∷ a ≡ c ∷ (b ++ r.0) = ap (λ z. z ∷ a) first ∙ ap (λ zs. c ∷ zs) r.1 in inl (r.0, f))
      | inr r ↦ (let f : c ∷ b ≡ d ∷ (a ++ r.0) = ap (λ z. z ∷ b) (sym first) ∙ ap (λ zs. d ∷ zs) r.1 in inr (r.0, f, r.2))
    ]

-- where the bytes begin with the size, the rest stands behind it
begun : (bytes : List ℕ) (count size : ℕ) → take count bytes ≡ varint size → bytes ≡ varint size ++ drop count bytes
begun bytes count size begins = sym (take-append-drop count bytes) ∙ ap (λ v. v ++ drop count bytes) begins

pub partial_behind : (bytes : List ℕ) (count size : ℕ) → IsSize size → take count bytes ≡ varint size → length (drop count bytes) < size → IsPartial bytes
partial_behind bytes count size in_range begins fewer =
    inr (record { size = size; in_range = in_range; part = drop count bytes; fewer = fewer; whole = begun bytes count size begins })

pub bad_behind : (bytes : List ℕ) (count size : ℕ) → IsSize size → take count bytes ≡ varint size → size ≤ length (drop count bytes)
    → NoFrame (take size (drop count bytes)) → IsBad bytes
bad_behind bytes count size in_range begins whole none =
    let behind = drop count bytes in
    let n : length (take size behind) ≡ size = omega (arith, length-take size behind) in
    inr (inr (record {
      body = take size behind;
      in_range = (let P : ℕ → Type 0 = λ m. IsSize m in subst P (sym n) in_range);
      rest = drop size behind;
      whole = begun bytes count size begins ∙ ap (λ m. varint m ++ behind) (sym n)
          ∙ ap (λ b. varint (length (take size behind)) ++ b) (sym (take-append-drop size behind));
      none = none;
    }))

pub frame_behind : (bytes : List ℕ) (count size : ℕ) (frame : Frame) → take count bytes ≡ varint size → count ≤ length bytes
    → size ≤ length (drop count bytes) → body frame ≡ take size (drop count bytes) → take (count + size) bytes ≡ frame_spelling frame
unfolding frame_spelling
frame_behind bytes count size frame begins within whole same =
    let behind = drop count bytes in
    let n : length (body frame) ≡ size = ap length same ∙ omega (arith, length-take size behind) in
    let k : count ≡ length (varint size) = sym (omega (arith, length-take count bytes)) ∙ ap length begins in
    let f : bytes ≡ varint size ++ behind = begun bytes count size begins in
    let g : bytes ≡ (varint size ++ body frame) ++ drop size behind =
    f ∙ ap (λ b. varint size ++ b) (sym (take-append-drop size behind) ∙ ap (λ b. b ++ drop size behind) (sym same))
    ∙ sym (append_assoc (varint size) (body frame) (drop size behind)) in
    let m : count + size ≡ length (varint size ++ body frame) = omega (arith, length-append (varint size) (body frame)) in
    ap (λ b. take (count + size) b) g ∙ ap (λ j. take j ((varint size ++ body frame) ++ drop size behind)) m
    ∙ take-append_seam (varint size ++ body frame) (drop size behind) ∙ ap (λ j. varint j ++ body frame) (sym n)

-- a varint isn't a front of itself and something more
no_front : (n m : ℕ) (bytes after rest : List ℕ) → varint n ≡ bytes ++ rest → 0 < length rest → bytes ≡ varint m ++ after → ⊥
no_front n m bytes after rest front more whole =
    let f : varint n ++ [] ≡ varint m ++ (after ++ rest) =
    append-nil (varint n) ∙ front ∙ ap (λ b. b ++ rest) whole ∙ append_assoc (varint m) after rest in
    let g = varint_rest n m [] (after ++ rest) f in
    absurd (omega (arith, ap length g, length-append after rest))

pub whole_not_partial : (bytes inside rest : List ℕ) → IsWhole bytes inside rest → IsPartial bytes → ⊥
whole_not_partial bytes inside rest whole (inl front) =
    no_front front.number (length inside) bytes (inside ++ rest) front.rest front.front front.more whole.whole
whole_not_partial bytes inside rest whole (inr lacks) =
    let e = sym lacks.whole ∙ whole.whole in
    let size = one_varint lacks.size (length inside) lacks.part (inside ++ rest) e in
    let part = varint_rest lacks.size (length inside) lacks.part (inside ++ rest) e in
    absurd (omega (arith, lacks.fewer, size, ap length part, length-append inside rest))

size_small : (size : ℕ) → IsSize size → size < 2 ^ 64
size_small size in_range = omega arith

pub whole_not_bad : (bytes inside rest : List ℕ) (frame : Frame) → IsWhole bytes inside rest → IsFrame frame → body frame ≡ inside → IsBad bytes → ⊥
whole_not_bad bytes inside rest frame whole grammar same (inl none) =
    none.not_whole (length inside) (record { small = size_small _ whole.in_range; rest = inside ++ rest; spelled = whole.whole })
whole_not_bad bytes inside rest frame whole grammar same (inr (inl bad)) =
    let size = one_varint bad.size (length inside) bad.begins.rest (inside ++ rest) (sym bad.begins.spelled ∙ whole.whole) in
    bad.out_of_range (let P : ℕ → Type 0 = λ m. IsSize m in subst P (sym size) whole.in_range)
whole_not_bad bytes inside rest frame whole grammar same (inr (inr bad)) =
    let e = sym bad.whole ∙ whole.whole in
    let size = one_varint (length bad.body) (length inside) (bad.body ++ bad.rest) (inside ++ rest) e in
    let both = fronts bad.body inside bad.rest rest size (varint_rest (length bad.body) (length inside) (bad.body ++ bad.rest) (inside ++ rest) e) in
    bad.none frame grammar (same ∙ sym both.0)

pub partial_not_bad : (bytes : List ℕ) → IsPartial bytes → IsBad bytes → ⊥
partial_not_bad bytes (inl front) (inl none) = none.not_front front
partial_not_bad bytes (inl front) (inr (inl bad)) =
    no_front front.number bad.size bytes bad.begins.rest front.rest front.front front.more bad.begins.spelled
partial_not_bad bytes (inr lacks) (inl none) =
    none.not_whole lacks.size (record { small = size_small _ lacks.in_range; rest = lacks.part; spelled = lacks.whole })
partial_not_bad bytes (inr lacks) (inr (inl bad)) =
    let size = one_varint lacks.size bad.size lacks.part bad.begins.rest (sym lacks.whole ∙ bad.begins.spelled) in
    bad.out_of_range (let P : ℕ → Type 0 = λ m. IsSize m in subst P size lacks.in_range)
partial_not_bad bytes partial (inr (inr bad)) =
    whole_not_partial bytes bad.body bad.rest (record { in_range = bad.in_range; whole = bad.whole }) partial

-- what has no size, and more bytes, have none
no_size-more : (bytes more : List ℕ) → HasNoSize bytes → HasNoSize (bytes ++ more)
no_size-more bytes more none = record {
  not_whole = λ number begins. elim (overlap bytes (varint number) more begins.rest begins.spelled) [
    | inl r ↦ none.not_whole number (record { small = begins.small; rest = r.0; spelled = r.1 })
    | inr r ↦ none.not_front (record { number = number; small = begins.small; rest = r.0; more = r.2; front = r.1 })
  ];
  not_front = λ front. none.not_front (record {
    number = front.number;
    small = front.small;
    rest = more ++ front.rest;
    more = (let m = front.more in omega (arith, length-append more front.rest));
    front = front.front ∙ append_assoc bytes more front.rest;
  });
}

pub bad_more : (bytes more : List ℕ) → IsBad bytes → IsBad (bytes ++ more)
bad_more bytes more (inl none) = inl (no_size-more bytes more none)
bad_more bytes more (inr (inl bad)) =
    inr (inl (record {
      size = bad.size;
      begins = record {
        small = bad.begins.small;
        rest = bad.begins.rest ++ more;
        spelled = ap (λ b. b ++ more) bad.begins.spelled ∙ append_assoc (varint bad.size) bad.begins.rest more;
      };
      out_of_range = bad.out_of_range;
    }))
bad_more bytes more (inr (inr bad)) =
    inr (inr (record {
      body = bad.body;
      in_range = bad.in_range;
      rest = bad.rest ++ more;
      whole = ap (λ b. b ++ more) bad.whole ∙ append_assoc (varint (length bad.body)) (bad.body ++ bad.rest) more
          ∙ ap (λ b. varint (length bad.body) ++ b) (append_assoc bad.body bad.rest more);
      none = bad.none;
    }))

-- the frame at the front of the bytes that weren't taken, and those behind it
pub begins_frame : (bytes held shown : List ℕ) (taken count : ℕ) (frame : Frame) → shown ≡ held → drop taken bytes ≡ held → IsFrame frame
    → take count shown ≡ frame_spelling frame → BeginsWithFrame held frame (drop (taken + count) bytes)
begins_frame bytes held shown taken count frame same left grammar front =
    let rest : drop (taken + count) bytes ≡ drop count held = sym (drop-drop count taken bytes) ∙ ap (λ b. drop count b) left in
    let begins : take count held ≡ frame_spelling frame = ap (λ b. take count b) (sym same) ∙ front in
    record {
      grammar = grammar;
      spelled = sym (take-append-drop count held) ∙ ap (λ b. b ++ drop count held) begins
          ∙ ap (λ b. frame_spelling frame ++ b) (sym rest);
    }
