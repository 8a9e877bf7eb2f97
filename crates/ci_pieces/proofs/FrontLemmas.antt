-- Where a text may be cut: before a byte of ASCII, and behind one.
use Rattle.std.proofs.Common.{◌≡◌, ℕ, zero, suc, ◌+◌, ◌<◌, ◌≤◌, Bool, true, false, not, List, [], ◌∷◌, ◌==◌, drop, length, length-take-le, get_or, take, ap, Option, Some, None, cond, nat_lt, unwrap_or, inl, inr, refl, subst, ◌∙◌, arith, IsUtf8, IsCharBoundary}
use Rattle.std.specs.List.{before_first, position_or_len}
use Rattle.std.proofs.lemmas.Bool.{cases_lt, lt-ltb, not-false}
use Rattle.std.proofs.lemmas.Bool.Decides.{nat_tests}
use Rattle.std.proofs.lemmas.List.{drop-drop}
use Rattle.std.proofs.lemmas.List.Sums.{fails_before_first, passes_at_first, prefix_len-le-length}
use Rattle.std.proofs.lemmas.Str.{IsCharBoundary-after_ascii, IsCharBoundary-before_ascii, IsCharBoundary-end, IsCharBoundary-start}
use Rattle.ci_pieces.specs.declared.piece.PieceKind.TheVariants as kind
use Rattle.ci_pieces.specs.Front.{quoted}
use Rattle.ci_pieces.specs.Bytes.{is_blank, is_end, is_name, is_quote, sign_kind}

end-ascii : (b : ℕ) → is_end b ≡ true → b < 128
end-ascii b is = grind (arith, nat_tests)

pub quote-is : (b : ℕ) → is_quote b ≡ true → b ≡ 34
quote-is b is = grind (arith, nat_tests)

name-ascii : (b : ℕ) → is_name b ≡ true → b < 128
name-ascii b is = grind (arith, nat_tests)

pub first_within : (test : ℕ → Bool) (text : List ℕ) → position_or_len test text ≤ length text
first_within test text = prefix_len-le-length (λ b. not (test b)) text

found_or_len : (p n : ℕ) (r : Option ℕ) → r ≡ cond (nat_lt p n) (Some p) None → p ≤ n → unwrap_or r n ≡ p
found_or_len p n r is within = grind (arith, nat_tests)

-- a search's answer, or the length
pub first_or_len : (test : ℕ → Bool) (text : List ℕ) (r : Option ℕ) → r ≡ cond (nat_lt (position_or_len test text) (length text)) (Some (position_or_len test text)) None → unwrap_or r (length text) ≡ position_or_len test text
first_or_len test text r is = found_or_len (position_or_len test text) (length text) r is (first_within test text)

take-one : (n b : ℕ) (bs : List ℕ) → take (1 + n) (b ∷ bs) ≡ b ∷ take n bs
take-one n b bs = let one : 1 + n ≡ suc n = omega arith in ap (λ k. take k (b ∷ bs)) one

-- before the first byte that passes
pub boundary-first : (test : ℕ → Bool) (text : List ℕ) → ((b : ℕ) → test b ≡ true → b < 128) → IsCharBoundary text (position_or_len test text)
boundary-first test text ascii =
    elim (cases_lt (position_or_len test text) (length text)) [
      | inl within ↦ IsCharBoundary-before_ascii text (position_or_len test text) within (ascii _ (passes_at_first test text 0 within))
      | inr past ↦
          let P : ℕ → Type 0 = λ n. IsCharBoundary text n in
          let end : length text ≡ position_or_len test text = omega (arith, first_within test text) in
          subst P end (IsCharBoundary-end text)
    ]

-- behind bytes of ASCII
pub boundary-behind : (text : List ℕ) (n : ℕ) → IsUtf8 text → n ≤ length text → ((k : ℕ) → k < n → get_or text k 0 < 128) → IsCharBoundary text n
boundary-behind text zero utf8 within ascii = IsCharBoundary-start text utf8
boundary-behind text (suc n) utf8 within ascii =
    let P : ℕ → Type 0 = λ k. IsCharBoundary text k in
    let more : n + 1 ≡ suc n = omega arith in
    subst P more (IsCharBoundary-after_ascii text n utf8 (omega arith) (ascii n (omega arith)))

blank-ascii : (b : ℕ) → is_blank b ≡ true → b < 128
blank-ascii b is = grind (arith, nat_tests)

pub boundary-blanks : (text : List ℕ) → IsUtf8 text → IsCharBoundary text (position_or_len (λ b. not (is_blank b)) text)
boundary-blanks text utf8 =
    boundary-behind text (position_or_len (λ b. not (is_blank b)) text) utf8 (first_within (λ b. not (is_blank b)) text)
    (λ k below. blank-ascii _ (not-false _ (fails_before_first (λ b. not (is_blank b)) text k 0 below)))

pub boundary-name : (text : List ℕ) → IsUtf8 text → IsCharBoundary text (position_or_len (λ b. not (is_name b)) text)
boundary-name text utf8 =
    boundary-behind text (position_or_len (λ b. not (is_name b)) text) utf8 (first_within (λ b. not (is_name b)) text)
    (λ k below. name-ascii _ (not-false _ (fails_before_first (λ b. not (is_name b)) text k 0 below)))

pub boundary-end : (text : List ℕ) → IsCharBoundary text (position_or_len is_end text)
boundary-end text = boundary-first is_end text end-ascii

pub boundary-quote : (text : List ℕ) → IsCharBoundary text (position_or_len is_quote text)
boundary-quote text = boundary-first is_quote text (λ b is. let quote = quote-is b is in omega arith)

-- what is closed by a quote
pub quoted-closed : (behind : List ℕ) (at : ℕ) → at ≡ position_or_len is_quote behind → at < length behind → quoted behind ≡ record { kind = kind.Quoted; says = take at behind; more = at + 1 }
quoted-closed behind at is within = rw (← is) (rw (length-take-le at behind (omega arith), lt-ltb at (length behind) within) refl)

-- behind the quote that closes
pub behind-quoted : (text rest : List ℕ) (at : ℕ) → rest ≡ drop 1 (drop at (drop 1 text)) → rest ≡ drop (1 + (at + 1)) text
behind-quoted text rest at is =
    let sum : 1 + at + 1 ≡ 1 + (at + 1) = omega arith in
    is ∙ ap (drop 1) (drop-drop at 1 text) ∙ drop-drop 1 (1 + at) text ∙ ap (λ n. drop n text) sum

-- a byte that doesn't end a run is in it
pub run-more : (text says : List ℕ) → 0 < length text → is_end (get_or text 0 0) ≡ false → says ≡ take (position_or_len is_end text) text → says ≡ get_or text 0 0 ∷ before_first is_end (drop 1 text)
run-more [] says some goes is = absurd (omega arith)
run-more (b ∷ bs) says some goes is = is ∙ rw (goes, take-one (position_or_len is_end bs) b bs) refl

pub behind-run : (text rest : List ℕ) → 0 < length text → is_end (get_or text 0 0) ≡ false → rest ≡ drop (position_or_len is_end text) text → rest ≡ drop (1 + length (before_first is_end (drop 1 text))) text
behind-run [] rest some goes is = absurd (omega arith)
behind-run (b ∷ bs) rest some goes is =
    let len : length (take (position_or_len is_end bs) bs) ≡ position_or_len is_end bs = length-take-le _ bs (first_within is_end bs) in
    is ∙ rw (goes, len) refl

not_some : {X : Type 0} (t : Bool) (x : X) (o : Option X) → cond t (Some x) o ≡ None → (t ≡ false) × (o ≡ None)
not_some true x o h = absurd (cc h)
not_some false x o h = (refl, h)

-- a byte that is no blank, no sign and no quote ends no run
pub goes_on : (b : ℕ) → sign_kind b ≡ None → is_blank b ≡ false → is_quote b ≡ false → is_end b ≡ false
goes_on b none blank quote =
    let open_ = not_some (b == 40) _ _ none in
    let close = not_some (b == 41) _ _ open_.1 in
    let and = not_some (b == 38) _ _ close.1 in
    let or = not_some (b == 124) _ _ and.1 in
    let not' = not_some (b == 33) _ _ or.1 in
    let near = not_some (b == 126) _ _ not'.1 in
    rw (blank, open_.0, close.0, and.0, or.0, not'.0, near.0, quote) refl
