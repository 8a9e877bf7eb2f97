-- Postings are read exactly where they are spelled.
use Rattle.std.proofs.Common.{◌≡◌, ◌≢◌, ℕ, ◌+◌, ◌-◌, ◌^◌, ◌<◌, Bool, true, false, cond, ltb, eqb, List, [], ◌∷◌, ◌++◌, length, map, Option, Some, None, refl, sym, ap, ◌∙◌, append_assoc, append-nil, length-append, arith}
use Rattle.std.proofs.lemmas.Bool.{and_parts, and_from, ltb-true, lt-ltb, eqb-false, ne_eqb}
use Rattle.ci_base.specs.Varint.{groups, varint}
use Rattle.ci_base.specs.declared.numbers.Place.{Place}
use Rattle.ci_base.proofs.VarintLemmas.{groups-some}
use Rattle.ci_front.specs.Front.{both_at, number_at, rises}
use Rattle.ci_front.proofs.FrontLemmas.{AreBytes, AreBytes-rest, IsCode, bind_some, number_code}
use Rattle.ci_front.proofs.CodeLemmas.{both_code, seen_code}
use Rattle.std.specs.List.{AllByRecursion}
use Rattle.std.proofs.lemmas.List.Elements.{All-from_recursion}
use Rattle.ci_keys.specs.Places.{IsPlaces}
use Rattle.ci_keys.specs.Postings.{IsPostings}
use Rattle.ci_front.proofs.RisesLemmas.{sorted_from_rises}
use Rattle.ci_segment.specs.Chain.{Follow, chain_at, chained}
use Rattle.ci_segment.specs.Postings.{ArePlaces, IsAbove, IsPostingAfter, IsSpelledPostings, MayFollow, Posting, after_place, after_posting, gap_bytes, place_bytes, places_bytes, posting_bytes, postings_bytes}
use Rattle.ci_segment.specs.Reading.{gap_at, is_gap, over_gap, place_at, places_at, posting_at, posting_of, postings_of}
use Rattle.ci_segment.proofs.ChainLemmas.{chain_takes, chain_again, whole_takes, whole_again}

guard_step : {A : Type 0} (b : Bool) (r : Option A) (y : A) → cond b None r ≡ Some y → (b ≡ false) × (r ≡ Some y)
guard_step true r y e = absurd cc
guard_step false r y e = (refl, e)

gap_code : (before : Option ℕ) → IsCode (gap_bytes before) (IsAbove before) (gap_at before)
unfolding gap_at
gap_code None = seen_code (is_gap None) (over_gap None) (λ n. n) varint (λ n. n < 2 ^ 64) (IsAbove None) number_at
    (record { there = λ n fits good. (ltb-true n (2 ^ 32) good, refl); here = λ n fits. (omega (arith, fits), lt-ltb n (2 ^ 32) fits, refl) }) number_code
gap_code (Some b) = seen_code (is_gap (Some b)) (over_gap (Some b)) (λ n. n - b) varint (λ n. n < 2 ^ 64) (IsAbove (Some b)) number_at
    (record {
      there = λ n fits good. (
          let both = and_parts (ltb 0 n) (ltb (b + n) (2 ^ 32)) good in
          let more : 0 < n = ltb-true 0 n both.0 in
          ((omega arith, ltb-true (b + n) (2 ^ 32) both.1), omega arith));
      here = λ n fits. (
          let more : b < n = fits.0 in
          let small : n < 2 ^ 32 = fits.1 in
          let same : b + (n - b) ≡ n = omega arith in
          (omega arith, and_from (ltb 0 (n - b)) (ltb (b + (n - b)) (2 ^ 32)) (lt-ltb 0 (n - b) (omega arith)) (lt-ltb (b + (n - b)) (2 ^ 32) (omega arith)), same));
    }) number_code

place_code : (before : Option ℕ) → IsCode (place_bytes before) (MayFollow before) (place_at before)
place_code before = seen_code (λ n. true) (λ n. record { 0 = n }) (λ p. p.0) (gap_bytes before) (IsAbove before) (MayFollow before) (gap_at before)
    (record { there = λ n fits good. (fits, refl); here = λ p fits. (fits, refl, refl) }) (gap_code before)

empty_length : (places : List Place) → places ≡ [] → length places ≡ 0
empty_length places none = ap length none

length_empty : (places : List Place) → length places ≡ 0 → places ≡ []
length_empty [] none = refl
length_empty (p ∷ ps) none = absurd (omega arith)

places_takes : (bytes : List ℕ) (places : List Place) (rest : List ℕ) → AreBytes bytes → places_at bytes ≡ Some (places, rest) → ArePlaces places × (bytes ≡ places_bytes places ++ rest)
unfolding places_at
places_takes bytes places rest fits e =
    let step = bind_some (number_at bytes) (λ count. cond (eqb count.0 0) None (chain_at place_at after_place None count.0 count.1)) (places, rest) e in
    let n = number_code.takes bytes step.0.0 step.0.1 fits step.1 in
    let last = guard_step (eqb step.0.0 0) (chain_at place_at after_place None step.0.0 step.0.1) (places, rest) step.2 in
    let t = chain_takes place_bytes MayFollow place_at after_place place_code None step.0.0 step.0.1 places rest (AreBytes-rest (varint step.0.0) step.0.1 bytes n.1 fits) last.1 in
    let whole : bytes ≡ varint (length places) ++ (chained place_bytes after_place None places ++ rest) =
    n.1 ∙ ap (λ r. varint step.0.0 ++ r) t.2 ∙ ap (λ k. varint k ++ (chained place_bytes after_place None places ++ rest)) (sym t.1) in (
      record { few = omega (arith, n.0, t.1); some = λ none. eqb-false step.0.0 0 last.0 (sym t.1 ∙ empty_length places none); ascend = t.0 },
      whole ∙ sym (append_assoc (varint (length places)) (chained place_bytes after_place None places) rest),
    )

places_again : (places : List Place) (rest : List ℕ) → ArePlaces places → places_at (places_bytes places ++ rest) ≡ Some (places, rest)
unfolding places_at
places_again places rest are =
    let some : eqb (length places) 0 ≡ false = ne_eqb (length places) 0 (λ none. are.some (length_empty places none)) in
    ap places_at (append_assoc (varint (length places)) (chained place_bytes after_place None places) rest)
    ∙ rw (number_code.again (length places) (chained place_bytes after_place None places ++ rest) are.few, some) (chain_again place_bytes MayFollow place_at after_place place_code None places rest are.ascend)

places_code : IsCode places_bytes ArePlaces places_at
places_code = record { takes = places_takes; again = places_again }

pub posting_code : (before : Option ℕ) → IsCode (posting_bytes before) (IsPostingAfter before) (posting_at before)
unfolding posting_at
posting_code before = seen_code (λ p. true) posting_of (λ p. (p.0.0, p.1)) (λ p. gap_bytes before p.0 ++ places_bytes p.1) (λ p. IsAbove before p.0 × ArePlaces p.1) (IsPostingAfter before)
    (both_at (gap_at before) places_at)
    (record { there = λ p fits good. (fits, refl); here = λ p fits. (fits, refl, refl) })
    (both_code (gap_bytes before) (IsAbove before) (gap_at before) places_bytes ArePlaces places_at (gap_code before) places_code)

some_length : (bytes : List ℕ) → (bytes ≡ [] → ⊥) → 0 < length bytes
some_length [] some = absurd (some refl)
some_length (b ∷ bytes) some = omega arith

varint_some : (n : ℕ) → 0 < length (varint n)
unfolding varint
varint_some n = some_length (groups 9 n) (λ none. groups-some 9 n [] (sym (append-nil (groups 9 n) ∙ none)))

gap_some : (before : Option ℕ) (n : ℕ) → 0 < length (gap_bytes before n)
gap_some None n = varint_some n
gap_some (Some b) n = varint_some (n - b)

posting_some : (before : Option ℕ) (p : Posting) → IsPostingAfter before p → 0 < length (posting_bytes before p)
posting_some before p fits = omega (arith, gap_some before p.0.0, length-append (gap_bytes before p.0.0) (places_bytes p.1))

-- what is read is spelled, all of it
pub postings_take : (bytes : List ℕ) (postings : List Posting) → AreBytes bytes → postings_of bytes ≡ Some postings → IsSpelledPostings postings × (postings_bytes postings ≡ bytes)
unfolding postings_of postings_bytes
postings_take bytes postings fits e =
    let t = whole_takes posting_bytes IsPostingAfter posting_at after_posting posting_code None (length bytes) bytes postings fits e in (t.0, sym t.1)

-- what is spelled is read
pub postings_again : (postings : List Posting) → IsSpelledPostings postings → postings_of (postings_bytes postings) ≡ Some postings
unfolding postings_of postings_bytes
postings_again postings are =
    whole_again posting_bytes IsPostingAfter posting_at after_posting posting_code posting_some None (length (chained posting_bytes after_posting None postings)) postings are (omega arith)

-- ---- what was read is in order

places_rise : (before : Option ℕ) (places : List Place) → Follow MayFollow after_place before places → rises (map (λ p. p.0) places) ≡ true
unfolding Follow rises
places_rise before [] fits = refl
places_rise before (p ∷ []) fits = refl
places_rise before (p ∷ q ∷ places) fits = and_from (ltb p.0 q.0) (rises (map (λ (r : Place). r.0) (q ∷ places))) (lt-ltb p.0 q.0 fits.1.0.0) (places_rise (Some p.0) (q ∷ places) fits.1)

are_places : (places : List Place) → ArePlaces places → IsPlaces places
are_places places are = record { some = are.some; ascend = sorted_from_rises (map (λ (p : Place). p.0) places) (places_rise None places are.ascend) }

-- a list of places that was read behind its count
pub list_places : (bytes rest after : List ℕ) (count : ℕ) (places : List Place) → AreBytes bytes → number_at bytes ≡ Some (count, rest) → count ≢ 0 → chain_at place_at after_place None count rest ≡ Some (places, after) → IsPlaces places
list_places bytes rest after count places fits e isnt read =
    let n = number_code.takes bytes count rest fits e in
    let t = chain_takes place_bytes MayFollow place_at after_place place_code None count rest places after (AreBytes-rest (varint count) rest bytes n.1 fits) read in
    record {
      some = λ none. isnt (sym t.1 ∙ empty_length places none);
      ascend = sorted_from_rises (map (λ (p : Place). p.0) places) (places_rise None places t.0);
    }

docs_rise : (before : Option ℕ) (postings : List Posting) → Follow IsPostingAfter after_posting before postings → rises (map (λ p. p.0.0) postings) ≡ true
unfolding Follow rises
docs_rise before [] fits = refl
docs_rise before (p ∷ []) fits = refl
docs_rise before (p ∷ q ∷ postings) fits =
    and_from (ltb p.0.0 q.0.0) (rises (map (λ (r : Posting). r.0.0) (q ∷ postings))) (lt-ltb p.0.0 q.0.0 fits.1.0.0.0) (docs_rise (Some p.0.0) (q ∷ postings) fits.1)

each_places : (before : Option ℕ) (postings : List Posting) → Follow IsPostingAfter after_posting before postings → AllByRecursion (λ posting. IsPlaces posting.1) postings
unfolding Follow
each_places before [] fits = tt
each_places before (p ∷ postings) fits = (are_places p.1 fits.0.1, each_places (Some p.0.0) postings fits.1)

pub are_postings : (postings : List Posting) → IsSpelledPostings postings → IsPostings postings
are_postings postings are = record {
  places = All-from_recursion (λ (p : Posting). IsPlaces p.1) postings (each_places None postings are);
  ascend = sorted_from_rises (map (λ (p : Posting). p.0.0) postings) (docs_rise None postings are);
}
