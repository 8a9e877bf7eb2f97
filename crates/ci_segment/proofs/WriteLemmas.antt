-- What is written one value after the other is the chain of the values, and in the grammar.
use Rattle.std.proofs.Common.{◌≡◌, ℕ, zero, suc, ◌+◌, ◌^◌, ◌<◌, List, [], ◌∷◌, ◌++◌, length, map, take, get_or, Option, Some, None, All, refl, sym, ap, subst, ◌∙◌, append_assoc, append-nil, arith}
use Rattle.std.specs.List.{AllByRecursion}
use Rattle.std.specs.List.Sorted.{IsStrictlySortedBy}
use Rattle.std.specs.Ordering.{nat_cmp}
use Rattle.std.specs.declared.cmp.Ordering.TheVariants.{Less}
use Rattle.std.proofs.lemmas.List.{take_more}
use Rattle.std.proofs.lemmas.List.Elements.{All-append, All-from_recursion, recursion_from_All}
use Rattle.ci_base.specs.declared.numbers.Place.{Place}
use Rattle.ci_keys.specs.Places.{IsPlaces}
use Rattle.ci_keys.specs.Postings.{IsPostings}
use Rattle.ci_segment.specs.Chain.{Follow, chained, reached}
use Rattle.ci_segment.specs.Postings.{ArePlaces, IsAbove, IsPostingAfter, IsSpelledPostings, MayFollow, Posting, after_place, after_posting}
use Rattle.ci_segment.specs.Writing.{MayRise}

module _ {C X : Type 0} (spelled : C → X → List ℕ) (may : C → X → Type 0) (next : C → X → C) where
  -- the chain of two lists
  pub chained_append : (b : C) (xs ys : List X) → chained spelled next b (xs ++ ys) ≡ chained spelled next b xs ++ chained spelled next (reached next b xs) ys
  unfolding chained reached
  chained_append b [] ys = refl
  chained_append b (x ∷ xs) ys =
      ap (λ c. spelled b x ++ c) (chained_append (next b x) xs ys) ∙ sym (append_assoc (spelled b x) (chained spelled next (next b x) xs) (chained spelled next (reached next (next b x) xs) ys))

  pub reached_append : (b : C) (xs ys : List X) → reached next b (xs ++ ys) ≡ reached next (reached next b xs) ys
  unfolding reached
  reached_append b [] ys = refl
  reached_append b (x ∷ xs) ys = reached_append (next b x) xs ys

  pub Follow_append : (b : C) (xs ys : List X) → Follow may next b xs → Follow may next (reached next b xs) ys → Follow may next b (xs ++ ys)
  unfolding Follow reached
  Follow_append b [] ys first second = second
  Follow_append b (x ∷ xs) ys first second = (first.0, Follow_append (next b x) xs ys first.1 second)

  pub Follow_front : (b : C) (xs ys : List X) → Follow may next b (xs ++ ys) → Follow may next b xs
  unfolding Follow
  Follow_front b [] ys all = tt
  Follow_front b (x ∷ xs) ys all = (all.0, Follow_front (next b x) xs ys all.1)

  pub Follow_back : (b : C) (xs ys : List X) → Follow may next b (xs ++ ys) → Follow may next (reached next b xs) ys
  unfolding Follow reached
  Follow_back b [] ys all = all
  Follow_back b (x ∷ xs) ys all = Follow_back (next b x) xs ys all.1

  -- one value more
  pub chained_one : (b : C) (xs : List X) (x : X) → chained spelled next b (xs ++ x ∷ []) ≡ chained spelled next b xs ++ spelled (reached next b xs) x
  unfolding chained
  chained_one b xs x = chained_append b xs (x ∷ []) ∙ ap (λ s. chained spelled next b xs ++ s) (append-nil (spelled (reached next b xs) x))

  pub reached_one : (b : C) (xs : List X) (x : X) → reached next b (xs ++ x ∷ []) ≡ next (reached next b xs) x
  unfolding reached
  reached_one b xs x = reached_append b xs (x ∷ [])

  pub chained_more : (b : C) (xs : List X) (i : ℕ) (x : X) → i < length xs → x ≡ get_or xs i x
      → chained spelled next b (take (i + 1) xs) ≡ chained spelled next b (take i xs) ++ spelled (reached next b (take i xs)) x
  chained_more b xs i x within is =
      ap (chained spelled next b) (take_more xs i x within ∙ ap (λ y. take i xs ++ y ∷ []) (sym is)) ∙ chained_one b (take i xs) x

  pub reached_more : (b : C) (xs : List X) (i : ℕ) (x : X) → i < length xs → x ≡ get_or xs i x → reached next b (take (i + 1) xs) ≡ next (reached next b (take i xs)) x
  reached_more b xs i x within is =
      ap (reached next b) (take_more xs i x within ∙ ap (λ y. take i xs ++ y ∷ []) (sym is)) ∙ reached_one b (take i xs) x

  -- one value more is written
  pub chain_written : (b : C) (old head out after : List ℕ) (xs : List X) (i : ℕ) (c : C) (x : X) → i < length xs → x ≡ get_or xs i x
      → out ≡ old ++ (head ++ chained spelled next b (take i xs)) → c ≡ reached next b (take i xs) → after ≡ out ++ spelled c x
      → after ≡ old ++ (head ++ chained spelled next b (take (i + 1) xs))
  chain_written b old head out after xs i c x within is so_far told more =
      let front = chained spelled next b (take i xs) in
      let grown : front ++ spelled c x ≡ chained spelled next b (take (i + 1) xs) = ap (λ d. front ++ spelled d x) told ∙ sym (chained_more b xs i x within is) in
      more ∙ ap (λ o. o ++ spelled c x) so_far ∙ append_assoc old (head ++ front) (spelled c x) ∙ ap (λ r. old ++ r) (append_assoc head front (spelled c x) ∙ ap (λ r. head ++ r) grown)

  pub reached_next : (b c : C) (xs : List X) (i : ℕ) (x : X) → i < length xs → x ≡ get_or xs i x → c ≡ reached next b (take i xs) → next c x ≡ reached next b (take (i + 1) xs)
  reached_next b c xs i x within is told = ap (λ d. next d x) told ∙ sym (reached_more b xs i x within is)

-- what holds of each value that was written holds of one more
pub all_more : {X : Type 0} (P : X → Type 0) (xs : List X) (i : ℕ) (x : X) → i < length xs → x ≡ get_or xs i x → All P (take i xs) → P x → All P (take (i + 1) xs)
all_more P xs i x within is before one =
    subst (λ ys. All P ys) (sym (take_more xs i x within ∙ ap (λ y. take i xs ++ y ∷ []) (sym is)))
    (All-append P (take i xs) (x ∷ []) before (All-from_recursion P (x ∷ []) (one, tt)))

-- ---- numbers that rise

module _ {X : Type 0} (of : X → ℕ) where
  abbrev pub follows : Option ℕ → X → Option ℕ
  follows before x = Some (of x)

  abbrev pub AllAbove : Option ℕ → List X → Type 0
  AllAbove None xs = Unit
  AllAbove (Some b) xs = AllByRecursion (λ y. nat_cmp b y ≡ Less) (map of xs)

  pub may_rise : (before : Option ℕ) (x : X) (xs : List X) → AllAbove before (x ∷ xs) → MayRise before (of x)
  may_rise None x xs above = tt
  may_rise (Some b) x xs above = grind (arith, above.0)

  -- the next of ascending numbers is above the last one that was written
  pub next_rises : (before : Option ℕ) (xs : List X) (i : ℕ) (x : X) → IsStrictlySortedBy nat_cmp (map of xs) → AllAbove before xs → i < length xs → x ≡ get_or xs i x
      → MayRise (reached follows before (take i xs)) (of x)
  unfolding IsStrictlySortedBy reached
  next_rises before [] i x up above within is = absurd (omega arith)
  next_rises before (y ∷ ys) zero x up above within is = subst (λ z. MayRise before (of z)) (sym is) (may_rise before y ys above)
  next_rises before (y ∷ ys) (suc i) x up above within is = next_rises (Some (of y)) ys i x up.1 up.0 (omega arith) is

above_first : (before : Option ℕ) (n : ℕ) → MayRise before n → n < 2 ^ 32 → IsAbove before n
above_first None n rises small = small
above_first (Some b) n rises small = (rises, small)

places_follow : (before : Option ℕ) (places : List Place) → IsStrictlySortedBy nat_cmp (map (λ p. p.0) places) → AllAbove (λ (p : Place). p.0) before places → AllByRecursion (λ p. p.0 < 2 ^ 32) places → Follow MayFollow after_place before places
unfolding IsStrictlySortedBy Follow
places_follow before [] up above small = tt
places_follow before (p ∷ places) up above small =
    (above_first before p.0 (may_rise (λ (q : Place). q.0) before p places above) small.0, places_follow (Some p.0) places up.1 up.0 small.1)

pub spelled_places : (places : List Place) → IsPlaces places → length places < 2 ^ 64 → All (λ p. p.0 < 2 ^ 32) places → ArePlaces places
spelled_places places is few small = record { few = few; some = is.some; ascend = places_follow None places is.ascend tt (recursion_from_All _ places small) }

postings_follow : (before : Option ℕ) (postings : List Posting) → IsStrictlySortedBy nat_cmp (map (λ p. p.0.0) postings) → AllAbove (λ (p : Posting). p.0.0) before postings
    → AllByRecursion (λ p. (p.0.0 < 2 ^ 32) × ArePlaces p.1) postings → Follow IsPostingAfter after_posting before postings
unfolding IsStrictlySortedBy Follow
postings_follow before [] up above small = tt
postings_follow before (p ∷ postings) up above small =
    ((above_first before p.0.0 (may_rise (λ (q : Posting). q.0.0) before p postings above) small.0.0, small.0.1), postings_follow (Some p.0.0) postings up.1 up.0 small.1)

pub spelled_are : (postings : List Posting) → IsPostings postings → All (λ p. (p.0.0 < 2 ^ 32) × ArePlaces p.1) postings → IsSpelledPostings postings
spelled_are postings is small = postings_follow None postings is.ascend tt (recursion_from_All _ postings small)

-- the next place, and the next document
pub place_rises : (places : List Place) (i : ℕ) (before : Option ℕ) (x : Place) → IsPlaces places → i < length places → x ≡ get_or places i x → before ≡ reached after_place None (take i places) → MayRise before x.0
place_rises places i before x is within at told =
    subst (λ b. MayRise b x.0) (sym told) (next_rises (λ (p : Place). p.0) None places i x is.ascend tt within at)

pub doc_rises : (postings : List Posting) (i : ℕ) (before : Option ℕ) (x : Posting) → IsPostings postings → i < length postings → x ≡ get_or postings i x → before ≡ reached after_posting None (take i postings) → MayRise before x.0.0
doc_rises postings i before x is within at told =
    subst (λ b. MayRise b x.0.0) (sym told) (next_rises (λ (p : Posting). p.0.0) None postings i x is.ascend tt within at)
