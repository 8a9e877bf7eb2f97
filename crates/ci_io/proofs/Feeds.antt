-- Where line feeds stand in bytes that are searched in parts.
use Rattle.std.proofs.Common.{◌≡◌, ◌≢◌, ◌==◌, ℕ, ◌+◌, ◌-◌, ◌<◌, ◌≤◌, List, Some, None, length, take, drop, get_or, arith, refl, ◌++◌, sym, ◌∙◌, ap, inl, inr, subst, eqb-true, lt-ltb}
use Rattle.std.specs.List.{position, position_or_len}
use Rattle.std.proofs.lemmas.Bool.{cases_lt, false≢true}
use Rattle.std.proofs.lemmas.Option.{none-some}
use Rattle.std.proofs.lemmas.List.{get_or-take, get_or-drop, length-take, length-drop, get_or_default, take-take, drop-take, take_at, drop_at}
use Rattle.std.proofs.lemmas.List.Quantifiers.{position-Some}
use Rattle.std.proofs.lemmas.List.Sums.{fails_before_first}
use Rattle.ci_io.specs.Lines.{HasNoFeed, HasFeedAt}

-- bytes of which each is known to be no line feed have none
pub HasNoFeed-each : (bytes : List ℕ) → ((k : ℕ) → k < length bytes → get_or bytes k 0 ≢ 10) → HasNoFeed bytes
HasNoFeed-each bytes none (k, within, feed) = none k within (get_or_default bytes k 0 10 within ∙ feed)

-- and none of them is one
pub get_or-no_feed : (bytes : List ℕ) (k : ℕ) → HasNoFeed bytes → k < length bytes → get_or bytes k 0 ≢ 10
get_or-no_feed bytes k none within feed = none (k, within, get_or_default bytes k 10 0 within ∙ feed)

-- none in a front and none behind it
pub HasNoFeed-join : (bytes : List ℕ) (n : ℕ) → HasNoFeed (take n bytes) → HasNoFeed (drop n bytes) → HasNoFeed bytes
HasNoFeed-join bytes n front back = HasNoFeed-each bytes (λ k within feed. elim (cases_lt k n) [
  | inl low ↦ get_or-no_feed (take n bytes) k front (omega (arith, length-take n bytes)) (get_or-take n bytes k 0 low ∙ feed)
  | inr high ↦
      let place : n + (k - n) ≡ k = omega arith in
      get_or-no_feed (drop n bytes) (k - n) back (omega (arith, length-drop n bytes)) (get_or-drop n bytes (k - n) 0 ∙ ap (λ i. get_or bytes i 0) place ∙ feed)
])

pub HasNoFeed-append : (front back : List ℕ) → HasNoFeed front → HasNoFeed back → HasNoFeed (front ++ back)
HasNoFeed-append front back none_before none_behind =
    HasNoFeed-join (front ++ back) (length front) (subst HasNoFeed (sym (take_at front back (length front) refl)) none_before) (subst HasNoFeed (sym (drop_at front back (length front) refl)) none_behind)

-- a first line feed behind a front without one
pub HasFeedAt-behind : (bytes : List ℕ) (n place : ℕ) → HasNoFeed (take n bytes) → HasFeedAt (drop n bytes) place → HasFeedAt bytes (n + place)
HasFeedAt-behind bytes n place front found =
    let before : take n (take (n + place) bytes) ≡ take n bytes = take-take n (n + place) bytes (omega arith) in
    let behind : drop n (take (n + place) bytes) ≡ take place (drop n bytes) = drop-take n place bytes in
    record {
      within = omega (arith, found.within, length-drop n bytes);
      feed = sym (get_or-drop n bytes place 0) ∙ found.feed;
      first = HasNoFeed-join (take (n + place) bytes) n (subst HasNoFeed (sym before) front) (subst HasNoFeed (sym behind) found.first);
    }

-- what a search for line feeds answers
pub HasFeedAt-position : (bytes : List ℕ) (place : ℕ) → position (λ b. b == 10) bytes ≡ Some place → HasFeedAt bytes place
HasFeedAt-position bytes place found =
    let there = position-Some (λ b. b == 10) bytes place 0 found in
    record {
      within = there.0;
      feed = eqb-true _ _ there.1;
      first = HasNoFeed-each (take place bytes) (λ k low feed.
          let before : k < place = omega (arith, length-take place bytes) in
          absurd (false≢true (sym (there.2 k before) ∙ ap (λ b. b == 10) (sym (get_or-take place bytes k 0 before) ∙ feed))));
    }

pub HasNoFeed-position : (bytes : List ℕ) → position (λ b. b == 10) bytes ≡ None → HasNoFeed bytes
HasNoFeed-position bytes none =
    let place = position_or_len (λ b. b == 10) bytes in
    let past : length bytes ≤ place = elim (cases_lt place (length bytes)) [
      | inl low ↦ absurd (none-some place (sym (rw (lt-ltb place (length bytes) low) at none)))
      | inr high ↦ high
    ] in
    HasNoFeed-each bytes (λ k within feed.
    absurd (false≢true (sym (fails_before_first (λ b. b == 10) bytes k 0 (omega arith)) ∙ ap (λ b. b == 10) feed)))
