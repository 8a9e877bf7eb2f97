-- The lock as it begins, and the value once it is closed.
use Rattle.std.proofs.Common.{◌≡◌, ◌≢◌, ℕ, ◌<◌, ◌≤◌, true, false, List, [], ◌∷◌, length, map, All, Option, Some, refl, sym, ap, ◌∙◌, subst, arith, zero-le, le_refl, ⊎_elim}
use Rattle.std.specs.Prelude.{◌^◌, slice_index_or}
use mathlib.Core.List.{IsPrefix}
use mathlib.Core.Option.{some, none, some-injective, some-ne-none}
use lib.ListN.{get_elem?}
use Rattle.atomic_table.specs.Table.{State, opening, Final, Seen}
use Rattle.atomic_table.proofs.Lists.{at_map}
use Rattle.ci_turn.specs.declared.view.View.{View}
use Rattle.ci_turn.specs.Views.{events_of, first_view, lives, StandsFor}
use Rattle.ci_turn.specs.Rule.{Stand, Role, stand_of, memory_of, role_of, StandsInLine, Remembers, is_away, Kept}
use Rattle.ci_turn.proofs.Places.{here, at_or, at_end, map_back}
use Rattle.ci_turn.proofs.Rosters.{the_first, living_two}
use Rattle.ci_turn.proofs.Keeps.{remembered}
use mathlib.Core.Option as maybe

module _ {X E F : Type 0} (list : X → List E) (author : E → ℕ) (stands : X → F → Type 0) (fixed : F) where
  abbrev Rule : State (Option X) (View E F) → Type 0
  Rule = Kept list author stands fixed

  -- the lock as it begins
  only : {A : Type 0} (a b : A) (i : ℕ) → get_elem? (a ∷ []) i ≡ some b → (i ≡ 0) × (a ≡ b)
  only a b i at = ⊎_elim (λ (t : get_elem? [] i ≡ some b). absurd (some-ne-none b (sym t))) (λ (t : (i ≡ 0) × (a ≡ b)). t) (at_end [] a b i at)

  pub opens : (x : X) (first : ℕ) → first ≤ 2 ^ 62 → stands x fixed → list x ≡ [] → Rule (opening (1 ∷ first ∷ first ∷ []) (Some x ∷ []) (first_view fixed first))
  opens x first top fits_x empty =
      let v : View E F = first_view fixed first in
      record {
        log = [];
        seats = 1;
        next = first;
        serving = first;
        home = some (Some x);
        words = refl;
        homes = refl;
        line = record {
          served = le_refl first;
          top = top;
          each = λ i p at. subst (StandsInLine first first false) (only (stand_of v) p i at).1
              (record { known = le_refl first; waits = λ h. absurd (cc h); holder = λ h. absurd (cc h) });
          apart = λ i j p q ai aj pq qq same. (only (stand_of v) p i ai).0 ∙ sym (only (stand_of v) q j aj).0;
          out = λ h. absurd (cc h);
        };
        memories = λ i m at. subst (Remembers author fixed []) (only (memory_of v) m i at).1
            (record { seen = ([], refl); told = ([], refl); fixed_is = λ h. refl; own = λ h. refl; whole = λ h. absurd (cc h) });
        roster = record {
          first = role_of v;
          at = refl;
          first_lives = refl;
          first_number = refl;
          word = omega arith;
          given = zero-le;
          below = λ i r at l. subst (λ (q : Role E). q.number ≤ 0) (only (role_of v) r i at).1 (le_refl 0);
          alone = λ i j r q ai aj lr lq same. (only (role_of v) r i ai).0 ∙ sym (only (role_of v) q j aj).0;
          later = λ n h. refl;
          gone = λ n j at. absurd (some-ne-none j (sym at));
          count = omega arith;
        };
        lies = λ z is. (x, sym (some-injective (Some x) z is), empty, fits_x);
      }

  -- what is known of the value once every seat has joined the first
  pub record Ended (v : View E F) (x : X) : Type 0 where
    pub stands_for : StandsFor stands x v.fixed
    pub begins : IsPrefix v.seen (list x)
    pub own : events_of author 0 (list x) ≡ v.own
    pub joined : All (λ j. events_of author j.0 (list x) ≡ j.1) v.joined
    pub others : (n : ℕ) → v.made < n → events_of author n (list x) ≡ []

  module _ (id : ℕ) (v : View E F) (live : lives v ≡ true) (first : v.number ≡ 0) (free : v.holds ≡ false) (all : length v.joined ≡ v.made)
      (s : State (Option X) (View E F)) (k : Rule s) (at : get_elem? s.views id ≡ some v) where
    -- nobody else lives, so nobody holds the value
    at_home : is_away k.home ≢ true
    at_home h =
        let o = k.line.out h in
        let b = map_back stand_of s.views o.0 o.1 o.2 in
        let u : View E F = b.0 in
        let there = at_map role_of s.views id v at in
        let tf = the_first author k.log k.seats (map role_of s.views) k.roster id (role_of v) there live first in
        let holds : u.holds ≡ true = ap (λ (p : Stand). p.holds) b.2 ∙ o.3 in
        let lives_too : lives u ≡ true = ((remembered list author stands fixed s k o.0 u b.1).whole holds).0 in
        let apart : o.0 ≢ 0 = λ e. absurd (cc (sym free
        ∙ (sym (ap (λ (z : View E F). z.holds) (here s.views o.0 u v b.1 (subst (λ (j : ℕ). get_elem? s.views j ≡ some v) (tf.0 ∙ sym e) at))) ∙ holds))) in
        let two = living_two (map role_of s.views) o.0 k.roster.first (role_of u) k.roster.at (at_map role_of s.views o.0 u b.1) apart k.roster.first_lives lives_too in
        let c = k.roster.count in
        let m : k.roster.first.made ≡ v.made = ap (λ (r : Role E). r.made) tf.1 in
        let n : length k.roster.first.joined ≡ length v.joined = ap (λ (r : Role E). length r.joined) tf.1 in
        absurd (omega arith)

    ends_home : (h : maybe.Option (Option X)) → k.home ≡ h → (x : X) × (k.home ≡ some (Some x)) × Ended v x
    ends_home none is = absurd (at_home (ap is_away is))
    ends_home (some z) is =
        let l = k.lies z is in
        let x : X = l.0 in
        let r = remembered list author stands fixed s k id v at in
        let there = at_map role_of s.views id v at in
        let f = (the_first author k.log k.seats (map role_of s.views) k.roster id (role_of v) there live first).1 in
        let log_is : k.log ≡ list x = sym l.2 in
        let about : Ended v x = record {
          stands_for = subst (StandsFor stands x) (sym (r.fixed_is live)) l.3;
          begins = subst (IsPrefix v.seen) log_is r.seen;
          own = subst (λ (xs : List E). events_of author 0 xs ≡ v.own) log_is (subst (λ (n : ℕ). events_of author n k.log ≡ v.own) first (r.own live));
          joined = λ n d h.
              let j : ℕ × List E = slice_index_or v.joined n d in
              subst (λ (xs : List E). events_of author j.0 xs ≡ j.1) log_is
              (k.roster.gone n j (subst (λ (q : Role E). get_elem? q.joined n ≡ some j) (sym f) (at_or v.joined n d h))).events;
          others = λ n h. subst (λ (xs : List E). events_of author n xs ≡ []) log_is (k.roster.later n (subst (λ (q : Role E). q.made < n) (sym f) h));
        } in
        (x, is ∙ ap some l.1, about)

  -- the value that is found once the lock is closed
  pub ends : (id : ℕ) (v : View E F) (ws : List ℕ) (xs : List (Option X)) → lives v ≡ true → v.number ≡ 0 → v.holds ≡ false → length v.joined ≡ v.made
      → Final (Seen Rule id v) ws xs → (x : X) × (get_elem? xs 0 ≡ some (Some x)) × Ended v x
  ends id v ws xs live first free all final =
      let s : State (Option X) (View E F) = final.0 in
      let k : Rule s = final.1.0 in
      let h = ends_home id v live first free all s k final.1.1 k.home refl in
      (h.0, final.4 0 (Some h.0) (ap (λ hs. get_elem? hs 0) k.homes ∙ ap some h.1), h.2)
