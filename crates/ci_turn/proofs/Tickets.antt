-- The steps that draw a ticket, and look at the one that is served.
use Rattle.std.proofs.Common.{◌≡◌, ℕ, ◌+◌, ◌<◌, ◌≤◌, Bool, true, false, List, [], ◌∷◌, map, Option, Some, set, refl, sym, ap, ◌∙◌, subst, arith, append-nil}
use Rattle.std.specs.Prelude.{◌^◌, ◌==◌, slice_set, slice_index}
use prog.Atomic.{either}
use mathlib.Core.List.{IsPrefix}
use mathlib.Core.Option.{some, none, some-ne-none}
use lib.ListN.{get_elem?}
use Rattle.atomic_table.specs.Table.{State, step, Act, keeps, takes, Valid, carried_after, Allows, stepped}
use Rattle.atomic_table.proofs.Lists.{at_map}
use Rattle.ci_turn.specs.declared.view.View.{View}
use Rattle.ci_turn.specs.Views.{events_of, lives, StandsFor, after_miss, after_draw, after_served}
use Rattle.ci_turn.specs.Plays.{DrewTicket, DrewIf, Looked, LookedIf}
use Rattle.ci_turn.specs.Rule.{Stand, stand_of, memory_of, role_of, Line, Remembers, AllRemember, Roster, is_away, Kept}
use Rattle.ci_turn.proofs.Places.{map_set}
use Rattle.ci_turn.proofs.InLine.{idle_at, waits_at, holds_at, line_idles, line_draws, not_away, line_takes}
use Rattle.ci_turn.proofs.Memories.{remember_set}
use Rattle.ci_turn.proofs.Keeps.{still, unseen, remembered}
use mathlib.Core.Option as maybe

module _ {X E F : Type 0} (list : X → List E) (author : E → ℕ) (stands : X → F → Type 0) (fixed : F) where
  abbrev Rule : State (Option X) (View E F) → Type 0
  Rule = Kept list author stands fixed

  module _ (slots id : ℕ) (v : View E F) (c : List (ℕ × Option X)) (t : ℕ) (out_of_line : v.queued ≡ false) (free : v.holds ≡ false) (room : t < 2 ^ 62)
      (s : State (Option X) (View E F)) (k : Rule s) (at : get_elem? s.views id ≡ some v) where
    -- by whether the ticket that was found is the one that was expected
    DrawsIf : Bool → Type 0
    DrawsIf b = (w : View E F) × (a : Act (Option X)) × Valid s.homes c a
        × Rule (stepped s 1 (either b (t + 1) (slice_index s.words 1)) id c w a)
        × DrewIf b (v, c) (slice_index s.words 1) (w, carried_after c a)

    draws_if : (b : Bool) → (slice_index s.words 1 == t) ≡ b → DrawsIf b
    unfolding DrawsIf
    draws_if true is =
        let n : ℕ = slice_index s.words 1 in
        let found : n ≡ k.next = ap (λ (ws : List ℕ). slice_index ws 1) k.words in
        let hit : n ≡ t = grind (arith, is) in
        let w : View E F = after_draw v n in
        let low : k.next < 2 ^ 62 = omega arith in
        let known : v.ticket ≤ k.next = (k.line.each id (stand_of v) (at_map stand_of s.views id v at)).known in
        let stand_is : stand_of (after_draw v k.next) ≡ waits_at k.next = ap (λ (h : Bool). record { ticket = k.next; queued = true; holds = h }) free in
        let line : Line (k.next + 1) k.serving (is_away k.home) (map stand_of (set s.views id (after_draw v k.next))) =
        subst (Line (k.next + 1) k.serving (is_away k.home))
        (sym (map_set stand_of s.views id (after_draw v k.next) ∙ ap (λ (p : Stand). set (map stand_of s.views) id p) stand_is))
        (line_draws k.next k.serving (is_away k.home) (map stand_of s.views) k.line id (stand_of v) (at_map stand_of s.views id v at) free low) in (
          w,
          keeps,
          tt,
          still list author stands fixed s k (slice_set s.words 1 (t + 1)) (set s.views id w) k.seats (n + 1)
              (ap (λ (ws : List ℕ). slice_set ws 1 (t + 1)) k.words ∙ ap (λ (x : ℕ). k.seats ∷ (x + 1) ∷ k.serving ∷ []) (sym hit))
              (subst (λ (x : ℕ). Line (x + 1) k.serving (is_away k.home) (map stand_of (set s.views id (after_draw v x)))) (sym found) line)
              (unseen memory_of (AllRemember author fixed k.log) s.views id v w at refl k.memories)
              (unseen role_of (Roster author k.log k.seats) s.views id v w at refl k.roster),
          (refl, omega arith, omega arith),
        )
    draws_if false is =
        let n : ℕ = slice_index s.words 1 in
        let found : n ≡ k.next = ap (λ (ws : List ℕ). slice_index ws 1) k.words in
        let w : View E F = after_miss v n in
        let top : k.next ≤ 2 ^ 62 = k.line.top in
        let known : v.ticket ≤ k.next = (k.line.each id (stand_of v) (at_map stand_of s.views id v at)).known in
        let stand_is : stand_of w ≡ idle_at n = ap (λ (q : Bool). record { ticket = n; queued = q; holds = v.holds }) out_of_line ∙ ap (λ (h : Bool). record { ticket = n; queued = false; holds = h }) free in (
          w,
          keeps,
          tt,
          still list author stands fixed s k (slice_set s.words 1 n) (set s.views id w) k.seats k.next
              (ap (λ (ws : List ℕ). slice_set ws 1 (slice_index ws 1)) k.words)
              (subst (Line k.next k.serving (is_away k.home))
              (sym (map_set stand_of s.views id w ∙ ap (λ (p : Stand). set (map stand_of s.views) id p) stand_is))
              (line_idles k.next k.serving (is_away k.home) (map stand_of s.views) k.line id (stand_of v) n (at_map stand_of s.views id v at) free (omega arith)))
              (unseen memory_of (AllRemember author fixed k.log) s.views id v w at refl k.memories)
              (unseen role_of (Roster author k.log k.seats) s.views id v w at refl k.roster),
          (refl, omega arith, omega arith),
        )

  -- a ticket is drawn, or found to be another
  pub draws_ticket : (slots id : ℕ) (v : View E F) (c : List (ℕ × Option X)) (t : ℕ) → v.queued ≡ false → v.holds ≡ false → t < 2 ^ 62
      → Allows Rule slots id (v, c) 1 (λ n. either (n == t) (t + 1) n) (DrewTicket (step slots 1 t (t + 1) none) (v, c))
  unfolding DrawsIf
  draws_ticket slots id v c t out_of_line free room s k slots_are at fits =
      draws_if slots id v c t out_of_line free room s k at (slice_index s.words 1 == t) refl

  module _ (slots id : ℕ) (v : View E F) (queued : v.queued ≡ true) (free : v.holds ≡ false) (live : lives v ≡ true)
      (s : State (Option X) (View E F)) (k : Rule s) (at : get_elem? s.views id ≡ some v) where
    -- by whether the ticket that is served is the seat's
    LooksIf : Bool → Type 0
    LooksIf b = (w : View E F) × (a : Act (Option X)) × Valid s.homes [] a
        × Rule (stepped s 2 (slice_index s.words 2) id [] w a)
        × LookedIf list author stands b (v, []) (w, carried_after [] a)

    -- the value is in the slot
    takes_value : v.ticket ≡ k.serving → (x : Option X) → k.home ≡ some x → LooksIf true
    unfolding LooksIf
    takes_value served x home_is =
        let l = k.lies x home_is in
        let y : X = l.0 in
        let w : View E F = after_served v (list y) in
        let r = remembered list author stands fixed s k id v at in
        let home_y : k.home ≡ some (Some y) = home_is ∙ ap some l.1 in
        let stand_is : stand_of w ≡ holds_at v.ticket = ap (λ (q : Bool). record { ticket = v.ticket; queued = q; holds = true }) queued in
        let m : Remembers author fixed k.log (memory_of w) =
        record { seen = ([], append-nil (list y) ∙ l.2); told = r.told; fixed_is = r.fixed_is; own = r.own; whole = λ h. (live, l.2) } in
        let kept : Rule (stepped s 2 (slice_index s.words 2) id [] w (takes 0 (Some y))) = record {
          log = k.log;
          seats = k.seats;
          next = k.next;
          serving = k.serving;
          home = none;
          words = ap (λ (ws : List ℕ). slice_set ws 2 (slice_index ws 2)) k.words;
          homes = ap (λ hs. slice_set hs 0 none) k.homes;
          line = subst (Line k.next k.serving true)
              (sym (map_set stand_of s.views id w ∙ ap (λ (p : Stand). set (map stand_of s.views) id p) stand_is))
              (line_takes k.next k.serving (is_away k.home) (map stand_of s.views) k.line id (stand_of v) (at_map stand_of s.views id v at) queued free served);
          memories = subst (AllRemember author fixed k.log) (sym (map_set memory_of s.views id w))
              (remember_set author fixed k.log (map memory_of s.views) k.memories id (memory_of w) m);
          roster = unseen role_of (Roster author k.log k.seats) s.views id v w at refl k.roster;
          lies = λ z e. absurd (some-ne-none z (sym e));
        } in
        let f : v.fixed ≡ Some fixed = r.fixed_is live in (
          w,
          takes 0 (Some y),
          ap (λ hs. get_elem? hs 0) k.homes ∙ ap some home_y,
          kept,
          (y, refl, subst (StandsFor stands y) (sym f) l.3, subst (IsPrefix v.seen) (sym l.2) r.seen, subst (λ (xs : List E). events_of author v.number xs ≡ v.own) (sym l.2) (r.own live)),
        )

    takes_home : v.ticket ≡ k.serving → (h : maybe.Option (Option X)) → k.home ≡ h → LooksIf true
    takes_home served none is =
        absurd (not_away k.next k.serving (is_away k.home) (map stand_of s.views) k.line id (stand_of v) (at_map stand_of s.views id v at) queued free served (ap is_away is))
    takes_home served (some x) is = takes_value served x is

    looks_if : (b : Bool) → (slice_index s.words 2 == v.ticket) ≡ b → LooksIf b
    unfolding LooksIf
    looks_if true is =
        let found : slice_index s.words 2 ≡ k.serving = ap (λ (ws : List ℕ). slice_index ws 2) k.words in
        let hit : slice_index s.words 2 ≡ v.ticket = grind (arith, is) in
        takes_home (sym hit ∙ found) k.home refl
    looks_if false is = (
      v,
      keeps,
      tt,
      still list author stands fixed s k (slice_set s.words 2 (slice_index s.words 2)) (set s.views id v) k.seats k.next
          (ap (λ (ws : List ℕ). slice_set ws 2 (slice_index ws 2)) k.words)
          (unseen stand_of (Line k.next k.serving (is_away k.home)) s.views id v v at refl k.line)
          (unseen memory_of (AllRemember author fixed k.log) s.views id v v at refl k.memories)
          (unseen role_of (Roster author k.log k.seats) s.views id v v at refl k.roster),
      refl,
    )

  -- what is served is looked at; at the seat's own ticket the value is taken
  looks_empty : (slots id : ℕ) (v : View E F) → v.queued ≡ true → v.holds ≡ false → lives v ≡ true
      → Allows Rule slots id (v, []) 2 (λ n. n) (Looked list author stands (step slots 2 0 0 none) (v, []))
  unfolding LooksIf
  looks_empty slots id v queued free live s k slots_are at fits = looks_if slots id v queued free live s k at (slice_index s.words 2 == v.ticket) refl

  pub looks : (slots id : ℕ) (v : View E F) (c : List (ℕ × Option X)) → v.queued ≡ true → v.holds ≡ false → lives v ≡ true → c ≡ []
      → Allows Rule slots id (v, c) 2 (λ n. n) (Looked list author stands (step slots 2 0 0 none) (v, c))
  looks slots id v c queued free live empty =
      subst (λ (d : List (ℕ × Option X)). Allows Rule slots id (v, d) 2 (λ n. n) (Looked list author stands (step slots 2 0 0 none) (v, d))) (sym empty) (looks_empty slots id v queued free live)
