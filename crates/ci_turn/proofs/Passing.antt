-- The step that passes the turn.
use Rattle.std.proofs.Common.{◌≡◌, ◌≢◌, ℕ, ◌+◌, true, false, List, [], ◌∷◌, ◌++◌, map, Option, Some, set, refl, sym, ap, ◌∙◌, subst}
use Rattle.std.specs.Prelude.{slice_set}
use mathlib.Core.Option.{some, none, some-injective}
use lib.ListN.{get_elem?}
use Rattle.atomic_table.specs.Table.{State, Me, step, gives, Allows, stepped}
use Rattle.atomic_table.proofs.Lists.{at_map}
use Rattle.ci_turn.specs.declared.view.View.{View}
use Rattle.ci_turn.specs.Views.{is_there, lives, StandsFor, Adds, after_pass}
use Rattle.ci_turn.specs.Plays.{Passed}
use Rattle.ci_turn.specs.Rule.{Memory, stand_of, memory_of, role_of, Line, AllRemember, Roster, is_away, Kept}
use Rattle.ci_turn.proofs.Places.{map_set, map_back}
use Rattle.ci_turn.proofs.InLine.{one_holder, line_passes}
use Rattle.ci_turn.proofs.Rosters.{roster_grows}
use Rattle.ci_turn.proofs.Memories.{remember_grow}
use Rattle.ci_turn.proofs.Keeps.{unseen, remembered}

module _ {X E F : Type 0} (list : X → List E) (author : E → ℕ) (stands : X → F → Type 0) (fixed : F) where
  abbrev Rule : State (Option X) (View E F) → Type 0
  Rule = Kept list author stands fixed

  -- the value goes back with new events of the holder at the end of its list, and the next ticket is served
  pub passes : (slots id : ℕ) (v : View E F) (x : X) → v.holds ≡ true → lives v ≡ true → StandsFor stands x v.fixed → Adds author v.number v.seen (list x)
      → Allows Rule slots id (v, (0, Some x) ∷ []) 2 (λ n. v.ticket + 1)
      (λ n. Passed list (step slots 2 (v.ticket + 1) 0 none) (v, (0, Some x) ∷ []) (v.ticket + 1))
  passes slots id v x hold live fits_x adds s k slots_are at fits =
      let w : View E F = after_pass v (list x) in
      let u : View E F = after_pass v (k.log ++ adds.new) in
      let r = remembered list author stands fixed s k id v at in
      let whole : v.seen ≡ k.log = (r.whole hold).1 in
      let e : list x ≡ k.log ++ adds.new = adds.list_is ∙ ap (λ (xs : List E). xs ++ adds.new) whole in
      let f : v.fixed ≡ Some fixed = r.fixed_is live in
      let stand_at = at_map stand_of s.views id v at in
      let role_at = at_map role_of s.views id v at in
      let served : v.ticket ≡ k.serving = ((k.line.each id (stand_of v) stand_at).holder hold).1 in
      let others : (i : ℕ) (q : Memory E F) → i ≢ id → get_elem? (map memory_of s.views) i ≡ some q → (is_there q.fixed ≡ true → q.number ≢ v.number) × (q.holds ≢ true) =
      λ i q apart ai.
      let b = map_back memory_of s.views i q ai in
      let o : View E F = b.0 in (
        (λ l same. apart (k.roster.alone i id (role_of o) (role_of v) (at_map role_of s.views i o b.1) role_at
            (ap (λ (m : Memory E F). is_there m.fixed) b.2 ∙ l) live (ap (λ (m : Memory E F). m.number) b.2 ∙ same))),
        (λ h. one_holder k.next k.serving (is_away k.home) (map stand_of s.views) k.line id (stand_of v) stand_at hold
            i (stand_of o) apart (at_map stand_of s.views i o b.1) (ap (λ (m : Memory E F). m.holds) b.2 ∙ h)),
      ) in
      let line : Line k.next (k.serving + 1) false (map stand_of (set s.views id w)) =
      subst (Line k.next (k.serving + 1) false) (sym (map_set stand_of s.views id w))
      (line_passes k.next k.serving (is_away k.home) (map stand_of s.views) k.line id (stand_of v) stand_at hold) in
      let memories : AllRemember author fixed (k.log ++ adds.new) (map memory_of (set s.views id u)) =
      subst (AllRemember author fixed (k.log ++ adds.new)) (sym (map_set memory_of s.views id u))
      (remember_grow author fixed k.log (map memory_of s.views) k.memories id (memory_of v) adds.new (at_map memory_of s.views id v at) adds.by_number hold others) in
      let kept : Rule (stepped s 2 (v.ticket + 1) id ((0, Some x) ∷ []) w gives) = record {
        log = k.log ++ adds.new;
        seats = k.seats;
        next = k.next;
        serving = k.serving + 1;
        home = some (Some x);
        words = ap (λ (ws : List ℕ). slice_set ws 2 (v.ticket + 1)) k.words ∙ ap (λ (n : ℕ). k.seats ∷ k.next ∷ (n + 1) ∷ []) served;
        homes = ap (λ hs. slice_set hs 0 (some (Some x))) k.homes;
        line = line;
        memories = subst (λ (l : List E). AllRemember author fixed (k.log ++ adds.new) (map memory_of (set s.views id (after_pass v l)))) (sym e) memories;
        roster = unseen role_of (Roster author (k.log ++ adds.new) k.seats) s.views id v w at refl
            (roster_grows author k.log k.seats (map role_of s.views) k.roster id (role_of v) adds.new role_at live adds.by_number);
        lies = λ z is. (x, sym (some-injective (Some x) z is), e, subst (StandsFor stands x) f fits_x);
      } in
      (w, gives, tt, kept, refl)

  pub passes_at : (slots id : ℕ) (m : Me (Option X) (View E F)) (v : View E F) (x : X) (next : ℕ) → m ≡ (v, (0, Some x) ∷ []) → next ≡ v.ticket + 1
      → v.holds ≡ true → lives v ≡ true → StandsFor stands x v.fixed → Adds author v.number v.seen (list x)
      → Allows Rule slots id m 2 (λ n. next) (λ n. Passed list (step slots 2 next 0 none) m next)
  passes_at slots id m v x next m_is next_is hold live fits_x adds =
      subst (λ (w : Me (Option X) (View E F)). Allows Rule slots id w 2 (λ n. next) (λ n. Passed list (step slots 2 next 0 none) w next)) (sym m_is)
      (subst (λ (t : ℕ). Allows Rule slots id (v, (0, Some x) ∷ []) 2 (λ n. t) (λ n. Passed list (step slots 2 t 0 none) (v, (0, Some x) ∷ []) t)) (sym next_is)
      (passes slots id v x hold live fits_x adds))
