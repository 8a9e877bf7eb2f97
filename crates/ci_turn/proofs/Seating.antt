-- The steps that draw a number, split a seat off, and join one.
use Rattle.std.proofs.Common.{◌≡◌, ℕ, ◌+◌, ◌<◌, ◌≤◌, Bool, true, false, List, [], ◌∷◌, ◌++◌, map, Option, set, refl, sym, ap, ◌∙◌, subst, arith, zero-le}
use Rattle.std.proofs.Math.Nat.{mod-eq_of_lt}
use Rattle.std.specs.Prelude.{◌^◌, ◌%◌, slice_set, slice_index}
use mathlib.Core.Option.{some, none}
use lib.ListN.{get_elem?}
use Rattle.atomic_table.specs.Table.{State, step, keeps, Allows, Splits, Joins}
use Rattle.atomic_table.proofs.Lists.{at_map, set_else}
use Rattle.ci_turn.specs.declared.view.View.{View}
use Rattle.ci_turn.specs.Views.{lives, after_number, after_split, newcomer, after_note, spent, after_look}
use Rattle.ci_turn.specs.Plays.{DrewNumber, Compared}
use Rattle.ci_turn.specs.Rule.{Stand, Memory, Role, stand_of, memory_of, role_of, Line, Remembers, AllRemember, Roster, is_away, Kept}
use Rattle.ci_turn.proofs.Places.{map_set, map_same, map_snoc}
use Rattle.ci_turn.proofs.Fronts.{longer_of}
use Rattle.ci_turn.proofs.InLine.{line_idles, line_grows}
use Rattle.ci_turn.proofs.Rosters.{the_first, roster_draws, roster_splits, roster_joins}
use Rattle.ci_turn.proofs.Memories.{remember_set, remember_snoc}
use Rattle.ci_turn.proofs.Keeps.{still, unseen, remembered}

module _ {X E F : Type 0} (list : X → List E) (author : E → ℕ) (stands : X → F → Type 0) (fixed : F) where
  abbrev Rule : State (Option X) (View E F) → Type 0
  Rule = Kept list author stands fixed

  -- what was seen is compared with what was told
  pub compares : (slots id : ℕ) (v : View E F) (c : List (ℕ × Option X)) → v.holds ≡ false
      → Allows Rule slots id (v, c) 0 (λ n. n) (Compared (step slots 0 0 0 none) (v, c))
  compares slots id v c free s k slots_are at fits =
      let w : View E F = after_look v in
      let r = remembered list author stands fixed s k id v at in
      let l = longer_of v.seen v.told k.log r.seen r.told in
      let m : Remembers author fixed k.log (memory_of w) =
      record { seen = l.front; told = (k.log, refl); fixed_is = r.fixed_is; own = r.own; whole = λ h. absurd (cc (sym free ∙ h)) } in (
        w,
        keeps,
        tt,
        still list author stands fixed s k (slice_set s.words 0 (slice_index s.words 0)) (set s.views id w) k.seats k.next
            (ap (λ (ws : List ℕ). slice_set ws 0 (slice_index ws 0)) k.words)
            (unseen stand_of (Line k.next k.serving (is_away k.home)) s.views id v w at refl k.line)
            (subst (AllRemember author fixed k.log) (sym (map_set memory_of s.views id w)) (remember_set author fixed k.log (map memory_of s.views) k.memories id (memory_of w) m))
            (unseen role_of (Roster author k.log k.seats) s.views id v w at refl k.roster),
        (refl, l.this, l.that),
      )

  -- the first seat draws a number
  pub draws_number : (slots id : ℕ) (v : View E F) (c : List (ℕ × Option X)) → lives v ≡ true → v.number ≡ 0 → v.drawn < 4294967295
      → Allows Rule slots id (v, c) 0 (λ n. (n + 1) % 2 ^ 64) (DrewNumber (step slots 0 1 0 none) (v, c))
  draws_number slots id v c live at_zero room s k slots_are at fits =
      let w : View E F = after_number v in
      let there = at_map role_of s.views id v at in
      let f = (the_first author k.log k.seats (map role_of s.views) k.roster id (role_of v) there live at_zero).1 in
      let seats_are : k.seats ≡ v.drawn + 1 = k.roster.word ∙ ap (λ (r : Role E). r.drawn + 1) f in
      let small : k.seats + 1 < 18446744073709551616 = omega arith in
      let n : (k.seats + 1) % 2 ^ 64 ≡ k.seats + 1 = mod-eq_of_lt small in (
        w,
        keeps,
        tt,
        still list author stands fixed s k (slice_set s.words 0 ((slice_index s.words 0 + 1) % 2 ^ 64)) (set s.views id w) (k.seats + 1) k.next
            (ap (λ (ws : List ℕ). slice_set ws 0 ((slice_index ws 0 + 1) % 2 ^ 64)) k.words ∙ ap (λ (x : ℕ). x ∷ k.next ∷ k.serving ∷ []) n)
            (unseen stand_of (Line k.next k.serving (is_away k.home)) s.views id v w at refl k.line)
            (unseen memory_of (AllRemember author fixed k.log) s.views id v w at refl k.memories)
            (subst (Roster author k.log (k.seats + 1)) (sym (map_set role_of s.views id w))
            (roster_draws author k.log k.seats (map role_of s.views) k.roster id (role_of v) there live at_zero)),
        (refl, ap (λ (ws : List ℕ). slice_index ws 0) k.words ∙ seats_are),
      )

  -- a seat is split off with the number that was drawn
  pub splits : (id : ℕ) (v : View E F) → lives v ≡ true → v.number ≡ 0 → v.drawn ≡ v.made + 1 → Splits Rule id v (after_split v) (newcomer v)
  splits id v live at_zero drawn s k at =
      let w : View E F = after_split v in
      let u : View E F = newcomer v in
      let there = at_map role_of s.views id v at in
      let f = (the_first author k.log k.seats (map role_of s.views) k.roster id (role_of v) there live at_zero).1 in
      let made : k.roster.first.made ≡ v.made = ap (λ (r : Role E). r.made) f in
      let r = remembered list author stands fixed s k id v at in
      let known : v.ticket ≤ k.next = (k.line.each id (stand_of v) (at_map stand_of s.views id v at)).known in
      let m : Remembers author fixed k.log (memory_of u) = record {
        seen = r.seen;
        told = (k.log, refl);
        fixed_is = r.fixed_is;
        own = λ l. k.roster.later v.drawn (omega arith);
        whole = λ h. absurd (cc h);
      } in
      let newer : role_of u ≡ record { lives = true; number = v.drawn; drawn = 0; made = 0; joined = [] } = ap (λ (b : Bool). record { lives = b; number = v.drawn; drawn = 0; made = 0; joined = [] }) live in
      still list author stands fixed s k s.words (set s.views id w ++ u ∷ []) k.seats k.next k.words
      (subst (Line k.next k.serving (is_away k.home)) (sym (map_snoc stand_of (set s.views id w) u ∙ ap (λ (ys : List Stand). ys ++ stand_of u ∷ []) (map_same stand_of s.views id v w at refl)))
      (line_grows k.next k.serving (is_away k.home) (map stand_of s.views) k.line v.ticket known))
      (subst (AllRemember author fixed k.log) (sym (map_snoc memory_of (set s.views id w) u ∙ ap (λ (ys : List (Memory E F)). ys ++ memory_of u ∷ []) (map_same memory_of s.views id v w at refl)))
      (remember_snoc author fixed k.log (map memory_of s.views) k.memories (memory_of u) m))
      (subst (Roster author k.log k.seats) (sym (map_snoc role_of (set s.views id w) u ∙ (ap (λ (ys : List (Role E)). ys ++ role_of u ∷ []) (map_set role_of s.views id w)
      ∙ ap (λ (y : Role E). set (map role_of s.views) id (role_of w) ++ y ∷ []) newer)))
      (roster_splits author k.log k.seats (map role_of s.views) k.roster id (role_of v) there live at_zero drawn))

  -- a seat joins the first one, which takes a note of what it knew
  pub joins : (id : ℕ) (v : View E F) (other : ℕ) (w : View E F) → lives v ≡ true → v.number ≡ 0 → lives w ≡ true → w.holds ≡ false
      → Joins Rule id v other w (after_note v w) spent
  joins id v other w live at_zero lives_too free s k at apart there_then =
      let b : View E F = after_note v w in
      let e : View E F = spent in
      let there : get_elem? s.views other ≡ some w = sym (set_else s.views id other b apart) ∙ there_then in
      let r = remembered list author stands fixed s k id v at in
      let q = remembered list author stands fixed s k other w there in
      let mb : Remembers author fixed k.log (memory_of b) = record { seen = r.seen; told = q.seen; fixed_is = r.fixed_is; own = r.own; whole = r.whole } in
      let me : Remembers author fixed k.log (memory_of e) =
      record { seen = (k.log, refl); told = (k.log, refl); fixed_is = λ h. absurd (cc h); own = λ h. absurd (cc h); whole = λ h. absurd (cc h) } in
      let stands_are : map stand_of (set (set s.views id b) other e) ≡ set (map stand_of s.views) other (stand_of e) =
      map_set stand_of (set s.views id b) other e ∙ ap (λ (ys : List Stand). set ys other (stand_of e)) (map_same stand_of s.views id v b at refl) in
      let memories_are : map memory_of (set (set s.views id b) other e) ≡ set (set (map memory_of s.views) id (memory_of b)) other (memory_of e) =
      map_set memory_of (set s.views id b) other e ∙ ap (λ (ys : List (Memory E F)). set ys other (memory_of e)) (map_set memory_of s.views id b) in
      let roles_are : map role_of (set (set s.views id b) other e) ≡ set (set (map role_of s.views) id (role_of b)) other (role_of e) =
      map_set role_of (set s.views id b) other e ∙ ap (λ (ys : List (Role E)). set ys other (role_of e)) (map_set role_of s.views id b) in
      still list author stands fixed s k s.words (set (set s.views id b) other e) k.seats k.next k.words
      (subst (Line k.next k.serving (is_away k.home)) (sym stands_are)
      (line_idles k.next k.serving (is_away k.home) (map stand_of s.views) k.line other (stand_of w) 0 (at_map stand_of s.views other w there) free zero-le))
      (subst (AllRemember author fixed k.log) (sym memories_are)
      (remember_set author fixed k.log (set (map memory_of s.views) id (memory_of b)) (remember_set author fixed k.log (map memory_of s.views) k.memories id (memory_of b) mb) other (memory_of e) me))
      (subst (Roster author k.log k.seats) (sym roles_are)
      (roster_joins author k.log k.seats (map role_of s.views) k.roster id (role_of v) (at_map role_of s.views id v at) live at_zero
      other (role_of w) (role_of e) w.own apart (at_map role_of s.views other w there) lives_too refl (q.own lives_too)))
