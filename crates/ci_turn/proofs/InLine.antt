-- The line of tickets, when one seat's place in it changes.
use Rattle.std.proofs.Common.{◌≡◌, ◌≢◌, ℕ, ◌+◌, ◌<◌, ◌≤◌, Bool, true, false, List, [], ◌∷◌, ◌++◌, length, set, refl, sym, ap, ◌∙◌, subst, ⊎_elim, arith}
use Rattle.std.specs.Prelude.{◌^◌}
use mathlib.Core.Option.{some}
use lib.ListN.{get_elem?}
use Rattle.atomic_table.proofs.Lists.{at_set, set_else, set_here, at_longer}
use Rattle.ci_turn.specs.Rule.{Stand, StandsInLine, Line}
use Rattle.ci_turn.proofs.Places.{here, at_below, at_end, each_set, each_snoc}

-- a seat that has no ticket
abbrev pub idle_at : ℕ → Stand
idle_at k = record { ticket = k; queued = false; holds = false }

-- a seat that waits, and one that holds the value
abbrev pub waits_at : ℕ → Stand
waits_at k = record { ticket = k; queued = true; holds = false }

abbrev pub holds_at : ℕ → Stand
holds_at k = record { ticket = k; queued = true; holds = true }

abbrev Apart : List Stand → Type 0
Apart stands = (i j : ℕ) (p q : Stand) → get_elem? stands i ≡ some p → get_elem? stands j ≡ some q → p.queued ≡ true → q.queued ≡ true → p.ticket ≡ q.ticket → i ≡ j

abbrev HasHolder : List Stand → Type 0
HasHolder stands = (i : ℕ) × (p : Stand) × (get_elem? stands i ≡ some p) × (p.holds ≡ true)

apart_set : (stands : List Stand) (id : ℕ) (a : Stand) → Apart stands
    → ((j : ℕ) (q : Stand) → j ≢ id → get_elem? stands j ≡ some q → a.queued ≡ true → q.queued ≡ true → a.ticket ≢ q.ticket) → Apart (set stands id a)
apart_set stands id a apart other i j p q ai aj pq qq same =
    ⊎_elim
    (λ (s : (i ≡ id) × (a ≡ p)).
    ⊎_elim
    (λ (t : (j ≡ id) × (a ≡ q)). s.0 ∙ sym t.0)
    (λ (t : (j ≢ id) × (get_elem? stands j ≡ some q)). absurd (other j q t.0 t.1 (ap (λ (z : Stand). z.queued) s.1 ∙ pq) qq (ap (λ (z : Stand). z.ticket) s.1 ∙ same)))
    (at_set stands id j a q aj))
    (λ (s : (i ≢ id) × (get_elem? stands i ≡ some p)).
    ⊎_elim
    (λ (t : (j ≡ id) × (a ≡ q)). absurd (other i p s.0 s.1 (ap (λ (z : Stand). z.queued) t.1 ∙ qq) pq (ap (λ (z : Stand). z.ticket) t.1 ∙ sym same)))
    (λ (t : (j ≢ id) × (get_elem? stands j ≡ some q)). apart i j p q s.1 t.1 pq qq same)
    (at_set stands id j a q aj))
    (at_set stands id i a p ai)

apart_snoc : (stands : List Stand) (a : Stand) → Apart stands → a.queued ≡ false → Apart (stands ++ a ∷ [])
apart_snoc stands a apart free i j p q ai aj pq qq same =
    ⊎_elim
    (λ (s : get_elem? stands i ≡ some p).
    ⊎_elim
    (λ (t : get_elem? stands j ≡ some q). apart i j p q s t pq qq same)
    (λ (t : (j ≡ length stands) × (a ≡ q)). absurd (cc (sym free ∙ (ap (λ (z : Stand). z.queued) t.1 ∙ qq))))
    (at_end stands a q j aj))
    (λ (s : (i ≡ length stands) × (a ≡ p)). absurd (cc (sym free ∙ (ap (λ (z : Stand). z.queued) s.1 ∙ pq))))
    (at_end stands a p i ai)

-- a change of a seat that doesn't hold leaves the holder
holder_else : (stands : List Stand) (id : ℕ) (p a : Stand) → get_elem? stands id ≡ some p → p.holds ≡ false → HasHolder stands → HasHolder (set stands id a)
holder_else stands id p a at free o =
    let n : o.0 ≢ id = λ e.
    let q : o.1 ≡ p = here stands id o.1 p (subst (λ (j : ℕ). get_elem? stands j ≡ some o.1) e o.2) at in
    absurd (cc (sym free ∙ (sym (ap (λ (z : Stand). z.holds) q) ∙ o.3))) in
    (o.0, o.1, set_else stands id o.0 a n ∙ o.2, o.3)

module _ (next serving : ℕ) (away : Bool) (stands : List Stand) (line : Line next serving away stands) where
  idle_fits : (k : ℕ) → k ≤ next → StandsInLine next serving away (idle_at k)
  idle_fits k le = record { known = le; waits = λ h. absurd (cc h); holder = λ h. absurd (cc h) }

  -- a seat that doesn't hold leaves the line, or learns of a ticket
  pub line_idles : (id : ℕ) (p : Stand) (k : ℕ) → get_elem? stands id ≡ some p → p.holds ≡ false → k ≤ next → Line next serving away (set stands id (idle_at k))
  line_idles id p k at free le = record {
    served = line.served;
    top = line.top;
    each = each_set (StandsInLine next serving away) stands id (idle_at k) (λ i q n e. line.each i q e) (idle_fits k le);
    apart = apart_set stands id (idle_at k) line.apart (λ j q n e aq qq. absurd (cc aq));
    out = λ h. holder_else stands id p (idle_at k) at free (line.out h);
  }

  -- a seat comes
  pub line_grows : (k : ℕ) → k ≤ next → Line next serving away (stands ++ idle_at k ∷ [])
  line_grows k le = record {
    served = line.served;
    top = line.top;
    each = each_snoc (StandsInLine next serving away) stands (idle_at k) line.each (idle_fits k le);
    apart = apart_snoc stands (idle_at k) line.apart refl;
    out = λ h. let o = line.out h in (o.0, o.1, at_longer stands (idle_at k ∷ []) o.0 o.1 o.2, o.3);
  }

  wider : (p : Stand) → StandsInLine next serving away p → StandsInLine (next + 1) serving away p
  wider p f = record {
    known = let k = f.known in omega arith;
    waits = λ h. let w = f.waits h in (w.0, (let l = w.1 in omega arith));
    holder = f.holder;
  }

  -- a seat that isn't in the line draws the next ticket
  pub line_draws : (id : ℕ) (p : Stand) → get_elem? stands id ≡ some p → p.holds ≡ false → next < 2 ^ 62 → Line (next + 1) serving away (set stands id (waits_at next))
  line_draws id p at free room =
      let served : serving ≤ next = line.served in
      record {
        served = omega arith;
        top = omega arith;
        each = each_set (StandsInLine (next + 1) serving away) stands id (waits_at next) (λ i q n e. wider q (line.each i q e))
            (record { known = omega arith; waits = λ h. (served, omega arith); holder = λ h. absurd (cc h) });
        apart = apart_set stands id (waits_at next) line.apart
            (λ j q n e aq qq same. let w = (line.each j q e).waits qq in let l : q.ticket < next = w.1 in let s : next ≡ q.ticket = same in absurd (omega arith));
        out = λ h. holder_else stands id p (waits_at next) at free (line.out h);
      }

  -- while the seat that is served doesn't hold the value, nobody does
  pub not_away : (id : ℕ) (p : Stand) → get_elem? stands id ≡ some p → p.queued ≡ true → p.holds ≡ false → p.ticket ≡ serving → away ≢ true
  not_away id p at pq free here_is h =
      let o = line.out h in
      let f = (line.each o.0 o.1 o.2).holder o.3 in
      let e : o.0 ≡ id = line.apart o.0 id o.1 p o.2 at f.0 pq (f.1 ∙ sym here_is) in
      let q : o.1 ≡ p = here stands id o.1 p (subst (λ (j : ℕ). get_elem? stands j ≡ some o.1) e o.2) at in
      absurd (cc (sym free ∙ (sym (ap (λ (z : Stand). z.holds) q) ∙ o.3)))

  -- the seat that is served takes the value
  pub line_takes : (id : ℕ) (p : Stand) → get_elem? stands id ≡ some p → p.queued ≡ true → p.holds ≡ false → p.ticket ≡ serving
      → Line next serving true (set stands id (holds_at p.ticket))
  line_takes id p at pq free here_is =
      let fits = line.each id p at in
      let home = not_away id p at pq free here_is in
      record {
        served = line.served;
        top = line.top;
        each = each_set (StandsInLine next serving true) stands id (holds_at p.ticket)
            (λ i q n e. let f = line.each i q e in record { known = f.known; waits = f.waits; holder = λ h. absurd (home (f.holder h).2) })
            (record { known = fits.known; waits = λ h. fits.waits pq; holder = λ h. (refl, here_is, refl) });
        apart = apart_set stands id (holds_at p.ticket) line.apart (λ j q n e aq qq same. n (sym (line.apart id j p q at e pq qq same)));
        out = λ h. (id, holds_at p.ticket, set_here stands id (holds_at p.ticket) (at_below stands id p at), refl);
      }

  -- no other seat has the ticket that the holder has
  passed_by : (id : ℕ) (p : Stand) → get_elem? stands id ≡ some p → p.holds ≡ true → (i : ℕ) (q : Stand) → i ≢ id → get_elem? stands i ≡ some q → q.queued ≡ true → q.ticket ≢ serving
  passed_by id p at hold i q n e qq same = let f = (line.each id p at).holder hold in n (line.apart i id q p e at qq f.0 (same ∙ sym f.1))

  -- nobody but the holder holds
  pub one_holder : (id : ℕ) (p : Stand) → get_elem? stands id ≡ some p → p.holds ≡ true → (i : ℕ) (q : Stand) → i ≢ id → get_elem? stands i ≡ some q → q.holds ≢ true
  one_holder id p at hold i q n e h = let f = (line.each i q e).holder h in passed_by id p at hold i q n e f.0 f.1

  -- the holder passes the turn
  pub line_passes : (id : ℕ) (p : Stand) → get_elem? stands id ≡ some p → p.holds ≡ true → Line next (serving + 1) false (set stands id (idle_at (p.ticket + 1)))
  line_passes id p at hold =
      let fits = line.each id p at in
      let h = fits.holder hold in
      let t : p.ticket ≡ serving = h.1 in
      let w : p.ticket < next = (fits.waits h.0).1 in
      record {
        served = omega arith;
        top = line.top;
        each = each_set (StandsInLine next (serving + 1) false) stands id (idle_at (p.ticket + 1))
            (λ i q n e.
            let f = line.each i q e in
            record {
              known = f.known;
              waits = λ qq.
                  let w = f.waits qq in
                  let a : serving ≤ q.ticket = w.0 in
                  let b : q.ticket ≢ serving = passed_by id p at hold i q n e qq in
                  (omega arith, w.1);
              holder = λ qh. absurd (one_holder id p at hold i q n e qh);
            })
            (record { known = omega arith; waits = λ h. absurd (cc h); holder = λ h. absurd (cc h) });
        apart = apart_set stands id (idle_at (p.ticket + 1)) line.apart (λ j q n e aq qq. absurd (cc aq));
        out = λ h. absurd (cc h);
      }
