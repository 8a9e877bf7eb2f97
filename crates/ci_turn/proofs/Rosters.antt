-- The numbers of the seats, when one is drawn or given, when a seat joins, and when the list grows.
use Rattle.std.proofs.Common.{◌≡◌, ◌≢◌, ℕ, zero, suc, ◌+◌, ◌<◌, ◌≤◌, true, false, List, [], ◌∷◌, ◌++◌, length, length-append, All, set, refl, sym, ap, ◌∙◌, subst, ⊎_elim, arith}
use mathlib.Core.Option.{some, some-injective, some-ne-none}
use lib.ListN.{get_elem?}
use Rattle.atomic_table.proofs.Lists.{at_set, set_here, set_else, at_longer}
use Rattle.ci_turn.specs.Views.{events_of, one_if}
use Rattle.ci_turn.specs.Rule.{Role, living, IsGone, Roster}
use Rattle.ci_turn.proofs.Places.{here, at_below, at_end}
use Rattle.ci_turn.proofs.Fronts.{events_stay}

module _ {E : Type 0} where
  -- how many live, after one seat's change
  living_set : (l : List (Role E)) (id : ℕ) (r a : Role E) → get_elem? l id ≡ some r → living (set l id a) + one_if r.lives ≡ living l + one_if a.lives
  living_set [] id r a at = absurd (some-ne-none r (sym at))
  living_set (x ∷ xs) zero r a at = let e : one_if x.lives ≡ one_if r.lives = ap (λ (z : Role E). one_if z.lives) (some-injective x r at) in omega arith
  living_set (x ∷ xs) (suc id) r a at = let e = living_set xs id r a at in omega arith

  living_snoc : (l : List (Role E)) (a : Role E) → living (l ++ a ∷ []) ≡ living l + one_if a.lives
  living_snoc [] a = omega arith
  living_snoc (x ∷ xs) a = let e = living_snoc xs a in omega arith

  -- where one lives
  living_one : (l : List (Role E)) (i : ℕ) (r : Role E) → get_elem? l i ≡ some r → r.lives ≡ true → 1 ≤ living l
  living_one [] i r at h = absurd (some-ne-none r (sym at))
  living_one (x ∷ xs) zero r at h = let e : one_if x.lives ≡ 1 = ap (λ (z : Role E). one_if z.lives) (some-injective x r at) ∙ ap one_if h in omega arith
  living_one (x ∷ xs) (suc i) r at h = let e = living_one xs i r at h in omega arith

  -- where the first and another live
  pub living_two : (l : List (Role E)) (i : ℕ) (r q : Role E) → get_elem? l 0 ≡ some r → get_elem? l i ≡ some q → i ≢ 0 → r.lives ≡ true → q.lives ≡ true → 2 ≤ living l
  living_two [] i r q at ai n h g = absurd (some-ne-none r (sym at))
  living_two (x ∷ xs) zero r q at ai n h g = absurd (n refl)
  living_two (x ∷ xs) (suc i) r q at ai n h g =
      let e : one_if x.lives ≡ 1 = ap (λ (z : Role E). one_if z.lives) (some-injective x r at) ∙ ap one_if h in
      let o = living_one xs i q ai g in omega arith

  -- a seat of the changed list has the number that some seat had there before
  back_set : (l : List (Role E)) (id : ℕ) (r a : Role E) → get_elem? l id ≡ some r → a.lives ≡ r.lives → a.number ≡ r.number
      → (i : ℕ) (q : Role E) → get_elem? (set l id a) i ≡ some q → (p : Role E) × (get_elem? l i ≡ some p) × (p.lives ≡ q.lives) × (p.number ≡ q.number)
  back_set l id r a at al an i q e =
      ⊎_elim
      (λ (t : (i ≡ id) × (a ≡ q)). (r, subst (λ (j : ℕ). get_elem? l j ≡ some r) (sym t.0) at, sym al ∙ ap (λ (z : Role E). z.lives) t.1, sym an ∙ ap (λ (z : Role E). z.number) t.1))
      (λ (t : (i ≢ id) × (get_elem? l i ≡ some q)). (q, t.1, refl, refl))
      (at_set l id i a q e)

  module _ (author : E → ℕ) (log : List E) (seats : ℕ) (roles : List (Role E)) (roster : Roster author log seats roles) where
    -- the seat that has the number 0 is the first
    pub the_first : (id : ℕ) (r : Role E) → get_elem? roles id ≡ some r → r.lives ≡ true → r.number ≡ 0 → (id ≡ 0) × (roster.first ≡ r)
    the_first id r at l z =
        let e : id ≡ 0 = roster.alone id 0 r roster.first at roster.at l roster.first_lives (z ∙ sym roster.first_number) in
        (e, here roles 0 roster.first r roster.at (subst (λ (j : ℕ). get_elem? roles j ≡ some r) e at))

    -- a change of the first seat which leaves its number leaves the others' numbers
    alone_set : (id : ℕ) (r a : Role E) → get_elem? roles id ≡ some r → a.lives ≡ r.lives → a.number ≡ r.number
        → (i j : ℕ) (p q : Role E) → get_elem? (set roles id a) i ≡ some p → get_elem? (set roles id a) j ≡ some q → p.lives ≡ true → q.lives ≡ true → p.number ≡ q.number → i ≡ j
    alone_set id r a at al an i j p q ai aj lp lq same =
        let b = back_set roles id r a at al an i p ai in
        let c = back_set roles id r a at al an j q aj in
        roster.alone i j b.0 c.0 b.1 c.1 (b.2 ∙ lp) (c.2 ∙ lq) (b.3 ∙ (same ∙ sym c.3))

    below_set : (id : ℕ) (r a : Role E) → get_elem? roles id ≡ some r → a.lives ≡ r.lives → a.number ≡ r.number
        → (i : ℕ) (q : Role E) → get_elem? (set roles id a) i ≡ some q → q.lives ≡ true → q.number ≤ roster.first.made
    below_set id r a at al an i q e l =
        let b = back_set roles id r a at al an i q e in
        subst (λ (n : ℕ). n ≤ roster.first.made) b.3 (roster.below i b.0 b.1 (b.2 ∙ l))

    gone_set : (id : ℕ) (r a : Role E) → get_elem? roles id ≡ some r → a.lives ≡ r.lives → a.number ≡ r.number
        → (j : ℕ × List E) → IsGone author log roster.first.made roles j → IsGone author log roster.first.made (set roles id a) j
    gone_set id r a at al an j g = record {
      below = g.below;
      events = g.events;
      alone = λ i q e l same. let b = back_set roles id r a at al an i q e in g.alone i b.0 b.1 (b.2 ∙ l) (b.3 ∙ same);
    }

    count_set : (id : ℕ) (r a : Role E) → get_elem? roles id ≡ some r → a.lives ≡ r.lives → living (set roles id a) ≡ living roles
    count_set id r a at al = let e = living_set roles id r a at in let l : one_if a.lives ≡ one_if r.lives = ap one_if al in omega arith

    -- what the first seat is after its number and life stay
    first_set : (id : ℕ) (r a : Role E) → get_elem? roles id ≡ some r → r.lives ≡ true → r.number ≡ 0 → get_elem? (set roles id a) 0 ≡ some a
    first_set id r a at l z =
        let e = (the_first id r at l z).0 in
        subst (λ (j : ℕ). get_elem? (set roles id a) j ≡ some a) e (set_here roles id a (at_below roles id r at))

    -- the first seat draws a number
    pub roster_draws : (id : ℕ) (r : Role E) → get_elem? roles id ≡ some r → r.lives ≡ true → r.number ≡ 0
        → Roster author log (seats + 1) (set roles id (record r { drawn = r.drawn + 1 }))
    roster_draws id r at l z =
        let a : Role E = record r { drawn = r.drawn + 1 } in
        let f : roster.first ≡ r = (the_first id r at l z).1 in
        let m : roster.first.made ≡ r.made = ap (λ (q : Role E). q.made) f in
        let d : roster.first.drawn ≡ r.drawn = ap (λ (q : Role E). q.drawn) f in
        let j : roster.first.joined ≡ r.joined = ap (λ (q : Role E). q.joined) f in
        let w : seats ≡ roster.first.drawn + 1 = roster.word in
        let g : roster.first.made ≤ roster.first.drawn = roster.given in
        record {
          first = a;
          at = first_set id r a at l z;
          first_lives = l;
          first_number = z;
          word = omega arith;
          given = omega arith;
          below = λ i q e lq. subst (λ (n : ℕ). q.number ≤ n) m (below_set id r a at refl refl i q e lq);
          alone = alone_set id r a at refl refl;
          later = λ n h. roster.later n (subst (λ (b : ℕ). b < n) (sym m) h);
          gone = λ k i e. subst (λ (b : ℕ). IsGone author log b (set roles id a) i) m
              (gone_set id r a at refl refl i (roster.gone k i (subst (λ (js : List (ℕ × List E)). get_elem? js k ≡ some i) (sym j) e)));
          count = let c = roster.count in let s = count_set id r a at refl in let n : length roster.first.joined ≡ length r.joined = ap length j in omega arith;
        }

    -- the number that was drawn is given to a new seat
    pub roster_splits : (id : ℕ) (r : Role E) → get_elem? roles id ≡ some r → r.lives ≡ true → r.number ≡ 0 → r.drawn ≡ r.made + 1
        → Roster author log seats (set roles id (record r { made = r.drawn }) ++ record { lives = true; number = r.drawn; drawn = 0; made = 0; joined = [] } ∷ [])
    roster_splits id r at l z drawn =
        let a : Role E = record r { made = r.drawn } in
        let b : Role E = record { lives = true; number = r.drawn; drawn = 0; made = 0; joined = [] } in
        let f : roster.first ≡ r = (the_first id r at l z).1 in
        let m : roster.first.made ≡ r.made = ap (λ (q : Role E). q.made) f in
        let d : roster.first.drawn ≡ r.drawn = ap (λ (q : Role E). q.drawn) f in
        let j : roster.first.joined ≡ r.joined = ap (λ (q : Role E). q.joined) f in
        let low : (i : ℕ) (q : Role E) → get_elem? (set roles id a) i ≡ some q → q.lives ≡ true → q.number < r.drawn =
        λ i q e lq. let h = below_set id r a at refl refl i q e lq in omega arith in
        record {
          first = a;
          at = at_longer (set roles id a) (b ∷ []) 0 a (first_set id r a at l z);
          first_lives = l;
          first_number = z;
          word = roster.word ∙ ap (λ (n : ℕ). n + 1) d;
          given = omega arith;
          below = λ i q e lq. ⊎_elim (λ (t : get_elem? (set roles id a) i ≡ some q). let h = low i q t lq in omega arith)
              (λ (t : (i ≡ length (set roles id a)) × (b ≡ q)). let h : r.drawn ≡ q.number = ap (λ (y : Role E). y.number) t.1 in omega arith) (at_end (set roles id a) b q i e);
          alone = λ i k p q ai ak lp lq same.
              ⊎_elim
              (λ (s : get_elem? (set roles id a) i ≡ some p).
              ⊎_elim (λ (t : get_elem? (set roles id a) k ≡ some q). alone_set id r a at refl refl i k p q s t lp lq same)
              (λ (t : (k ≡ length (set roles id a)) × (b ≡ q)). let h = low i p s lp in let g : r.drawn ≡ q.number = ap (λ (y : Role E). y.number) t.1 in absurd (omega arith))
              (at_end (set roles id a) b q k ak))
              (λ (s : (i ≡ length (set roles id a)) × (b ≡ p)).
              ⊎_elim (λ (t : get_elem? (set roles id a) k ≡ some q). let h = low k q t lq in let g : r.drawn ≡ p.number = ap (λ (y : Role E). y.number) s.1 in absurd (omega arith))
              (λ (t : (k ≡ length (set roles id a)) × (b ≡ q)). s.0 ∙ sym t.0)
              (at_end (set roles id a) b q k ak))
              (at_end (set roles id a) b p i ai);
          later = λ n h. roster.later n (omega arith);
          gone = λ k i e.
              let g = gone_set id r a at refl refl i (roster.gone k i (subst (λ (js : List (ℕ × List E)). get_elem? js k ≡ some i) (sym j) e)) in
              let lowest : i.0 ≤ roster.first.made = g.below in
              record {
                below = omega arith;
                events = g.events;
                alone = λ x q ax lq same.
                    ⊎_elim (λ (t : get_elem? (set roles id a) x ≡ some q). g.alone x q t lq same)
                    (λ (t : (x ≡ length (set roles id a)) × (b ≡ q)). let h : r.drawn ≡ q.number = ap (λ (y : Role E). y.number) t.1 in absurd (omega arith))
                    (at_end (set roles id a) b q x ax);
              };
          count =
              let c = roster.count in
              let s = count_set id r a at refl in
              let t = living_snoc (set roles id a) b in
              let n : length roster.first.joined ≡ length r.joined = ap length j in omega arith;
        }

    -- a seat joins the first one: its number and its events are kept
    pub roster_joins : (id : ℕ) (r : Role E) → get_elem? roles id ≡ some r → r.lives ≡ true → r.number ≡ 0
        → (other : ℕ) (w u : Role E) (own : List E) → other ≢ id → get_elem? roles other ≡ some w → w.lives ≡ true → u.lives ≡ false → events_of author w.number log ≡ own
        → Roster author log seats (set (set roles id (record r { joined = r.joined ++ (w.number, own) ∷ [] })) other u)
    roster_joins id r at l z other w u own apart ao lw lu events =
        let a : Role E = record r { joined = r.joined ++ (w.number, own) ∷ [] } in
        let mid : List (Role E) = set roles id a in
        let last : ℕ × List E = (w.number, own) in
        let tf = the_first id r at l z in
        let f : roster.first ≡ r = tf.1 in
        let m : roster.first.made ≡ r.made = ap (λ (q : Role E). q.made) f in
        let d : roster.first.drawn ≡ r.drawn = ap (λ (q : Role E). q.drawn) f in
        let j : roster.first.joined ≡ r.joined = ap (λ (q : Role E). q.joined) f in
        let there : get_elem? mid other ≡ some w = set_else roles id other a apart ∙ ao in
        let not0 : 0 ≢ other = λ e. apart (sym e ∙ sym tf.0) in
        let gave : roster.first.made ≤ roster.first.drawn = roster.given in
        let old : (i : ℕ) (q : Role E) → get_elem? (set mid other u) i ≡ some q → q.lives ≡ true → (i ≢ other) × (get_elem? mid i ≡ some q) =
        λ i q e lq. ⊎_elim (λ (t : (i ≡ other) × (u ≡ q)). absurd (cc (sym lu ∙ (ap (λ (y : Role E). y.lives) t.1 ∙ lq)))) (λ (t : (i ≢ other) × (get_elem? mid i ≡ some q)). t) (at_set mid other i u q e) in
        record {
          first = a;
          at = set_else mid other 0 u not0 ∙ first_set id r a at l z;
          first_lives = l;
          first_number = z;
          word = roster.word ∙ ap (λ (n : ℕ). n + 1) d;
          given = omega arith;
          below = λ i q e lq. subst (λ (n : ℕ). q.number ≤ n) m (below_set id r a at refl refl i q (old i q e lq).1 lq);
          alone = λ i k p q ai ak lp lq same. alone_set id r a at refl refl i k p q (old i p ai lp).1 (old k q ak lq).1 lp lq same;
          later = λ n h. roster.later n (subst (λ (b : ℕ). b < n) (sym m) h);
          gone = λ k i e.
              ⊎_elim
              (λ (t : get_elem? r.joined k ≡ some i).
              let g = gone_set id r a at refl refl i (roster.gone k i (subst (λ (js : List (ℕ × List E)). get_elem? js k ≡ some i) (sym j) t)) in
              record {
                below = subst (λ (b : ℕ). i.0 ≤ b) m g.below;
                events = g.events;
                alone = λ x q ax lq same. g.alone x q (old x q ax lq).1 lq same;
              })
              (λ (t : (k ≡ length r.joined) × (last ≡ i)).
              let n : w.number ≡ i.0 = ap (λ (y : ℕ × List E). y.0) t.1 in
              record {
                below = subst (λ (b : ℕ). b ≤ r.made) n (subst (λ (b : ℕ). w.number ≤ b) m (roster.below other w ao lw));
                events = subst (λ (y : ℕ × List E). events_of author y.0 log ≡ y.1) t.1 events;
                alone = λ x q ax lq same. let o = old x q ax lq in o.0 (alone_set id r a at refl refl x other q w o.1 there lq lw (same ∙ sym n));
              })
              (at_end r.joined last i k e);
          count =
              let c = roster.count in
              let s = count_set id r a at refl in
              let t = living_set mid other w u there in
              let x : one_if w.lives ≡ 1 = ap one_if lw in
              let y : one_if u.lives ≡ 0 = ap one_if lu in
              let n : length roster.first.joined ≡ length r.joined = ap length j in
              let p : length (r.joined ++ last ∷ []) ≡ length r.joined + 1 = length-append r.joined (last ∷ []) in omega arith;
        }

    -- the list grows by events of one living seat
    pub roster_grows : (id : ℕ) (r : Role E) (new : List E) → get_elem? roles id ≡ some r → r.lives ≡ true → All (λ e. author e ≡ r.number) new
        → Roster author (log ++ new) seats roles
    roster_grows id r new at l by_r = record {
      first = roster.first;
      at = roster.at;
      first_lives = roster.first_lives;
      first_number = roster.first_number;
      word = roster.word;
      given = roster.given;
      below = roster.below;
      alone = roster.alone;
      later = λ n h. let b = roster.below id r at l in let other : n ≢ r.number = (λ e. absurd (omega arith)) in events_stay author r.number n log new by_r other ∙ roster.later n h;
      gone = λ k j e.
          let g = roster.gone k j e in
          record {
            below = g.below;
            events = events_stay author r.number j.0 log new by_r (λ e. g.alone id r at l (sym e)) ∙ g.events;
            alone = g.alone;
          };
      count = roster.count;
    }
