-- The pending deletions are erased, one behind the other.
use Rattle.std.proofs.Common.{arith, ◌≡◌, ◌<◌, ◌+◌, ◌∙◌, ℕ, Bool, true, false, List, [], ◌∷◌, ◌++◌, Contains, IsSortedByKey, length, drop, get_or, refl, ap, sym, subst, append-nil, append_assoc, inr, ⊎_elim}
use Rattle.std.specs.List.{AllByRecursion}
use Rattle.std.specs.Cmp.Lexicographic.{slice_cmp}
use Rattle.std.specs.Ordering.{nat_cmp}
use Rattle.std.proofs.lemmas.List.{at_drop_more}
use Rattle.std.proofs.lemmas.List.Sorted.{Contains-permutation, IsPermutation-sym}
use Rattle.ci_base.specs.declared.numbers.Seq.{Seq}
use Rattle.ci_change.specs.declared.notice.Notice.{Notice}
use Rattle.ci_change.specs.declared.notice.What.{What}
use Rattle.ci_change.specs.declared.notice.What.TheVariants.{Changed, Deleted}
use Rattle.ci_change.specs.Pending.{ListsByPath}
use Rattle.ci_keys.proofs.OneForm.{Contains-cons_cases, Contains-first, Contains-later, none_in_empty}
use Rattle.ci_journal.specs.declared.event.Event.{Event}
use Rattle.ci_journal.specs.declared.event.Happened.TheVariants.{Erased}
use Rattle.ci_journal.specs.Filings.{Filings, fates, out}
use Rattle.ci_journal.specs.Folds.{next_notice}
use Rattle.ci_journal.specs.Pending.{deletions, is_set_aside, pending}
use Rattle.ci_journal.specs.Step.{MayErase}
use Rattle.ci_journal.specs.Tells.{event}
use Rattle.ci_journal.specs.Tells.Fate.{Gone}
use Rattle.ci_journal.specs.Terms.{Terms}
use Rattle.ci_journal.proofs.FoldsLemmas.{filings-push}
use Rattle.ci_book.specs.declared.core_fault.CoreFault.{CoreFault}
use Rattle.ci_core.specs.Erasing.{Erases, RefusesErasing}
use Rattle.ci_core.specs.Fixed.{KeepsFixed}
use Rattle.ci_holdings.specs.Core.{Core}
use Rattle.ci_holdings.specs.Steps.{IsUnrefused, Makes}
use Rattle.ci_worker.specs.Filtering.{GoesBeside, GoesIdle, GoesOn, IsBeside, StopsFiltering}
use Rattle.ci_worker.specs.Stops.{IsAt, IsSound}
use Rattle.ci_worker.specs.Way.{IsFirstDeletion, IsIdle, is_over}
use Rattle.ci_worker.proofs.FilteringLemmas.{GoesOn-none, GoesOn-one, GoesOn-rests, GoesOn-then, filtering-halts, filtering-later}
use Rattle.ci_worker.proofs.StepLemmas.{IsAt-rests, one_event, step-filed}
use Rattle.ci_worker.proofs.StopLemmas.{never_over, refused-same}
use Rattle.ci_worker.proofs.WayLemmas.{deletion-before, is_over-push, no_member}
use Rattle.ci_worker.proofs.DueLemmas.{IsDue, unserved_of_pending, latest_of_live, unserved_of_live, due-pending, pending_of_deletion, may_of_deletion, deletion_of_live, sorted-rest, head-least, served_behind, due_behind, beside_erasure}

-- steps were made, and of the deletions those are left that are among these notices
pub record Erasing (by : ℕ) (old now : Core) (rest : List Notice) : Type 0 where
  pub goes : GoesOn by old now
  pub idle : IsIdle now.sheet.events
  pub beside : GoesBeside old.sheet.events now.sheet.events
  pub left : (n : Notice) → Contains (deletions now.terms now.sheet.events) n → Contains rest n
  pub due : (n : Notice) → Contains rest n → IsDue now.terms now.sheet.events n
  pub order : IsSortedByKey (λ (n : Notice). n.path) (slice_cmp nat_cmp) rest

-- ---- one notice after the other

module _ (by : ℕ) (old : Core) where
  -- all that is pending
  pub Erasing-first : (list : List Notice) → IsSound old → IsIdle old.sheet.events → ListsByPath (pending old.terms old.sheet.events) list → Erasing by old old list
  Erasing-first list sound idle lists = record {
    goes = GoesOn-none by old sound;
    idle = idle;
    beside = record { events = []; whole = sym (append-nil old.sheet.events); each = tt };
    left = λ n here. Contains-permutation (pending old.terms old.sheet.events) list n lists.same (pending_of_deletion old.terms old.sheet.events n here).0;
    due = λ n here. due-pending old.terms old.sheet.events n (Contains-permutation list (pending old.terms old.sheet.events) n (IsPermutation-sym (pending old.terms old.sheet.events) list lists.same) here);
    order = lists.order;
  }

  -- the notice at a place is the first of those that are left
  pub Erasing-at : (now : Core) (list : List Notice) (index : ℕ) (n : Notice) → index < length list → n ≡ get_or list index n → Erasing by old now (drop index list) → Erasing by old now (n ∷ drop (index + 1) list)
  Erasing-at now list index n low is erasing =
      subst (Erasing by old now) (at_drop_more (λ (xs : List Notice). xs) list index n low ∙ ap (λ (x : Notice). x ∷ drop (index + 1) list) (sym is)) erasing

  -- and then none
  pub Erasing-all : (now : Core) → Erasing by old now [] → GoesIdle by old now
  Erasing-all now erasing = record { goes = erasing.goes; idle = erasing.idle; erased = no_member (deletions now.terms now.sheet.events) (λ n here. none_in_empty n (erasing.left n here)) }

  module _ (now : Core) (n : Notice) (rest : List Notice) (erasing : Erasing by old now (n ∷ rest)) where
    -- a notice that is no pending deletion is passed over
    passed : (Contains (deletions now.terms now.sheet.events) n → ⊥) → Erasing by old now rest
    passed none = record {
      goes = erasing.goes;
      idle = erasing.idle;
      beside = erasing.beside;
      left = λ m here. ⊎_elim (λ (first : n ≡ m). absurd (none (subst (Contains (deletions now.terms now.sheet.events)) (sym first) here))) (λ later. later) (Contains-cons_cases n rest m (erasing.left m here));
      due = λ m here. erasing.due m (Contains-later n rest m here);
      order = sorted-rest n rest erasing.order;
    }

    pub Erasing-changed : n.what ≡ Changed → Erasing by old now rest
    Erasing-changed kind = passed (λ here. let deleted : Changed ≡ Deleted = sym kind ∙ (pending_of_deletion now.terms now.sheet.events n here).1 in cc)

    -- ---- a deletion

    module _ (kind : n.what ≡ Deleted) where
      -- under the number of its path's latest notice
      own_number : (seq : Seq) → MayErase now.terms now.sheet.events n.path seq → n.seq ≡ seq
      own_number seq may =
          let m : Notice = record { path = n.path; seq = seq; what = Deleted } in
          let number : n.seq.0 ≡ seq.0 = (erasing.due n (Contains-first n rest)).latest ∙ sym (latest_of_live now.terms now.sheet.events m may) in
          ap (λ (k : ℕ). record { 0 = k }) number

      next_erasure : (seq : Seq) → MayErase now.terms now.sheet.events n.path seq → IsIdle now.sheet.events × IsFirstDeletion now.terms now.sheet.events n.path seq
      next_erasure seq may =
          let m : Notice = record { path = n.path; seq = seq; what = Deleted } in
          let same : n ≡ m = ap (λ (s : Seq). record { path = n.path; seq = s; what = n.what }) (own_number seq may) ∙ ap (λ (w : What). record { path = n.path; seq = seq; what = w }) kind in
          let unaside = subst (λ (x : Notice). is_set_aside now.terms.retries (fates now.sheet.events) x ≡ false) same (erasing.due n (Contains-first n rest)).unaside in (
            erasing.idle,
            record {
              pending = deletion_of_live now.terms now.sheet.events m refl unaside may;
              first = λ other here. head-least n rest other erasing.order (erasing.left other here);
            },
          )

      module _ (sound : IsSound now) (new : Core) (keeps : KeepsFixed now new) where
        pub erasing-stops : (fault : CoreFault) → RefusesErasing now new by n.path fault → StopsFiltering by old new fault
        erasing-stops fault refuses =
            ⊎_elim (λ over. absurd (never_over now new fault sound over))
            (λ refused. filtering-later by old now new fault erasing.goes
            (filtering-halts by now new (Erased n.path refused.0) fault sound refl (next_erasure refused.0 refused.1.may) (inr refused.1) keeps)) refuses

        pub erasing-beside : (fault : CoreFault) → RefusesErasing now new by n.path fault → GoesBeside old.sheet.events new.sheet.events
        erasing-beside fault refuses =
            ⊎_elim (λ over. absurd (never_over now new fault sound over))
            (λ refused. subst (GoesBeside old.sheet.events) (sym (refused-same now new (event by (Erased n.path refused.0)) fault sound refl (inr refused.1))) erasing.beside) refuses

        module _ (unrefused : IsUnrefused now new) where
          -- it was erased
          erased_now : (seq : Seq) → MayErase now.terms now.sheet.events n.path seq → Makes now new (event by (Erased n.path seq)) → Erasing by old new rest
          erased_now seq may makes =
              let e = event by (Erased n.path seq) in
              let m : Notice = record { path = n.path; seq = seq; what = Deleted } in
              let low : seq.0 < next_notice now.terms now.sheet.events = subst (λ k. k < next_notice now.terms now.sheet.events) (sym (latest_of_live now.terms now.sheet.events m may)) (sound.below.latest n.path) in
              let at = step-filed now new e sound refl makes unrefused keeps refl (record { path = n.path; seq = seq; fate = Gone }) n.path seq refl refl low in
              let behind : List Event = now.sheet.events ++ e ∷ [] in
              let all = GoesOn-then by old now new erasing.goes
              (GoesOn-one by now new (Erased n.path seq) (next_erasure seq may) (subst (IsAt now new) (sym (one_event now e sound refl)) at)) in
              let seen : (x : Notice) → Contains (deletions new.terms new.sheet.events) x → Contains (deletions now.terms behind) x =
              λ x here. subst (λ es. Contains (deletions now.terms es) x) at.events (subst (λ (t : Terms). Contains (deletions t new.sheet.events) x) at.remains.told.terms here) in
              record {
                goes = all;
                idle = record {
                  back = ap out at.events ∙ ap (λ (f : Filings). f.out) (filings-push now.sheet.events e) ∙ erasing.idle.back;
                  goes_on = ap is_over at.events ∙ is_over-push now.sheet.events e;
                };
                beside = record {
                  events = erasing.beside.events ++ e ∷ [];
                  whole = at.events ∙ ap (λ es. es ++ e ∷ []) erasing.beside.whole ∙ append_assoc old.sheet.events erasing.beside.events (e ∷ []);
                  each = each-push erasing.beside.events e erasing.beside.each (beside_erasure now.terms now.sheet.events by n.path seq);
                };
                left = λ x here. ⊎_elim (λ (first : n ≡ x). absurd (gone_from x first (seen x here))) (λ later. later)
                    (Contains-cons_cases n rest x (erasing.left x (deletion-before now.terms now.sheet.events e refl x (seen x here))));
                due = λ x here. subst (λ (t : Terms). IsDue t new.sheet.events x) (sym at.remains.told.terms)
                    (subst (λ es. IsDue now.terms es x) (sym at.events) (due_behind now.terms now.sheet.events by n.path seq x (erasing.due x (Contains-later n rest x here))));
                order = sorted-rest n rest erasing.order;
              }
            where
              each-push : (es : List Event) (e : Event) → AllByRecursion IsBeside es → IsBeside e → AllByRecursion IsBeside (es ++ e ∷ [])
              each-push [] e all one = (one, tt)
              each-push (x ∷ es) e all one = (all.0, each-push es e all.1 one)

              gone_from : (x : Notice) → n ≡ x → Contains (deletions now.terms (now.sheet.events ++ event by (Erased n.path seq) ∷ [])) x → ⊥
              gone_from x first here =
                  let e = event by (Erased n.path seq) in
                  let live = (unserved_of_pending now.terms (now.sheet.events ++ e ∷ []) x (pending_of_deletion now.terms (now.sheet.events ++ e ∷ []) x here).0).1 in
                  let above = unserved_of_live now.terms (now.sheet.events ++ e ∷ []) x live in
                  let upto = served_behind now.terms now.sheet.events by n.path seq x (ap (λ (y : Notice). y.path) (sym first)) in
                  let number : x.seq.0 ≡ seq.0 = ap (λ (y : Notice). y.seq.0) (sym first) ∙ ap (λ (s : Seq). s.0) (own_number seq may) in
                  omega (arith, above, upto, number)

          pub Erasing-deleted : (erased : Bool) → Erases now new by n.path erased → Erasing by old new rest
          Erasing-deleted true erases = erased_now erases.0 erases.1 erases.2
          Erasing-deleted false erases =
              let at = IsAt-rests now new sound erases.1 unrefused keeps in
              let same : new.sheet.events ≡ now.sheet.events = at.events ∙ append-nil now.sheet.events in
              let left = passed (λ here. erases.0 n.seq (may_of_deletion now.terms now.sheet.events n here)) in
              record {
                goes = GoesOn-then by old now new erasing.goes (GoesOn-rests by now new at);
                idle = subst IsIdle (sym same) erasing.idle;
                beside = subst (GoesBeside old.sheet.events) (sym same) erasing.beside;
                left = λ x here. left.left x (subst (λ es. Contains (deletions now.terms es) x) same (subst (λ (t : Terms). Contains (deletions t new.sheet.events) x) at.remains.told.terms here));
                due = λ x here. subst (λ (t : Terms). IsDue t new.sheet.events x) (sym at.remains.told.terms) (subst (λ es. IsDue now.terms es x) (sym same) (left.due x here));
                order = sorted-rest n rest erasing.order;
              }
