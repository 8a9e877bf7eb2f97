-- What a worker keeps true of the journal, step by step.
use Rattle.std.proofs.Common.{arith, ◌≡◌, ◌+◌, ◌∙◌, ◌==◌, ℕ, Bool, true, false, cond, List, [], ◌∷◌, ◌++◌, Some, None, IsSome, refl, ap, sym, subst, append-nil, append_assoc}
use Rattle.std.specs.List.{AllByRecursion}
use Rattle.ci_change.specs.declared.batch.Batch.{Batch}
use Rattle.ci_io.specs.Causes.{Rose}
use Rattle.ci_journal.specs.declared.event.Event.{Event}
use Rattle.ci_journal.specs.declared.event.Happened.TheVariants.{Begun, DaemonLost, StartFailed, Started}
use Rattle.ci_journal.specs.Daemon.{failures, holds_link, is_lost, most_failures}
use Rattle.ci_journal.specs.Step.{step_of}
use Rattle.ci_journal.specs.Tells.{event, tells}
use Rattle.ci_journal.specs.Tells.Start.{Failed}
use Rattle.ci_journal.specs.Terms.{Terms}
use Rattle.ci_link.specs.Line.{Speaking}
use Rattle.ci_link.specs.Records.{IsFresh, IsTold}
use Rattle.ci_worker.specs.Filtering.{GoesBeside, IsBeside, is_of_batch}
use Rattle.ci_worker.specs.Links.{FitTold}
use Rattle.ci_worker.specs.Talks.{talks}
use Rattle.ci_worker.specs.Working.{Holds, Keeps, RoseBy, Working, failed_starts, records_behind}
use Rattle.ci_worker.proofs.HoldsLemmas.{KeepsLinks-push, failed-came, failed-failed, failed-lost, failed-unstarted, holds-unlinked, lost-kept, lost-told, lost-unstarted}
use Rattle.ci_worker.proofs.LinkLemmas.{FitTold-stopped, FitTold-taken}
use Rattle.ci_worker.proofs.TalksLemmas.{talks-beside, unended}

-- what a worker keeps true is of its records, its count of faults and the link that it holds
pub Keeps-moved : (journal : List Event) (first one other : Working) → one.records ≡ other.records → one.faults ≡ other.faults → one.held ≡ other.held → Keeps first one journal → Keeps first other journal
Keeps-moved journal first one other records faults held keeps = record {
  told = subst (λ h. FitTold first.records other.records h (talks journal)) held (subst (λ rs. FitTold first.records rs one.held (talks journal)) records keeps.told);
  failed = subst (RoseBy (failed_starts journal) first.faults) faults keeps.failed;
  links = keeps.links;
}

-- of the same events the same is true
pub Keeps-at : (first worker : Working) (one other : List Event) → other ≡ one → Keeps first worker one → Keeps first worker other
Keeps-at first worker one other is keeps = subst (Keeps first worker) (sym is) keeps

pub Holds-at : (worker : Working) (by : ℕ) (one other : List Event) → other ≡ one → Holds worker one by → Holds worker other by
Holds-at worker by one other is holds = subst (λ es. Holds worker es by) (sym is) holds

-- ---- events beside the filtering

module _ (journal : List Event) (e : Event) (beside : IsBeside e) where
  pub Keeps-beside : (first worker : Working) → Keeps first worker journal → Keeps first worker (journal ++ e ∷ [])
  Keeps-beside first worker keeps = record {
    told = subst (FitTold first.records worker.records worker.held) (sym (talks-beside journal e (unended (tells e.what).filed beside.unbatched))) keeps.told;
    failed = subst (λ n. RoseBy n first.faults worker.faults) (sym (failed-unstarted journal e beside.unstarted)) keeps.failed;
    links = KeepsLinks-push journal e (λ batch is. absurd (let yes : is_of_batch (tells (Begun batch)).filed ≡ false = subst (λ w. is_of_batch (tells w).filed ≡ false) is beside.unbatched in cc)) (λ is. absurd (let some : Some true ≡ None = sym (ap (λ w. (tells w).link) is) ∙ beside.unlinked in cc)) keeps.links;
  }

  pub Holds-beside : (worker : Working) (by : ℕ) → Holds worker journal by → Holds worker (journal ++ e ∷ []) by
  Holds-beside worker by holds = record {
    held = holds.held ∙ sym (holds-unlinked journal e by beside.unlinked);
    lost = holds.lost ∙ sym (lost-unstarted journal e beside.unstarted);
  }

Keeps-besides : (first worker : Working) (journal events : List Event) → AllByRecursion IsBeside events → Keeps first worker journal → Keeps first worker (journal ++ events)
Keeps-besides first worker journal [] each keeps = subst (Keeps first worker) (sym (append-nil journal)) keeps
Keeps-besides first worker journal (e ∷ events) each keeps =
    subst (Keeps first worker) (append_assoc journal (e ∷ []) events)
    (Keeps-besides first worker (journal ++ e ∷ []) events each.1 (Keeps-beside journal e each.0 first worker keeps))

Holds-besides : (worker : Working) (by : ℕ) (journal events : List Event) → AllByRecursion IsBeside events → Holds worker journal by → Holds worker (journal ++ events) by
Holds-besides worker by journal [] each holds = subst (λ es. Holds worker es by) (sym (append-nil journal)) holds
Holds-besides worker by journal (e ∷ events) each holds =
    subst (λ es. Holds worker es by) (append_assoc journal (e ∷ []) events)
    (Holds-besides worker by (journal ++ e ∷ []) events each.1 (Holds-beside journal e each.0 worker by holds))

module _ (before now : List Event) (beside : GoesBeside before now) where
  pub Keeps-goes : (first worker : Working) → Keeps first worker before → Keeps first worker now
  Keeps-goes first worker keeps = subst (Keeps first worker) (sym beside.whole) (Keeps-besides first worker before beside.events beside.each keeps)

  pub Holds-goes : (worker : Working) (by : ℕ) → Holds worker before by → Holds worker now by
  Holds-goes worker by holds = subst (λ es. Holds worker es by) (sym beside.whole) (Holds-besides worker by before beside.events beside.each holds)

-- ---- a batch begins

pub Keeps-begun : (journal : List Event) (by : ℕ) (batch : Batch) → holds_link journal by ≡ true → (first worker : Working) → Keeps first worker journal → Keeps first worker (journal ++ event by (Begun batch) ∷ [])
Keeps-begun journal by batch holds first worker keeps =
    let e = event by (Begun batch) in
    record {
      told = subst (FitTold first.records worker.records worker.held) (sym (talks-beside journal e refl)) keeps.told;
      failed = subst (λ n. RoseBy n first.faults worker.faults) (sym (failed-unstarted journal e refl)) keeps.failed;
      links = KeepsLinks-push journal e (λ _ is. holds) (λ is. absurd (cc)) keeps.links;
    }

-- ---- a daemon was started, or not

pub Keeps-taken : (journal : List Event) (first worker now : Working) (link : Speaking) → worker.held ≡ None → now ≡ record worker { held = Some link } → IsFresh link.sent link.given link.faults → link.fed.bytes ≡ []
    → (IsSome worker.records → IsTold link.sent link.given link.more) → Keeps first worker journal → Keeps first now journal
Keeps-taken journal first worker now link none is fresh unread tells keeps =
    subst (λ (w : Working). Keeps first w journal) (sym is) (record {
      told = FitTold-taken first.records worker.records (talks journal) link fresh unread tells (subst (λ h. FitTold first.records worker.records h (talks journal)) none keeps.told);
      failed = keeps.failed;
      links = keeps.links;
    })

-- where a daemon was made of a link that was just started
pub Keeps-held : (journal : List Event) (first worker now : Working) (link daemon : Speaking) → worker.held ≡ None → now ≡ record worker { held = Some daemon } → daemon ≡ link → IsFresh link.sent link.given link.faults → link.fed.bytes ≡ []
    → (IsSome worker.records → IsTold link.sent link.given link.more) → Keeps first worker journal → Keeps first now journal
Keeps-held journal first worker now link daemon none is same fresh unread tells keeps =
    Keeps-taken journal first worker now link none (is ∙ ap (λ (s : Speaking). record worker { held = Some s }) same) fresh unread tells keeps

pub Keeps-started : (journal : List Event) (by : ℕ) → holds_link journal by ≡ false → (first worker : Working) → Keeps first worker journal → Keeps first worker (journal ++ event by Started ∷ [])
Keeps-started journal by unheld first worker keeps =
    let e = event by Started in
    record {
      told = subst (FitTold first.records worker.records worker.held) (sym (talks-beside journal e refl)) keeps.told;
      failed = subst (λ n. RoseBy n first.faults worker.faults) (sym (failed-came journal e refl)) keeps.failed;
      links = KeepsLinks-push journal e (λ batch is. absurd (cc)) (λ is. unheld) keeps.links;
    }

-- the count rose, which isn't told
pub Keeps-risen : (journal : List Event) (first worker : Working) (faults : ℕ) → Rose faults worker.faults → Keeps first (record worker { faults = faults }) journal → Keeps first worker journal
Keeps-risen journal first worker faults rose keeps = record {
  told = keeps.told;
  failed = omega (arith, rose, keeps.failed);
  links = keeps.links;
}

-- or is
Keeps-failed : (journal : List Event) (by : ℕ) (first worker : Working) (faults : ℕ) → Rose faults worker.faults → Keeps first (record worker { faults = faults }) journal → Keeps first worker (journal ++ event by StartFailed ∷ [])
Keeps-failed journal by first worker faults rose keeps =
    let e = event by StartFailed in
    record {
      told = subst (FitTold first.records worker.records worker.held) (sym (talks-beside journal e refl)) keeps.told;
      failed = subst (λ n. RoseBy n first.faults worker.faults) (sym (failed-failed journal e refl)) (omega (arith, rose, keeps.failed));
      links = KeepsLinks-push journal e (λ batch is. absurd (cc)) (λ is. absurd (cc)) keeps.links;
    }

Keeps-lost : (journal : List Event) (by : ℕ) (first worker : Working) → Keeps first worker journal → Keeps first worker (journal ++ event by DaemonLost ∷ [])
Keeps-lost journal by first worker keeps =
    let e = event by DaemonLost in
    record {
      told = subst (FitTold first.records worker.records worker.held) (sym (talks-beside journal e refl)) keeps.told;
      failed = subst (λ n. RoseBy n first.faults worker.faults) (sym (failed-lost journal e refl)) keeps.failed;
      links = KeepsLinks-push journal e (λ batch is. absurd (cc)) (λ is. absurd (cc)) keeps.links;
    }

-- where it is the last that is tried, this too
pub Keeps-failing : (terms : Terms) (journal : List Event) (by : ℕ) (first worker : Working) (faults : ℕ) → Rose faults worker.faults → Keeps first (record worker { faults = faults }) journal
    → Keeps first worker (journal ++ step_of terms journal by StartFailed)
Keeps-failing terms journal by first worker faults rose keeps = of (failures journal + 1 == most_failures)
  where
    one : Keeps first worker (journal ++ event by StartFailed ∷ [])
    one = Keeps-failed journal by first worker faults rose keeps

    of : (last : Bool) → Keeps first worker (journal ++ event by StartFailed ∷ cond last (event by DaemonLost ∷ []) [])
    of true = subst (Keeps first worker) (append_assoc journal (event by StartFailed ∷ []) (event by DaemonLost ∷ [])) (Keeps-lost (journal ++ event by StartFailed ∷ []) by first worker one)
    of false = one

pub Holds-failing : (terms : Terms) (journal : List Event) (by : ℕ) (worker now : Working) (lost : Bool) → now ≡ record worker { lost = lost } → lost ≡ (failures journal + 1 == most_failures) → is_lost journal ≡ false
    → Holds worker journal by → Holds now (journal ++ step_of terms journal by StartFailed) by
Holds-failing terms journal by worker now lost is lost_is unlost holds =
    subst (λ (w : Working). Holds w (journal ++ step_of terms journal by StartFailed) by) (sym is)
    (of (failures journal + 1 == most_failures) lost_is)
  where
    failed : List Event
    failed = journal ++ event by StartFailed ∷ []

    of : (last : Bool) → lost ≡ last → Holds (record worker { lost = lost }) (journal ++ event by StartFailed ∷ cond last (event by DaemonLost ∷ []) []) by
    of true told = subst (λ es. Holds (record worker { lost = lost }) es by) (append_assoc journal (event by StartFailed ∷ []) (event by DaemonLost ∷ [])) (record {
      held = holds.held ∙ sym (holds-unlinked journal (event by StartFailed) by refl) ∙ sym (holds-unlinked failed (event by DaemonLost) by refl);
      lost = told ∙ sym (lost-told failed (event by DaemonLost) refl);
    })
    of false told = record {
      held = holds.held ∙ sym (holds-unlinked journal (event by StartFailed) by refl);
      lost = told ∙ sym unlost ∙ sym (lost-kept journal (event by StartFailed) Failed refl refl);
    }

-- ---- the link that is held is given back between two talks

pub record IsStopped (old new : Working) : Type 0 where
  pub records : new.records ≡ records_behind old.records old.held
  pub tells_on : IsSome old.records → IsSome new.records
  pub faults : new.faults ≡ old.faults
  pub held : new.held ≡ None
  pub lost : new.lost ≡ old.lost

pub Keeps-stopped : (journal : List Event) (first old new : Working) → IsStopped old new → Keeps first old journal → Keeps first new journal
Keeps-stopped journal first old new stopped keeps = record {
  told = subst (λ h. FitTold first.records new.records h (talks journal)) (sym stopped.held)
      (FitTold-stopped first.records old.records new.records (talks journal) old.held stopped.records stopped.tells_on keeps.told);
  failed = subst (RoseBy (failed_starts journal) first.faults) (sym stopped.faults) keeps.failed;
  links = keeps.links;
}
