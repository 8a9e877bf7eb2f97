-- Each event of a run might come behind those before it, also where a step has several.
use Rattle.std.proofs.Common.{arith, ◌≡◌, ◌∙◌, ℕ, ◌+◌, ◌==◌, ◌&&◌, ◌≢◌, Bool, true, false, cond, List, [], ◌∷◌, ◌++◌, Some, filter, bytes_eq, refl, sym, subst, append-nil, append_assoc, Contains}
use Rattle.std.proofs.lemmas.List.Elements.{Contains-append_left}
use Rattle.ci_base.specs.declared.numbers.Seq.{Seq}
use Rattle.ci_change.specs.declared.notice.Notice.{Notice}
use Rattle.ci_change.specs.declared.notice.What.TheVariants.{Deleted}
use Rattle.ci_change.specs.Pending.{unserved_of}
use Rattle.ci_chunk.specs.declared.outcome.Outcome.{Outcome}
use Rattle.ci_journal.specs.declared.event.Event.{Event}
use Rattle.ci_journal.specs.declared.event.Happened.{Happened}
use Rattle.ci_journal.specs.declared.event.Happened.TheVariants.{Asked, Noted, Put, Erased, Started, StartFailed, DaemonLost, Begun, BatchDone, BatchDied, Returned, Shadowed, MasterBegun, MasterStep, MasterEnded, Opened, Answered, Said}
use Rattle.ci_journal.specs.Daemon.{failures, failures_behind, most_failures}
use Rattle.ci_journal.specs.Filings.{Filings, filings}
use Rattle.ci_journal.specs.Folds.{notices}
use Rattle.ci_journal.specs.Served.{numbers_of, served_numbers}
use Rattle.ci_journal.specs.Shape.{lists, most_lists}
use Rattle.ci_journal.specs.Step.{May, MayPut, MayErase, MayFinish, MayLose, Run, Chain, step_of}
use Rattle.ci_journal.specs.Step.Run.{Empty, Step}
use Rattle.ci_journal.specs.Step.Chain.{NoEvent, Next}
use Rattle.ci_journal.specs.Tells.{Tells, event, last_of}
use Rattle.ci_journal.specs.Terms.{Terms}
use Rattle.ci_journal.proofs.FoldsLemmas.{filings-push, last_of-push, notices-push}
use Rattle.ci_journal.proofs.TellsLemmas.{tellings-fold}

-- a shadow tells of no notice and of no document
module _ (terms : Terms) (journal : List Event) (by : ℕ) where
  same_notices : notices terms (journal ++ event by Shadowed ∷ []) ≡ notices terms journal
  same_notices = notices-push terms journal (event by Shadowed) ∙ append-nil (notices terms journal)

  same_filings : filings (journal ++ event by Shadowed ∷ []) ≡ filings journal
  same_filings = filings-push journal (event by Shadowed)

  put_behind : (notice : Notice) → MayPut terms journal by notice → MayPut terms (journal ++ event by Shadowed ∷ []) by notice
  put_behind notice may = record {
    foreground = may.foreground;
    current = subst (λ ns. last_of (filter (λ (n : Notice). bytes_eq n.path notice.path) ns) ≡ Some notice) (sym same_notices) may.current;
  }

  erase_behind : (path : List ℕ) (seq : Seq) → MayErase terms journal path seq → MayErase terms (journal ++ event by Shadowed ∷ []) path seq
  erase_behind path seq may =
      let deletion : Notice = record { path = path; seq = seq; what = Deleted } in
      subst (λ (f : Filings). Contains (unserved_of (notices terms (journal ++ event by Shadowed ∷ [])) (terms.beginning.numbers ++ numbers_of f.filed)) deletion) (sym same_filings)
      (subst (λ ns. Contains (unserved_of ns (served_numbers terms journal)) deletion) (sym same_notices) may)

  finish_behind : (number : ℕ) (outcomes : List Outcome) → MayFinish journal by number outcomes → MayFinish (journal ++ event by Shadowed ∷ []) by number outcomes
  finish_behind number outcomes may =
      let ends = may.1 in (
        may.0,
        record {
          is_out = subst (λ (f : Filings). Contains f.out may.0) (sym same_filings) ends.is_out;
          numbered = ends.numbered;
          own = Contains-append_left journal (event by Shadowed ∷ []) (event by (Begun may.0)) ends.own;
        },
        may.2,
      )

  -- the one event, with the shadow before it where one is due
  behind_shadow : (what : Happened) → Chain terms journal → May terms journal by what → May terms (journal ++ event by Shadowed ∷ []) by what
      → (b : Bool) → (b ≡ true → lists journal ≢ 0) → Chain terms (journal ++ (cond b (event by Shadowed ∷ []) [] ++ event by what ∷ []))
  behind_shadow what chain may later true some =
      subst (Chain terms) (append_assoc journal (event by Shadowed ∷ []) (event by what ∷ []))
      (Next (journal ++ event by Shadowed ∷ []) (event by what) (Next journal (event by Shadowed) chain (some refl)) later)
  behind_shadow what chain may later false some = Next journal (event by what) chain may

  many_lists : (terms.in_lists && lists journal == most_lists) ≡ true → lists journal ≢ 0
  many_lists full none = grind arith

  -- a failed start, with the loss behind it where it is the last
  behind_failure : Chain terms journal → (b : Bool) → (b ≡ true → failures journal + 1 ≡ most_failures) → Chain terms (journal ++ event by StartFailed ∷ cond b (event by DaemonLost ∷ []) [])
  behind_failure chain true last =
      let counted : failures (journal ++ event by StartFailed ∷ []) ≡ failures journal + 1 = tellings-fold (λ (t : Tells). t.start) failures_behind 0 journal (event by StartFailed) in
      let lost : MayLose (journal ++ event by StartFailed ∷ []) by = record { behind = last_of-push journal (event by StartFailed); count = counted ∙ last refl } in
      subst (Chain terms) (append_assoc journal (event by StartFailed ∷ []) (event by DaemonLost ∷ []))
      (Next (journal ++ event by StartFailed ∷ []) (event by DaemonLost) (Next journal (event by StartFailed) chain tt) lost)
  behind_failure chain false last = Next journal (event by StartFailed) chain tt

  is_number : (a b : ℕ) → (a == b) ≡ true → a ≡ b
  is_number a b same = grind arith

  Chain-step : (what : Happened) → Chain terms journal → May terms journal by what → Chain terms (journal ++ step_of terms journal by what)
  Chain-step (Asked id request) chain may = Next journal (event by (Asked id request)) chain may
  Chain-step (Noted notice) chain may = Next journal (event by (Noted notice)) chain may
  Chain-step (Put path seq transcript) chain may =
      behind_shadow (Put path seq transcript) chain may (put_behind _ may) (terms.in_lists && lists journal == most_lists) many_lists
  Chain-step (Erased path seq) chain may =
      behind_shadow (Erased path seq) chain may (erase_behind path seq may) (terms.in_lists && lists journal == most_lists) many_lists
  Chain-step Started chain may = Next journal (event by Started) chain may
  Chain-step StartFailed chain may = behind_failure chain (failures journal + 1 == most_failures) (is_number (failures journal + 1) most_failures)
  Chain-step DaemonLost chain may = Next journal (event by DaemonLost) chain may
  Chain-step (Begun batch) chain may = Next journal (event by (Begun batch)) chain may
  Chain-step (BatchDone number outcomes) chain may =
      behind_shadow (BatchDone number outcomes) chain may (finish_behind number outcomes may) (terms.in_lists && lists journal == most_lists) many_lists
  Chain-step (BatchDied number charged) chain may = Next journal (event by (BatchDied number charged)) chain may
  Chain-step (Returned number) chain may = Next journal (event by (Returned number)) chain may
  Chain-step Shadowed chain may = Next journal (event by Shadowed) chain may
  Chain-step MasterBegun chain may = Next journal (event by MasterBegun) chain may
  Chain-step (MasterStep split) chain may = Next journal (event by (MasterStep split)) chain may
  Chain-step MasterEnded chain may = Next journal (event by MasterEnded) chain may
  Chain-step (Opened id) chain may = Next journal (event by (Opened id)) chain may
  Chain-step (Answered id at paths) chain may = Next journal (event by (Answered id at paths)) chain may
  Chain-step (Said id reply) chain may = Next journal (event by (Said id reply)) chain may

pub Chain-run : (terms : Terms) (journal : List Event) → Run terms journal → Chain terms journal
Chain-run terms _ Empty = NoEvent
Chain-run terms _ (Step journal by what run may) = Chain-step terms journal by what (Chain-run terms journal run) may

-- a step of one event
pub Run-one : (terms : Terms) (journal : List Event) (e : Event) → Run terms journal → May terms journal e.by e.what → step_of terms journal e.by e.what ≡ e ∷ [] → Run terms (journal ++ e ∷ [])
Run-one terms journal e run may alone = subst (λ es. Run terms (journal ++ es)) alone (Step journal e.by e.what run may)
