-- The numbers of notices in a run.
use Rattle.std.proofs.Common.{arith, ◌≡◌, ◌∙◌, ℕ, ◌+◌, ◌≤◌, ◌<◌, List, [], ◌∷◌, ◌++◌, All, length, Option, Some, None, option_to_list, refl, ap, sym, subst, length-append, append-nil}
use Rattle.std.proofs.lemmas.List.Elements.{All-push, All-weaker}
use Rattle.ci_change.specs.declared.notice.Notice.{Notice}
use Rattle.ci_journal.specs.declared.event.Event.{Event}
use Rattle.ci_journal.specs.declared.event.Happened.{Happened}
use Rattle.ci_journal.specs.declared.event.Happened.TheVariants.{Asked, Noted, Put, Erased, Started, StartFailed, DaemonLost, Begun, BatchDone, BatchDied, Returned, Shadowed, MasterBegun, MasterStep, MasterEnded, Opened, Answered, Said}
use Rattle.ci_journal.specs.Folds.{new_notices, notices}
use Rattle.ci_journal.specs.Step.{May, Run, Chain}
use Rattle.ci_journal.specs.Step.Chain.{NoEvent, Next}
use Rattle.ci_journal.specs.Tells.{tells}
use Rattle.ci_journal.specs.Terms.{Beginning, Terms}
use Rattle.ci_journal.proofs.ChainLemmas.{Chain-run}
use Rattle.ci_journal.proofs.FoldsLemmas.{new_notices-push}
use Rattle.ci_holdings.specs.Kept.{StartsEmpty}

-- no notice's number is above how many there are
abbrev AllNumbered : List Notice → Type 0
AllNumbered list = All (λ (n : Notice). n.seq.0 ≤ length list) list

numbered_more : (list : List Notice) (o : Option Notice) → ((n : Notice) → o ≡ Some n → n.seq.0 ≡ length list + 1) → AllNumbered list → AllNumbered (list ++ option_to_list o)
numbered_more list None next all = rw (append-nil list) all
numbered_more list (Some notice) next all =
    All-push (λ (n : Notice). n.seq.0 ≤ length (list ++ notice ∷ [])) list notice
    (All-weaker (λ (n : Notice). n.seq.0 ≤ length list) (λ (n : Notice). n.seq.0 ≤ length (list ++ notice ∷ [])) (λ n below. omega (arith, below, length-append list (notice ∷ []))) list all)
    (omega (arith, next notice refl, length-append list (notice ∷ [])))

-- where a session finds nothing, all notices are its own
pub notices-own : (terms : Terms) (journal : List Event) → StartsEmpty terms → notices terms journal ≡ new_notices journal
notices-own terms journal starts = ap (λ (b : Beginning). b.notices ++ new_notices journal) starts.beginning

module _ (terms : Terms) (starts : StartsEmpty terms) where
  -- an event that notes has the next number
  next_noted : (journal : List Event) (by : ℕ) (what : Happened) → May terms journal by what → (n : Notice) → (tells what).notice ≡ Some n → n.seq.0 ≡ length (new_notices journal) + 1
  next_noted journal by (Asked id request) may n e = absurd (cc)
  next_noted journal by (Noted notice) may n e = let same : notice ≡ n = cc in omega (arith, ap (λ (m : Notice). m.seq.0) (sym same), may.next, ap (λ (b : Beginning). b.next) starts.beginning)
  next_noted journal by (Put path seq transcript) may n e = absurd (cc)
  next_noted journal by (Erased path seq) may n e = absurd (cc)
  next_noted journal by Started may n e = absurd (cc)
  next_noted journal by StartFailed may n e = absurd (cc)
  next_noted journal by DaemonLost may n e = absurd (cc)
  next_noted journal by (Begun batch) may n e = absurd (cc)
  next_noted journal by (BatchDone number outcomes) may n e = absurd (cc)
  next_noted journal by (BatchDied number charged) may n e = absurd (cc)
  next_noted journal by (Returned number) may n e = absurd (cc)
  next_noted journal by Shadowed may n e = absurd (cc)
  next_noted journal by MasterBegun may n e = absurd (cc)
  next_noted journal by (MasterStep split) may n e = absurd (cc)
  next_noted journal by MasterEnded may n e = absurd (cc)
  next_noted journal by (Opened id) may n e = absurd (cc)
  next_noted journal by (Answered id at paths) may n e = absurd (cc)
  next_noted journal by (Said id reply) may n e = absurd (cc)

  numbered-chain : (journal : List Event) → Chain terms journal → All (λ (n : Notice). n.seq.0 ≤ length (new_notices journal)) (new_notices journal)
  numbered-chain _ NoEvent = λ k d within. absurd (omega (arith, within))
  numbered-chain _ (Next journal event chain may) =
      subst AllNumbered (sym (new_notices-push journal event))
      (numbered_more (new_notices journal) (tells event.what).notice (next_noted journal event.by event.what may) (numbered-chain journal chain))

  pub notices_numbered : (journal : List Event) → Run terms journal → All (λ (n : Notice). n.seq.0 ≤ length (new_notices journal)) (new_notices journal)
  notices_numbered journal run = numbered-chain journal (Chain-run terms journal run)

  -- a number above them all
  pub notices_below : (journal : List Event) → Run terms journal → (list : List Notice) → list ≡ notices terms journal → (number : ℕ) → length (new_notices journal) < number → All (λ (n : Notice). n.seq.0 < number) list
  notices_below journal run list same number above =
      subst (All (λ (n : Notice). n.seq.0 < number)) (sym (same ∙ notices-own terms journal starts))
      (All-weaker (λ (n : Notice). n.seq.0 ≤ length (new_notices journal)) (λ (n : Notice). n.seq.0 < number) (λ n below. omega (arith, below, above)) (new_notices journal) (notices_numbered journal run))
