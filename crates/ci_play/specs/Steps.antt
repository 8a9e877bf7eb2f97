-- The condition of a step, what the step does where it is made, and how it is refused.
use Rattle.std.specs.Prelude.{◌≡◌, ◌<◌, ◌≤◌, ◌+◌, ⊤, ℕ, Bool, Option, length}
use Rattle.ci_change.specs.declared.batch.Batch.{Batch}
use Rattle.ci_change.specs.declared.notice.What.TheVariants.{Changed}
use Rattle.ci_journal.specs.declared.event.Happened.TheVariants.{Asked, Put as Putting, Started as Starting, StartFailed as Failing, BatchDone, BatchDied as Dying, Returned, Answered, Said}
use Rattle.ci_journal.specs.Folds.{next_notice, requests_in}
use Rattle.ci_journal.specs.Step.{MayEnd, MayPut, MayAnswer, MaySay}
use Rattle.ci_book.specs.declared.core_fault.CoreFault.{CoreFault}
use Rattle.ci_holdings.specs.declared.question.Question.{Question}
use Rattle.ci_holdings.specs.Batches.{Begins, CanFinish, RefusesBeginning}
use Rattle.ci_journal.specs.Tells.{event}
use Rattle.ci_book.specs.Changes.{noted}
use Rattle.ci_holdings.specs.Core.{Core}
use Rattle.ci_core.specs.Erasing.{Erases, RefusesErasing}
use Rattle.ci_holdings.specs.Opening.{OpensFirst, RefusesOpening}
use Rattle.ci_holdings.specs.Refusals.{Refuses}
use Rattle.ci_holdings.specs.Steps.{Ends, Makes}
use Rattle.ci_play.specs.declared.step.Step.{Step}
use Rattle.ci_play.specs.declared.step.Step.TheVariants.{Ask, Note, Put, Erase, Started, StartFailed, BeginBatch, FinishBatch, BatchDied, ReturnBatch, OpenQuery, Answer, Say}

-- the condition of a step
abbrev pub Holds : Core → Step → Type 0
Holds core (Ask by request) = by ≡ 0
Holds core (Note by path what) = by ≡ 0
Holds core (Put by path seq transcript) =
    MayPut core.terms core.sheet.events by (record { path = path; seq = seq; what = Changed })
Holds core (Erase by path) = ⊤
Holds core (Started by) = ⊤
Holds core (StartFailed by) = ⊤
Holds core (BeginBatch by max) = 1 ≤ max
Holds core (FinishBatch by batch outcomes) = CanFinish core.sheet.events by batch outcomes
Holds core (BatchDied by batch charged) =
    MayEnd core.sheet.events by batch.number batch × (charged < length batch.docs)
Holds core (ReturnBatch by batch) = MayEnd core.sheet.events by batch.number batch
Holds core (OpenQuery by) = ⊤
Holds core (Answer by id at paths) = MayAnswer core.terms core.sheet.events id at paths
Holds core (Say by id reply) = MaySay core.sheet.events id

-- the number that the next request gets
abbrev pub next_request : Core → ℕ
next_request core = length (requests_in core.sheet.events) + 1

-- what it does
abbrev pub Does : Core → Core → Step → Type 0
Does old new (Ask by request) = Makes old new (event by (Asked (next_request old) request))
Does old new (Note by path what) = Makes old new (noted by path (next_notice old.terms old.sheet.events) what)
Does old new (Put by path seq transcript) = Makes old new (event by (Putting path seq transcript))
Does old new (Erase by path) = (was_there : Bool) × Erases old new by path was_there
Does old new (Started by) = Makes old new (event by Starting)
Does old new (StartFailed by) = Makes old new (event by Failing)
Does old new (BeginBatch by max) = (batch : Option Batch) × Begins old new by max batch
Does old new (FinishBatch by batch outcomes) =
    Makes old new (event by (BatchDone batch.number outcomes))
Does old new (BatchDied by batch charged) = Ends old new (event by (Dying batch.number charged))
Does old new (ReturnBatch by batch) = Ends old new (event by (Returned batch.number))
Does old new (OpenQuery by) = (question : Option Question) × OpensFirst old new by question
Does old new (Answer by id at paths) = Makes old new (event by (Answered id at paths))
Does old new (Say by id reply) = Makes old new (event by (Said id reply))

-- how it is refused; the end of a batch that died or is given back never is
abbrev pub IsStopped : Core → Core → Step → CoreFault → Type 0
IsStopped old new (Ask by request) = Refuses old new (event by (Asked (next_request old) request))
IsStopped old new (Note by path what) = Refuses old new (noted by path (next_notice old.terms old.sheet.events) what)
IsStopped old new (Put by path seq transcript) =
    Refuses old new (event by (Putting path seq transcript))
IsStopped old new (Erase by path) = RefusesErasing old new by path
IsStopped old new (Started by) = Refuses old new (event by Starting)
IsStopped old new (StartFailed by) = Refuses old new (event by Failing)
IsStopped old new (BeginBatch by max) = RefusesBeginning old new by max
IsStopped old new (FinishBatch by batch outcomes) =
    Refuses old new (event by (BatchDone batch.number outcomes))
IsStopped old new (BatchDied by batch charged) = λ fault. ⊥
IsStopped old new (ReturnBatch by batch) = λ fault. ⊥
IsStopped old new (OpenQuery by) = RefusesOpening old new by
IsStopped old new (Answer by id at paths) = Refuses old new (event by (Answered id at paths))
IsStopped old new (Say by id reply) = Refuses old new (event by (Said id reply))
