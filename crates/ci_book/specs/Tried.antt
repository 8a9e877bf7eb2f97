-- What a refused step would have told, as it is kept for contracts.
use Rattle.ci_journal.specs.declared.event.Happened.{Happened}
use Rattle.ci_journal.specs.declared.event.Happened.TheVariants.{Asked, Noted, Put, Erased, Started, StartFailed, Begun, BatchDone, Opened, Answered, Said}
use Rattle.ci_book.specs.declared.tried.Attempt.{Attempt}
use Rattle.ci_book.specs.declared.tried.Attempt.TheVariants as attempt

abbrev pub told_by : Attempt → Happened
told_by (attempt.Asked id request) = Asked id request.value
told_by (attempt.Noted path seq what) = Noted (record { path = path.value; seq = seq; what = what })
told_by (attempt.Put path seq transcript) = Put path.value seq transcript.value
told_by (attempt.Erased path seq) = Erased path.value seq
told_by attempt.Started = Started
told_by attempt.StartFailed = StartFailed
told_by (attempt.Begun batch) = Begun batch.value
told_by (attempt.BatchDone number outcomes) = BatchDone number outcomes.value
told_by (attempt.Opened id) = Opened id
told_by (attempt.Answered id at paths) = Answered id at paths.value
told_by (attempt.Said id reply) = Said id reply.value
