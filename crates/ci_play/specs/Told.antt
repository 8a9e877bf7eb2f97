-- What an event tells of batches.
use Rattle.std.specs.Prelude.{List, Option, Some, None}
use Rattle.std.specs.Option.{option_and_then}
use Rattle.ci_change.specs.declared.batch.Batch.{Batch}
use Rattle.ci_journal.specs.declared.event.Happened.{Happened}
use Rattle.ci_journal.specs.Filings.{Filings, batch_in, file}
use Rattle.ci_journal.specs.Tells.{Filed, tells}

-- the batch that it begins, if it begins one
abbrev pub batch_of : Happened → Option Batch
batch_of what = option_and_then batch_in (tells what).filed

-- the batches that are out behind what is filed
abbrev pub out_where : Filings → Option Filed → List Batch
out_where so_far None = so_far.out
out_where so_far (Some filed) = (file so_far filed).out

abbrev pub out_behind : Filings → Happened → List Batch
out_behind so_far what = out_where so_far (tells what).filed
