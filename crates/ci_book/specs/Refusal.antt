-- What is kept of a refused step.
use Rattle.std.specs.Prelude.{Option, Some, None}
use Rattle.ci_journal.specs.declared.event.Happened.{Happened}
use Rattle.ci_book.specs.declared.core_fault.CoreFault.{CoreFault}
use Rattle.ci_book.specs.declared.core_fault.CoreFault.TheVariants.{TooManyDocuments, JournalFull, OutOfMemory, WriteFault, Ended}

-- what the step would have told, unless memory was wanted
abbrev pub tried_at : CoreFault → Happened → Option Happened
tried_at TooManyDocuments what = Some what
tried_at (JournalFull used more) what = Some what
tried_at OutOfMemory what = None
tried_at WriteFault what = Some what
tried_at Ended what = Some what
