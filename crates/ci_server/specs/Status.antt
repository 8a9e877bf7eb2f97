-- The status that a refusal ends a session with, and how it is told.
use Rattle.std.specs.Prelude.{ℕ, List, Option, Some, None, codes}
use Rattle.ci_io.specs.declared.read_fault.ReadFault.{ReadFault as LineFault}
use Rattle.ci_io.specs.declared.read_fault.ReadFault.TheVariants as line
use Rattle.ci_book.specs.declared.core_fault.CoreFault.{CoreFault}
use Rattle.ci_book.specs.declared.core_fault.CoreFault.TheVariants as fault
use Rattle.ci_server.specs.declared.status.Status.{Status}
use Rattle.ci_server.specs.declared.status.Status.TheVariants.{Done, Usage, ReadFault, WriteFault, JournalFull, TooManyDocuments, OutOfMemory, EndlessLine}

-- the refusal of a step that a status tells; none tells that an earlier one was refused
abbrev pub refusal_told : Status → Option CoreFault
refusal_told Done = None
refusal_told Usage = None
refusal_told ReadFault = None
refusal_told WriteFault = Some fault.WriteFault
refusal_told (JournalFull used more) = Some (fault.JournalFull used more)
refusal_told TooManyDocuments = Some fault.TooManyDocuments
refusal_told OutOfMemory = Some fault.OutOfMemory
refusal_told EndlessLine = None

abbrev pub status_of_read : LineFault → Status
status_of_read line.Failed = ReadFault
status_of_read line.Endless = EndlessLine
status_of_read line.OutOfMemory = OutOfMemory

-- the exit status of the process
abbrev pub exit_code : Status → ℕ
exit_code Done = 0
exit_code Usage = 2
exit_code ReadFault = 3
exit_code WriteFault = 4
exit_code (JournalFull used more) = 8
exit_code TooManyDocuments = 9
exit_code OutOfMemory = 10
exit_code EndlessLine = 12

-- the name that is printed where a session didn't end well
abbrev pub status_name : Status → List ℕ
status_name Done = codes "Done"
status_name Usage = codes "Usage"
status_name ReadFault = codes "ReadFault"
status_name WriteFault = codes "WriteFault"
status_name (JournalFull used more) = codes "JournalFull"
status_name TooManyDocuments = codes "TooManyDocuments"
status_name OutOfMemory = codes "OutOfMemory"
status_name EndlessLine = codes "EndlessLine"
