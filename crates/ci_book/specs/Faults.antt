-- Refusals of the parts of a catalogue, as the catalogue tells them.
use Rattle.ci_paths.specs.declared.number_faults.NumberFault.{NumberFault}
use Rattle.ci_paths.specs.declared.number_faults.NumberFault.TheVariants as number
use Rattle.ci_book.specs.declared.core_fault.CoreFault.{CoreFault}
use Rattle.ci_book.specs.declared.core_fault.CoreFault.TheVariants.{TooManyDocuments, OutOfMemory}

abbrev pub fault_of_number : NumberFault → CoreFault
fault_of_number number.TooManyDocuments = TooManyDocuments
fault_of_number number.OutOfMemory = OutOfMemory
