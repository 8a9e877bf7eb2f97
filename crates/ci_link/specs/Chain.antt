-- The records that a chain of them holds.
use Rattle.std.specs.Prelude.{List, [], ◌∷◌, ◌++◌}
use Rattle.ci_link.specs.declared.record.LinkRecord.{LinkRecord}
use Rattle.ci_link.specs.declared.records.Chain.{Chain}
use Rattle.ci_link.specs.declared.records.Chain.TheVariants.{Start, Added}

-- what was there before, and then the last one
abbrev pub records_of : Chain → List LinkRecord
records_of Start = []
records_of (Added before entry) = before.value ++ entry ∷ []
