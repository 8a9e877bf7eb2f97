-- The faults of queries.
use Rattle.std.specs.Prelude.{ℕ, Option, Some, None}
use Rattle.ci_dialect.specs.declared.fault.QueryFault.{QueryFault}
use Rattle.ci_dialect.specs.declared.fault.QueryFault.TheVariants.{Bad, UnknownProperty, WrongKind, TooDeep, TooLong, OnlyNoise, OutOfMemory}
use Rattle.ci_dialect.specs.declared.fault.QueryKind.{QueryKind}
use Rattle.ci_dialect.specs.declared.fault.QueryKind.TheVariants as kind

-- the kind and the place of a fault of the text; want of memory is none
abbrev pub met_in : QueryFault → Option (QueryKind × ℕ)
met_in (Bad at) = Some (kind.Bad, at)
met_in (UnknownProperty at) = Some (kind.UnknownProperty, at)
met_in (WrongKind at) = Some (kind.WrongKind, at)
met_in (TooDeep at) = Some (kind.TooDeep, at)
met_in (TooLong at) = Some (kind.TooLong, at)
met_in (OnlyNoise at) = Some (kind.OnlyNoise, at)
met_in OutOfMemory = None
