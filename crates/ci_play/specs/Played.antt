-- A list of steps, played one after the other.
use Rattle.std.specs.Prelude.{◌≡◌, ◌⊎◌, List, [], ◌∷◌}
use Rattle.ci_book.specs.declared.core_fault.CoreFault.{CoreFault}
use Rattle.ci_book.specs.declared.core_fault.CoreFault.TheVariants.{OutOfMemory}
use Rattle.ci_holdings.specs.Core.{Core}
use Rattle.ci_play.specs.declared.step.Step.{Step}
use Rattle.ci_play.specs.declared.step.Step.TheVariants.{Answer}
use Rattle.ci_play.specs.Steps.{Holds, Does, IsStopped}

-- the step was made; or its condition doesn't hold, and it was passed over
abbrev pub Plays : Core → Core → Step → Type 0
Plays old new step = (Holds old step × Does old new step) ⊎ (¬ Holds old step × (new ≡ old))

-- there was no memory to see whether the step's condition holds, which only that of an answer takes
abbrev pub IsUnseen : Step → CoreFault → Type 0
IsUnseen (Answer by id at paths) fault = fault ≡ OutOfMemory
IsUnseen _ fault = ⊥

-- the step was refused; or it is unseen whether its condition holds, and nothing changed
abbrev pub Stops : Core → Core → Step → CoreFault → Type 0
Stops old new step fault =
    (Holds old step × IsStopped old new step fault) ⊎ (IsUnseen step fault × (new ≡ old))

-- each step was played, in order
abbrev pub Played : Core → List Step → Core → Type 0
Played old [] new = new ≡ old
Played old (step ∷ steps) new = (mid : Core) × Plays old mid step × Played mid steps new

-- each step was played, up to the first that was refused
abbrev pub PlayedUntil : Core → List Step → Core → CoreFault → Type 0
PlayedUntil old [] new fault = ⊥
PlayedUntil old (step ∷ steps) new fault =
    Stops old new step fault
    ⊎ ((mid : Core) × Plays old mid step × PlayedUntil mid steps new fault)

-- so it ended early; or each step was played, and there was no memory to list what stands behind them
abbrev pub StopsBehind : Core → List Step → Core → CoreFault → Type 0
StopsBehind old steps new fault =
    PlayedUntil old steps new fault ⊎ (Played old steps new × (fault ≡ OutOfMemory))
