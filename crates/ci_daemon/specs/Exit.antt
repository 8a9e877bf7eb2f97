-- The exit status of a program that serves filters.
use Rattle.std.specs.Prelude.{ℕ}
use Rattle.ci_daemon.specs.declared.ended.Ended.{Ended}
use Rattle.ci_daemon.specs.declared.ended.Ended.TheVariants.{Quiet, ReadFault, WriteFault, BadFrame, Spent, OutOfMemory}

-- 1 and 2 are for what comes before the service
abbrev pub exit_code : Ended → ℕ
exit_code Quiet = 0
exit_code ReadFault = 3
exit_code WriteFault = 4
exit_code BadFrame = 5
exit_code Spent = 6
exit_code OutOfMemory = 10
