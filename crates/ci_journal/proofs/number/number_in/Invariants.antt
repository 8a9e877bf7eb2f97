use Rattle.std.proofs.Common.{◌≡◌, ◌≤◌, ◌+◌, ◌^◌, take}
use Rattle.ci_journal.specs.Requests.{number_in}
use Rattle.ci_journal.proofs.number.number_in.Given as goal

-- the digits so far make less than the power of ten with as many zeros
abbrev pub invariant-loop-digit : goal.invariant-loop-digit
invariant-loop-digit l = record {
  number : l.number ≡ number_in (take l.digit-index l.digits);
  small : l.number + 1 ≤ 10 ^ l.digit-index;
}
