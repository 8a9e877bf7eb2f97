use Rattle.std.proofs.Common.{◌≢◌, ℕ, arith}
use Rattle.ci_volume.proofs.current.choose_second.Goals as goal

apart : ◌≢◌ {A = ℕ} 0 1
apart same = omega (arith, same)

pub returns-in-Some : goal.returns-in-Some
returns-in-Some c image head size first second = record {
  number = omega arith;
  current = c.in-Some.ensures image 1 0 head (omega arith) (omega arith) apart second first;
  size = size;
  beside = first.gate;
}

pub returns-in-None : goal.returns-in-None
returns-in-None c image head size first second = c.in-None.ensures image 1 0 head (omega arith) (omega arith) apart second first
