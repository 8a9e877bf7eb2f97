use Rattle.std.proofs.Common.{◌≢◌, ℕ, arith}
use Rattle.ci_volume.proofs.Writes.{none_of_both}
use Rattle.ci_volume.proofs.current.choose.Goals as goal

apart : ◌≢◌ {A = ℕ} 1 0
apart same = omega (arith, same)

pub returns-in-Some : goal.returns-in-Some
returns-in-Some c image head size first second = record {
  number = omega arith;
  current = c.in-Some.ensures image 0 1 head (omega arith) (omega arith) apart first second;
  size = size;
  beside = second.gate;
}

pub returns-in-None-choose_second : goal.returns-in-None-choose_second
returns-in-None-choose_second c image head size first second =
    none_of_both image (c.in-None.ensures image 0 1 head (omega arith) (omega arith) apart first second) (c.in-None-choose_second.ensures image head size first second)
