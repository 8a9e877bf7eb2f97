-- How long a varint is, and less than a frame.
use Rattle.std.proofs.Common.{ℕ, zero, suc, ◌≡◌, ◌+◌, ◌-◌, ◌/◌, ◌<◌, ◌≤◌, lit≤, List, length, ap, arith, inl, inr, length-append}
use Rattle.std.proofs.lemmas.Bool.{cases_lt}
use Rattle.ci_base.specs.Varint.{groups, varint}
use Rattle.ci_base.proofs.VarintLemmas.{groups-last, groups-small, groups-great}
use Rattle.ci_wire.specs.Stream.{IsPartial}
use Rattle.ci_wire.proofs.FrontLemmas.{test_from_front}

length-groups : (more n : ℕ) → length (groups more n) ≤ more + 1
length-groups zero n = rw (groups-last n) (lit≤ tt)
length-groups (suc more) n =
    elim (cases_lt n 128) [
      | inl small ↦ rw (groups-small (suc more) n small) (omega arith)
      | inr great ↦ (let k : suc more - 1 ≡ more = omega arith in rw (groups-great (suc more) n (omega arith) great, k) (omega (arith, length-groups more (n / 128))))
    ]

length-varint : (n : ℕ) → length (varint n) ≤ 10
unfolding varint
length-varint n = length-groups 9 n

-- less than a frame is less than the longest frame
pub partial_short : (bytes : List ℕ) → IsPartial bytes → length bytes < 131083
partial_short bytes (inl front) = omega (arith, (test_from_front bytes front).0)
partial_short bytes (inr lacks) =
    omega (
      arith,
      lacks.fewer,
      lacks.in_range.1,
      ap length lacks.whole,
      length-append (varint lacks.size) lacks.part,
      length-varint lacks.size,
    )
