use Rattle.std.proofs.Common.{arith, refl, add-one}
use Rattle.ci_base.specs.Varint.{NoGroups}
use Rattle.ci_base.proofs.VarintLemmas.{if_none, no_groups-empty, no_groups-cons, no_groups-zero, no_groups-over, groups-small, groups-last, groups-join}
use Rattle.ci_base.proofs.varint.+read_groups.Goals as goal
use Rattle.ci_base.proofs.varint.+read_groups.Goals.{then-first-lt128-via-then-first-lt128, then-first-lt128-via-else-first-lt128+then-more-eq0}

pub returns-in_err-first-clause-none : goal.returns-in_err-first-clause-none
returns-in_err-first-clause-none t c =
    if_none _ (NoGroups c.args.more c.args.bytes.now) (no_groups-empty c.args.more _ (omega (arith, c.in_err-first.ensures.cases)))

pub returns-then-first-lt128-clause-value : goal.returns-then-first-lt128-clause-value
returns-then-first-lt128-clause-value t c =
    elim c.then-first-lt128.branch [ then-first-lt128-via-then-first-lt128 w ↦ rw (c.from.ensures, c.in_ok-first.ensures.cases.0, groups-small c.args.more c.in_ok-first.first.now w.if-first-lt128.true) refl | then-first-lt128-via-else-first-lt128+then-more-eq0 w ↦ rw (w.if-more-eq0.true, groups-last) (rw (c.from.ensures, c.in_ok-first.ensures.cases.0) refl) ]

pub returns-then-first-lt128-clause-length : goal.returns-then-first-lt128-clause-length
returns-then-first-lt128-clause-length t c =
    elim c.then-first-lt128.branch [ then-first-lt128-via-then-first-lt128 w ↦ rw (c.from.ensures, groups-small c.args.more c.in_ok-first.first.now w.if-first-lt128.true) refl | then-first-lt128-via-else-first-lt128+then-more-eq0 w ↦ rw (w.if-more-eq0.true, groups-last) refl ]

pub returns-in_err-high-clause-none : goal.returns-in_err-high-clause-none
returns-in_err-high-clause-none t c =
    if_none _ (NoGroups c.args.more c.args.bytes.now)
    (rw (c.in_ok-first.ensures.cases.0) (no_groups-cons c.args.more _ _ (omega arith) (omega arith) c.in_err-high.ensures.none))

pub returns-then-high-eq0-clause-none : goal.returns-then-high-eq0-clause-none
returns-then-high-eq0-clause-none t c =
    rw (c.in_ok-first.ensures.cases.0)
    (no_groups-zero c.args.more _ c.in_ok-high.count c.in_ok-high.high _ (omega arith) (omega arith) c.if-high-eq0.true c.in_ok-high.ensures.value)

pub returns-in_err-shifted-clause-none : goal.returns-in_err-shifted-clause-none
returns-in_err-shifted-clause-none t c =
    if_none _ (NoGroups c.args.more c.args.bytes.now)
    (rw (c.in_ok-first.ensures.cases.0)
    (no_groups-over c.args.more _ c.in_ok-high.count c.in_ok-high.high _ (omega arith) (omega arith) (omega arith) c.in_ok-high.ensures.value))

pub returns-clause-value : goal.returns-clause-value
returns-clause-value t c =
    let joined = groups-join c.args.more c.in_ok-first.first.now c.in_ok-high.high (omega arith) (omega arith) (omega arith) c.if-high-eq0.false in
    rw (c.in_ok-shifted.ensures.1, c.from-2.ensures, ← joined, c.in_ok-first.ensures.cases.0, ← c.in_ok-high.ensures.value, add-one) refl

pub returns-clause-length : goal.returns-clause-length
returns-clause-length t c =
    let joined = groups-join c.args.more c.in_ok-first.first.now c.in_ok-high.high (omega arith) (omega arith) (omega arith) c.if-high-eq0.false in
    rw (c.in_ok-shifted.ensures.1, c.from-2.ensures, ← joined, ← c.in_ok-high.ensures.length) (add-one _)
