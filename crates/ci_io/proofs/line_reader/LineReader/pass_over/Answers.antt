use Rattle.std.proofs.Common.{arith, ◌∙◌}
use Rattle.ci_io.proofs.LongLines.{BeginsTooLong-passed, IsEndless-passed, IsPassing-more, TakesAll-passed, TakesFed-passed, TakesLine-passed}
use Rattle.ci_io.proofs.line_reader.LineReader.pass_over.Goals as goal

pub loop-passed-preserved : goal.loop-passed-preserved
loop-passed-preserved g c =
    let before = c.loop-passed.invariant in
    let more = rw c.in-Some.is at c.in_ok-count.ensures.ok in
    record {
      passing = IsPassing-more _ c.loop-passed.self c.pass_some.new.self c.loop-passed.passed _ c.in-Some.count before.passing more;
      bound = omega (arith, more.bound, before.bound);
      count = c.in_ok-count.ensures.cause.kept ∙ before.count;
    }

pub returns-in-None-clause-ok : goal.returns-in-None-clause-ok
returns-in-None-clause-ok g c =
    let ended = rw c.in-None.is at c.in_ok-count.ensures.ok in
    TakesLine-passed _ c.loop-passed.self c.pass_some.new.self c.loop-passed.passed c.loop-passed.invariant.passing (omega arith) ended

pub returns-in-None-clause-fed : goal.returns-in-None-clause-fed
returns-in-None-clause-fed g c =
    let ended = rw c.in-None.is at c.in_ok-count.ensures.ok in
    TakesFed-passed _ c.loop-passed.self c.pass_some.new.self c.loop-passed.passed c.loop-passed.invariant.passing ended

pub returns-in-None-clause-last : goal.returns-in-None-clause-last
returns-in-None-clause-last g c =
    let ended = rw c.in-None.is at c.in_ok-count.ensures.ok in
    TakesAll-passed _ c.loop-passed.self c.pass_some.new.self c.loop-passed.passed c.loop-passed.invariant.passing ended

pub returns-clause-endless : goal.returns-clause-endless
returns-clause-endless g c = λ _. IsEndless-passed _ c.loop-passed.self c.loop-passed.passed c.loop-passed.invariant.passing (omega (arith, c.loop-passed.invariant.bound))

pub returns-clause-too_long : goal.returns-clause-too_long
returns-clause-too_long g c = λ _. BeginsTooLong-passed _ c.loop-passed.self c.loop-passed.passed c.loop-passed.invariant.passing (omega (arith, c.loop-passed.invariant.bound))
