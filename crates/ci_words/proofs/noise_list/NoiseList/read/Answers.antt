use Rattle.std.proofs.Common.{◌≡◌, ◌++◌}
use Rattle.std.specs.Bool.{OnTrue}
use Rattle.ci_words.specs.Words.{words}
use Rattle.ci_words.proofs.NoiseLemmas.{read_more, read_all}
use Rattle.ci_words.proofs.noise_list.NoiseList.read.Goals as goal

pub loop-first-preserved : goal.loop-first-preserved
loop-first-preserved c =
    let good : OnTrue c.in_ok-add_word.field-0 _ = c.in_ok-add_word.ensures.good in
    let added : OnTrue c.in_ok-add_word.field-0 (c.add_word.new.list.items ≡ c.loop-first.list.items ++ words c.in-Some.first.now) = c.in_ok-add_word.ensures.added in
    rw (rw c.if-not-branch.false at added)
    (read_more c.args.bytes.now c.loop-first.rest.now c.in-Some.later.now c.in-Some.first.now c.loop-first.line c.loop-first.list.items c.loop-first.invariant c.in-Some.ensures.line c.in-Some.ensures.shorter (rw c.if-not-branch.false at good))

pub returns-clause-words : goal.returns-clause-words
returns-clause-words c =
    let all = read_all c.args.bytes.now c.loop-first.rest.now c.loop-first.line c.loop-first.list.items c.loop-first.invariant c.in_default.ensures.line in
    rw all.1 at c.in_ok-of_words.ensures
