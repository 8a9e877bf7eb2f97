use Rattle.std.proofs.Common.{rules, ◌≡◌, ◌≢◌, ◌+◌, ◌-◌, Err, sym, ap, ◌∙◌, arith}
use Rattle.std.proofs.lemmas.Grind.{common_steps}
use Rattle.ci_dialect.specs.declared.fault.QueryFault.TheVariants.{OutOfMemory}
use Rattle.ci_query.specs.Reading.{read, repeated, turns}
use Rattle.ci_query.proofs.RepeatLemmas.{prepended, so_far-fault, so_far-more, so_far-none, told-behind}
use Rattle.ci_query.proofs.repetition.read_list.Goals as goal

pub returns-then-not-eat : goal.returns-then-not-eat
returns-then-not-eat g c =
    let seen = c.if-not-eat.ensures in
    told-behind c.args.first _ _
    (so_far-none c.args.sign (read g.K.Named.rule) _ c.loop-turn.list.items _ c.loop-turn._turn c.loop-turn.reader _ c.loop-turn-test.true seen.found seen.left c.loop-turn.invariant)

pub returns-in_err-one : goal.returns-in_err-one
returns-in_err-one g c =
    let rule = read g.K.Named.rule in
    let seen = c.if-not-eat.ensures in
    let fault = c.in_err-one.field-0.0 in
    let refused : fault ≢ OutOfMemory → repeated c.args.sign rule c.args.reader.now ≡ Err fault =
    λ other. told-behind c.args.first _ _
    (so_far-fault c.args.sign rule _ c.loop-turn.list.items _ c.loop-turn._turn c.loop-turn.reader _ fault c.loop-turn-test.true seen.found seen.left c.loop-turn.invariant (c.requires.reads _ _ _ c.in_err-one.ensures other)) in
    first_of (search rules, grind (arith, common_steps))

pub loop-turn-preserved : goal.loop-turn-preserved
loop-turn-preserved g c =
    let rule = read g.K.Named.rule in
    let seen = c.if-not-eat.ensures in
    so_far-more c.args.sign rule _ c.loop-turn.list.items _ c.loop-turn._turn c.loop-turn.reader _ c.in_ok-one.field-0 _ c.loop-turn-test.true seen.found seen.left c.loop-turn.invariant (c.requires.reads _ _ _ c.in_ok-one.ensures)
    ∙ ap (λ before. prepended before (turns c.args.sign rule (c.left-turn-end.result - (c.loop-turn._turn + 1)) c.one.new.arg2)) (sym c.in_ok-push-2.ensures.items)
