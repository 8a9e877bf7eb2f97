use Rattle.std.proofs.Common.{◌++◌, [], sym, ap, ◌∙◌, append-nil}
use Rattle.std.specs.List.{cons_option}
use Rattle.ci_entry.proofs.KeptLemmas.{noise_is, kept_word-kept, kept_word-noise}
use Rattle.ci_entry.proofs.word.add_word.Goals as goal

pub returns-then-holds-clause-ok : goal.returns-then-holds-clause-ok
returns-then-holds-clause-ok c =
    let noisy = noise_is c.args.noise.now c.args.word c.holds.result c.holds.ensures ∙ c.if-holds.true in
    sym (ap (λ o. c.args.found.now.items ++ cons_option o []) (kept_word-noise c.args.noise.now c.args.property.0 c.args.place c.args.word noisy) ∙ append-nil c.args.found.now.items)

pub returns-clause-ok : goal.returns-clause-ok
returns-clause-ok c =
    let other = noise_is c.args.noise.now c.args.word c.holds.result c.holds.ensures ∙ c.if-holds.false in
    c.in_ok-push.ensures.items
    ∙ sym (ap (λ o. c.args.found.now.items ++ cons_option o []) (kept_word-kept c.args.noise.now c.args.property.0 c.args.place c.args.word other))
