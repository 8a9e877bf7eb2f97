use Rattle.std.proofs.Common.{◌≡◌, true, false, sym, ◌∙◌, rules}
use Rattle.ci_filters.proofs.NumberLemmas.{number_parsed, number_of-none}
use Rattle.ci_filters.proofs.field.number_of.Goals as goal

pub returns-then-not-is_number : goal.returns-then-not-is_number
returns-then-not-is_number c =
    let other : c.is_number.result ≡ false = search rules in
    sym (number_of-none c.args.value.now (sym c.is_number.ensures ∙ other))

pub returns : goal.returns
returns c =
    let number : c.is_number.result ≡ true = search rules in
    c.ok.ensures.value ∙ number_parsed c.args.value.now c.parse.result c.parse.ensures.value.0 (sym c.is_number.ensures ∙ number)
