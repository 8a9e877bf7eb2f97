use Rattle.std.proofs.Common.{◌≤◌, length, ap, sym}
use Rattle.ci_filters.proofs.HeadLemmas.{props_few}
use Rattle.ci_filters.proofs.TextLemmas.{text_of-within}
use Rattle.ci_filters.proofs.props.PropsFormat.items.Goals as goal

pub returns-in_ok-push_back-in-Some-clause-few : goal.returns-in_ok-push_back-in-Some-clause-few
returns-in_ok-push_back-in-Some-clause-few c =
    let text = c.as_str.result.now in
    let short : length text ≤ length c.args.bytes = rw c.as_str.ensures (rw (sym c.in-Some.ensures) at (text_of-within c.args.bytes)) in
    props_few c.args.bytes text _ _ _ c.contents.result (ap length c.in_ok-items-in-Some.ensures) c.in_ok-rest-in-Some.ensures.items
    c.in_ok-push_back-in-Some.ensures.items short c.requires
