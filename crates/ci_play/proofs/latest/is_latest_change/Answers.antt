use Rattle.std.proofs.Common.{◌∙◌, Some, ap}
use Rattle.ci_base.specs.declared.numbers.Seq.{Seq}
use Rattle.ci_change.specs.declared.notice.What.{What}
use Rattle.ci_play.proofs.LatestLemmas.{as_latest}
use Rattle.ci_play.proofs.latest.is_latest_change.Goals as goal

pub returns-in-Some-default-Changed : goal.returns-in-Some-default-Changed
returns-in-Some-default-Changed c =
    let latest = c.in-Some-default-Changed in
    as_latest c.args.events.now c.args.path.now latest.found c.args.seq
    (latest.ensures ∙ ap (λ (w : What). let p : Seq × What = (latest.found, w) in Some p) latest.field-0-1-is) c.eq.result c.eq.ensures
