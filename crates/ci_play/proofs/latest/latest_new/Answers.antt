use Rattle.std.proofs.Common.{◌∙◌, ◌++◌, [], ◌∷◌, ap, sym, take}
use Rattle.std.proofs.lemmas.List.{take_more}
use Rattle.std.specs.Option.{option_map}
use Rattle.ci_base.specs.declared.numbers.Seq.{Seq}
use Rattle.ci_change.specs.declared.notice.Notice.{Notice}
use Rattle.ci_change.specs.declared.notice.What.{What}
use Rattle.ci_play.specs.Latest.{latest_new}
use Rattle.ci_play.proofs.LatestLemmas.{latest-apart, latest-own, latest-silent}
use Rattle.ci_play.proofs.latest.latest_new.Goals as goal
use Rattle.ci_play.proofs.latest.latest_new.Goals.{in-Some+then-eq, in-Some+else-eq, in_default}

pub loop-event-preserved : goal.loop-event-preserved
loop-event-preserved c =
    let before = take c.loop-event.event-index c.args.events.now in
    let item = c.event-item.result in
    let path = c.args.path.now in
    let more = take_more c.args.events.now c.loop-event.event-index item c.loop-event-test.true ∙ ap (λ e. before ++ e ∷ []) (sym c.event-item.is) in
    let longer = ap (λ es. latest_new es path) more in
    let pair : Notice → Seq × What = λ n. (n.seq, n.what) in
    elim c.match-notice_in.branch [
      | in-Some+then-eq w ↦ rw w.found-is (ap (option_map pair) (longer ∙ latest-own before item path w.in-Some.notice.now w.in-Some.ensures (sym w.eq.ensures ∙ w.if-eq.true)))
      | in-Some+else-eq w ↦ rw w.found-is (ap (option_map pair) (longer ∙ latest-apart before item path w.in-Some.notice.now w.in-Some.ensures (sym w.eq.ensures ∙ w.if-eq.false)) ∙ c.loop-event.invariant)
      | in_default w ↦ rw w.found-is (ap (option_map pair) (longer ∙ latest-silent before item path w.in_default.ensures) ∙ c.loop-event.invariant)
    ]
