use Rattle.std.proofs.Common.{◌≡◌, ◌∙◌, [], false, Some, IsSome, refl, ap, sym, subst}
use Rattle.std.proofs.lemmas.Result.{err_from_is_err_and}
use Rattle.ci_journal.specs.declared.event.Happened.TheVariants.{Started}
use Rattle.ci_journal.specs.Tells.{event}
use Rattle.ci_link.specs.Line.{Speaking}
use Rattle.ci_link.specs.Records.{record_of, with_record}
use Rattle.ci_worker.specs.Working.{Working, is_held}
use Rattle.ci_worker.proofs.FilteringLemmas.{filtering-starves}
use Rattle.ci_worker.proofs.KeepsLemmas.{Keeps-at, Keeps-held, Keeps-started, Keeps-stopped, Keeps-taken}
use Rattle.ci_worker.proofs.StartLemmas.{started-events, started-held, started-holds, starting-stops}
use Rattle.ci_worker.proofs.StopLemmas.{refused-same}
use Rattle.ci_worker.proofs.worker.Worker.hold.Goals as goal
use Rattle.ci_worker.proofs.worker.Worker.hold.Goals.{in-Some-1, in-None-1}

pub returns-in-Err-clause-err : goal.returns-in-Err-clause-err
returns-in-Err-clause-err g c = filtering-starves c.args.by c.args.catalog.now c.requires.sound

pub returns-in-Err-clause-keeps : goal.returns-in-Err-clause-keeps
returns-in-Err-clause-keeps g c = λ first keeps.
    let worker = c.args.self.now in
    let events = c.args.catalog.now.sheet.events in
    let link : Speaking = record {
      sent = g.P.Link.Link.sent c.args.link;
      given = g.P.Link.Link.given c.args.link;
      more = g.P.Link.Link.more c.args.link;
      faults = g.P.Link.Link.faults c.args.link;
      fed = record { bytes = []; bad = false };
    } in
    let view = c.self.view_is in
    let given_back = rw c.in-Err.ensures.err at c.stop.ensures.records in
    Keeps-stopped events first (record worker { held = Some link }) _ (record {
      records = given_back ∙ ap (λ (w : Working). with_record w.records (record_of link.sent link.given link.more link.faults)) view;
      tells_on = λ some. c.stop.ensures.tells_on (subst (λ (w : Working). IsSome w.records) (sym view) some);
      faults = c.stop.ensures.faults ∙ ap (λ (w : Working). w.faults) view;
      held = ap (λ (w : Working). w.held) view ∙ c.requires.none;
      lost = ap (λ (w : Working). w.lost) view;
    }) (Keeps-taken events first worker (record worker { held = Some link }) link c.requires.none refl c.requires.fresh refl c.requires.told keeps)

pub returns-in_err-started-clause-err : goal.returns-in_err-started-clause-err
returns-in_err-started-clause-err g c =
    let p = err_from_is_err_and c.from_residual.result c.from_residual.ensures.1 in
    let refused = c.in_err-started.ensures in
    rw (p.1, p.2) (starting-stops c.args.by _ c.requires.sound c.requires.may _ refused.fixed _ refused.step.refused)

pub returns-in_err-started-clause-keeps : goal.returns-in_err-started-clause-keeps
returns-in_err-started-clause-keeps g c = λ first keeps.
    let worker = c.args.self.now in
    let events = c.args.catalog.now.sheet.events in
    let daemon = c.in-Ok.daemon in
    let taken : c.match-self.self ≡ record worker { held = Some daemon } = elim c.match-self.branch [
      | in-Some-1 w ↦ w.self-is ∙ ap (λ (v : Working). record v { held = Some daemon }) c.self.view_is
      | in-None-1 w ↦ w.self-is ∙ ap (λ (v : Working). record v { held = Some daemon }) c.self.view_is
    ] in
    let refused = c.in_err-started.ensures in
    Keeps-at first c.match-self.self events _ (refused-same c.args.catalog.now _ (event c.args.by Started) _ c.requires.sound refl refused.step.refused)
    (Keeps-held events first worker c.match-self.self _ daemon c.requires.none taken c.in-Ok.ensures.ok c.requires.fresh refl c.requires.told keeps)

pub returns-clause-ok : goal.returns-clause-ok
returns-clause-ok g c =
    let s = c.in_ok-started.ensures in
    started-held c.args.by _ c.requires.sound c.requires.may _ s.fixed s.step.ok s.step.unrefused

pub returns-clause-holds : goal.returns-clause-holds
returns-clause-holds g c =
    let worker = c.args.self.now in
    let daemon = c.in-Ok.daemon in
    let taken : c.match-self.self ≡ record worker { held = Some daemon } = elim c.match-self.branch [
      | in-Some-1 w ↦ w.self-is ∙ ap (λ (v : Working). record v { held = Some daemon }) c.self.view_is
      | in-None-1 w ↦ w.self-is ∙ ap (λ (v : Working). record v { held = Some daemon }) c.self.view_is
    ] in
    let s = c.in_ok-started.ensures in
    started-holds c.args.by _ c.requires.sound c.requires.may _ s.fixed s.step.ok s.step.unrefused worker c.match-self.self
    (ap (λ (w : Working). is_held w.held) taken) (ap (λ (w : Working). w.lost) taken) c.requires.holds

pub returns-clause-keeps : goal.returns-clause-keeps
returns-clause-keeps g c = λ first keeps.
    let worker = c.args.self.now in
    let events = c.args.catalog.now.sheet.events in
    let daemon = c.in-Ok.daemon in
    let taken : c.match-self.self ≡ record worker { held = Some daemon } = elim c.match-self.branch [
      | in-Some-1 w ↦ w.self-is ∙ ap (λ (v : Working). record v { held = Some daemon }) c.self.view_is
      | in-None-1 w ↦ w.self-is ∙ ap (λ (v : Working). record v { held = Some daemon }) c.self.view_is
    ] in
    let s = c.in_ok-started.ensures in
    Keeps-at first c.match-self.self _ _ (started-events c.args.by _ c.requires.sound c.requires.may _ s.fixed s.step.ok s.step.unrefused)
    (Keeps-started events c.args.by c.requires.may.unheld first c.match-self.self
    (Keeps-held events first worker c.match-self.self _ daemon c.requires.none taken c.in-Ok.ensures.ok c.requires.fresh refl c.requires.told keeps))
