use Rattle.std.proofs.Common.{◌<◌, refl}
use Rattle.std.proofs.lemmas.List.Elements.{All-filter}
use Rattle.ci_change.specs.declared.notice.Notice.{Notice}
use Rattle.ci_change.proofs.HandedInLemmas.{newest_of_past}
use Rattle.ci_change.proofs.CountLemmas.{Puts-out}
use Rattle.ci_change.proofs.OutLemmas.{IsMarked-still, own_notices}
use Rattle.ci_change.proofs.UnservedLemmas.{latest_number-lt}
use Rattle.ci_change.proofs.UpToDateLemmas.{IsUpToDate-noted}
use Rattle.ci_change.proofs.change_list.ChangeList.note.Goals as goal

pub note-requires-clause-newest : goal.note-requires-clause-newest
note-requires-clause-newest c =
    let newest = newest_of_past c.args.self.now c.self.inside.past _ _ c.args.seq.0 c.self.view_is c.requires in
    rw c.self.invariant.0.unserved (All-filter _ (λ (n : Notice). n.seq.0 < c.args.seq.0) _ newest)

pub note-requires-clause-newest_ready : goal.note-requires-clause-newest_ready
note-requires-clause-newest_ready c =
    let newest = newest_of_past c.args.self.now c.self.inside.past _ _ c.args.seq.0 c.self.view_is c.requires in
    let below = All-filter _ (λ (n : Notice). n.seq.0 < c.args.seq.0) _ newest in
    rw c.self.invariant.0.ready (All-filter _ (λ (n : Notice). n.seq.0 < c.args.seq.0) _ (All-filter _ (λ (n : Notice). n.seq.0 < c.args.seq.0) _ below))

pub note-requires-clause-latest : goal.note-requires-clause-latest
note-requires-clause-latest c some =
    let newest = newest_of_past c.args.self.now c.self.inside.past _ _ c.args.seq.0 c.self.view_is c.requires in
    rw (c.self.invariant.0.latest c.args.path.now) (latest_number-lt _ c.args.path.now c.args.seq.0 newest some)

pub note-requires-clause-own : goal.note-requires-clause-own
note-requires-clause-own c = own_notices c.self.inside.past c.self.inside.register c.self.inside.retries c.self.invariant.0 c.args.path.now

pub invariant_of-self-2 : goal.invariant_of-self-2
invariant_of-self-2 c =
    let newest = newest_of_past c.args.self.now c.self.inside.past _ _ c.args.seq.0 c.self.view_is c.requires in (
      IsUpToDate-noted c.self.inside.past c.self.inside.register c.note.new.self c.self.inside.retries c.self.invariant.0 _ newest _ c.is_to_try-joins.ensures c.in_ok-note.ensures.ok _ c.noted.ensures,
      IsMarked-still c.self.inside.register c.note.new.self c.self.inside.out.items c.self.invariant.1 (Puts-out _ _ _ _ c.in_ok-note.ensures.ok.rows refl),
    )
