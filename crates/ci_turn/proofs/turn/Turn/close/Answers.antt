use Rattle.std.proofs.Common.{◌≡◌, ◌∙◌, sym, subst, Some}
use mathlib.Core.Option.{some-injective}
use Rattle.ci_turn.proofs.Ends.{Ended, ends}
use Rattle.ci_turn.proofs.turn.Turn.close.Given as given
use Rattle.ci_turn.proofs.turn.Turn.close.Goals as goal

pub unreachable-requires : goal.unreachable-requires
unreachable-requires g c =
    let s = c.args.seat in
    let e = ends g.V.Stands.list g.V.Stands.author g.V.Stands.stands _ s.token.id s.token.me.0 _ _ s.lives c.requires.first c.requires.free c.requires.joined c.close_with-closed.ensures.values.2 in
    let found : Some e.0 ≡ c.take-value.result = some-injective (Some e.0) c.take-value.result (sym e.1 ∙ c.take-value.ensures.value) in
    absurd (cc (found ∙ c.in-None.is))

ended : (g : given.Over) (c : goal.In-Some g) → Ended g.V.Stands.list g.V.Stands.author g.V.Stands.stands (g.V.Stands.picked c.args.self.table.shared.key.value.value) c.args.seat.token.me.0 c.in-Some.value
ended g c =
    let s = c.args.seat in
    let e = ends g.V.Stands.list g.V.Stands.author g.V.Stands.stands _ s.token.id s.token.me.0 _ _ s.lives c.requires.first c.requires.free c.requires.joined c.close_with-closed.ensures.values.2 in
    let found : Some e.0 ≡ c.take-value.result = some-injective (Some e.0) c.take-value.result (sym e.1 ∙ c.take-value.ensures.value) in
    let x : e.0 ≡ c.in-Some.value = cc (found ∙ c.in-Some.is) in
    subst (Ended g.V.Stands.list g.V.Stands.author g.V.Stands.stands (g.V.Stands.picked c.args.self.table.shared.key.value.value) s.token.me.0) x e.2

pub returns-clause-fixed : goal.returns-clause-fixed
returns-clause-fixed g c = (ended g c).stands_for

pub returns-clause-begins : goal.returns-clause-begins
returns-clause-begins g c = (ended g c).begins

pub returns-clause-own : goal.returns-clause-own
returns-clause-own g c = (ended g c).own

pub returns-clause-joined : goal.returns-clause-joined
returns-clause-joined g c = (ended g c).joined

pub returns-clause-others : goal.returns-clause-others
returns-clause-others g c = (ended g c).others
