use Rattle.std.proofs.Common.{◌&&◌, Bool, arith, ap, sym, ◌∙◌}
use Rattle.std.specs.List.{list_any}
use Rattle.ci_change.specs.HandedIn.{HandedIn}
use Rattle.ci_change.specs.Pending.{has_notice_of, kinds, unfiltered, unserved, unserved_of, with_path}
use Rattle.ci_change.proofs.PendingLemmas.{here, some-is, unfiltered-has}
use Rattle.ci_change.proofs.change_list.ChangeList.unfiltered_of.Goals as goal

pub returns-then-is_set_aside : goal.returns-then-is_set_aside
returns-then-is_set_aside c =
    let path = c.args.path.now in
    let past = c.self.inside.past in
    let up = c.self.invariant.0 in
    let some : Bool = list_any (here past c.self.inside.register c.self.inside.retries up (omega arith) path) (unserved_of past.notices past.served) in
    let found = ap (λ (h : HandedIn). kinds (with_path path (unserved h))) c.self.view_is ∙ c.unserved_of.ensures in
    c.is_some.ensures ∙ some-is past c.self.inside.register c.self.inside.retries up (omega arith) path c.unserved_of.result found
    ∙ ap (λ b. b && some) (sym c.if-is_set_aside.true ∙ c.is_set_aside-is_set_aside.ensures)
    ∙ unfiltered-has past c.self.inside.register c.self.inside.retries up (omega arith) path
    ∙ ap (λ (h : HandedIn). has_notice_of path (unfiltered h)) c.self.view_is

pub returns-else-is_set_aside : goal.returns-else-is_set_aside
returns-else-is_set_aside c =
    let path = c.args.path.now in
    let past = c.self.inside.past in
    let up = c.self.invariant.0 in
    let some : Bool = list_any (here past c.self.inside.register c.self.inside.retries up (omega arith) path) (unserved_of past.notices past.served) in
    c.if-is_set_aside.false
    ∙ ap (λ b. b && some) (sym c.if-is_set_aside.false ∙ c.is_set_aside-is_set_aside.ensures)
    ∙ unfiltered-has past c.self.inside.register c.self.inside.retries up (omega arith) path
    ∙ ap (λ (h : HandedIn). has_notice_of path (unfiltered h)) c.self.view_is
