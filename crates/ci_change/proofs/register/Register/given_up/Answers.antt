use Rattle.std.proofs.Common.{Some, ap, sym, ◌∙◌}
use Rattle.ci_change.specs.Register.{Kept, is_given_up}
use Rattle.ci_change.specs.Rows.{numbers_at, path_in, sets_aside}
use Rattle.ci_change.proofs.LoopLemmas.{path-at, places-rest, listed-next, listed-passed}
use Rattle.ci_change.proofs.register.Register.given_up.Goals as goal

pub loop-entry-preserved-in_ok-push : goal.loop-entry-preserved-in_ok-push
loop-entry-preserved-in_ok-push c =
    let next = c.in-Some.ensures.steps in
    let path = c.in_ok-copy.field-0 in
    let at = c.path_at.ensures ∙ ap Some (sym c.in_ok-copy.ensures) in
    let given_up = c.is_given_up.ensures path at ∙ ap (λ (k : Kept). sets_aside (numbers_at k.rows path) c.args.retries) c.self.view_is in
    record {
      listed = rw c.in_ok-push.ensures.items (listed-next _ _ _ next _ path at (λ n. n.path) (is_given_up c.args.self.now.rows c.args.retries) _ _ c.loop-entry.invariant.listed (sym given_up ∙ c.if-is_given_up.true));
      places = places-rest _ _ _ next _ c.loop-entry.invariant.places;
    }

pub loop-entry-preserved : goal.loop-entry-preserved
loop-entry-preserved c =
    let next = c.in-Some.ensures.steps in
    let at = path-at _ _ _ next c.self.inside.rows.entries c.loop-entry.invariant.places in
    let path = path_in c.self.inside.rows.entries c.in-Some.entry.now.place in
    let given_up = c.is_given_up.ensures path at ∙ ap (λ (k : Kept). sets_aside (numbers_at k.rows path) c.args.retries) c.self.view_is in
    record {
      listed = listed-passed _ _ _ next _ path at (λ n. n.path) (is_given_up c.args.self.now.rows c.args.retries) _ _ c.loop-entry.invariant.listed (sym given_up ∙ c.if-is_given_up.false);
      places = places-rest _ _ _ next _ c.loop-entry.invariant.places;
    }
