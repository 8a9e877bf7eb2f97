use Rattle.std.proofs.Common.{Some, ap, sym, ◌∙◌, not}
use Rattle.ci_change.specs.Register.{Kept, waits}
use Rattle.ci_change.specs.Rows.{numbers_at, path_in, sets_aside}
use Rattle.ci_change.proofs.LoopLemmas.{path-at, places-rest, listed-next, listed-passed}
use Rattle.ci_change.proofs.register.Register.pending.Goals as goal

pub loop-number-preserved-in_ok-push : goal.loop-number-preserved-in_ok-push
loop-number-preserved-in_ok-push c =
    let next = c.in-Some.ensures.steps in
    let path = c.in_ok-copy.field-0 in
    let at = c.path_at.ensures ∙ ap Some (sym c.in_ok-copy.ensures) in
    let given_up = c.is_given_up.ensures path at ∙ ap (λ (k : Kept). sets_aside (numbers_at k.rows path) c.args.retries) c.self.view_is in
    record {
      listed = rw c.in_ok-push.ensures.items (listed-next _ _ _ next _ path at (λ n. n) (waits c.args.self.now.rows c.args.retries) _ _ c.loop-number.invariant.listed (ap not (sym given_up ∙ c.if-not-is_given_up.true)));
      places = places-rest _ _ _ next _ c.loop-number.invariant.places;
    }

pub loop-number-preserved : goal.loop-number-preserved
loop-number-preserved c =
    let next = c.in-Some.ensures.steps in
    let at = path-at _ _ _ next c.self.inside.rows.entries c.loop-number.invariant.places in
    let path = path_in c.self.inside.rows.entries c.in-Some.entry.now.place in
    let given_up = c.is_given_up.ensures path at ∙ ap (λ (k : Kept). sets_aside (numbers_at k.rows path) c.args.retries) c.self.view_is in
    record {
      listed = listed-passed _ _ _ next _ path at (λ n. n) (waits c.args.self.now.rows c.args.retries) _ _ c.loop-number.invariant.listed (ap not (sym given_up ∙ c.if-not-is_given_up.false));
      places = places-rest _ _ _ next _ c.loop-number.invariant.places;
    }
