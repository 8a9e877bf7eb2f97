use Rattle.std.proofs.Common.{◌≡◌, ◌<◌, ap, sym, ◌∙◌, not, List, ℕ, map, filter, [], length, get_or, arith}
use Rattle.std.proofs.lemmas.List.Elements.{All-filter}
use Rattle.ci_change.specs.declared.notice.Notice.{Notice}
use Rattle.ci_change.specs.declared.order.Entry.{Entry}
use Rattle.ci_change.specs.Register.{Kept, is_spare, notice_at}
use Rattle.ci_change.specs.Rows.{numbers_at, path_in}
use Rattle.ci_change.proofs.LoopLemmas.{path-at, place-next, places-rest, listed-next, listed-passed}
use Rattle.ci_change.proofs.SkipLemmas.{held-below, walk-begins}
use Rattle.ci_change.proofs.register.Register.first_spare.Goals as goal

pub loop-number-init : goal.loop-number-init
loop-number-init c =
    let left = c.into_iter-number-iterator.ensures.into_iter_gives ∙ c.range-number-items.ensures.between tt in
    let same = walk-begins c.self.inside.rows.entries _ _ c.into_iter-number-iterator.result c.args.self.now c.self.inside.from c.self.view_is c.self.invariant.3 left in
    record {
      spare = ap (map (λ (n : Notice). n.seq.0)) same;
      places = rw left (All-filter _ (λ (e : ℕ × Entry). e.1.place < length c.self.inside.rows.entries) _ c.self.invariant.1.places);
    }

pub is_out-requires : goal.is_out-requires
is_out-requires c = place-next _ _ _ c.in-Some.ensures.steps _ c.loop-number.invariant.places

pub loop-number-preserved : goal.loop-number-preserved
loop-number-preserved c =
    let next = c.in-Some.ensures.steps in
    let at = path-at _ _ _ next c.self.inside.rows.entries c.loop-number.invariant.places in
    let path = path_in c.self.inside.rows.entries c.in-Some.entry.now.place in
    let out = c.is_out.ensures path at ∙ ap (λ (k : Kept). (numbers_at k.rows path).is_out) c.self.view_is in
    record {
      spare = listed-passed _ _ _ next _ path at (λ n. n.seq.0) (is_spare c.args.self.now.rows) [] _ c.loop-number.invariant.spare (ap not (sym out ∙ c.if-not-is_out.false));
      places = places-rest _ _ _ next _ c.loop-number.invariant.places;
    }

pub returns-then-not-is_out : goal.returns-then-not-is_out
returns-then-not-is_out c =
    let next = c.in-Some.ensures.steps in
    let at = path-at _ _ _ next c.self.inside.rows.entries c.loop-number.invariant.places in
    let path = path_in c.self.inside.rows.entries c.in-Some.entry.now.place in
    let out = c.is_out.ensures path at ∙ ap (λ (k : Kept). (numbers_at k.rows path).is_out) c.self.view_is in
    let first = listed-next _ _ _ next _ path at (λ n. n.seq.0) (is_spare c.args.self.now.rows) [] _ c.loop-number.invariant.spare (ap not (sym out ∙ c.if-not-is_out.true)) in
    held-below c.self.inside.rows.entries _ _ c.args.self.now c.in-Some.number.now c.self.view_is c.self.invariant.1.ordered
    (λ y ys same. let is : c.in-Some.number.now ≡ y = ap (λ (ns : List ℕ). get_or ns 0 0) (first ∙ same) in omega (arith, is))

pub returns : goal.returns
returns c =
    let none = ap (λ (es : List (ℕ × Entry)). map (λ (n : Notice). n.seq.0) (filter (is_spare c.args.self.now.rows) (map (notice_at c.self.inside.rows.entries) es))) c.in-None.ensures.steps.0 in
    held-below c.self.inside.rows.entries _ _ c.args.self.now _ c.self.view_is c.self.invariant.1.ordered
    (λ y ys same. absurd (omega (arith, ap (λ (ns : List ℕ). length ns) (sym none ∙ c.loop-number.invariant.spare ∙ same))))
