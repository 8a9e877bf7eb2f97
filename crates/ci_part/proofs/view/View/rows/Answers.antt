use Rattle.std.proofs.Common.{◌≡◌, ◌++◌, List, ap, arith, get_or, is_lt, map, nat_cmp, rules, subst, take, ◌∙◌}
use Rattle.std.specs.Cmp.Lexicographic.{nat_list_cmp_total, slice_cmp}
use Rattle.std.proofs.lemmas.List.Sorted.{ranks_by, answers_always}
use Rattle.ci_rows_format.specs.declared.row.Row.{Row}
use Rattle.ci_part.specs.Covering.{live}
use Rattle.ci_part.specs.Part.{lists_of}
use Rattle.ci_part.specs.View.{IsOneToOne}
use Rattle.ci_part.proofs.RowsLemmas.{live_rows, rows_more, rows_none}
use Rattle.ci_part.proofs.ViewLemmas.{as_many, newer_parts, part_there}
use Rattle.ci_part.proofs.view.View.rows.Goals as goal

pub loop-at-init : goal.loop-at-init
loop-at-init c = rows_none c.args.self.now c.new-all.result.items c.new-all.ensures.items

pub loop-at-preserved : goal.loop-at-preserved
loop-at-preserved c =
    let view = c.args.self.now in
    let parts = c.self.inside.parts.now in
    let at = c.loop-at.at in
    let all = c.loop-at.all.items in
    let part = lists_of (get_or parts at c.index-self-at.result) in
    let newer : map lists_of (take at parts) ≡ take at view = newer_parts view parts c.self.view_is at in
    let new : c.add_live.new.all.items ≡ all ++ live (map lists_of (take at parts)) part.rows = c.in_ok-add_live.ensures ∙ ap (λ (rows : List Row). all ++ live (map lists_of (take at parts)) rows) c.rows.ensures.rows in
    rows_more view at part (part_there view parts c.self.view_is at c.index-self-at.result c.loop-at-test.true) c.rows.ensures.order
    all c.add_live.new.all.items c.loop-at.invariant (subst (λ ps. c.add_live.new.all.items ≡ all ++ live ps part.rows) newer new)

pub returns : goal.returns
returns c =
    let sorted = c.sort_unstable_by.ensures in
    let up = sorted.sorted (λ (x y : Row). is_lt (slice_cmp nat_cmp x.path y.path)) (ranks_by nat_list_cmp_total (λ (row : Row). row.path))
    (answers_always _ (λ a r. is_lt r ≡ is_lt (slice_cmp nat_cmp a.0.now.path a.1.0.now.path)) _ (λ f a r g call. search rules)) in
    live_rows c.args.self.now (subst IsOneToOne c.self.view_is c.self.invariant) c.loop-at.at c.loop-at.all.items c.loop-at.invariant (omega (arith, as_many c.args.self.now c.self.inside.parts.now c.self.view_is, c.loop-at-test.false))
    c.sort_unstable_by.new.self.items sorted.permutation up
