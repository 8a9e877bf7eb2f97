use Rattle.std.proofs.Common.{◌≡◌, List, ap, map, refl, rules, take, ◌∙◌}
use Rattle.std.specs.Ordering.{eq_by_cmp}
use Rattle.std.proofs.lemmas.Fn.{dedup_same}
use Rattle.std.proofs.lemmas.List.{take_all}
use Rattle.ci_keys.specs.declared.key.Key.{Key}
use Rattle.ci_keys.specs.Key.{key_cmp}
use Rattle.ci_wordlist.specs.WordList.{WordLists}
use Rattle.ci_part.specs.Part.{lists_of}
use Rattle.ci_part.specs.declared.part.Part.{Part}
use Rattle.ci_part.proofs.RangeLemmas.{all_beginning, range_is}
use Rattle.ci_part.proofs.view.View.range.Goals as goal

pub returns : goal.returns
returns c =
    let view = c.args.self.now in
    let parts = c.self.inside.parts.now in
    let first : Key = record { property = c.args.property; word = c.in_ok-copy.field-0 } in
    let whole : map lists_of (take c.loop-part.part-index parts) ≡ view = ap (λ (ps : List Part). map lists_of ps) (take_all c.loop-part.part-index parts c.loop-part-test.false) ∙ c.self.view_is in
    range_is view c.args.property c.args.prefix.now first refl c.in_ok-copy.ensures c.loop-part.keys.items c.sort.new.self.items c.dedup_by.new.self.items
    (c.loop-part.invariant ∙ ap (λ (ps : List WordLists). all_beginning ps first) whole) c.sort.ensures.permutation c.in_ok-sort.ensures.sorted
    (dedup_same _ (eq_by_cmp key_cmp) _ (λ x y b f' x' y' k. search rules) _ _ c.dedup_by.ensures.filtered)
