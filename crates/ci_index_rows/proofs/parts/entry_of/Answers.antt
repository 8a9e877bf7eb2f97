use Rattle.std.proofs.Common.{◌≡◌, ◌≤◌, ◌++◌, [], ◌∷◌, List, ap, arith, inl, length, refl, subst, sym, ◌∙◌}
use Rattle.ci_base.specs.declared.numbers.Place.{Place}
use Rattle.ci_keys.specs.declared.key.Key.{Key}
use Rattle.ci_keys.specs.Entry.{IsValues, IsWords}
use Rattle.ci_keys.specs.Key.{IsIndexKey}
use Rattle.ci_index_rows.proofs.PartsLemmas.{no_values, one_word}
use Rattle.ci_index_rows.proofs.parts.entry_of.Goals as goal

pub new-requires-2-clause-words : goal.new-requires-2-clause-words
new-requires-2-clause-words c =
    let key : Key = record { property = record { 0 = 1 }; word = c.in_ok-of.field-0 } in
    let same : length key.word ≡ length c.args.word.now = ap (λ (w : List _). length w) c.in_ok-of.ensures in
    let some : 1 ≤ length key.word = grind (arith, same, c.is_empty.ensures, c.if-is_empty.false) in
    let short : length key.word ≤ 128 = omega (arith, same, c.if-word-gt128.false) in
    let good : IsIndexKey key = record { property = inl refl; some = some; short = short } in
    subst IsWords (sym (c.in_ok-push.ensures.items ∙ ap (λ (ws : List (Key × List Place)). ws ++ (key, c.in_ok-one_place.field-0) ∷ []) c.new-words.ensures.items))
    (one_word key c.in_ok-one_place.field-0 good c.in_ok-one_place.ensures)

pub new-requires-2-clause-values : goal.new-requires-2-clause-values
new-requires-2-clause-values c = subst IsValues (sym c.new.ensures.items) no_values
