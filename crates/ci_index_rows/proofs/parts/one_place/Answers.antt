use Rattle.std.proofs.Common.{◌≡◌, ◌++◌, [], ◌∷◌, List, ap, subst, sym, ◌∙◌}
use Rattle.ci_base.specs.declared.numbers.Place.{Place}
use Rattle.ci_keys.specs.Places.{IsPlaces}
use Rattle.ci_index_rows.proofs.PartsLemmas.{one_place}
use Rattle.ci_index_rows.proofs.parts.one_place.Goals as goal

pub new-requires : goal.new-requires
new-requires c =
    let place : Place = record { 0 = 1 } in
    subst IsPlaces (sym (c.in_ok-push.ensures.items ∙ ap (λ (ps : List Place). ps ++ place ∷ []) c.new-list.ensures.items)) (one_place place)
