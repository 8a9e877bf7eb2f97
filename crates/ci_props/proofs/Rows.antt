-- The rows of the code's table are those of the definition.
use Rattle.std.proofs.Common.{◌≡◌, Bool, true, false, List, [], ◌∷◌, map, find, Option, Some, None, cond, refl, sym, ap, ◌∙◌}
use Rattle.std.specs.Option.{option_map}
use Rattle.ci_props.specs.declared.property.Property.{Property}
use Rattle.ci_props.specs.Table.{Row, row}

-- a row of the code, as the definition has it
abbrev pub as_row : Property → Row
as_row property = row property.0 property.1.now property.2

find-map : {Z : Type 0} (of : Row → Z) (test : Row → Bool) (xs : List Property) → option_map (λ x. of (as_row x)) (find (λ x. test (as_row x)) xs) ≡ option_map of (find test (map as_row xs))
find-map of test [] = refl
find-map of test (x ∷ xs) =
    elim (test (as_row x)) as (λ b. option_map (λ p. of (as_row p)) (cond b (Some x) (find (λ p. test (as_row p)) xs)) ≡ option_map of (cond b (Some (as_row x)) (find test (map as_row xs)))) [
      | true ↦ refl
      | false ↦ find-map of test xs
    ]

option_map-option_map : {A X Z : Type 0} (f : A → X) (g : X → Z) (o : Option A) → option_map g (option_map f o) ≡ option_map (λ a. g (f a)) o
option_map-option_map f g None = refl
option_map-option_map f g (Some a) = refl

-- what is read of the row that was found is what the definition reads of its own
pub of_found_row : {A Z : Type 0} (now : A → Property) (of : Row → Z) (test : Row → Bool) (xs : List Property) (rows : List Row) (o : Option A) (r : Option Z) → map as_row xs ≡ rows → r ≡ option_map (λ a. of (as_row (now a))) o → option_map now o ≡ find (λ x. test (as_row x)) xs → r ≡ option_map of (find test rows)
of_found_row now of test xs rows o r same read found =
    read ∙ sym (option_map-option_map now (λ x. of (as_row x)) o) ∙ ap (option_map (λ x. of (as_row x))) found ∙ find-map of test xs ∙ ap (λ ys. option_map of (find test ys)) same
