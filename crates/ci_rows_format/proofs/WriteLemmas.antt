-- What is written is in the grammar.
use Rattle.std.proofs.Common.{◌≡◌, ℕ, ◌+◌, ◌^◌, ◌<◌, true, List, [], ◌∷◌, ◌++◌, length, take, get_or, All, sym, ap, ◌∙◌, subst, append_assoc, append-nil, arith}
use Rattle.std.specs.List.{AllByRecursion, flat_map}
use Rattle.std.proofs.lemmas.Grind.{flat_map-append}
use Rattle.std.proofs.lemmas.List.{take_more}
use Rattle.std.proofs.lemmas.List.Concat.{flat_map-cons}
use Rattle.std.proofs.lemmas.List.Elements.{recursion_from_All, All-append, All-from_recursion}
use Rattle.ci_base.specs.declared.numbers.PropNo.{PropNo}
use Rattle.ci_base.specs.declared.value.Value.{Value}
use Rattle.ci_props.specs.Table.{kind_of_number}
use Rattle.ci_rows_format.specs.Rows.{AreRowValues, IsHeld, IsRowValue, Rises, has_kind}

each_value : (values : List (PropNo × Value)) → AllByRecursion (λ value. has_kind (kind_of_number value.0.0) value.1 ≡ true) values
    → AllByRecursion (λ value. (value.0.0 < 2 ^ 16) × IsHeld value.1) values → AllByRecursion IsRowValue values
each_value [] kinds held = tt
each_value (v ∷ vs) kinds held = (record { property = held.0.0; kind = kinds.0; held = held.0.1 }, each_value vs kinds.1 held.1)

pub right_values : (shown values : List (PropNo × Value)) → shown ≡ values → length shown < 2 ^ 64 → AllByRecursion (λ value. has_kind (kind_of_number value.0.0) value.1 ≡ true) values
    → Rises (λ value. value.0.0) values → All (λ value. (value.0.0 < 2 ^ 16) × IsHeld value.1) shown → AreRowValues values
right_values shown values same few kinds ascend held =
    let each : All (λ value. (value.0.0 < 2 ^ 16) × IsHeld value.1) values = subst (λ vs. All (λ (value : PropNo × Value). (value.0.0 < 2 ^ 16) × IsHeld value.1) vs) same held in
    record { few = omega (arith, few, ap length same); each = each_value values kinds (recursion_from_All _ values each); ascend = ascend }

-- one value more is written
pub written_more : {X : Type 0} (spelled : X → List ℕ) (old count before after : List ℕ) (xs : List X) (i : ℕ) (x : X) → i < length xs → x ≡ get_or xs i x
    → before ≡ old ++ (count ++ flat_map spelled (take i xs)) → after ≡ before ++ spelled x → after ≡ old ++ (count ++ flat_map spelled (take (i + 1) xs))
written_more spelled old count before after xs i x within is so_far more =
    let front = flat_map spelled (take i xs) in
    let grown : flat_map spelled (take (i + 1) xs) ≡ front ++ spelled x =
    ap (flat_map spelled) (take_more xs i x within ∙ ap (λ y. take i xs ++ y ∷ []) (sym is))
    ∙ flat_map-append spelled (take i xs) (x ∷ []) ∙ ap (λ ys. front ++ ys) (flat_map-cons spelled x [] ∙ append-nil (spelled x)) in
    more ∙ ap (λ b. b ++ spelled x) so_far ∙ append_assoc old (count ++ front) (spelled x)
    ∙ ap (λ r. old ++ r) (append_assoc count front (spelled x) ∙ ap (λ f. count ++ f) (sym grown))

pub all_more : {X : Type 0} (P : X → Type 0) (xs : List X) (i : ℕ) (x : X) → i < length xs → x ≡ get_or xs i x → All P (take i xs) → P x → All P (take (i + 1) xs)
all_more P xs i x within is all one =
    subst (λ ys. All P ys) (sym (take_more xs i x within ∙ ap (λ y. take i xs ++ y ∷ []) (sym is))) (All-append P (take i xs) (x ∷ []) all (All-from_recursion P (x ∷ []) (one, tt)))
