use Rattle.std.proofs.Common.{◌≡◌, ℕ, true, List, [], ◌∷◌, IsCharBoundary, IsUtf8, refl, sym, ◌∙◌, arith}
use Rattle.std.proofs.lemmas.Bool.{both_ways, eqb-true}
use Rattle.std.proofs.lemmas.Str.{IsCharBoundary-after_ascii}
use Rattle.ci_dialect.specs.Values.{is_negative}
use Rattle.ci_query.proofs.value.unsigned.Goals as goal

boundary-minus : (text : List ℕ) → IsUtf8 text → is_negative text ≡ true → IsCharBoundary text 1
boundary-minus [] utf8 is = absurd (both_ways _ refl is)
boundary-minus (b ∷ bs) utf8 is = let minus : b ≡ 45 = eqb-true b 45 is in IsCharBoundary-after_ascii (b ∷ bs) 0 utf8 (omega arith) (omega arith)

pub range_from-requires : goal.range_from-requires
range_from-requires c some = boundary-minus c.args.text.now c.utf8.text (sym c.is_negative.ensures ∙ c.if-is_negative.true)
