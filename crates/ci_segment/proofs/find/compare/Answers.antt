use Rattle.std.proofs.Common.{◌≡◌, ◌-◌, ap, arith, length, ◌∙◌}
use Rattle.std.proofs.lemmas.List.{length-drop}
use Rattle.ci_segment.proofs.CommonLemmas.{common_within}
use Rattle.ci_segment.proofs.find.compare.Goals as goal

pub joined-requires : goal.joined-requires
joined-requires g c =
    let word = c.as_bytes-word.result.now in
    let left : length c.split_at.result.1.now ≡ length word - c.args.same = ap length c.split_at.ensures.back ∙ length-drop c.args.same word in
    let same_word : length word ≡ length c.args.key.now.word = ap length (c.as_bytes-word.ensures.value ∙ c.as_str.ensures) in
    omega (arith, c.requires, left, same_word, c.common-more.ensures, common_within c.args.fields.now.others.now c.split_at.result.1.now)
