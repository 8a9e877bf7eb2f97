use Rattle.std.proofs.Common.{arith, []}
use Rattle.std.proofs.lemmas.Grind.{common_steps}
use Rattle.std.proofs.lemmas.List.Elements.{All-append, All-cons, All-nil}
use Rattle.ci_words.specs.Words.{IsWord}
use Rattle.ci_words.proofs.WordLemmas.{alphanumeric-first}
use Rattle.ci_words.proofs.words.Words.of.Goals as goal

pub loop-segment-preserved : goal.loop-segment-preserved
loop-segment-preserved c =
    let some = alphanumeric-first _ _ _ c.in-Some.ensures.steps in
    let word = c.in_ok-word_of_segment.ensures.each some in
    record {
      made = grind (arith, common_steps);
      each = rw c.in_ok-push.ensures.items (All-append IsWord _ _ c.loop-segment.invariant.each (All-cons IsWord _ [] word (All-nil IsWord)));
    }
