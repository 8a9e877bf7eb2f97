use Rattle.std.proofs.Common.{◌≡◌, ◌<◌, length, ◌∙◌}
use Rattle.std.proofs.lemmas.Result.{IfOk-weaker}
use Rattle.ci_words.specs.Words.{IsWord}
use Rattle.ci_words.proofs.WordLemmas.{IsWord-front}
use Rattle.ci_words.proofs.words.word_of_segment.Goals as goal

pub returns-clause-each : goal.returns-clause-each
returns-clause-each c =
    let fold = c.as_str.ensures.value ∙ c.in_ok-folded.ensures in
    IfOk-weaker c.of.result (λ word. word ≡ c.cut.result.now) (λ word. 0 < length c.args.segment.now → IsWord word)
    (λ word same some. rw same (IsWord-front _ _ _ c.utf8.segment c.as_str.utf8 fold c.cut.ensures.front c.cut.ensures.within some))
    c.of.ensures
