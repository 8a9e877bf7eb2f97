use Rattle.std.proofs.Common.{◌≡◌, arith}
use Rattle.std.proofs.lemmas.Grind.{common_steps}
use Rattle.std.proofs.lemmas.Result.{IfOk-weaker}
use Rattle.ci_keys.specs.Entry.{IsWords}
use Rattle.ci_entry.specs.Words.{grouped}
use Rattle.ci_entry.proofs.GroupedLemmas.{Groups-grouped, IsWords-grouped}
use Rattle.ci_entry.proofs.group.group.Goals as goal

pub finish_all-requires : goal.finish_all-requires
finish_all-requires c =
    let all : c.loop-key.words.items ≡ grouped c.args.found.items = grind (arith, common_steps) in
    rw all (Groups-grouped c.args.found.items c.requires.ascend).places

pub returns-clause-words : goal.returns-clause-words
returns-clause-words c =
    let all : c.loop-key.words.items ≡ grouped c.args.found.items = grind (arith, common_steps) in
    IfOk-weaker c.finish_all.result (λ list. list.items ≡ c.loop-key.words.items) (λ list. IsWords list.items) (λ list same. rw (same, all) (IsWords-grouped c.args.found.items c.requires.ascend c.requires.keys)) c.finish_all.ensures
