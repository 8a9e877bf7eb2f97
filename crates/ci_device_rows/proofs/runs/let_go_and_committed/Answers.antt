use Rattle.std.proofs.Common.{◌∙◌, arith}
use Rattle.std.proofs.lemmas.List.FromFn.{get_or-range_with_len}
use Rattle.std.specs.List.{range_with_len}
use Rattle.ci_device_rows.proofs.runs.let_go_and_committed.Goals as goal

-- the root's page is none of the log's
pub commit_said-requires-clause-held : goal.commit_said-requires-clause-held
commit_said-requires-clause-held c =
    let gone = c.let_go.ensures.marked (range_with_len 4 16) c.in_ok-volume.ensures.log in
    gone.others 3 (λ found. let there = get_or-range_with_len 4 16 found.0 3 found.1 in omega (arith, there, found.2)) ∙ c.in_ok-volume.ensures.held
