use Rattle.std.proofs.Common.{◌≡◌, take, sum_by}
use Rattle.ci_journal.specs.Bytes.{capped, doc_bytes}
use Rattle.ci_journal.proofs.counted.begun_bytes.Given as goal

abbrev pub invariant-loop-path : goal.invariant-loop-path
invariant-loop-path l = l.len ≡ capped (sum_by doc_bytes (take l.path-index l.docs))
