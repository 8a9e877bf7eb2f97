use Rattle.std.proofs.Common.{◌≡◌, take}
use Rattle.ci_wordlist.specs.Filing.{kept_docs}
use Rattle.ci_wordlist.proofs.word_list.kept.Given as goal

abbrev pub invariant-loop-row : goal.invariant-loop-row
invariant-loop-row l = l.docs.items ≡ kept_docs (take l.row-index l.rows)
