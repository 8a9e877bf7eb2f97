use Rattle.std.proofs.Common.{◌≡◌, ◌++◌, All, map}
use Rattle.ci_keys.specs.Postings.{IsPostings}
use Rattle.ci_wordlist.proofs.filing.keys_of.Given as goal

abbrev pub invariant-loop-key : goal.invariant-loop-key
invariant-loop-key l = record {
  made : l.keys.items ++ map (λ key. (key.0, key.1.items)) l.key-iterator ≡ map (λ key. (key.0, key.1.items)) l.fn.index.entries;
  postings : All (λ key. IsPostings key.1.items) l.key-iterator;
}
