use Rattle.std.proofs.Common.{◌≡◌, ◌-◌, length}
use Rattle.ci_segment.specs.Chain.{whole_chain}
use Rattle.ci_segment.specs.Postings.{after_posting}
use Rattle.ci_segment.specs.Reading.{posting_at, postings_of}
use Rattle.ci_segment.proofs.ChainLemmas.{with_all}
use Rattle.ci_segment.proofs.postings.read_all.Given as goal

abbrev pub invariant-loop : goal.invariant-loop
invariant-loop l = with_all l.list.items (whole_chain posting_at after_posting l.before (length l.bytes - l.counter) l.rest) ≡ postings_of l.bytes
