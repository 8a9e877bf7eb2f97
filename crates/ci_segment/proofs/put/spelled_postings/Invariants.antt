use Rattle.std.proofs.Common.{◌≡◌, ◌^◌, ◌<◌, All, None, take}
use Rattle.ci_segment.specs.Chain.{chained, reached}
use Rattle.ci_segment.specs.Postings.{ArePlaces, after_posting, posting_bytes}
use Rattle.ci_segment.proofs.put.spelled_postings.Given as goal

abbrev pub invariant-loop-doc : goal.invariant-loop-doc
invariant-loop-doc l = record {
  bytes : l.out.items ≡ chained posting_bytes after_posting None (take l.doc-index l.postings);
  before : l.before ≡ reached after_posting None (take l.doc-index l.postings);
  small : All (λ posting. (posting.0.0 < 2 ^ 32) × ArePlaces posting.1) (take l.doc-index l.postings);
}
