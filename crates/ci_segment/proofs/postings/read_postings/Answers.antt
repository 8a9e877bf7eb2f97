use Rattle.std.proofs.Common.{◌≡◌, arith, sym, subst, List}
use Rattle.ci_segment.specs.Postings.{IsSpelledPostings, Posting, postings_bytes}
use Rattle.ci_segment.proofs.PostingsLemmas.{are_postings, postings_take}
use Rattle.ci_segment.proofs.ReadLemmas.{not_postings}
use Rattle.ci_segment.proofs.postings.read_postings.Goals as goal

pub new-requires : goal.new-requires
new-requires c =
    are_postings c.in-Ok.list.items (postings_take c.args.bytes.now c.in-Ok.list.items (λ i. omega (arith, c.type_inv.bytes i)) c.in-Ok.ensures).0

pub returns-in-Ok-clause-ok : goal.returns-in-Ok-clause-ok
returns-in-Ok-clause-ok c =
    subst (λ (postings : List Posting). IsSpelledPostings postings × (postings_bytes postings ≡ c.args.bytes.now)) (sym c.new.ensures)
    (postings_take c.args.bytes.now c.in-Ok.list.items (λ i. omega (arith, c.type_inv.bytes i)) c.in-Ok.ensures)

pub returns-in-Err-clause-bad : goal.returns-in-Err-clause-bad
returns-in-Err-clause-bad c = not_postings c.args.bytes.now c.in-Err.fault c.in-Err.ensures
