use Rattle.std.proofs.Common.{◌<◌, ◌^◌, ◌++◌, [], All, None, append_assoc, arith, ap, refl, subst, ◌∙◌}
use Rattle.std.proofs.lemmas.List.{take_all}
use Rattle.ci_segment.specs.Chain.{chained, reached}
use Rattle.ci_segment.specs.Postings.{ArePlaces, IsPostingAfter, Posting, after_posting, gap_bytes, places_bytes, posting_bytes}
use Rattle.ci_segment.proofs.WriteLemmas.{all_more, chain_written, doc_rises, reached_next, spelled_are}
use Rattle.ci_segment.proofs.put.spelled_postings.Goals as goal

pub loop-doc-init : goal.loop-doc-init
unfolding chained reached
loop-doc-init c = record { bytes = c.new-out.ensures.items; before = refl; small = λ k d lt. absurd (omega arith) }

pub put_gap-requires : goal.put_gap-requires
put_gap-requires c =
    doc_rises c.args.postings.now c.loop-doc.doc-index c.loop-doc.before c.loop-doc-item.result c.requires c.loop-doc-test.true c.loop-doc-item.is c.loop-doc.invariant.before

pub loop-doc-preserved : goal.loop-doc-preserved
loop-doc-preserved c =
    let x = c.loop-doc-item.result in
    record {
      bytes = chain_written posting_bytes IsPostingAfter after_posting None [] [] c.loop-doc.out.items c.put_places.new.out.items c.args.postings.now c.loop-doc.doc-index
          c.loop-doc.before x c.loop-doc-test.true c.loop-doc-item.is c.loop-doc.invariant.bytes c.loop-doc.invariant.before
          (c.in_ok-put_places.ensures.bytes ∙ ap (λ o. o ++ places_bytes x.1) c.in_ok-put_gap.ensures.bytes ∙ append_assoc c.loop-doc.out.items (gap_bytes c.loop-doc.before x.0.0) (places_bytes x.1));
      before = reached_next posting_bytes IsPostingAfter after_posting None c.loop-doc.before c.args.postings.now c.loop-doc.doc-index x c.loop-doc-test.true c.loop-doc-item.is c.loop-doc.invariant.before;
      small = all_more (λ (p : Posting). (p.0.0 < 2 ^ 32) × ArePlaces p.1) c.args.postings.now c.loop-doc.doc-index x c.loop-doc-test.true c.loop-doc-item.is c.loop-doc.invariant.small (c.put_gap.ensures.range, c.in_ok-put_places.ensures.grammar);
    }

pub returns-clause-grammar : goal.returns-clause-grammar
returns-clause-grammar c =
    spelled_are c.args.postings.now c.requires (subst (λ ps. All (λ (p : Posting). (p.0.0 < 2 ^ 32) × ArePlaces p.1) ps) (take_all c.loop-doc.doc-index c.args.postings.now c.loop-doc-test.false) c.loop-doc.invariant.small)
