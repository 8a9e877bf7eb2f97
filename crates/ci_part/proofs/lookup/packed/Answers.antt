use Rattle.std.proofs.Common.{◌≡◌, List, Some, Contains, map, refl, subst, sym}
use Rattle.std.specs.Prelude.{slice_get}
use Rattle.std.proofs.lemmas.List.Elements.{All-more}
use Rattle.std.proofs.lemmas.Result.{IfOk-weaker}
use Rattle.ci_segment.specs.Segment.{Item}
use Rattle.ci_wordlist.specs.Filing.{Posting}
use Rattle.ci_part.specs.Keys.{all_keys}
use Rattle.ci_part.specs.View.{AreBeside}
use Rattle.ci_part.proofs.BesideLemmas.{beside_packed, beside_unpacked}
use Rattle.ci_part.proofs.lookup.packed.Goals as goal

pub returns-in-Some : goal.returns-in-Some
returns-in-Some g c =
    let segments = c.args.segments.now in
    let among : Contains segments c.segment-item.result = (c.loop-segment.segment-index, c.loop-segment-test.true, sym c.segment-item.is) in
    IfOk-weaker c.postings_at.result (λ (ps : List Posting). slice_get (map (λ (item : Item). item.1) c.segment-item.result) c.in-Some.at ≡ Some ps) (λ (ps : List Posting). AreBeside c.args.key.now (all_keys segments) ps)
    (λ ps second. beside_packed segments c.args.key.now c.requires c.segment-item.result c.in-Some.at ps among c.in-Some.ensures.found second) c.postings_at.ensures

pub loop-segment-preserved : goal.loop-segment-preserved
loop-segment-preserved g c =
    let P = λ (segment : List Item). ¬ Contains (map (λ (item : Item). item.0) segment) c.args.key.now in
    All-more P c.args.segments.now c.loop-segment.segment-index c.segment-item.result c.loop-segment-test.true c.loop-segment.invariant (subst P c.segment-item.is (c.in-None.ensures.none refl))

pub returns : goal.returns
returns g c =
    subst (AreBeside c.args.key.now (all_keys c.args.segments.now)) (sym c.no_postings.ensures)
    (beside_unpacked c.args.segments.now c.args.key.now c.requires c.loop-segment.segment-index c.loop-segment-test.false c.loop-segment.invariant)
