use Rattle.std.proofs.Common.{◌≡◌, ◌<◌, ◌^◌, ◌++◌, All, None, append-nil, arith, ap, get_or, length, refl, subst, sym, ◌∙◌}
use Rattle.std.proofs.lemmas.List.{get_or_default, take_all}
use Rattle.ci_base.specs.Varint.{varint}
use Rattle.ci_base.specs.declared.numbers.Place.{Place}
use Rattle.ci_segment.specs.Chain.{chained, reached}
use Rattle.ci_segment.specs.Postings.{MayFollow, after_place, place_bytes}
use Rattle.ci_segment.proofs.WriteLemmas.{all_more, chain_written, place_rises, reached_next, spelled_places}
use Rattle.ci_segment.proofs.put.put_list.Goals as goal

pub loop-place-init : goal.loop-place-init
unfolding chained reached
loop-place-init c = record {
  bytes = c.in_ok-put_count.ensures.bytes ∙ ap (λ v. c.args.out.now.items ++ v) (sym (append-nil (varint (length c.args.places.now))));
  before = refl;
  small = λ k d lt. absurd (omega arith);
}

pub put_gap-requires : goal.put_gap-requires
put_gap-requires c =
    let x = get_or c.args.places.now c.loop-place.place-index (record { 0 = 0 }) in
    place_rises c.args.places.now c.loop-place.place-index c.loop-place.before x c.requires c.loop-place-test.true
    (get_or_default c.args.places.now c.loop-place.place-index (record { 0 = 0 }) x c.loop-place-test.true) c.loop-place.invariant.before

pub loop-place-preserved : goal.loop-place-preserved
loop-place-preserved c =
    let x = get_or c.args.places.now c.loop-place.place-index (record { 0 = 0 }) in
    let is : x ≡ get_or c.args.places.now c.loop-place.place-index x = get_or_default c.args.places.now c.loop-place.place-index (record { 0 = 0 }) x c.loop-place-test.true in
    record {
      bytes = chain_written place_bytes MayFollow after_place None c.args.out.now.items (varint (length c.args.places.now)) c.loop-place.out.items c.put_gap.new.out.items c.args.places.now c.loop-place.place-index
          c.loop-place.before x c.loop-place-test.true is c.loop-place.invariant.bytes c.loop-place.invariant.before c.in_ok-put_gap.ensures.bytes;
      before = reached_next place_bytes MayFollow after_place None c.loop-place.before c.args.places.now c.loop-place.place-index x c.loop-place-test.true is c.loop-place.invariant.before;
      small = all_more (λ (p : Place). p.0 < 2 ^ 32) c.args.places.now c.loop-place.place-index x c.loop-place-test.true is c.loop-place.invariant.small c.put_gap.ensures.range;
    }

pub returns-clause-grammar : goal.returns-clause-grammar
returns-clause-grammar c =
    spelled_places c.args.places.now c.requires c.put_count.ensures.range (subst (λ ps. All (λ (p : Place). p.0 < 2 ^ 32) ps) (take_all c.loop-place.place-index c.args.places.now c.loop-place-test.false) c.loop-place.invariant.small)
