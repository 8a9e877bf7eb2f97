use Rattle.std.proofs.Common.{◌≡◌, ◌<◌, ◌≤◌, ◌^◌, All, ap, arith, get_or, length, map, subst, sym, take, ◌∙◌}
use Rattle.std.specs.Prelude.{IsUtf8}
use Rattle.std.specs.List.{range_with_len}
use Rattle.std.proofs.lemmas.List.{get_or_default, take_all}
use Rattle.std.proofs.lemmas.List.Elements.{recursion_from_All}
use Rattle.ci_segment.specs.Chain.{chained}
use Rattle.ci_segment.specs.Postings.{IsSpelledPostings, postings_bytes}
use Rattle.ci_segment.specs.Segment.{Item, blocks, items_bytes, offset, offsets, shared, spot_at}
use Rattle.ci_segment.proofs.BuildLemmas.{IsWritten, all_follow, item_written, near_grows, shared_told, table_grows}
use Rattle.ci_segment.proofs.CommonLemmas.{shared_within}
use Rattle.ci_segment.proofs.WriteLemmas.{all_more}
use Rattle.ci_segment.proofs.build.put_items.Goals as goal

pub loop-at-init : goal.loop-at-init
unfolding chained
loop-at-init c = record {
  bytes = c.new-items.ensures.items;
  noted = c.new-table.ensures.items;
  near = λ k d lt. (let none : length c.new-table.result.items ≡ 0 = ap length c.new-table.ensures.items in absurd (omega (arith, none, lt)));
  written = λ k d lt. absurd (omega (arith, lt));
}

pub put_item-requires : goal.put_item-requires
put_item-requires c =
    let x : Item = c.index-keys-at.result in
    let n : c.shared_at-shared.result ≡ shared (spot_at c.args.keys.now c.loop-at.at) x.0 =
    shared_told c.args.keys.now c.loop-at.at c.shared_at-shared.result x c.loop-at-test.true c.index-keys-at.is c.shared_at-shared.ensures in
    let short : c.shared_at-shared.result ≤ length x.0.word = omega (arith, n, shared_within (spot_at c.args.keys.now c.loop-at.at) x.0) in
    subst (λ (y : Item). c.shared_at-shared.result ≤ length y.0.word) c.index-keys-at.is short

pub loop-at-preserved : goal.loop-at-preserved
loop-at-preserved c =
    let keys = c.args.keys.now in
    let at = c.loop-at.at in
    let x : Item = c.index-keys-at.result in
    let x_is : x ≡ get_or keys at x = c.index-keys-at.is in
    let y : Item = get_or keys at c.index-keys-at-in-loop-at.result in
    let y_is : y ≡ x = get_or_default keys at c.index-keys-at-in-loop-at.result x c.loop-at-test.true ∙ sym x_is in
    let n : c.shared_at-shared.result ≡ shared (spot_at keys at) x.0 = shared_told keys at c.shared_at-shared.result x c.loop-at-test.true x_is c.shared_at-shared.ensures in
    let o : c.len.result ≡ length c.loop-at.items.items = grind (arith, c.len.ensures) in
    let o_is : c.len.result ≡ length (items_bytes (take at keys)) = o ∙ ap length c.loop-at.invariant.bytes in
    record {
      bytes = item_written keys at c.shared_at-shared.result x (get_or keys at x) y c.loop-at.items.items c.put_item.new.out.items c.loop-at-test.true x_is (sym x_is) y_is n c.loop-at.invariant.bytes c.in_ok-put_item.ensures.bytes;
      noted = table_grows keys at c.len.result c.loop-at.table.items c.note_block.new.table.items c.loop-at.invariant.noted o_is c.in_ok-note_block.ensures.table;
      near = near_grows at c.len.result c.loop-at.table.items c.note_block.new.table.items c.loop-at.invariant.near c.in_ok-note_block.ensures.range c.in_ok-note_block.ensures.table;
      written = all_more IsWritten keys at x c.loop-at-test.true x_is c.loop-at.invariant.written (record {
        text = subst (λ (z : Item). IsUtf8 z.0.word) (sym x_is) c.put_item.ensures.text;
        postings = subst (λ (z : Item). IsSpelledPostings z.1) y_is c.in_ok-put_item.ensures.grammar;
        few = subst (λ (z : Item). length (postings_bytes z.1) < 2 ^ 64) y_is c.in_ok-put_item.ensures.few;
      });
    }

pub returns-clause-each : goal.returns-clause-each
returns-clause-each c =
    all_follow c.args.keys.now c.requires (subst (λ ks. All IsWritten ks) (take_all c.loop-at.at c.args.keys.now c.loop-at-test.false) c.loop-at.invariant.written)

pub returns-clause-near : goal.returns-clause-near
returns-clause-near c =
    let all : c.loop-at.at ≡ length c.args.keys.now = omega (arith, c.loop-at-test.false, c.loop-at.auto.at-end) in
    let same : c.loop-at.table.items ≡ offsets c.args.keys.now = c.loop-at.invariant.noted ∙ ap (λ n. map (offset c.args.keys.now) (range_with_len 0 (blocks n))) all in
    recursion_from_All (λ o. o < 2 ^ 32) (offsets c.args.keys.now) (subst (λ t. All (λ o. o < 2 ^ 32) t) same c.loop-at.invariant.near)
