use Rattle.std.proofs.Common.{◌≡◌, ◌++◌, arith, get_or, map, rules, subst, sym, take}
use Rattle.std.proofs.lemmas.Fn.{always_returns_same}
use Rattle.ci_wordlist.specs.Filing.{Posting}
use Rattle.ci_part.specs.Covering.{uncovered}
use Rattle.ci_part.specs.Part.{lists_of}
use Rattle.ci_part.specs.View.{ArePostingsOf}
use Rattle.ci_part.proofs.PostingsLemmas.{are_sorted, postings_more, postings_none, sorted_postings}
use Rattle.ci_part.proofs.ViewLemmas.{as_many, newer_parts, part_there}
use Rattle.ci_part.proofs.view.View.postings.Goals as goal

pub loop-at-init : goal.loop-at-init
loop-at-init g c = postings_none c.args.self.now c.args.key.now c.new-all.result.items c.new-all.ensures.items

pub loop-at-preserved : goal.loop-at-preserved
loop-at-preserved g c =
    let view = c.args.self.now in
    let parts = c.self.inside.parts.now in
    let at = c.loop-at.at in
    let all = c.loop-at.all.items in
    let part = get_or parts at c.index-self-at.result in
    let newer : map lists_of (take at parts) ≡ take at view = newer_parts view parts c.self.view_is at in
    let new : c.add_uncovered.new.all.items ≡ all ++ uncovered (take at view) c.in_ok-found.found = subst (λ ps. c.add_uncovered.new.all.items ≡ all ++ uncovered ps c.in_ok-found.found) newer c.in_ok-add_uncovered.ensures in
    postings_more view c.args.key.now at (lists_of part) (part_there view parts c.self.view_is at c.index-self-at.result c.loop-at-test.true) c.in_ok-found.ensures.order c.in_ok-found.found c.in_ok-found.ensures.beside
    all c.add_uncovered.new.all.items c.loop-at.invariant new

pub new-requires : goal.new-requires
new-requires g c =
    let up = c.in_ok-sort_by_key.ensures.sorted (λ (posting : Posting). posting.0.0) (always_returns_same _ _ _ (λ a r f called. search rules)) in
    are_sorted c.args.self.now c.args.key.now c.loop-at.at c.loop-at.all.items c.loop-at.invariant (omega (arith, as_many c.args.self.now c.self.inside.parts.now c.self.view_is, c.loop-at-test.false)) c.sort_by_key.new.self.items c.sort_by_key.ensures.permutation up

pub returns : goal.returns
returns g c =
    let up = c.in_ok-sort_by_key.ensures.sorted (λ (posting : Posting). posting.0.0) (always_returns_same _ _ _ (λ a r f called. search rules)) in
    subst (ArePostingsOf c.args.self.now c.args.key.now) (sym c.new.ensures)
    (sorted_postings c.args.self.now c.args.key.now c.loop-at.at c.loop-at.all.items c.loop-at.invariant (omega (arith, as_many c.args.self.now c.self.inside.parts.now c.self.view_is, c.loop-at-test.false)) c.sort_by_key.new.self.items c.sort_by_key.ensures.permutation up)
