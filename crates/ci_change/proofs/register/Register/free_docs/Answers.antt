use Rattle.std.proofs.Common.{ℕ, filter, map, take, ◌≡◌, ◌-◌, ◌<◌, List, length, not, ap, sym, ◌++◌, ◌∷◌, [], ◌∙◌, arith, length-append}
use Rattle.std.proofs.lemmas.List.Elements.{All-filter}
use Rattle.ci_change.specs.declared.notice.Notice.{Notice}
use Rattle.ci_change.specs.declared.order.Entry.{Entry}
use Rattle.ci_change.specs.Pending.{docs_of}
use Rattle.ci_change.specs.Register.{Kept, is_spare, notice_at}
use Rattle.ci_change.specs.Rows.{numbers_at}
use Rattle.ci_change.proofs.LoopLemmas.{place-next, places-rest, taken-full, taken-free, taken-passed}
use Rattle.ci_change.proofs.SkipLemmas.{walk-begins}
use Rattle.ci_change.proofs.register.Register.free_docs.Goals as goal

pub loop-number-init : goal.loop-number-init
loop-number-init c =
    let left = c.into_iter-number-iterator.ensures.into_iter_gives ∙ c.range-number-items.ensures.between tt in
    let same = walk-begins c.self.inside.rows.entries _ _ c.into_iter-number-iterator.result c.args.self.now c.self.inside.from c.self.view_is c.self.invariant.3 left in
    let spare = filter (is_spare c.args.self.now.rows) (map (notice_at c.self.inside.rows.entries) c.into_iter-number-iterator.result) in
    let all : c.args.most - 0 ≡ c.args.most = omega arith in
    record {
      room = rw c.new-docs.ensures (omega arith);
      taken = rw c.new-docs.ensures (ap (λ (n : ℕ). docs_of (take n spare)) all ∙ ap (λ (ns : List Notice). docs_of (take c.args.most ns)) same);
      places = rw left (All-filter _ (λ (e : ℕ × Entry). e.1.place < length c.self.inside.rows.entries) _ c.self.invariant.1.places);
    }

pub path_at-path-requires : goal.path_at-path-requires
path_at-path-requires c = place-next _ _ _ c.in-Some.ensures.steps _ c.loop-number.invariant.places

pub is_out-requires : goal.is_out-requires
is_out-requires c = place-next _ _ _ c.in-Some.ensures.steps _ c.loop-number.invariant.places

pub returns-then-items-most : goal.returns-then-items-most
returns-then-items-most c = taken-full _ _ _ c.args.most (ap length (sym c.items.ensures) ∙ c.if-items-most.true) c.loop-number.invariant.taken

pub loop-number-preserved-in_ok-add : goal.loop-number-preserved-in_ok-add
loop-number-preserved-in_ok-add c =
    let next = c.in-Some.ensures.steps in
    let docs = c.loop-number.docs in
    let path = c.path_at-path.result.now in
    let added = c.in_ok-add.ensures.ok ∙ ap (λ (p : List ℕ). docs ++ (p, record { 0 = c.in-Some.number.now }) ∷ []) c.in_ok-copy.ensures in
    let room : length docs < c.args.most = let full = c.if-items-most.false in let same = ap length c.items.ensures in omega arith in
    let out = c.is_out.ensures path c.path_at-path.ensures ∙ ap (λ (k : Kept). (numbers_at k.rows path).is_out) c.self.view_is in
    record {
      room = omega (arith, ap length added, length-append docs);
      taken = rw added (taken-free _ _ _ next _ _ c.path_at-path.ensures (is_spare c.args.self.now.rows) docs _ _ c.loop-number.invariant.taken room (ap not (sym out ∙ c.if-not-is_out.true)));
      places = places-rest _ _ _ next _ c.loop-number.invariant.places;
    }

pub loop-number-preserved : goal.loop-number-preserved
loop-number-preserved c =
    let next = c.in-Some.ensures.steps in
    let path = c.path_at-path.result.now in
    let out = c.is_out.ensures path c.path_at-path.ensures ∙ ap (λ (k : Kept). (numbers_at k.rows path).is_out) c.self.view_is in
    record {
      room = c.loop-number.invariant.room;
      taken = taken-passed _ _ _ next _ _ c.path_at-path.ensures (is_spare c.args.self.now.rows) c.loop-number.docs _ c.args.most c.loop-number.invariant.taken (ap not (sym out ∙ c.if-not-is_out.false));
      places = places-rest _ _ _ next _ c.loop-number.invariant.places;
    }
