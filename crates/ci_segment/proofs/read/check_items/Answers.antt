use Rattle.std.proofs.Common.{◌≡◌, ◌<◌, Err, ap, arith, length, refl}
use Rattle.std.proofs.lemmas.Result.{err_from_is_err_and}
use Rattle.ci_segment.proofs.CheckLemmas.{block_ends, item_ends, read_begins, read_done, read_goes_on, read_long}
use Rattle.ci_segment.proofs.read.check_items.Goals as goal

pub loop-at-init : goal.loop-at-init
loop-at-init c = read_begins c.args.count c.args.table.now c.args.bytes.now

pub returns-in_err-check_block : goal.returns-in_err-check_block
returns-in_err-check_block c =
    let p = err_from_is_err_and c.from_residual.result c.from_residual.ensures.1 in
    rw (p.1, p.2) (block_ends c.in_err-check_block.field-0.0 c.args.count c.args.table.now c.args.bytes.now c.loop-at.at c.loop-at.before c.loop-at.rest.now (λ i. omega (arith, c.type_inv.bytes i)) c.loop-at-test.true
    (λ e. c.in_err-check_block.ensures.bad (ap (λ f. Err f) e)) c.loop-at.invariant)

pub returns-in_err-key : goal.returns-in_err-key
returns-in_err-key c =
    let p = err_from_is_err_and c.from_residual-in_err-key.result c.from_residual-in_err-key.ensures.1 in
    rw (p.1, p.2) (item_ends c.in_err-key.field-0.0 c.args.count c.args.table.now c.args.bytes.now c.loop-at.at c.loop-at.before c.loop-at.rest.now c.loop-at-test.true
    (λ e. c.in_err-key.ensures.bad (ap (λ f. Err f) e)) c.loop-at.invariant)

pub loop-at-preserved : goal.loop-at-preserved
loop-at-preserved c =
    let (postings, read) = c.in_ok-key.ensures.ok in
    read_goes_on c.args.count c.args.table.now c.args.bytes.now c.loop-at.at c.loop-at.before c.loop-at.rest.now c.in_ok-key.key postings c.in_ok-key.after.now (λ i. omega (arith, c.type_inv.bytes i)) c.loop-at-test.true
    read c.in_ok-check_block.ensures.ok c.loop-at.invariant

pub returns-then-not-is_empty : goal.returns-then-not-is_empty
returns-then-not-is_empty c =
    let some : 0 < length c.loop-at.rest.now = grind (arith, c.is_empty.ensures, c.if-not-is_empty.true) in
    let all : c.loop-at.at ≡ c.args.count = omega (arith, c.loop-at-test.false, c.loop-at.auto.at-end) in
    read_long c.args.count c.args.table.now c.args.bytes.now c.loop-at.at c.loop-at.before c.loop-at.rest.now all some c.loop-at.invariant

pub returns : goal.returns
returns c =
    let none : length c.loop-at.rest.now ≡ 0 = grind (arith, c.is_empty.ensures, c.if-not-is_empty.false) in
    let all : c.loop-at.at ≡ c.args.count = omega (arith, c.loop-at-test.false, c.loop-at.auto.at-end) in
    rw (read_done c.args.count c.args.table.now c.args.bytes.now c.loop-at.at c.loop-at.before c.loop-at.rest.now all c.requires none c.loop-at.invariant) refl
