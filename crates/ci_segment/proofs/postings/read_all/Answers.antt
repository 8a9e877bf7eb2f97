use Rattle.std.proofs.Common.{◌≡◌, ◌-◌, ◌<◌, None, length, arith}
use Rattle.std.proofs.lemmas.Result.{err_from_is_err_and}
use Rattle.ci_segment.specs.Postings.{after_posting}
use Rattle.ci_segment.specs.Reading.{posting_at, postings_of}
use Rattle.ci_segment.proofs.ChainLemmas.{whole_begins, whole_ends, whole_goes_on, whole_is_long}
use Rattle.ci_segment.proofs.ReadLemmas.{all_ends}
use Rattle.ci_segment.proofs.postings.read_all.Goals as goal

pub loop-init : goal.loop-init
unfolding postings_of
loop-init c = whole_begins posting_at after_posting c.new-list.result.items (length c.args.bytes.now - 0) (length c.args.bytes.now) None c.args.bytes.now c.new-list.ensures.items (omega arith)

pub returns-then-is_empty : goal.returns-then-is_empty
returns-then-is_empty c =
    let none : length c.loop.rest.now ≡ 0 = grind (arith, c.is_empty.ensures, c.if-is_empty.true) in
    whole_ends posting_at after_posting c.loop.list.items (length c.args.bytes.now - c.loop.counter) c.loop.before c.loop.rest.now (postings_of c.args.bytes.now) none c.loop.invariant

pub returns-in_err-doc : goal.returns-in_err-doc
returns-in_err-doc c =
    let p = err_from_is_err_and c.from_residual.result c.from_residual.ensures.1 in
    let some : 0 < length c.loop.rest.now = grind (arith, c.is_empty.ensures, c.if-is_empty.false) in
    rw (p.1, p.2) (all_ends posting_at after_posting c.in_err-doc.field-0.0 c.loop.list.items (length c.args.bytes.now) c.loop.counter c.loop.before c.loop.rest.now (postings_of c.args.bytes.now) c.loop-test.true some c.in_err-doc.ensures c.loop.invariant)

pub loop-preserved : goal.loop-preserved
loop-preserved c =
    let some : 0 < length c.loop.rest.now = grind (arith, c.is_empty.ensures, c.if-is_empty.false) in
    rw c.in_ok-push.ensures.items (whole_goes_on posting_at after_posting c.loop.list.items (length c.args.bytes.now) c.loop.counter c.loop.before c.loop.rest.now (c.in_ok-doc.doc, c.in_ok-doc.places) c.in_ok-doc.after.now (postings_of c.args.bytes.now) c.loop-test.true some c.in_ok-doc.ensures c.loop.invariant)

pub returns-then-not-is_empty : goal.returns-then-not-is_empty
returns-then-not-is_empty c =
    let some : 0 < length c.loop.rest.now = grind (arith, c.is_empty-2.ensures, c.if-not-is_empty.true) in
    whole_is_long posting_at after_posting c.loop.list.items (length c.args.bytes.now - c.loop.counter) c.loop.before c.loop.rest.now (postings_of c.args.bytes.now) (omega (arith, c.loop-test.false)) some c.loop.invariant

pub returns : goal.returns
returns c =
    let none : length c.loop.rest.now ≡ 0 = grind (arith, c.is_empty-2.ensures, c.if-not-is_empty.false) in
    whole_ends posting_at after_posting c.loop.list.items (length c.args.bytes.now - c.loop.counter) c.loop.before c.loop.rest.now (postings_of c.args.bytes.now) none c.loop.invariant
