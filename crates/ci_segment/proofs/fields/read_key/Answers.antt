use Rattle.std.proofs.Common.{Err, ap}
use Rattle.std.proofs.lemmas.Result.{err_from_is_err_and}
use Rattle.ci_segment.specs.SegmentReading.{fields_in}
use Rattle.ci_segment.proofs.ItemLemmas.{key_bad, key_good}
use Rattle.ci_segment.proofs.ReadLemmas.{fault_in}
use Rattle.ci_segment.proofs.fields.read_key.Goals as goal

pub returns-in_err-word-clause-bad : goal.returns-in_err-word-clause-bad
returns-in_err-word-clause-bad c =
    let p = err_from_is_err_and c.from_residual.result c.from_residual.ensures.1 in
    rw (p.1, p.2) (λ bad. key_bad c.args.at c.args.before.now (fields_in c.args.fields.now) c.word_before.result.now c.word_before.ensures (c.in_err-word.ensures.bad (ap (λ r. Err (fault_in c.in_err-word.field-0.0 r)) bad)))

pub returns-clause-ok : goal.returns-clause-ok
returns-clause-ok c =
    key_good c.args.at c.args.before.now (fields_in c.args.fields.now) c.word_before.result.now c.in_ok-word.word c.word_before.ensures c.in_ok-word.ensures.ok.0 c.in_ok-word.ensures.ok.1
    (cc (c.may_have_words.ensures, c.if-not-may_have_words.false)) (cc (c.may_stand.ensures, c.if-not-may_stand.false))
