use Rattle.std.proofs.Common.{arith, ◌≡◌, ◌∙◌, ℕ, ◌+◌, ◌/◌, ◌^◌, ◌<◌, ◌≤◌, length, decimal, ap, length-append}
use Rattle.std.proofs.lemmas.Fmt.{decimal_step, decimal_digit, length-decimal-le, decimal_nonempty}
use Rattle.ci_journal.proofs.reply_bytes.decimal_len.Goals as goal

length-decimal_step : (n : ℕ) → 10 ≤ n → n < 2 ^ 64 → length (decimal n) ≡ length (decimal (n / 10)) + 1
length-decimal_step n low high = ap length (decimal_step n low high) ∙ length-append (decimal (n / 10)) _

length-decimal_digit : (n : ℕ) → n < 10 → length (decimal n) ≡ 1
length-decimal_digit n small = ap length (decimal_digit n small)

pub overflow_add-len : goal.overflow_add-len
overflow_add-len c =
    omega (arith, length-decimal-le 20 c.args.number (omega arith) (omega arith) (omega arith), c.loop-rest.invariant.digits)

pub loop-rest-preserved : goal.loop-rest-preserved
loop-rest-preserved c = record {
  in_range = omega (arith, c.loop-rest.invariant.in_range);
  digits = omega (arith, c.loop-rest.invariant.digits, length-decimal_step c.loop-rest.rest c.loop-rest-test.true c.loop-rest.invariant.in_range);
}

pub returns-clause-len : goal.returns-clause-len
returns-clause-len c = omega (arith, c.loop-rest.invariant.digits, length-decimal_digit c.loop-rest.rest c.loop-rest-test.false)

pub returns-clause-small : goal.returns-clause-small
returns-clause-small c =
    omega (
      arith,
      length-decimal-le 20 c.args.number (omega arith) (omega arith) (omega arith),
      c.loop-rest.invariant.digits,
      decimal_nonempty c.loop-rest.rest c.loop-rest.invariant.in_range,
    )
