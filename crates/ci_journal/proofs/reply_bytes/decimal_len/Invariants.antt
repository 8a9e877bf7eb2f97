use Rattle.std.proofs.Common.{◌+◌, ◌≡◌, ◌^◌, ◌<◌, length, decimal}
use Rattle.ci_journal.proofs.reply_bytes.decimal_len.Given as goal

-- the digits are those that were counted, but for the first, and those of the rest
abbrev pub invariant-loop-rest : goal.invariant-loop-rest
invariant-loop-rest l = record {
  in_range : l.rest < 2 ^ 64;
  digits : length (decimal l.number) + 1 ≡ l.len + length (decimal l.rest);
}

abbrev pub decreases-loop-rest : goal.decreases-loop-rest
decreases-loop-rest l = l.rest
