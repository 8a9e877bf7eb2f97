use Rattle.std.proofs.Common.{◌≤◌, chars, length}
use denote.Text.{Utf8}
use denote.Shadow.{shadow}
use Rattle.ci_props.proofs.SignLemmas.{Compares}
use Rattle.ci_props.proofs.pattern.stop_of.Given as goal

abbrev pub invariant-loop-sign : goal.invariant-loop-sign
invariant-loop-sign l =
    shadow (Utf8 l.pattern) × shadow (Utf8 l.text)
    × Compares (chars l.fn.pattern) (chars l.fn.text) (chars l.pattern) (chars l.text)
    × (length l.pattern ≤ length l.fn.pattern) × (length l.text ≤ length l.fn.text)

abbrev pub decreases-loop-sign : goal.decreases-loop-sign
decreases-loop-sign l = length l.pattern
