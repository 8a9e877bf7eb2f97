use Rattle.std.proofs.Common.{◌≡◌, ◌+◌, ◌∷◌, chars, length}
use denote.Text.{Utf8}
use denote.Shadow.{shadow}
use Rattle.ci_props.specs.Pattern.{matches}
use Rattle.ci_props.proofs.pattern.matches_end.Given as goal

abbrev pub invariant-loop-behind : goal.invariant-loop-behind
invariant-loop-behind l =
    shadow (Utf8 l.pattern) × shadow (Utf8 l.text)
    × (matches (42 ∷ chars l.fn.pattern) (chars l.fn.text) ≡ matches (42 ∷ chars l.pattern) (chars l.text))

abbrev pub decreases-loop-behind : goal.decreases-loop-behind
decreases-loop-behind l = length l.pattern + length l.text
