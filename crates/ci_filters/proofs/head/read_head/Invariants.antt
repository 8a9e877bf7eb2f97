use Rattle.std.proofs.Common.{◌≡◌, ◌++◌, length}
use denote.Shadow.{shadow}
use denote.Text.{Utf8}
use Rattle.ci_filters.specs.Head.{behind_head, ended_lines, head_items}
use Rattle.ci_filters.proofs.head.read_head.Given as goal

abbrev pub invariant-lines : goal.invariant-lines
invariant-lines l =
    shadow (Utf8 l.rest)
    × (l.items.items ++ head_items (ended_lines l.rest) ≡ l.initial.items.items ++ head_items (ended_lines l.text))
    × (behind_head l.rest ≡ behind_head l.text)

abbrev pub decreases-lines : goal.decreases-lines
decreases-lines l = length l.rest
