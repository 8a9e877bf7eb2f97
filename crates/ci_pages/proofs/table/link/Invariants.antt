use Rattle.std.proofs.Common.{◌≡◌, length}
use Rattle.ci_pages.specs.Tables.{IsOnce}
use Rattle.ci_pages.proofs.Linking.{LinkedTo}
use Rattle.ci_pages.proofs.table.link.Given as goal

abbrev pub invariant-loop-at : goal.invariant-loop-at
invariant-loop-at l = record {
  size : length l.links.items ≡ length l.initial.links.items;
  linked : IsOnce l.chain → LinkedTo l.initial.links.items l.links.items l.chain l.at;
}
