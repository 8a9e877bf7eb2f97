use Rattle.std.proofs.Common.{◌≡◌, ◌≤◌, length, take}
use Rattle.ci_pages.specs.Uses.{free_from}
use Rattle.ci_pages.proofs.finding.scan.Given as goal

abbrev pub invariant-loop-page : goal.invariant-loop-page
invariant-loop-page l = record {
  so_far : l.out.items ≡ free_from (take l.page l.pages) 0;
  count : length l.out.items ≤ l.wanted;
}
