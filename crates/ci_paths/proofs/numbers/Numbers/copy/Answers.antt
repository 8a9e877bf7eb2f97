use Rattle.std.proofs.Common.{sym, ap, ◌∙◌, take}
use Rattle.ci_paths.specs.Numbering.{Numbering, number_of, path_of}
use Rattle.ci_paths.proofs.Indexed.{number-bound, number_of-before, path_of-before}
use Rattle.ci_paths.proofs.Entries.{slice_get-shown}
use Rattle.ci_paths.proofs.numbers.Numbers.copy.Goals as goal

pub keep-requires-clause-number : goal.keep-requires-clause-number
keep-requires-clause-number c =
    let numbered = c.self.inside.docs in
    let at = c.loop-path.path-index in
    let e = c.loop-path-item.result in
    let there = slice_get-shown numbered c.items-path-items.result.now at e c.items-path-items.ensures c.loop-path-test.true c.loop-path-item.is in
    let so_far = c.loop-path.invariant.numbered ∙ ap (λ (n : Numbering). take at n.numbered) (sym c.self.view_is) in
    ap (λ l. path_of l e.1.0) so_far ∙ path_of-before numbered c.self.inside.places c.self.invariant at e there

pub keep-requires-clause-path : goal.keep-requires-clause-path
keep-requires-clause-path c =
    let numbered = c.self.inside.docs in
    let at = c.loop-path.path-index in
    let e = c.loop-path-item.result in
    let there = slice_get-shown numbered c.items-path-items.result.now at e c.items-path-items.ensures c.loop-path-test.true c.loop-path-item.is in
    let so_far = c.loop-path.invariant.numbered ∙ ap (λ (n : Numbering). take at n.numbered) (sym c.self.view_is) in
    ap (λ l. number_of l e.0) so_far ∙ number_of-before numbered c.self.inside.places c.self.invariant at e there

pub keep-requires-clause-bound : goal.keep-requires-clause-bound
keep-requires-clause-bound c =
    let numbered = c.self.inside.docs in
    let at = c.loop-path.path-index in
    let e = c.loop-path-item.result in
    let there = slice_get-shown numbered c.items-path-items.result.now at e c.items-path-items.ensures c.loop-path-test.true c.loop-path-item.is in
    number-bound numbered c.self.inside.places c.self.invariant at e there
