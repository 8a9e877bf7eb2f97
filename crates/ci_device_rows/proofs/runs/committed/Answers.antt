use Rattle.std.proofs.Common.{◌∙◌, ◌++◌, [], ap, append-nil, sym}
use Rattle.ci_device_rows.proofs.runs.committed.Goals as goal

-- all pages that were given out are in the run
pub commit-requires-clause-unused : goal.commit-requires-clause-unused
commit-requires-clause-unused c =
    let given = c.in_ok-pages.pages.items in
    let before = c.in_ok-pages.ensures.unused ∙ ap (λ unused. unused ++ given) c.requires.unused in
    c.in_ok-write_run.ensures.unused [] (c.in_ok-pages.ensures.once c.requires.once) (before ∙ sym (append-nil given) ∙ ap (λ pages. pages ++ []) (sym c.deref.ensures.value))
