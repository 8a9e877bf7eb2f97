use Rattle.std.proofs.Common.{sym, ap, slice_get, ◌∙◌}
use Rattle.std.specs.Map.{keys_of}
use Rattle.ci_change.specs.Rows.{none}
use Rattle.ci_change.proofs.RowsLemmas.{slice_get-position, slice_get-last, none_from_test, insert_entry-last, KeepsRows-push}
use Rattle.ci_change.proofs.rows.place_of.Goals as goal

pub returns-in-Some-clause-place : goal.returns-in-Some-clause-place
returns-in-Some-clause-place c = slice_get-position _ _ _ (sym c.in-Some.ensures.index)

pub returns-in_ok-insert-in-None-clause-place : goal.returns-in_ok-insert-in-None-clause-place
returns-in_ok-insert-in-None-clause-place c =
    let rows = c.args.rows.now in
    let added = c.in_ok-insert-in-None.ensures.entries ∙ insert_entry-last rows _ _ c.in_ok-copy-in-None.ensures (none_from_test _ c.in-None.ensures.found) in
    ap (λ es. slice_get (keys_of es) c.len-place.result) added ∙ ap (slice_get _) c.len-place.ensures.len ∙ slice_get-last rows.entries c.args.path.now none

pub returns-in_ok-insert-in-None-clause-keeps : goal.returns-in_ok-insert-in-None-clause-keeps
returns-in_ok-insert-in-None-clause-keeps c =
    let rows = c.args.rows.now in
    let added = c.in_ok-insert-in-None.ensures.entries ∙ insert_entry-last rows _ _ c.in_ok-copy-in-None.ensures (none_from_test _ c.in-None.ensures.found) in
    rw added (KeepsRows-push rows.entries c.args.path.now)
