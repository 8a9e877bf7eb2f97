use Rattle.ci_index_rows.proofs.view.postings_told.Given as goal

abbrev pub ghosts-found_in : goal.ghosts-found_in
ghosts-found_in a = record { name = a.blank.name; parts = a.blank.parts }
