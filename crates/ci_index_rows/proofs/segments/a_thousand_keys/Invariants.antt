use Rattle.ci_index_rows.proofs.segments.a_thousand_keys.Given as goal

abbrev pub ghosts-count_found : goal.ghosts-count_found
ghosts-count_found g a = record { name = a.blank.name; parts = a.blank.parts }
