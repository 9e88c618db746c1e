use Rattle.mp_graph_tests.proofs.evaluations.rows_have_their_values_and_faults.Given as goal

abbrev pub ghosts-rows : goal.ghosts-rows
ghosts-rows g a = record { name = a.blank.name; parts = a.blank.parts }
