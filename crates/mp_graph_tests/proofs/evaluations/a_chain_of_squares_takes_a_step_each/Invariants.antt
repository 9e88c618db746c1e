use Rattle.mp_graph_tests.proofs.evaluations.a_chain_of_squares_takes_a_step_each.Given as goal

abbrev pub ghosts-chains : goal.ghosts-chains
ghosts-chains g a = record { name = a.blank.name; parts = a.blank.parts }
