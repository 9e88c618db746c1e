use Rattle.mp_number_tests.proofs.points.operations_round_as_defined.Given as goal

abbrev pub ghosts-counted : goal.ghosts-counted
ghosts-counted g a = record { name = a.blank.name; parts = a.blank.parts }
