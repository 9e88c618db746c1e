use Rattle.mp_number_tests.proofs.systems.small_systems.Given as goal

abbrev pub ghosts-all : goal.ghosts-all
ghosts-all g a = record { name = a.blank.name; parts = a.blank.parts }
