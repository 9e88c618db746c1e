use Rattle.mp_number_tests.proofs.large_systems.two_large_systems.Given as goal

abbrev pub ghosts-twice : goal.ghosts-twice
ghosts-twice g a = record { name = a.blank.name; parts = a.blank.parts }
