use Rattle.mp_bench.proofs.main.Given as goal

abbrev pub ghosts-jobs : goal.ghosts-jobs
ghosts-jobs a = record { name = a.blank.name; parts = a.blank.parts }
