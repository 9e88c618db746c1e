use Rattle.std.proofs.Common.{◌≡◌, map, drop}
use Rattle.mp_declared.specs.Points.{Chosen}
use Rattle.mp_file.specs.Shown.{choice_of}
use Rattle.mp_decl.specs.Walk.{walk}
use Rattle.mp_decl.proofs.walk.walk_choices.Given as goal

abbrev pub invariant-turns : goal.invariant-turns
invariant-turns l = walk l.known (map Chosen (map choice_of (drop l.choice-index l.choices))) ≡ walk l.initial.known (map Chosen (map choice_of l.choices))
