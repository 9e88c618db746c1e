use Rattle.std.proofs.Common.{◌≡◌, [], map}
use Rattle.mp_file.specs.Shown.{tag_of}
use Rattle.mp_declared.specs.Points.{tag_points}
use Rattle.mp_decl.specs.Walk.{walk}
use Rattle.mp_decl.proofs.TagLaws.{walk_from}
use Rattle.mp_decl.proofs.tags.walk_tags.Given as goal

abbrev pub invariant-turns : goal.invariant-turns
invariant-turns l = walk_from l.known l.tags l.i ≡ walk l.known (tag_points [] (map tag_of l.tags))
