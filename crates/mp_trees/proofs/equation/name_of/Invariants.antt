use Rattle.std.proofs.Common.{◌≡◌, map, drop, codes}
use Rattle.std.specs.List.{find}
use Rattle.mp_statements.specs.Parts.{is_tag}
use Rattle.mp_file.specs.Shown.{tag_of}
use Rattle.mp_trees.proofs.equation.name_of.Given as goal

abbrev pub invariant-tags : goal.invariant-tags
invariant-tags l = find (is_tag (codes "name")) (map tag_of (drop l.tag-index l.equation.tags)) ≡ find (is_tag (codes "name")) (map tag_of l.equation.tags)
