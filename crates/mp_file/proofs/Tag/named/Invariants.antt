use Rattle.std.proofs.Common.{◌≡◌, map, drop}
use Rattle.std.specs.Prelude.{find}
use Rattle.mp_statements.specs.Parts.{is_tag}
use Rattle.mp_file.specs.Shown.{tag_of}
use Rattle.mp_file.proofs.Tag.named.Given as goal

abbrev pub invariant-turns : goal.invariant-turns
invariant-turns l = find (is_tag l.name) (map tag_of (drop l.tag-index l.tags)) ≡ find (is_tag l.name) (map tag_of l.tags)
