use Rattle.std.proofs.Common.{◌≡◌, map, drop}
use Rattle.std.specs.Prelude.{find}
use Rattle.std.specs.List.{flat_map}
use Rattle.mp_file.specs.Shown.{further_of}
use Rattle.mp_declared.specs.Points.{reads}
use Rattle.mp_decl.specs.Shown.{reader_of}
use Rattle.mp_decl.specs.Search.{sought_by}
use Rattle.mp_decl.proofs.find.+finder.Given as goal

abbrev pub invariant-find_in_further-turns : goal.invariant-find_in_further-turns
invariant-find_in_further-turns l =
    find (sought_by l.search) (flat_map (λ x. reads (reader_of l.reader) x.operand) (map further_of (drop l.next-index l.more))) ≡ find (sought_by l.search) (flat_map (λ x. reads (reader_of l.reader) x.operand) (map further_of l.more))
