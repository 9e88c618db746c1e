use Rattle.std.proofs.Common.{◌≡◌, ◌<◌, ◌++◌, map, drop, length}
use Rattle.std.specs.List.{AllByRecursion}
use Rattle.mp_file.specs.Shown.{file_of}
use Rattle.mp_shift.specs.declared.parts.Auxiliary.{Auxiliary}
use Rattle.mp_shift.specs.Called.{auxiliary_of, call}
use Rattle.mp_shift.specs.Faults.{naming_faults}
use Rattle.mp_shift.proofs.naming.add_named.Given as goal

abbrev pub invariant-turns : goal.invariant-turns
invariant-turns l = record {
  names : l.found ++ map (call l.names.endogenous) (map auxiliary_of (drop l.place l.list)) ≡ l.initial.found ++ map (call l.names.endogenous) (map auxiliary_of l.list);
  faults : naming_faults (file_of l.file) l.names (map auxiliary_of (drop l.place l.list)) ≡ naming_faults (file_of l.file) l.names (map auxiliary_of l.list);
  places : AllByRecursion (λ (a : Auxiliary). a.place < length l.names.endogenous) (drop l.place l.list);
}
