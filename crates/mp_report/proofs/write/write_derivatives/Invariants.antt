use Rattle.std.proofs.Common.{◌≡◌, ◌++◌, map, drop}
use Rattle.std.specs.List.{flat_map}
use Rattle.csv.specs.Writing.{default_writer, row_text}
use Rattle.mp_derivatives.specs.Records.{fields, records_text}
use Rattle.mp_report.specs.Shown.{derivation_of}
use Rattle.mp_report.specs.Written.{IsReady, bytes_written}
use Rattle.mp_report.proofs.write.write_derivatives.Given as goal

abbrev pub invariant-turns : goal.invariant-turns
invariant-turns l = record {
  ready : IsReady l.writer;
  written : bytes_written l.writer ++ flat_map (row_text default_writer) (map fields (map derivation_of (drop l.derivative-index l.derivative-items))) ≡ records_text l.list;
}
