-- A writer of records into memory.
use Rattle.std.specs.Prelude.{◌≡◌, ℕ, List, ◌++◌, false}
use Rattle.std.specs.Global.{Vec}
use Rattle.csv.specs.Writing.{default_writer, writer_setup, writer_under, writer_pending, fields_written, has_written}
use Rattle.csv.specs.declared.writer.Writer.{Writer}

-- what it has written
abbrev pub bytes_written : Writer (Vec ℕ) → List ℕ
bytes_written w = (writer_under w).items ++ writer_pending w

-- it has the default settings, and stands between two records
pub record IsReady (w : Writer (Vec ℕ)) : Type 0 where
  pub setup : writer_setup w ≡ default_writer
  pub fields : fields_written w ≡ 0
  pub clean : has_written w ≡ false
