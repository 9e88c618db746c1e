-- What stands around the operands of an operator.
use Rattle.std.specs.Prelude.{ℕ, List, [], codes, if◌then◌else◌}
use Rattle.mp_graph.specs.declared.op.BinaryOp.{BinaryOp}
use Rattle.mp_graph.specs.declared.op.BinaryOp.TheVariants.{Add, Sub, Mul, Div, Min, Max}
use Rattle.mp_graph.specs.Op.{binary_of}
use Rattle.mp_canonical.specs.Terms.{is_infix}

abbrev pub before : BinaryOp → List ℕ
before Min = codes "min("
before Max = codes "max("
before _ = []

abbrev pub between : BinaryOp → List ℕ
between Add = codes "+"
between Sub = codes "-"
between Mul = codes "*"
between Div = codes "/"
between Min = codes ","
between Max = codes ","

abbrev pub after : BinaryOp → List ℕ
after op = if is_infix (binary_of op) then [] else codes ")"
