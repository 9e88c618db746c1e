use Rattle.std.proofs.Common.{◌+◌, refl, arith}
use Rattle.mp_expr.specs.Size.{count_of}
use Rattle.mp_derivatives.specs.Bound.{variables_of}
use Rattle.mp_derive.proofs.extent.pick_extent.Goals as goal

pub returns : goal.returns
returns c = λ t u w x f g h k.
    let left = c.sum-left.ensures (count_of t) (count_of u) f.operations g.operations in
    let right = c.sum-right.ensures (count_of w) (count_of x) h.operations k.operations in
    let all = c.sum-2.ensures (count_of t + count_of u) (count_of w + count_of x) left right in
    let one = c.sum-3.ensures (count_of t + count_of u + (count_of w + count_of x)) 1 all refl in
    record {
      variables =
          c.sum.ensures (variables_of t + variables_of u) (variables_of w + variables_of x)
          (c.sum-first.ensures (variables_of t) (variables_of u) f.variables g.variables)
          (c.sum-second.ensures (variables_of w) (variables_of x) h.variables k.variables);
      operations = omega (arith, one);
      bound = refl;
    }
