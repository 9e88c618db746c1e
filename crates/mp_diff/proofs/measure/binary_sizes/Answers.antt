use Rattle.std.proofs.Common.{◌+◌, ap, ◌∙◌}
use Rattle.mp_graph.specs.Op.{binary_of}
use Rattle.mp_slopes.specs.Derivative.{derivative_of}
use Rattle.mp_diff.specs.declared.measure.Size.{Size}
use Rattle.mp_diff.specs.Size.{binary_size, operation, size_of, total}
use Rattle.mp_diff.proofs.Tables.{binary_is}
use Rattle.mp_diff.proofs.measure.binary_sizes.Goals as goal

pub returns : goal.returns
returns c = λ v k t u h g. record {
  node = c.over.ensures ∙ ap (λ (s : Size). operation (total s + total c.args.b.node)) h.node ∙ ap (λ (s : Size). operation (total (size_of t) + total s)) g.node;
  derivative =
      c.binary_derivative.ensures
      ∙ ap (λ (s : Size). binary_size (binary_of c.args.op) s c.args.b.node c.args.a.derivative c.args.b.derivative) h.node
      ∙ ap (λ (s : Size). binary_size (binary_of c.args.op) (size_of t) s c.args.a.derivative c.args.b.derivative) g.node
      ∙ ap (λ (s : Size). binary_size (binary_of c.args.op) (size_of t) (size_of u) s c.args.b.derivative) h.derivative
      ∙ ap (λ (s : Size). binary_size (binary_of c.args.op) (size_of t) (size_of u) (size_of (derivative_of t v k)) s) g.derivative
      ∙ binary_is (binary_of c.args.op) t u (derivative_of t v k) (derivative_of u v k);
}
