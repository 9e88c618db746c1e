use Rattle.std.proofs.Common.{ℕ, ℤ, ap, ◌∙◌, w8}
use Rattle.std.proofs.lemmas.Int.{to_z-of_z}
use Rattle.mp_slopes.specs.Derivative.{derivative_of}
use Rattle.mp_diff.specs.declared.measure.Size.{Size}
use Rattle.mp_diff.specs.Size.{operation, power_derivative_size, size_of, total}
use Rattle.mp_diff.proofs.Tables.{power_derivative_is}
use Rattle.mp_diff.proofs.measure.power_sizes.Goals as goal

pub returns : goal.returns
returns c = λ v k t h. record {
  node = c.operation.ensures ∙ ap (λ (n : ℕ). operation n) c.total.ensures ∙ ap (λ (s : Size). operation (total s)) h.node;
  derivative =
      c.power_derivative.ensures
      ∙ ap (λ (n : ℤ). power_derivative_size c.args.a.node n c.args.a.derivative) (to_z-of_z w8 c.args.n c.ranges.n)
      ∙ ap (λ (s : Size). power_derivative_size s c.args.n c.args.a.derivative) h.node
      ∙ ap (λ (s : Size). power_derivative_size (size_of t) c.args.n s) h.derivative
      ∙ power_derivative_is t c.args.n (derivative_of t v k);
}
