use Rattle.std.proofs.Common.{arith, ◌∙◌, sym, ℕ, ℤ, Result, Ok, Err}
use Rattle.mp_elim.specs.declared.ElimFault.{ElimFault}
use Rattle.mp_elim.specs.Elimination.{less_product}
use Rattle.mp_turns.proofs.Each.{each_ok, each_err}
use Rattle.mp_sheet.specs.Layout.{system_of}
use Rattle.mp_sheet.proofs.Steps.{product_at}
use Rattle.mp_sheet.proofs.answers.rest_of.Goals as goal

pub returns-in-Err-clause-value : goal.returns-in-Err-clause-value
returns-in-Err-clause-value g c =
    let f : ℕ → ℤ → Result ℤ ElimFault = λ k z. less_product c.args.j z ((system_of c.args.s.now).at c.args.j k) ((system_of c.args.s.now).right k) in
    sym (sym c.loop-k.invariant.rest
    ∙ each_err f c.loop-k.k c.args.past c.loop-k.z c.in-Err.e c.loop-k-test.true
    (product_at c.args.j c.loop-k.z c.get_from.result c.right.result _ _ c.less_product.result (Err c.in-Err.e) c.get_from.ensures c.right.ensures c.less_product.ensures.value c.in-Err.is))

pub loop-k-preserved : goal.loop-k-preserved
loop-k-preserved g c =
    let f : ℕ → ℤ → Result ℤ ElimFault = λ k z. less_product c.args.j z ((system_of c.args.s.now).at c.args.j k) ((system_of c.args.s.now).right k) in
    record {
      rest = sym (each_ok f c.loop-k.k c.args.past c.loop-k.z c.in-Ok.y c.loop-k-test.true
          (product_at c.args.j c.loop-k.z c.get_from.result c.right.result _ _ c.less_product.result (Ok c.in-Ok.y) c.get_from.ensures c.right.ensures c.less_product.ensures.value c.in-Ok.is))
          ∙ c.loop-k.invariant.rest;
      cost = omega (arith, c.less_product.ensures.cost);
    }
