use Rattle.std.proofs.Common.{◌<◌, length, map, sym, ◌∙◌, arith}
use Rattle.std.proofs.lemmas.Bool.{eqb-false}
use Rattle.std.proofs.lemmas.List.{length-map}
use Rattle.std.proofs.lemmas.Grind.{common_steps}
use Rattle.mp_model_data.specs.Shown.{sides_of, equation_in}
use Rattle.mp_canonical.proofs.Lines.{equations_lines}
use Rattle.mp_print_model.proofs.model.put_equations.Goals as goal

pub returns : goal.returns
returns c =
    let xs = map sides_of c.args.equations.now in
    let es = map (equation_in c.args.graph.now.terms) xs in
    let full = eqb-false (length c.args.equations.now) 0 (sym c.is_empty.ensures ∙ c.if-is_empty.false) in
    let some : 0 < length es = omega (arith, full, length-map c.args.equations.now sides_of, length-map xs (equation_in c.args.graph.now.terms)) in
    rw (equations_lines c.args.graph.now.names es some) (grind (arith, common_steps))
