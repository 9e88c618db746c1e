use Rattle.std.proofs.Common.{◌<◌, length, map, sym, ◌∙◌, arith}
use Rattle.std.proofs.lemmas.Bool.{eqb-false}
use Rattle.std.proofs.lemmas.List.{length-map}
use Rattle.std.proofs.lemmas.Grind.{common_steps}
use Rattle.mp_canonical.proofs.Lines.{names_lines}
use Rattle.mp_print_model.proofs.model.put_names.Goals as goal

pub returns : goal.returns
returns c =
    let names = map (λ n. n.now) c.as_slice-names.result.now in
    let full = eqb-false (length c.as_slice-names.result.now) 0 (sym c.is_empty.ensures ∙ c.if-is_empty.false) in
    let some : 0 < length names = omega (arith, full, length-map c.as_slice-names.result.now (λ n. n.now)) in
    rw (← c.as_slice-names.ensures.names, names_lines c.args.kind names some) (grind (arith, common_steps))
