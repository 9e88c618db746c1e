use Rattle.std.proofs.Common.{◌-◌, length, sym, ap, ◌∙◌}
use Rattle.std.proofs.lemmas.Bool.Decides.{Decides-eqb}
use Rattle.std.proofs.lemmas.Result.{err_from_is_err_and}
use Rattle.mp_directive.specs.Directives.{content_of}
use Rattle.mp_macro.specs.States.{after_alone}
use Rattle.mp_macro.specs.Expansion.{after_nodes}
use Rattle.mp_macro.specs.Says.{state_of}
use Rattle.mp_macro.proofs.Steps.{gives-ok}
use Rattle.mp_macro.proofs.Runs.{run-none, run-next, run-stops}
use Rattle.mp_macro.proofs.expansion.expand_run.Goals as goal

pub returns-then-is_empty : goal.returns-then-is_empty
returns-then-is_empty c = λ including.
    let empty = (Decides-eqb (length c.lines.rest.now) 0).0 (sym c.is_empty.ensures ∙ c.if-is_empty.true) in
    sym (c.lines.invariant including) ∙ ap (λ ns. after_nodes including c.args.file.now ns (state_of c.lines.state)) (run-none c.lines.line (c.args.end - c.lines.line) c.lines.rest.now empty)

pub returns-in_err-placed : goal.returns-in_err-placed
returns-in_err-placed c = λ including.
    let p = err_from_is_err_and c.from_residual.result c.from_residual.ensures.1 in
    rw (p.1, p.2) (run-stops including c.args.file.now c.lines.line c.args.end c.lines.rest.now c.first_line.result.0.now c.first_line.result.1.now c.carry_line.new.state c.carry_line.result (state_of c.lines.state) _ c.in_err-placed.field-0.0 c.lines-test.true c.first_line.ensures.value c.carry_line.ensures c.in_err-placed.ensures (c.lines.invariant including))

pub lines-preserved : goal.lines-preserved
lines-preserved c = λ including.
    let made = gives-ok (λ u. state_of c.carry_line.new.state) c.carry_line.result (after_alone (content_of c.first_line.result.0.now) (state_of c.lines.state)) c.in_ok-placed.field-0 c.carry_line.ensures c.in_ok-placed.ensures in
    run-next including c.args.file.now c.lines.line c.args.end c.lines.rest.now c.first_line.result.0.now c.first_line.result.1.now (state_of c.lines.state) (state_of c.carry_line.new.state) _ c.lines-test.true c.first_line.ensures.value made (c.lines.invariant including)
