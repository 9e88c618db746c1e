use Rattle.std.proofs.Common.{◌+◌, ◌-◌, sym, ap, ◌∙◌, arith, subst, length}
use Rattle.std.proofs.lemmas.Bool.Decides.{Decides-eqb}
use Rattle.std.proofs.lemmas.Result.{err_from_is_err_and}
use Rattle.mp_base.specs.Answers.{Gives}
use Rattle.mp_directive.specs.Lines.{lines}
use Rattle.mp_directive.specs.Tree.{is_alone}
use Rattle.mp_directive.specs.Groups.{after_line}
use Rattle.mp_directive.specs.Gives.{reading_of, told_kind}
use Rattle.mp_directive.proofs.Weights.{line-grows-by, run-grows}
use Rattle.mp_directive.proofs.Turns.{turn-ok, run-turn, placed-ok, placed-err, ends}
use Rattle.mp_directive.proofs.groups.read_lines.Goals as goal

pub returns-in_err-reader-2-clause-tree : goal.returns-in_err-reader-2-clause-tree
returns-in_err-reader-2-clause-tree c =
    let p = err_from_is_err_and c.from_residual-in_err-reader-2.result c.from_residual-in_err-reader-2.ensures.1 in
    let read = subst (λ x. Gives reading_of told_kind c.after.result (after_line c.lines.line x (reading_of c.lines.reader))) c.content_of-content.ensures c.after.ensures in
    rw (p.1, p.2) (placed-err c.lines.line c.lines.rest.now c.first_line.result.0.now c.first_line.result.1.now (reading_of c.lines.reader) _ c.args.text.now (c.in_err-reader-2.ensures _ read) c.first_line.ensures.value c.lines.invariant.told)

pub lines-preserved : goal.lines-preserved
lines-preserved c =
    let read = subst (λ x. Gives reading_of told_kind c.after.result (after_line c.lines.line x (reading_of c.lines.reader))) c.content_of-content.ensures c.after.ensures in
    let step = placed-ok c.lines.line c.in_ok-reader-2.reader _ (c.in_ok-reader-2.ensures _ read) in
    record {
      counted = omega (arith, c.first_line.ensures.fewer, c.lines.invariant.counted);
      few = omega (arith, c.first_line.ensures.fewer, c.lines.invariant.few, line-grows-by c.lines.line _ (reading_of c.lines.reader) (reading_of c.in_ok-reader-2.reader) step);
      told = turn-ok c.lines.line c.lines.rest.now c.first_line.result.0.now c.first_line.result.1.now (reading_of c.lines.reader) (reading_of c.in_ok-reader-2.reader) _ c.first_line.ensures.value step c.lines.invariant.told;
    }

-- a run was read
pub lines-preserved-then-is_alone : goal.lines-preserved-then-is_alone
lines-preserved-then-is_alone c =
    let further = c.run_length-further.result.0 in
    let end = c.lines.line + 1 + further in
    let alone = sym (c.is_alone.ensures ∙ ap is_alone c.content_of-content.ensures) ∙ c.if-is_alone.true in
    let grows = run-grows c.lines.line (end - c.lines.line) (lines c.lines.rest.now) (reading_of c.lines.reader) (reading_of c.in_ok-reader.reader) c.in_ok-reader.ensures in
    record {
      counted = omega (arith, c.first_line.ensures.fewer, c.run_length-further.ensures.fewer, c.lines.invariant.counted);
      few = omega (arith, c.first_line.ensures.fewer, c.run_length-further.ensures.fewer, c.lines.invariant.few, grows);
      told = run-turn c.lines.line end further c.lines.rest.now c.first_line.result.1.now c.run_length-further.result.1.now c.first_line.result.0.now (reading_of c.lines.reader) (reading_of c.in_ok-reader.reader) _ c.first_line.ensures.value alone c.run_length-further.ensures.alone (λ i. end) c.in_ok-reader.ensures c.lines.invariant.told;
    }

pub returns-clause-tree : goal.returns-clause-tree
returns-clause-tree c = ends c.lines.line c.lines.rest.now c.args.text.now (reading_of c.lines.reader) c.whole.result ((Decides-eqb (length c.lines.rest.now) 0).0 (sym c.is_empty.ensures ∙ c.lines-test.false)) c.lines.invariant.told c.whole.ensures
