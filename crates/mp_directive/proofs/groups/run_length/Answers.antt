use Rattle.std.proofs.Common.{length, sym, ap, ◌∙◌, subst, arith}
use Rattle.mp_directive.specs.Lines.{lines}
use Rattle.mp_directive.specs.Tree.{is_alone}
use Rattle.mp_directive.specs.Groups.{AreAlone}
use Rattle.mp_directive.proofs.Joined.{drop-next}
use Rattle.mp_directive.proofs.Turns.{alone-none, alone-more}
use Rattle.mp_directive.proofs.groups.run_length.Goals as goal

pub lines-init : goal.lines-init
lines-init c =
    let same = c.split_at.ensures.back in
    record {
      few = omega (arith, ap length same);
      there = ap lines (sym same);
      alone = subst (λ r. AreAlone (lines c.args.text.now) 0 (lines r)) (sym same) (alone-none (lines c.args.text.now));
    }

pub lines-preserved : goal.lines-preserved
lines-preserved c =
    let i = c.lines.invariant in
    let first = c.first_line.result.0.now in
    let alone = sym (c.is_alone.ensures ∙ ap is_alone c.content_of.ensures) ∙ c.if-not-is_alone.false in
    record {
      few = omega (arith, i.few, c.first_line.ensures.fewer);
      there = drop-next c.lines.count (lines c.args.text.now) (lines c.first_line.result.1.now) first (i.there ∙ c.first_line.ensures.value);
      alone = alone-more (lines c.args.text.now) (lines c.lines.rest.now) (lines c.first_line.result.1.now) c.lines.count first i.alone i.there c.first_line.ensures.value alone;
    }
