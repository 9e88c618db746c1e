use Rattle.std.proofs.Common.{Err, slice_get, sym, ap, ◌∙◌}
use Rattle.mp_base.specs.declared.kinds.MacroKind.TheVariants as k
use Rattle.mp_directive.specs.Shown.{nodes_of}
use Rattle.mp_directive.proofs.Stacks.{whole-open}
use Rattle.mp_directive.proofs.groups.Reader.whole.Goals as goal

pub returns : goal.returns
returns c =
    whole-open c.args.self.groups c.in-Some.outermost.now (nodes_of c.args.self.nodes) (c.in-Some.ensures.value ∙ ap (λ l. slice_get l 0) c.as_slice.ensures)
    ∙ ap (λ l. Err (record { kind = k.Unbalanced; line = l })) (sym c.opener_of.ensures)
