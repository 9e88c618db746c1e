use Rattle.std.proofs.Common.{sym, ap, ◌∙◌}
use Rattle.mp_directive.specs.Directives as d
use Rattle.mp_directive.specs.Tree as t
use Rattle.mp_directive.specs.Shown.{condition_of, nodes_of, branch_of}
use Rattle.mp_directive.proofs.Trees.{When-is, Otherwise-is}
use Rattle.mp_directive.proofs.tree.parts_of.Goals as goal

pub returns-in-When : goal.returns-in-When
returns-in-When c = λ more.
    ap (λ b. branch_of b more) c.in-When.is
    ∙ When-is c.in-When.line c.in-When.condition c.in-When.body more
    ∙ ap (λ xs. t.Branch c.in-When.line (condition_of c.in-When.condition) (nodes_of xs) more) (sym c.as_slice.ensures)

pub returns-in-Otherwise : goal.returns-in-Otherwise
returns-in-Otherwise c = λ more.
    ap (λ b. branch_of b more) c.in-Otherwise.is
    ∙ Otherwise-is c.in-Otherwise.line c.in-Otherwise.body more
    ∙ ap (λ xs. t.Branch c.in-Otherwise.line d.Otherwise (nodes_of xs) more) (sym c.as_slice-in-Otherwise.ensures)
