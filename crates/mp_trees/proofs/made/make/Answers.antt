use Rattle.std.proofs.Common.{[], ◌∷◌, sym, ap, subst}
use Rattle.mp_statements.specs.Statements.{Item}
use Rattle.mp_file.specs.Shown.{item_of}
use Rattle.mp_trees.specs.Made.{AreNext, Makes}
use Rattle.mp_trees.proofs.made.make.Goals as goal

pub make_local-requires : goal.make_local-requires
make_local-requires c =
    subst (λ (x : Item). AreNext c.args.graph.now c.args.made.now (x ∷ []) c.args.exponents.now) (ap item_of c.in-Local.is) c.requires

pub make_equation-requires : goal.make_equation-requires
make_equation-requires c =
    subst (λ (x : Item). AreNext c.args.graph.now c.args.made.now (x ∷ []) c.args.exponents.now) (ap item_of c.in-Equates.is) c.requires

pub returns-in-Local-clause-makes : goal.returns-in-Local-clause-makes
returns-in-Local-clause-makes c =
    let g = c.args.graph.now in
    subst (λ (x : Item). Makes c.make_local.result g c.args.made.now c.args.exponents.now (x ∷ []) c.make_local.new.graph c.make_local.new.made c.make_local.new.exponents) (sym (ap item_of c.in-Local.is)) c.make_local.ensures.makes

pub returns-in-Equates-clause-makes : goal.returns-in-Equates-clause-makes
returns-in-Equates-clause-makes c =
    let g = c.args.graph.now in
    subst (λ (x : Item). Makes c.make_equation.result g c.args.made.now c.args.exponents.now (x ∷ []) c.make_equation.new.graph c.make_equation.new.made c.make_equation.new.exponents) (sym (ap item_of c.in-Equates.is)) c.make_equation.ensures.makes
