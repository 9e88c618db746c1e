use Rattle.std.proofs.Common.{◌++◌, append-nil, Some, None, sym, ap, ◌∙◌}
use Rattle.std.specs.Prelude.{find}
use Rattle.mp_file.specs.Shown.{expr_of}
use Rattle.mp_declared.specs.Points.{InModel, reads}
use Rattle.mp_decl.specs.Search.{sought_by}
use Rattle.mp_decl.proofs.FindTurns.{pair_found}
use Rattle.mp_decl.proofs.ReadsLaws.{reads-sides, reads-right, reads-right_none}
use Rattle.mp_decl.proofs.find.find_in_sides.Goals as goal

pub returns-in-None : goal.returns-in-None
returns-in-None c =
    let left = reads InModel (expr_of c.args.equation.now.left) in
    c.find_in-point.ensures
    ∙ ap (find (sought_by c.args.search.now)) (sym (reads-sides c.args.equation.now ∙ ap (λ l. left ++ l) (reads-right c.args.equation.now.right None c.in-None.is ∙ reads-right_none) ∙ append-nil left))

pub returns-in-Some : goal.returns-in-Some
returns-in-Some c =
    pair_found (sought_by c.args.search.now) _ _ _ _ _ _ (reads-sides c.args.equation.now) c.find_in-point.ensures
    (c.find_in.ensures ∙ ap (find (sought_by c.args.search.now)) (sym (reads-right c.args.equation.now.right (Some c.in-Some.right) c.in-Some.is))) c.first_of.ensures
