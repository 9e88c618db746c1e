use Rattle.std.proofs.Common.{sym, ap, subst, ◌∙◌}
use Rattle.std.specs.List.{flat_map}
use Rattle.mp_statements.specs.Sides.{sides}
use Rattle.mp_file.specs.Shown.{equation_of}
use Rattle.mp_declared.specs.Points.{InModel, reads}
use Rattle.mp_decl.specs.Walk.{walked_by}
use Rattle.mp_decl.specs.Walks.{Went}
use Rattle.mp_decl.proofs.ReadWalks.{walk-reads, all-reads, all-parts}
use Rattle.mp_decl.proofs.walk.walk_sides.Goals as goal

pub returns : goal.returns
returns c =
    let known = c.args.known.now in
    let both = sides (equation_of c.args.equation.now) in
    subst (Went c.refused.result known) (ap (walked_by known) c.find_in_sides.ensures ∙ sym (walk-reads known (flat_map (reads InModel) both) (all-parts (reads InModel) both (all-reads InModel)))) c.refused.ensures
