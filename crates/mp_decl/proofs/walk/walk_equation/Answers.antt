use Rattle.std.proofs.Common.{[], ◌++◌}
use Rattle.std.specs.List.{flat_map}
use Rattle.mp_statements.specs.Sides.{sides}
use Rattle.mp_file.specs.Shown.{equation_of}
use Rattle.mp_declared.specs.Points.{InModel, reads, tag_points}
use Rattle.mp_decl.specs.Walk.{walk}
use Rattle.mp_decl.proofs.Turns.{Walks-went, Stops-append, passes_on}
use Rattle.mp_decl.proofs.walk.walk_equation.Goals as goal

pub returns : goal.returns
returns c =
    let known = c.args.known.now in
    let x = equation_of c.args.equation.now in
    Walks-went c.walk_sides.result known known known (tag_points [] x.tags) (flat_map (reads InModel) (sides x)) (rw c.as_slice.ensures at c.in_ok-walk_tags.ensures) c.walk_sides.ensures

pub returns-in_err-walk_tags : goal.returns-in_err-walk_tags
returns-in_err-walk_tags c =
    let known = c.args.known.now in
    let x = equation_of c.args.equation.now in
    let fault = c.in_err-walk_tags.field-0.0 in
    passes_on c.from_residual.result fault _ (walk known (tag_points [] x.tags ++ flat_map (reads InModel) (sides x))) c.from_residual.ensures.1
    (Stops-append fault known (tag_points [] x.tags) (flat_map (reads InModel) (sides x)) (rw c.as_slice.ensures at c.in_err-walk_tags.ensures))
