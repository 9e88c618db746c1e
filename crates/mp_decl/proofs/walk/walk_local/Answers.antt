use Rattle.std.proofs.Common.{[], ◌∷◌, ◌++◌}
use Rattle.mp_file.specs.Shown.{named_of, expr_of}
use Rattle.mp_declared.specs.Points.{Defines, Defined, InModel, reads}
use Rattle.mp_decl.specs.Walk.{walk}
use Rattle.mp_decl.proofs.Turns.{Walks-went, Stops-append, Stops-went, passes_on}
use Rattle.mp_decl.proofs.walk.walk_local.Goals as goal

pub returns : goal.returns
returns c =
    let old = c.args.known.now in
    let n = named_of c.args.name.now in
    let value = reads InModel (expr_of c.args.value.now) in
    Walks-went c.defined.result old old c.defined.new.self (Defines n ∷ []) (value ++ Defined n ∷ []) c.in_ok-define.ensures
    (Walks-went c.defined.result old old c.defined.new.self value (Defined n ∷ []) c.in_ok-walk_expression.ensures c.defined.ensures)

pub returns-in_err-walk_expression : goal.returns-in_err-walk_expression
returns-in_err-walk_expression c =
    let old = c.args.known.now in
    let n = named_of c.args.name.now in
    let value = reads InModel (expr_of c.args.value.now) in
    passes_on c.from_residual-in_err-walk_expression.result c.in_err-walk_expression.field-0.0 _ (walk old (Defines n ∷ (value ++ Defined n ∷ []))) c.from_residual-in_err-walk_expression.ensures.1
    (Stops-went c.in_err-walk_expression.field-0.0 old old (Defines n ∷ []) (value ++ Defined n ∷ []) c.in_ok-define.ensures
    (Stops-append c.in_err-walk_expression.field-0.0 old value (Defined n ∷ []) c.in_err-walk_expression.ensures))
