use Rattle.std.proofs.Common.{sym, subst}
use Rattle.std.proofs.lemmas.Result.{err_from_is_err_and}
use Rattle.mp_base.specs.Answers.{Gives}
use Rattle.mp_mvalue.specs.Told.{told}
use Rattle.mp_macro.specs.Says.{state_of}
use Rattle.mp_macro.proofs.Pieces.{line-err, line-piece, line-open, value-err, value-next, line-last}
use Rattle.mp_macro.proofs.plain.write_line.Goals as goal

pub returns-in_err-write : goal.returns-in_err-write
returns-in_err-write c =
    let p = err_from_is_err_and c.from_residual.result c.from_residual.ensures.1 in
    rw (p.1, p.2) (line-err (told c.in_err-write.field-0.0) c.pieces.rest.now c.in-Some.before (state_of c.pieces.state) _ (sym c.in-Some.ensures.value) c.in_err-write.ensures c.pieces.invariant)

pub returns-in_default-end_at : goal.returns-in_default-end_at
returns-in_default-end_at c =
    let left = line-piece c.pieces.rest.now c.past-after.result.now c.in-Some.before (state_of c.pieces.state) (state_of c.write.new.self) _ (sym c.in-Some.ensures.value) c.past-after.ensures c.in_ok-write.ensures c.pieces.invariant in
    rw c.refused.ensures (line-open c.past-after.result.now (state_of c.write.new.self) _ (sym c.in_default-end_at.ensures.value) left)

pub returns-in_err-write_value : goal.returns-in_err-write_value
returns-in_err-write_value c =
    let p = err_from_is_err_and c.from_residual-in_err-write_value.result c.from_residual-in_err-write_value.ensures.1 in
    let left = line-piece c.pieces.rest.now c.past-after.result.now c.in-Some.before (state_of c.pieces.state) (state_of c.write.new.self) _ (sym c.in-Some.ensures.value) c.past-after.ensures c.in_ok-write.ensures c.pieces.invariant in
    rw (p.1, p.2) (value-err (told c.in_err-write_value.field-0.0) c.past-after.result.now c.in-Some-end_at.length (state_of c.write.new.self) _ (sym c.in-Some-end_at.ensures.value) c.in_err-write_value.ensures left)

pub pieces-preserved : goal.pieces-preserved
pieces-preserved c =
    let left = line-piece c.pieces.rest.now c.past-after.result.now c.in-Some.before (state_of c.pieces.state) (state_of c.write.new.self) _ (sym c.in-Some.ensures.value) c.past-after.ensures c.in_ok-write.ensures c.pieces.invariant in
    value-next c.past-after.result.now c.past-rest.result.now c.in-Some-end_at.length (state_of c.write.new.self) (state_of c.write_value.new.state) _ (sym c.in-Some-end_at.ensures.value) c.past-rest.ensures c.in_ok-write_value.ensures left

pub returns : goal.returns
returns c =
    subst (Gives (λ u. state_of c.write_rest.new.self) told c.write_rest.result) (line-last c.pieces.rest.now (state_of c.pieces.state) _ (sym c.in_default.ensures.value) c.pieces.invariant) c.write_rest.ensures
