use Rattle.std.proofs.Common.{map, drop, ◌+◌, ap, ◌∙◌, ◌++◌, List, ℕ}
use Rattle.std.proofs.lemmas.Result.{err_from_is_err_and}
use Rattle.mp_file.specs.Shown.{file_of}
use Rattle.mp_solutions.specs.Auxiliaries.{auxiliary_name}
use Rattle.mp_shift.specs.Called.{auxiliary_of, call}
use Rattle.mp_shift.proofs.Ahead.{got_at, each_here, map_here}
use Rattle.mp_shift.proofs.Faults.{named_turn, fault_turn, tells_turn}
use Rattle.mp_shift.proofs.naming.add_named.Goals as goal

pub returns-in_err-test-clause-err : goal.returns-in_err-test-clause-err
returns-in_err-test-clause-err c =
    let list = c.args.list.now in
    let a = c.auxiliary_at-auxiliary.result in
    let at = got_at list c.turns.place a c.auxiliary_at-auxiliary.ensures in
    let p = err_from_is_err_and c.from_residual-in_err-test.result c.from_residual-in_err-test.ensures.1 in
    rw (p.1, p.2)
    (tells_turn (file_of c.args.file.now) c.args.names.now c.as_slice-text.result.now (auxiliary_of a) (map auxiliary_of (drop c.turns.place list)) (map auxiliary_of (drop (c.turns.place + 1) list)) _ c.in_err-test.field-0.0
    (c.as_slice-text.ensures ∙ c.in_ok-put_name.ensures ∙ ap (λ (l : List ℕ). l ++ auxiliary_name c.args.names.now.endogenous (auxiliary_of a)) c.clear.ensures)
    (map_here list c.turns.place a at.0 at.1 auxiliary_of)
    c.in_err-test.ensures.err c.turns.invariant.faults)

pub turns-preserved : goal.turns-preserved
turns-preserved c =
    let list = c.args.list.now in
    let a = c.auxiliary_at-auxiliary.result in
    let i = c.turns.place in
    let at = got_at list i a c.auxiliary_at-auxiliary.ensures in
    let step = map_here list i a at.0 at.1 auxiliary_of in
    let name = c.as_slice-text.ensures ∙ c.in_ok-put_name.ensures ∙ ap (λ (l : List ℕ). l ++ auxiliary_name c.args.names.now.endogenous (auxiliary_of a)) c.clear.ensures in
    record {
      names = named_turn c.args.names.now.endogenous c.turns.found _ c.as_slice-text.result.now (auxiliary_of a) (map (call c.args.names.now.endogenous) (map auxiliary_of (drop i list))) (map (call c.args.names.now.endogenous) (map auxiliary_of (drop (i + 1) list))) _ c.in_ok-add.ensures name (ap (map (call c.args.names.now.endogenous)) step) c.turns.invariant.names;
      faults = fault_turn (file_of c.args.file.now) c.args.names.now c.as_slice-text.result.now (auxiliary_of a) (map auxiliary_of (drop i list)) (map auxiliary_of (drop (i + 1) list)) _ name step c.in_ok-test.ensures.ok c.turns.invariant.faults;
      places = (each_here list i a at.0 at.1 _ c.turns.invariant.places).1;
    }
