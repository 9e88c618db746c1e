use Rattle.std.proofs.Common.{ℕ, List, ◌++◌, map, ap, ◌∙◌, Option}
use Rattle.std.specs.Prelude.{find}
use Rattle.std.specs.List.{flat_map, list_any}
use Rattle.std.specs.Option.{option_or}
use Rattle.std.specs.Str.{bytes_eq}
use Rattle.mp_file.specs.Shown.{statement_of}
use Rattle.mp_declared.specs.Declared.{is_missing, read_early, assigned_in}
use Rattle.mp_decl.proofs.GivenLaws.{early_turn, early_found, given_turn, given_end, early_end, find-same}
use Rattle.mp_decl.proofs.values.unvalued_after.Goals as goal

pub turns-init : goal.turns-init
turns-init c = record {
  early = ap (λ (given : List (List ℕ)). read_early given (map statement_of c.args.statements.now)) c.requires;
  all = λ name. ap (λ (given : List (List ℕ)). list_any (bytes_eq name) (given ++ flat_map assigned_in (map statement_of c.args.statements.now))) c.requires;
}

pub turns-preserved : goal.turns-preserved
turns-preserved c = record {
  early = early_turn c.args.statements.now c.turns.statement-index c.statement-item.result c.statement-item.result c.turns.given c.turns-test.true c.statement-item.is _ c.give.new.given c.in_default.ensures c.in_ok-give.ensures c.turns.invariant.early;
  all = given_turn c.args.statements.now c.turns.statement-index c.statement-item.result c.statement-item.result c.turns.given c.turns-test.true c.statement-item.is c.give.new.given _ c.in_ok-give.ensures c.turns.invariant.all;
}

pub returns-in-Some : goal.returns-in-Some
returns-in-Some c =
    let all = flat_map assigned_in (map statement_of c.args.statements.now) in
    ap (λ (r : Option (List ℕ)). option_or r (find (is_missing all) c.args.parameters.now))
    (early_found c.args.statements.now c.turns.statement-index c.statement-item.result c.statement-item.result c.turns.given c.turns-test.true c.statement-item.is _ c.in-Some.name.now c.in-Some.ensures c.turns.invariant.early)

pub returns : goal.returns
returns c =
    let all = flat_map assigned_in (map statement_of c.args.statements.now) in
    c.first_missing.ensures
    ∙ find-same c.turns.given all c.args.parameters.now (given_end c.args.statements.now c.turns.statement-index c.turns.given all c.turns-test.false c.turns.invariant.all)
    ∙ ap (λ (r : Option (List ℕ)). option_or r (find (is_missing all) c.args.parameters.now)) (early_end c.args.statements.now c.turns.statement-index c.turns.given _ c.turns-test.false c.turns.invariant.early)
