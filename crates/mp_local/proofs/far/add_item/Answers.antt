use Rattle.std.proofs.Common.{sym, ap, subst, refl}
use Rattle.std.specs.List.{flat_map}
use Rattle.std.proofs.lemmas.Result.{on_ok_weaker}
use Rattle.mp_file.specs.Shown.{item_of, expr_of}
use Rattle.mp_statements.specs.Statements.{Item}
use Rattle.mp_values.specs.Shifts.{shifts_from, item_readings, with_item, readings}
use Rattle.mp_local.specs.Ends.{Spans}
use Rattle.mp_local.specs.Known.{Knows}
use Rattle.mp_local.proofs.KnownLaws.{knows_local}
use Rattle.mp_local.proofs.far.add_item.Goals as goal

pub returns-in-Local-clause-knows : goal.returns-in-Local-clause-knows
returns-in-Local-clause-knows c =
    on_ok_weaker c.set.result
    (λ put s knows spans.
    let new = record c.args.known.now { locals = c.set.new.self } in
    let is = ap item_of c.in-Local.is in
    let spanned = subst (λ (x : Item). Spans c.args.ends (flat_map (shifts_from s) (item_readings x))) is spans in
    subst (λ (x : Item). Knows new (with_item s x)) (sym is) (knows_local c.args.known.now new s c.in-Local.name.name.now (flat_map (shifts_from s) (readings 0 (expr_of c.in-Local.value))) c.args.ends refl refl put knows spanned))
    c.set.ensures

pub returns-in-Equates-clause-knows : goal.returns-in-Equates-clause-knows
returns-in-Equates-clause-knows c s knows spans =
    subst (λ (x : Item). Knows c.args.known.now (with_item s x)) (sym (ap item_of c.in-Equates.is)) knows
