use Rattle.std.proofs.Common.{subst, Some, map}
use Rattle.mp_mvalue.specs.Environments.{Has}
use Rattle.mp_mvalue.specs.Shared.{unshared}
use Rattle.mp_mvalue.proofs.Names.{named, Has-updates}
use Rattle.mp_mvalue.proofs.env.Env.set.Goals as goal

pub returns-clause-ok : goal.returns-clause-ok
returns-clause-ok c =
    let new = map named c.insert.new.self.entries in
    let has = Has-updates c.in_ok-name.name.items c.self.inside.values c.insert.new.self (Some c.args.value) c.in_ok-insert.ensures.updates in
    subst (λ old. Has old new c.args.name.now (Some (unshared c.args.value))) c.self.view_is
    (subst (λ name. Has (map named c.self.inside.values.entries) new name (Some (unshared c.args.value))) c.in_ok-name.ensures.items has)
