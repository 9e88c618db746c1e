use Rattle.std.proofs.Common.{subst, None, map}
use Rattle.mp_mvalue.specs.Environments.{Has}
use Rattle.mp_mvalue.proofs.Names.{named, Has-updates}
use Rattle.mp_mvalue.proofs.env.Env.unset.Goals as goal

pub returns : goal.returns
returns c =
    subst (λ old. Has old (map named c.remove.new.self.entries) c.args.name.now None) c.self.view_is (Has-updates c.args.name.now c.self.inside.values c.remove.new.self None c.remove.ensures.updates)
