use Rattle.std.proofs.Common.{sym, ap, option_map, ◌∙◌}
use Rattle.mp_mvalue.specs.Environments.{value_in}
use Rattle.mp_mvalue.specs.Shared.{unshared}
use Rattle.mp_mvalue.proofs.Names.{value_in-named}
use Rattle.mp_mvalue.proofs.env.Env.get.Goals as goal

pub returns : goal.returns
returns c =
    ap (option_map unshared) c.get.ensures.value ∙ sym (value_in-named c.self.inside.values.entries c.args.name.now) ∙ ap (λ e. value_in e c.args.name.now) c.self.view_is
