use Rattle.std.proofs.Common.{subst, map, option_map}
use Rattle.std.specs.Prelude.{unwrap_or}
use Rattle.mp_solutions.specs.Laws.{IsClosed}
use Rattle.mp_model_data.specs.Shown.{Held, model_data, parameter_of, sides_of}
use Rattle.mp_model_data.proofs.Closed.{is_closed}
use Rattle.mp_model_data.proofs.model.Model.closed.Goals as goal

pub returns : goal.returns
returns c = subst (λ (h : Held). IsClosed (model_data h)) c.self.view_is (is_closed (record { graph = c.self.inside.graph; parameters = map parameter_of c.self.inside.parameters.items; equations = map sides_of c.self.inside.equations.items; source = map sides_of (unwrap_or (option_map (λ v. v.items) c.self.inside.source) c.self.inside.equations.items); variables = c.self.inside.variables }) c.whole.ensures c.readable.ensures c.self.invariant.within)
