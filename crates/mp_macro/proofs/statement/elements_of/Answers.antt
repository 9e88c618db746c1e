use Rattle.std.proofs.Common.{ap, ◌∙◌}
use Rattle.mp_mvalue.specs.Shared.{unshared}
use Rattle.mp_mexpr.specs.Meaning.{elements_of}
use Rattle.mp_mexpr.proofs.Operators.{elements-list}
use Rattle.mp_macro.proofs.statement.elements_of.Goals as goal

pub returns-in-List : goal.returns-in-List
returns-in-List c = ap (λ v. elements_of (unshared v)) c.in-List.is ∙ elements-list c.in-List.elements.value
