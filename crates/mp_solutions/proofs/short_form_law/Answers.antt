use Rattle.mp_solutions.proofs.ShortForm.{short_form}
use Rattle.mp_solutions.proofs.short_form_law.Goals as goal

pub returns : goal.returns
returns c = short_form
