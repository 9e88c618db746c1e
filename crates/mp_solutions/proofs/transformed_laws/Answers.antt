use Rattle.mp_solutions.proofs.Shape.{equations_count, keeps_tags, short_shifts, transformed_closed, unchanged, once}
use Rattle.mp_solutions.proofs.transformed_laws.Goals as goal

pub returns-clause-equations : goal.returns-clause-equations
returns-clause-equations c = equations_count

pub returns-clause-tags : goal.returns-clause-tags
returns-clause-tags c = keeps_tags

pub returns-clause-short : goal.returns-clause-short
returns-clause-short c = short_shifts

pub returns-clause-closed : goal.returns-clause-closed
returns-clause-closed c = transformed_closed

pub returns-clause-unchanged : goal.returns-clause-unchanged
returns-clause-unchanged c = unchanged

pub returns-clause-once : goal.returns-clause-once
returns-clause-once c = once
