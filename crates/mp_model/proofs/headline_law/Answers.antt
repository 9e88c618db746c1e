use Rattle.std.proofs.Common.{arith}
use Rattle.mp_solutions.specs.Transformed.{transformed}
use Rattle.mp_canonical.specs.Files.{canonical_text}
use Rattle.mp_grammar.proofs.TextForms.{text_form}
use Rattle.mp_model.proofs.Kept.{Transforms, keeps}
use Rattle.mp_model.proofs.headline_law.Goals as goal

pub returns : goal.returns
returns c = λ text ts file M lexed reads given low free.
    let its : Transforms = record {
      needed = c.auxiliaries_laws.ensures.needed;
      order = c.auxiliaries_laws.ensures.order;
      equations = c.transformed_laws.ensures.equations;
      tags = c.transformed_laws.ensures.tags;
      short = c.transformed_laws.ensures.short;
      own_part = c.solutions_law.ensures.own_part;
      unchanged = c.transformed_laws.ensures.unchanged;
    } in
    let means = c.limits_law.ensures.model file M given in
    let prints = c.printable_law.ensures 500 file M (text_form text ts file lexed reads) means low in
    let closed = c.closed_law.ensures 500 M prints in
    let again = c.canonical_law.ensures 500 (transformed M) (c.transformed_law.ensures 500 M prints free (omega arith)) (omega arith) in
    keeps its file (canonical_text (transformed M)) M means again (c.solutions_law.ensures.same_solutions M closed) (c.solutions_law.ensures.same_sides M closed)
