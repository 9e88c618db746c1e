use Rattle.std.proofs.Common.{ℕ, Bool, List, Vec, Global, length, subst}
use Rattle.mp_base.specs.declared.bytes.NoMemory.{NoMemory}
use Rattle.std.proofs.lemmas.Result.{IfOk-weaker}
use Rattle.mp_pairing.specs.Lists.{Has}
use Rattle.mp_incidence.specs.Tables.{IsRowFor}
use Rattle.mp_order.proofs.Lead.{found_row}
use Rattle.mp_order.proofs.blocks.reaching.Goals as goal

pub returns : goal.returns
returns c =
    let t = c.args.links.now in
    let found = c.in_ok-found.found in
    IfOk-weaker {X = Vec Bool Global} {Y = NoMemory} _ _ _ (λ marks row. found_row t c.args.b found.nodes.items found.via.items marks.items c.in_ok-found.ensures
    (subst (λ (ns : List ℕ). IsRowFor (Has ns) (length t) marks.items) c.deref.ensures.value
    (subst (λ (n : ℕ). IsRowFor (Has c.deref.result.now) n marks.items) c.len.ensures row))) c.marks_of.ensures
