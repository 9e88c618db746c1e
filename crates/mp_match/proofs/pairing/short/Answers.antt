use Rattle.std.proofs.Common.{ℕ, Bool, List, length, subst}
use Rattle.mp_pairing.specs.Lists.{Has, IsMarked}
use Rattle.mp_incidence.specs.Tables.{IsRowFor}
use Rattle.mp_match.specs.Held.{Touches}
use Rattle.mp_match.proofs.Hall.{as_needed, short_set}
use Rattle.mp_match.proofs.pairing.short.Goals as goal

pub returns : goal.returns
returns c =
    let rows = c.args.rows.now in
    let t = c.args.table.now in
    let nodes = c.in_ok-found.found.nodes.items in
    let via = c.in_ok-found.found.via.items in
    let needed = as_needed t c.in_ok-links.links c.in_ok-needed.needed c.args.held.now c.args.i nodes via c.in_ok-links.ensures c.in_ok-needed.ensures c.in_ok-found.ensures in
    short_set rows t c.args.held.now c.args.i nodes via c.in_ok-members.members.items c.in_ok-read.read.items c.in_ok-equations.equations c.in_ok-variables.variables
    c.requires.within c.requires.table c.requires.stuck needed
    (subst (λ (ns : List ℕ). IsRowFor (Has ns) (length rows) c.in_ok-members.members.items) c.deref.ensures.value c.in_ok-members.ensures)
    (subst (λ (ms : List Bool). IsMarked ms (length ms) c.in_ok-equations.equations) c.deref-3.ensures.value c.in_ok-equations.ensures)
    (subst (λ (ns : List ℕ). IsRowFor (Touches t ns) (length t) c.in_ok-read.read.items) c.deref-2.ensures.value c.in_ok-read.ensures)
    (subst (λ (ms : List Bool). IsMarked ms (length ms) c.in_ok-variables.variables) c.deref-4.ensures.value c.in_ok-variables.ensures)
