use Rattle.std.proofs.Common.{◌+◌, subst, sym, arith}
use Rattle.mp_incidence.specs.Search.{IsSearched}
use Rattle.mp_incidence.specs.declared.finding.Walk.{Walk}
use Rattle.mp_incidence.proofs.Steps.{idle, all_found}
use Rattle.mp_incidence.proofs.finding.search.Goals as goal
use Rattle.mp_incidence.proofs.finding.search.Goals.{then-at-len+in_ok-sweep, else-at-len}

pub turns-preserved : goal.turns-preserved
turns-preserved c =
    let P = λ (w : Walk). IsSearched c.args.links.now c.args.start (c.turns.at + 1) 0 w.seen.items w.nodes.items w.via.items in
    elim c.if-at-len.branch [
      | then-at-len+in_ok-sweep w ↦ subst P (sym w.walk-is) w.in_ok-sweep.ensures
      | else-at-len w ↦ subst P (sym w.walk-is) (idle _ _ _ _ _ _ c.turns.invariant (omega arith))
    ]

pub returns : goal.returns
returns c = all_found _ _ _ _ _ _ c.turns.invariant (omega arith)
