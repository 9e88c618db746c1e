use Rattle.std.proofs.Common.{◌≡◌, ◌<◌, ◌+◌, length, get_or, false, true, subst, sym, arith}
use Rattle.mp_incidence.specs.Search.{IsSearched}
use Rattle.mp_incidence.specs.declared.finding.Walk.{Walk}
use Rattle.mp_incidence.proofs.Steps.{added_as, skipped_as, read_is}
use Rattle.mp_incidence.proofs.finding.sweep.Goals as goal
use Rattle.mp_incidence.proofs.finding.sweep.Goals.{then-not-index+then-at+in_ok-reach, else-not-index, else-not-index-via-then-not-index+else-at, else-not-index-via-else-not-index}

pub marks-preserved : goal.marks-preserved
marks-preserved c =
    let v = c.marks.invariant in
    let size = v.searched.size in
    let room : c.marks.a < length c.marks.walk.seen.items = omega arith in
    let within : c.marks.a < length c.args.links.now = omega arith in
    let P = λ (w : Walk). record { within : c.args.at < length w.nodes.items; to : c.index-to.result.now ≡ get_or w.nodes.items c.args.at 0; searched : IsSearched c.args.links.now c.args.start c.args.at (c.marks.a + 1) w.seen.items w.nodes.items w.via.items } in
    elim c.if-not-index.branch [
      | then-not-index+then-at+in_ok-reach w ↦ subst P (sym w.walk-is)
          (added_as c.args.links.now c.args.start c.args.at c.marks.a c.marks.walk.seen.items w.reach.new.walk.seen.items c.marks.walk.nodes.items w.reach.new.walk.nodes.items c.marks.walk.via.items w.reach.new.walk.via.items c.index-to.result.now
          v.searched within v.within v.to (read_is c.marks.walk.seen.items c.marks.a _ false false room c.index.ensures w.if-not-index.true) (sym w.if-at.ensures)
          w.in_ok-reach.ensures.seen w.in_ok-reach.ensures.nodes w.in_ok-reach.ensures.via)
      | else-not-index w ↦ subst P (sym w.walk-is)
          (elim w.else-not-index.branch [
            | else-not-index-via-then-not-index+else-at w' ↦
                skipped_as _ _ _ _ _ _ _ _ v.searched v.within v.to (λ e. let no = w'.if-at.ensures in cc)
            | else-not-index-via-else-not-index w' ↦
                skipped_as _ _ _ _ _ _ _ _ v.searched v.within v.to (λ e. read_is c.marks.walk.seen.items c.marks.a _ false true room c.index.ensures w'.if-not-index.false)
          ])
    ]
