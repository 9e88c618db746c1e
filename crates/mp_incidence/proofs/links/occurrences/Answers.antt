use Rattle.std.proofs.Common.{◌≡◌, ℕ, List, [], length, subst, get_or}
use Rattle.std.proofs.lemmas.List.{get_or_read}
use Rattle.mp_pairing.specs.Lists.{Has}
use Rattle.mp_incidence.specs.Tables.{IsRowFor}
use Rattle.mp_pairing.specs.Pairing.{Occurs}
use Rattle.mp_incidence.proofs.Rows.{table_more}
use Rattle.mp_incidence.proofs.links.occurrences.Goals as goal

pub rows-preserved : goal.rows-preserved
rows-preserved c =
    let rows = c.args.rows.now in
    let n = length rows in
    let e : c.index-rows-a.result ≡ get_or rows c.rows.a [] = get_or_read rows c.rows.a c.index-rows-a.result c.rows-test.true c.index-rows-a.is [] in
    rw c.in_ok-add.ensures.ok (table_more (Occurs rows) n c.rows.a c.rows.table c.in_ok-marks.marks.items c.rows.invariant
    (subst (λ (r : List ℕ). IsRowFor (Has r) n c.in_ok-marks.marks.items) e c.in_ok-marks.ensures))
