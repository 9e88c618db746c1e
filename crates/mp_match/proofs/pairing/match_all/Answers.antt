use Rattle.std.proofs.Common.{◌≡◌, ℕ, List, length, subst, sym, ◌∙◌, arith}
use Rattle.std.proofs.lemmas.List.{take_at}
use Rattle.mp_pairing.specs.Pairing.{IsLeast}
use Rattle.mp_match.proofs.Ends.{least_of}
use Rattle.mp_match.proofs.pairing.match_all.Goals as goal

pub returns : goal.returns
returns c =
    let d = c.in_ok-lessen-in-None.ensures in
    let r = c.in_ok-table.ensures.count in
    let s = d.paired.all.count in
    let n = c.in_ok-held.ensures.count in
    let o = c.in_ok-held.held.ok.0 in
    let h : length c.lessen.new.held ≡ c.in_ok-held.held.len = omega (arith, r, s, n, o) in
    let e : c.in_ok-variables-in-None.variables ≡ c.lessen.new.held = c.in_ok-variables-in-None.ensures ∙ c.deref-in-None.ensures.value ∙ take_at c.lessen.new.held _ c.in_ok-held.held.len h in
    subst (λ (f : List ℕ). IsLeast c.args.rows.now f) (sym e) (least_of c.args.rows.now c.in_ok-table.table c.lessen.new.held c.requires.within c.in_ok-table.ensures d)
