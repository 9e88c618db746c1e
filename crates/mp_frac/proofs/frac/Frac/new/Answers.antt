use Rattle.std.proofs.Common.{◌≡◌, ℤ, pos, ◌↔◌, ap, sym, ◌∙◌, subst, arith, true, to_z, of_z}
use Rattle.std.specs.Prelude.{◌<ℤ◌}
use mir.Syntax.{w128}
use Rattle.std.proofs.lemmas.Int.{to_z-of_z, to_z_pos}
use Rattle.mp_frac.proofs.Quotients.{ratio_outcome-signed, ratio_outcome-zero}
use Rattle.mp_frac.proofs.frac.Frac.new.Goals as goal

pub returns-then-d-eq0 : goal.returns-then-d-eq0
returns-then-d-eq0 c =
    let zero : c.args.d ≡ pos 0 =
    sym (to_z-of_z w128 c.args.d c.ranges.d) ∙ ap (to_z w128) c.if-d-eq0.true ∙ to_z_pos w128 0 (omega arith) in
    sym (ratio_outcome-zero c.args.n c.args.d zero)

pub returns : goal.returns
returns c =
    let n_is : c.of-top.result ≡ c.args.n = c.of-top.ensures ∙ to_z-of_z w128 c.args.n c.ranges.n in
    let d_is : c.of-bottom.result ≡ c.args.d = c.of-bottom.ensures ∙ to_z-of_z w128 c.args.d c.ranges.d in
    let below_n = subst (λ (z : ℤ). (c.is_negative-up.result ≡ true) ↔ (z <ℤ pos 0)) n_is c.is_negative-up.ensures in
    let below_d = subst (λ (z : ℤ). (c.is_negative-down.result ≡ true) ↔ (z <ℤ pos 0)) d_is c.is_negative-down.ensures in
    c.lowest.ensures
    ∙ rw (c.magnitude.ensures, c.magnitude-2.ensures, n_is, d_is)
    (sym (ratio_outcome-signed c.args.n c.args.d c.is_negative-up.result c.is_negative-down.result below_n below_d (λ e. c.if-d-eq0.false (ap (of_z w128) e))))
