use Rattle.std.proofs.Common.{arith}
use Rattle.std.proofs.lemmas.Bool.Decides.{nat_tests}
use Rattle.mp_sheet.specs.Layout.{system_of}
use Rattle.mp_band.proofs.Rows.{some_size, place_then, place_else}
use Rattle.mp_band.proofs.band.Band.has_place.Goals as goal

pub nonzero_div-own : goal.nonzero_div-own
nonzero_div-own c =
    some_size c.self.inside.periods c.self.inside.size (system_of c.self.inside.sheet) c.args.self.now c.args.row c.self.view_is
    (omega (arith, c.if-row-eq0.false)) (omega (arith, c.if-row-count.false, c.count-count.ensures.value))

pub nonzero_div-other : goal.nonzero_div-other
nonzero_div-other c =
    some_size c.self.inside.periods c.self.inside.size (system_of c.self.inside.sheet) c.args.self.now c.args.row c.self.view_is
    (omega (arith, c.if-row-eq0.false)) (omega (arith, c.if-row-count.false, c.count-count.ensures.value))

pub returns-then-own-other : goal.returns-then-own-other
returns-then-own-other c =
    place_then c.self.inside.periods c.self.inside.size (system_of c.self.inside.sheet) c.args.self.now c.args.row c.args.column c.self.view_is
    (omega (arith, c.if-row-eq0.false)) (omega (arith, c.if-column-eq0.false))
    (omega (arith, c.if-row-count.false, c.count-count.ensures.value)) (omega (arith, c.if-column-count.false, c.count-count.ensures.value)) c.if-own-other.true

pub returns-else-own-other : goal.returns-else-own-other
returns-else-own-other c =
    (λ p. absurd (let h = c.if-own-other.false in grind (arith, nat_tests)), λ p. absurd (place_else c.self.inside.periods c.self.inside.size (system_of c.self.inside.sheet) c.args.self.now c.args.row c.args.column c.self.view_is (omega (arith, c.if-own-other.false)) p))
