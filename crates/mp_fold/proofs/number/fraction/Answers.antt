use Rattle.std.proofs.Common.{ℕ, ◌^◌, ◌<◌, ◌≤◌, lit<, sym, subst}
use Rattle.std.proofs.Math.Nat.{lt_of_le_of_lt}
use Rattle.mp_fold.proofs.Tens.{ten_power, ten_power-positive}
use Rattle.mp_fold.proofs.number.fraction.Goals as goal

pub pow-requires : goal.pow-requires
pow-requires c = lt_of_le_of_lt (ten_power c.args.number.s c.requires.s_small) (lit< tt)

pub ratio-requires-clause-positive : goal.ratio-requires-clause-positive
ratio-requires-clause-positive c = subst (λ (n : ℕ). 0 < n) (sym c.pow.ensures) (ten_power-positive c.args.number.s)

pub ratio-requires-clause-bottom_small : goal.ratio-requires-clause-bottom_small
ratio-requires-clause-bottom_small c = subst (λ (n : ℕ). n ≤ 10 ^ 37) (sym c.pow.ensures) (ten_power c.args.number.s c.requires.s_small)
