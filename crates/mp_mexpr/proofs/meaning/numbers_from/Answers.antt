use Rattle.std.proofs.Common.{◌≡◌, rules, subst, arith, to_z-of_z}
use mir.Val.{SFits}
use mir.Syntax.{w64}
use Rattle.mp_base.specs.Answers.{Gives}
use Rattle.mp_mvalue.specs.Gathers.{Gathers}
use Rattle.mp_mvalue.specs.Made.{made}
use Rattle.mp_mvalue.specs.Shared.{unshared}
use Rattle.mp_mvalue.specs.Told.{told}
use Rattle.mp_mexpr.specs.Meaning.{numbers_from}
use Rattle.mp_mexpr.proofs.Numbers.{numbers-next}
use Rattle.mp_mexpr.proofs.meaning.numbers_from.Goals as goal

pub loop-k-preserved : goal.loop-k-preserved
loop-k-preserved c =
    let fits : SFits w64 c.args.first = search rules in
    subst (Gathers c.in_ok-numbers.numbers) (search (rules, numbers-next, to_z-of_z)) (c.in_ok-numbers.ensures _ c.loop-k.invariant)

pub returns : goal.returns
returns c =
    let fits : SFits w64 c.args.first = search rules in
    let count : c.loop-k.k ≡ c.args.count = omega (arith, c.loop-k-test.false, c.loop-k.auto.k-end) in
    subst (λ n. Gives unshared told c.finish.result (made (numbers_from c.args.first n))) count (subst (λ a. Gives unshared told c.finish.result (made (numbers_from a c.loop-k.k))) (to_z-of_z fits) (c.finish.ensures _ c.loop-k.invariant))
