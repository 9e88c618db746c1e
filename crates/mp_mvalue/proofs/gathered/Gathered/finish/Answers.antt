use Rattle.std.proofs.Common.{Ok, sym, ap, ◌∙◌, arith}
use Rattle.mp_mvalue.proofs.Made.{finished-long, finished-depth, finished-size, finished-value}
use Rattle.mp_mvalue.proofs.gathered.Gathered.finish.Goals as goal

pub returns-then-self-gt-MOST_BYTES : goal.returns-then-self-gt-MOST_BYTES
returns-then-self-gt-MOST_BYTES c = λ xs g.
    rw c.refused-then-self-gt-MOST_BYTES.ensures (finished-long c.args.self xs g (omega (arith, c.if-self-gt-MOST_ELEMENTS.false)) (omega (arith, c.if-self-gt-DEEPEST.false)) c.if-self-gt-MOST_BYTES.true)

pub array_of-requires-clause-depth : goal.array_of-requires-clause-depth
array_of-requires-clause-depth c =
    finished-depth c.args.self c.requires.0 c.requires.1 (omega (arith, c.if-self-gt-MOST_ELEMENTS.false)) (omega (arith, c.if-self-gt-DEEPEST.false)) (omega (arith, c.if-self-gt-MOST_BYTES.false))

pub array_of-requires-clause-size : goal.array_of-requires-clause-size
array_of-requires-clause-size c =
    finished-size c.args.self c.requires.0 c.requires.1 (omega (arith, c.if-self-gt-MOST_ELEMENTS.false)) (omega (arith, c.if-self-gt-DEEPEST.false)) (omega (arith, c.if-self-gt-MOST_BYTES.false))

pub returns : goal.returns
returns c = λ xs g.
    finished-value c.args.self xs g (omega (arith, c.if-self-gt-MOST_ELEMENTS.false)) (omega (arith, c.if-self-gt-DEEPEST.false)) (omega (arith, c.if-self-gt-MOST_BYTES.false)) ∙ ap (λ x. Ok x) (sym c.in_ok-array_of.ensures)
