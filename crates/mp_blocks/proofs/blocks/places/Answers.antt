use Rattle.std.proofs.Common.{arith}
use Rattle.mp_blocks.proofs.Numbers.{back_all}
use Rattle.mp_blocks.proofs.blocks.places.Goals as goal

pub returns : goal.returns
returns c = back_all c.args.numbers.now c.requires.0 c.numbers.places c.numbers.i c.requires.1 (let far = c.numbers-test.false in omega arith) c.numbers.invariant
