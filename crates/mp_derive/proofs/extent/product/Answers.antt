use Rattle.std.proofs.Common.{◌^◌, arith}
use Rattle.mp_derive.proofs.Capped.{product_capped}
use Rattle.mp_derive.proofs.extent.product.Goals as goal

pub returns : goal.returns
returns c = λ m n x y. let e = product_capped (10 ^ 9) m n c.args.a c.args.b (omega arith) x y in omega (arith, e, c.saturating_mul.ensures, c.min.ensures)
