use Rattle.std.proofs.lemmas.Nat.{div-add-mod'}
use Rattle.mp_frac.proofs.Halves.{product_by_halves}
use Rattle.mp_frac.proofs.wide.wide_product.Goals as goal

pub returns-clause-value : goal.returns-clause-value
returns-clause-value c =
    product_by_halves 18446744073709551616 c.args.a c.args.b _ _ _ _ _ _ _ _
    (div-add-mod' _ _) (div-add-mod' _ _) (div-add-mod' _ _) (div-add-mod' _ _)
