use Rattle.std.proofs.Common.{◌*◌, true, false, Less, Greater, refl}
use Rattle.std.proofs.Math.Nat.{mul-pos}
use Rattle.mp_integer.specs.Sign.{signed}
use Rattle.mp_frac.proofs.Orders.{order_by_products, order_pos, order_neg, order_apart, order_apart_back, cross_is, magnitude_positive}
use Rattle.mp_frac.proofs.Products.{signed_by}
use Rattle.mp_frac.proofs.frac.Frac.cmp.Goals as goal

pub returns-in-false-false : goal.returns-in-false-false
returns-in-false-false c =
    let x = c.args.self.now in
    let y = c.args.other.now in
    let m = c.magnitude-left.result in
    let k = c.magnitude-right.result in
    let o = order_by_products x y c.cmp_products-in-false-false.result (signed false (m * y.den)) (signed false (k * x.den))
    (cross_is x.num false m y.den (signed_by x.num false m c.in-false-false.ensures c.magnitude-left.ensures))
    (cross_is y.num false k x.den (signed_by y.num false k c.in-false-false.ensures' c.magnitude-right.ensures))
    (order_pos c.cmp_products-in-false-false.result (m * y.den) (k * x.den) c.cmp_products-in-false-false.ensures.less c.cmp_products-in-false-false.ensures.equal) in
    record { less = o.is_less; equal = o.is_equal; greater = o.is_greater }

pub returns-in-false-true : goal.returns-in-false-true
returns-in-false-true c =
    let x = c.args.self.now in
    let y = c.args.other.now in
    let m = c.magnitude-left.result in
    let k = c.magnitude-right.result in
    let o = order_by_products x y Greater (signed false (m * y.den)) (signed true (k * x.den))
    (cross_is x.num false m y.den (signed_by x.num false m c.in-false-true.ensures c.magnitude-left.ensures))
    (cross_is y.num true k x.den (signed_by y.num true k c.in-false-true.ensures' c.magnitude-right.ensures))
    (order_apart_back (m * y.den) (k * x.den) (mul-pos (magnitude_positive y.num k (c.in-false-true.ensures'.0 refl) c.magnitude-right.ensures) x.positive)) in
    record { less = o.is_less; equal = o.is_equal; greater = o.is_greater }

pub returns-in-true-false : goal.returns-in-true-false
returns-in-true-false c =
    let x = c.args.self.now in
    let y = c.args.other.now in
    let m = c.magnitude-left.result in
    let k = c.magnitude-right.result in
    let o = order_by_products x y Less (signed true (m * y.den)) (signed false (k * x.den))
    (cross_is x.num true m y.den (signed_by x.num true m c.in-true-false.ensures c.magnitude-left.ensures))
    (cross_is y.num false k x.den (signed_by y.num false k c.in-true-false.ensures' c.magnitude-right.ensures))
    (order_apart (m * y.den) (k * x.den) (mul-pos (magnitude_positive x.num m (c.in-true-false.ensures.0 refl) c.magnitude-left.ensures) y.positive)) in
    record { less = o.is_less; equal = o.is_equal; greater = o.is_greater }

pub returns-in-true-true : goal.returns-in-true-true
returns-in-true-true c =
    let x = c.args.self.now in
    let y = c.args.other.now in
    let m = c.magnitude-left.result in
    let k = c.magnitude-right.result in
    let o = order_by_products x y c.cmp_products.result (signed true (m * y.den)) (signed true (k * x.den))
    (cross_is x.num true m y.den (signed_by x.num true m c.in-true-true.ensures c.magnitude-left.ensures))
    (cross_is y.num true k x.den (signed_by y.num true k c.in-true-true.ensures' c.magnitude-right.ensures))
    (order_neg c.cmp_products.result (m * y.den) (k * x.den) c.cmp_products.ensures.less c.cmp_products.ensures.equal) in
    record { less = o.is_less; equal = o.is_equal; greater = o.is_greater }
