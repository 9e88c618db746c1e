-- A matrix is a block of its own: what it keeps, and its operations.
use Rattle.std.proofs.Common.{◌≡◌, ℕ, ◌+◌, ◌*◌, ◌/◌, ◌^◌, ◌≤◌, ap, sym, ◌∙◌, subst, arith}
use Rattle.std.proofs.Math.Nat.{div-eq_of_lt}
use Rattle.mp_sheet.specs.Layout.{Form, IsRoomy}
use Rattle.mp_sheet.proofs.Reach.{cube}

pub own_block : (f g : Form) (n m old new : ℕ) → n ≡ m → g ≡ f → f ≡ record { block = n; lead = 0; width = n; count = n } → new ≤ old + g.count * (12 * g.block * g.block + 6 * g.block)
    → new ≤ old + (12 * m ^ 3 + 6 * m ^ 2)
own_block f g n m old new l h e k =
    subst (λ (x : ℕ). new ≤ old + (12 * x ^ 3 + 6 * x ^ 2)) l (subst (λ (x : ℕ). new ≤ old + x) (cube n) (subst (λ (x : Form). new ≤ old + x.count * (12 * x.block * x.block + 6 * x.block)) (h ∙ e) k))

-- it keeps all its columns
pub own_roomy : (f g : Form) (n : ℕ) → g ≡ f → f ≡ record { block = n; lead = 0; width = n; count = n } → IsRoomy g
own_roomy f g n h e =
    subst (λ (x : Form). IsRoomy x) (sym (h ∙ e))
    record {
      keeps = λ i k a b c d.
          let none : 0 * n ≡ 0 = omega arith in
          let z : i / n * n ≡ 0 = ap (λ (q : ℕ). q * n) (div-eq_of_lt a) ∙ none in
          record { row = a; inside = b; low = omega (arith, z); high = omega (arith, z, b) };
    }
