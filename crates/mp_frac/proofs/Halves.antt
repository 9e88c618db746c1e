-- Products by halves.
use Rattle.std.proofs.Common.{◌≡◌, ℕ, ◌+◌, ◌*◌, ap, arith, sym, ◌∙◌}

-- a product in base H, with the carries
pub product_by_halves : (H a b a1 a0 b1 b0 ll lh mh ml : ℕ) → a1 * H + a0 ≡ a → b1 * H + b0 ≡ b
    → lh * H + ll ≡ a0 * b0 → mh * H + ml ≡ a1 * b0 + a0 * b1 + lh
    → (a1 * b1 + mh) * (H * H) + (ml * H + ll) ≡ a * b
product_by_halves H a b a1 a0 b1 b0 ll lh mh ml e f g h =
    let whole : a * b ≡ (a1 * H + a0) * (b1 * H + b0) = ap (λ (x : ℕ). x * b) (sym e) ∙ ap (λ (x : ℕ). (a1 * H + a0) * x) (sym f) in
    omega (arith, whole, g, ap (λ (x : ℕ). x * H) h)
