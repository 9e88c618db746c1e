-- A number grows with its digits.
use Rattle.std.proofs.Common.{◌≡◌, ℕ, ◌+◌, ◌<◌, ◌≤◌, List, [], ◌∷◌, length, drop, get_or, nat_le, false, arith, sym, ap, ◌∙◌}
use Rattle.std.specs.List.{fold}
use Rattle.std.proofs.lemmas.Bool.{lt-leb}
use Rattle.std.proofs.lemmas.List.{drop_more}
use Rattle.mp_tokens.specs.Literals.{with_digit}

pub le-with_digits : (n : ℕ) (ds : List ℕ) → n ≤ fold with_digit n ds
le-with_digits n [] = omega arith
le-with_digits n (d ∷ ds) = omega (arith, le-with_digits (with_digit n d) ds)

-- a digit that goes beyond a limit settles it
pub beyond_at : (n limit i whole : ℕ) (digits : List ℕ) → i < length digits → fold with_digit n (drop i digits) ≡ whole → limit < with_digit n (get_or digits i 0) → nat_le whole limit ≡ false
beyond_at n limit i whole digits within e far =
    let d = get_or digits i 0 in
    let s : fold with_digit (with_digit n d) (drop (i + 1) digits) ≡ whole = ap (fold with_digit n) (sym (drop_more digits i 0 within)) ∙ e in
    let grows = le-with_digits (with_digit n d) (drop (i + 1) digits) in
    lt-leb whole limit (omega (arith, s, grows, far))
