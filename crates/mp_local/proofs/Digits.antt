-- A number grows with its digits, also where it is cut at a limit.
use Rattle.std.proofs.Common.{◌≡◌, ℕ, ◌+◌, ◌<◌, min, List, [], ◌∷◌, length, drop, get_or, arith, sym, ap, ◌∙◌}
use Rattle.std.specs.List.{fold}
use Rattle.std.proofs.lemmas.List.{drop_more}
use Rattle.mp_tokens.specs.Literals.{with_digit}

capped-with_digit : (a b d M : ℕ) → min a M ≡ min b M → min (with_digit a d) M ≡ min (with_digit b d) M
capped-with_digit a b d M same = omega arith

capped-fold : (a b M : ℕ) (ds : List ℕ) → min a M ≡ min b M → min (fold with_digit a ds) M ≡ min (fold with_digit b ds) M
capped-fold a b M [] same = same
capped-fold a b M (d ∷ ds) same = capped-fold (with_digit a d) (with_digit b d) M ds (capped-with_digit a b d M same)

-- one digit more
pub capped_turn : (value next M i whole : ℕ) (digits : List ℕ) → i < length digits → min next M ≡ min (with_digit value (get_or digits i 0)) M → min (fold with_digit value (drop i digits)) M ≡ whole → min (fold with_digit next (drop (i + 1) digits)) M ≡ whole
capped_turn value next M i whole digits within same so_far =
    capped-fold next (with_digit value (get_or digits i 0)) M (drop (i + 1) digits) same
    ∙ ap (λ l. min (fold with_digit value l) M) (sym (drop_more digits i 0 within))
    ∙ so_far
