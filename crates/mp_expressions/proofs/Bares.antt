-- Where the tokens of expressions are the same but for their places, so are the expressions.
use Rattle.std.proofs.Common.{◌≡◌, ℕ, List, [], ◌∷◌, map, Option, Some, None, option_map, refl, ap}
use Rattle.mp_syntax.specs.declared.operator.Sign.{Sign}
use Rattle.mp_tokens.specs.Tokens.{Tok}
use Rattle.mp_syntax.specs.declared.operator.Operator.{Operator}
use Rattle.mp_syntax.specs.declared.operator.Function.TheVariants as function
use Rattle.mp_syntax.specs.Syntax.{Expr, Number, Variable, Binary, Paren, Call, Diff, Further, with_further, signed}
use Rattle.mp_format.specs.Format.{Look, Format, opt, Alike}
use Rattle.mp_expressions.specs.Script.{bare}
use Rattle.mp_expressions.specs.Productions.{WholeFrom, expr, sign_format, number}
use Rattle.mp_expressions.specs.Expressions.{or_plus, shift, shift_part, fenced, closed, inside, pair, literal, flat_atom, atom, raised, power, factor, times_format, times, product, plus_format, plus, sum}
use Rattle.mp_format.proofs.Bares.{Bares, paired, itself, unplaced, tok_bares, both_bares, choose_bares, opt_bares, many_bares, via_bares, front_bares, back_bares, stands_bares}

pub sign_bares : Bares sign_format itself
sign_bares =
    choose_bares _ _ itself (stands_bares _ _ _ itself (λ u. refl)) (stands_bares _ _ _ itself (λ u. refl))

pub signs_bare : Bares (opt sign_format) itself
unfolding Alike
signs_bare None None h = refl
signs_bare None (Some y) h = absurd h
signs_bare (Some x) None h = absurd h
signs_bare (Some x) (Some y) h = ap Some (sign_bares x y h)

number_bares : Bares number unplaced
number_bares = choose_bares _ _ unplaced (tok_bares _ _) (tok_bares _ _)

literal_bares : Bares literal bare
unfolding bare
literal_bares = via_bares _ number unplaced bare (λ w. Number w.bytes w.at) (λ w. refl) number_bares

fenced_bares : Bares fenced itself
unfolding fenced shift
fenced_bares =
    front_bares _ _ itself (back_bares _ _ itself (via_bares _ _ (paired itself unplaced) itself (λ (p : Option Sign × Tok). record { sign = or_plus p.0; digits = p.1.bytes }) (λ p. refl) (both_bares _ _ itself unplaced signs_bare (tok_bares _ _))))

shift_bares : Bares shift_part itself
unfolding Alike
shift_bares None None h = refl
shift_bares None (Some y) h = absurd h
shift_bares (Some x) None h = absurd h
shift_bares (Some x) (Some y) h = ap Some (fenced_bares x y h)

pub flat_bares : Bares flat_atom bare
unfolding flat_atom bare
flat_bares =
    choose_bares _ _ bare literal_bares (stands_bares _ _ _ bare (λ u. refl))

pub pair_bares : {first : List Look} (e : WholeFrom first) → Bares (expr e) bare → Bares (pair e) (paired bare bare)
unfolding pair
pair_bares e h =
    both_bares _ _ bare bare (front_bares _ _ bare (back_bares _ _ bare h)) (back_bares _ _ bare h)

pub atom_bares : {first : List Look} (e : WholeFrom first) → Bares (expr e) bare → Bares (atom e) bare
unfolding atom closed inside bare
atom_bares e h =
    choose_bares _ _ bare literal_bares (choose_bares _ _ bare (via_bares _ _ (paired unplaced itself) bare (λ p. Variable (record { name = p.0.bytes; at = 0 }) p.1) (λ p. refl) (both_bares _ _ unplaced itself (tok_bares _ _) shift_bares)) (choose_bares _ _ bare (via_bares _ _ bare bare Paren (λ x. refl) (front_bares _ _ bare (back_bares _ _ bare h))) (choose_bares _ _ bare (via_bares _ _ (paired bare bare) bare (λ p. Call function.Min p.0 p.1) (λ p. refl) (front_bares _ _ _ (pair_bares e h))) (choose_bares _ _ bare (via_bares _ _ (paired bare bare) bare (λ p. Call function.Max p.0 p.1) (λ p. refl) (front_bares _ _ _ (pair_bares e h))) (via_bares _ _ (paired unplaced bare) bare (λ p. Diff 0 p.1) (λ p. refl) (both_bares _ _ unplaced bare (tok_bares _ _) (front_bares _ _ bare (back_bares _ _ bare h))))))))

abbrev no_place : {X : Type 0} → X × ℕ → X × ℕ
no_place p = (p.0, 0)

abbrev bare_further : Further → Further
bare_further x = record { op = x.op; at = 0; operand = bare x.operand }

further_bare : (e : Expr) (xs : List Further) → bare (with_further e xs) ≡ with_further (bare e) (map bare_further xs)
unfolding bare
further_bare e [] = refl
further_bare e (x ∷ xs) = further_bare (Binary x.op e x.at x.operand) xs

-- over atoms
module _ (a : Format Expr) (h : Bares a bare) where
  raised_bare : (x : Expr) (o : Option (Tok × (Option Sign × Expr))) → bare (raised x o) ≡ raised (bare x) (option_map (paired unplaced (paired itself bare)) o)
  unfolding bare
  raised_bare x None = refl
  raised_bare x (Some q) = refl

  power_bares : Bares (power a) bare
  power_bares =
      via_bares _ _ (paired bare (option_map (paired unplaced (paired itself bare)))) bare (λ p. raised p.0 p.1) (λ p. raised_bare p.0 p.1) (both_bares _ _ bare _ h (opt_bares _ _ (both_bares _ _ unplaced _ (tok_bares _ _) (both_bares _ _ itself bare signs_bare h))))

  signed_bare : (s : Option Sign) (x : Expr) → bare (signed s x) ≡ signed s (bare x)
  unfolding bare
  signed_bare None x = refl
  signed_bare (Some s) x = refl

  factor_bares : Bares (factor a) bare
  unfolding factor
  factor_bares =
      via_bares _ _ (paired itself bare) bare (λ p. signed p.0 p.1) (λ p. signed_bare p.0 p.1) (both_bares _ _ itself bare signs_bare power_bares)

  times_bares : Bares (times a) bare_further
  unfolding times
  times_bares =
      via_bares _ _ (paired no_place bare) bare_further (λ (p : (Operator × ℕ) × Expr). record { op = p.0.0; at = 0; operand = p.1 }) (λ p. refl) (both_bares times_format _ no_place bare (choose_bares _ _ _ (stands_bares _ _ _ _ (λ u. refl)) (stands_bares _ _ _ _ (λ u. refl))) factor_bares)

  product_bares : Bares (product a) bare
  unfolding product
  product_bares =
      via_bares _ _ (paired bare (map bare_further)) bare (λ p. with_further p.0 p.1) (λ p. further_bare p.0 p.1) (both_bares _ _ bare (map bare_further) factor_bares (many_bares _ bare_further times_bares))

  plus_bares : Bares (plus a) bare_further
  unfolding plus
  plus_bares =
      via_bares _ _ (paired no_place bare) bare_further (λ (p : (Operator × ℕ) × Expr). record { op = p.0.0; at = 0; operand = p.1 }) (λ p. refl) (both_bares plus_format _ no_place bare (choose_bares _ _ _ (stands_bares _ _ _ _ (λ u. refl)) (stands_bares _ _ _ _ (λ u. refl))) product_bares)

  pub sum_bares : Bares (sum a) bare
  unfolding sum
  sum_bares =
      via_bares _ _ (paired bare (map bare_further)) bare (λ p. with_further p.0 p.1) (λ p. further_bare p.0 p.1) (both_bares _ _ bare (map bare_further) product_bares (many_bares _ bare_further plus_bares))
