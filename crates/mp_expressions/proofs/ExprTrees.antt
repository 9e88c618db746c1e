-- An expression in form has a tree, with its value but for places and its pieces.
use Rattle.std.proofs.Common.{◌≡◌, List, [], ◌∷◌, ◌++◌, map, inl, inr, ◌⊎◌, Some, None, refl, sym, ap, ◌∙◌, append_assoc, append-nil}
use Rattle.mp_tokens.specs.declared.terminal.Terminal.TheVariants as t
use Rattle.mp_syntax.specs.declared.operator.Sign.{Sign}
use Rattle.mp_syntax.specs.declared.operator.Sign.TheVariants as sign
use Rattle.mp_syntax.specs.declared.operator.Operator.{Operator}
use Rattle.mp_syntax.specs.declared.operator.Operator.TheVariants as operator
use Rattle.mp_syntax.specs.Syntax.{Expr, Signed, Binary, Power, Further, with_further}
use Rattle.mp_format.specs.Format.{Format}
use Rattle.mp_format.specs.Pieces.{Piece}
use Rattle.mp_expressions.specs.Script.{bare, the, sign_piece, expr_pieces}
use Rattle.mp_format.specs.Spelling.{Tree, value, pieces, all_pieces, Fits, FitsAll}
use Rattle.mp_expressions.specs.Productions.{sign_format}
use Rattle.mp_expressions.specs.Expressions.{power, factor, times, product, plus, sum}
use Rattle.mp_expressions.specs.InForm.{AtPower, AtFactor, AtProduct, AtSum, sign_tree, power_tree, factor_tree, signed_tree, one_factor, one_term, last_factor, last_term, product_tree, sum_tree}
use Rattle.mp_format.proofs.Writings.{Tells}

pub map-last : {X Y : Type 0} (f : X → Y) (xs : List X) (x : X) → map f (xs ++ (x ∷ [])) ≡ map f xs ++ (f x ∷ [])
map-last f [] x = refl
map-last f (y ∷ xs) x = ap (λ l. f y ∷ l) (map-last f xs x)

pub pieces-last : {T : Type 0} (s : T → List Piece) (xs : List T) (x : T) → all_pieces s (xs ++ (x ∷ [])) ≡ all_pieces s xs ++ s x
pieces-last s [] x = append-nil (s x)
pieces-last s (y ∷ xs) x =
    ap (λ l. s y ++ l) (pieces-last s xs x) ∙ sym (append_assoc (s y) (all_pieces s xs) (s x))

pub fits-last : {T : Type 0} (P : T → Type 0) (xs : List T) (x : T) → FitsAll P xs → P x → FitsAll P (xs ++ (x ∷ []))
fits-last P [] x all one = (one, tt)
fits-last P (y ∷ xs) x all one = (all.0, fits-last P xs x all.1 one)

with_further-last : (e : Expr) (more : List Further) (x : Further) → with_further e (more ++ (x ∷ [])) ≡ Binary x.op (with_further e more) x.at x.operand
with_further-last e [] x = refl
with_further-last e (y ∷ more) x = with_further-last (Binary y.op e y.at y.operand) more x

pub sign_value : (s : Sign) → value sign_format (sign_tree s) ≡ s
unfolding value
sign_value sign.Plus = refl
sign_value sign.Minus = refl

pub sign_pieces : (s : Sign) → pieces sign_format (sign_tree s) ≡ sign_piece s ∷ []
unfolding pieces
sign_pieces sign.Plus = refl
sign_pieces sign.Minus = refl

pub sign_fits : (s : Sign) → Fits sign_format (sign_tree s)
unfolding Fits
sign_fits sign.Plus = tt
sign_fits sign.Minus = tt

abbrev by_side : Unit {0} ⊎ Unit {0} → Operator → Operator → Operator
by_side (inl u) a b = a
by_side (inr u) a b = b

-- over atoms that tell
module _ (a : Format Expr) (at : Expr → Tree a) (A : Expr → Type 0) (atoms : (e : Expr) → A e → Tells a (at e) (bare e) (expr_pieces e)) where
  no_power : (e : Expr) (x : Tree a) → Tells a x (bare e) (expr_pieces e) → Tells (power a) (x, None) (bare e) (expr_pieces e)
  unfolding value pieces Fits
  no_power e x h = record { value = h.value; pieces = append-nil (pieces a x) ∙ h.pieces; fits = (h.fits, tt) }

  power_tells : (e : Expr) → AtPower A e → Tells (power a) (power_tree a at e) (bare e) (expr_pieces e)
  unfolding value pieces Fits bare expr_pieces
  power_tells (Power x q None y) is =
      let h = atoms x is.0 in
      let g = atoms y is.1 in
      record { value = ap (λ v. Power v 0 None (value a (at y))) h.value ∙ ap (λ v. Power (bare x) 0 None v) g.value; pieces = ap (λ l. l ++ (the t.Caret ∷ pieces a (at y))) h.pieces ∙ ap (λ l. expr_pieces x ++ (the t.Caret ∷ l)) g.pieces; fits = (h.fits, (tt, (tt, g.fits))) }
  power_tells (Power x q (Some s) y) is =
      let h = atoms x is.0 in
      let g = atoms y is.1 in
      record { value = ap (λ v. Power v 0 (Some (value sign_format (sign_tree s))) (value a (at y))) h.value ∙ ap (λ v. Power (bare x) 0 (Some (value sign_format (sign_tree s))) v) g.value ∙ ap (λ v. Power (bare x) 0 (Some v) (bare y)) (sign_value s); pieces = ap (λ l. l ++ (the t.Caret ∷ (pieces sign_format (sign_tree s) ++ pieces a (at y)))) h.pieces ∙ ap (λ l. expr_pieces x ++ (the t.Caret ∷ (pieces sign_format (sign_tree s) ++ l))) g.pieces ∙ ap (λ l. expr_pieces x ++ (the t.Caret ∷ (l ++ expr_pieces y))) (sign_pieces s); fits = (h.fits, (tt, (sign_fits s, g.fits))) }
  power_tells e is = no_power e (at e) (atoms e is)

  no_sign : (e : Expr) (x : Tree (power a)) → Tells (power a) x (bare e) (expr_pieces e) → Tells (factor a) (signed_tree a None x) (bare e) (expr_pieces e)
  unfolding value pieces Fits factor signed_tree
  no_sign e x h = record { value = h.value; pieces = h.pieces; fits = (tt, h.fits) }

  factor_tells : (e : Expr) → AtFactor A e → Tells (factor a) (factor_tree a at e) (bare e) (expr_pieces e)
  unfolding value pieces Fits bare expr_pieces factor signed_tree
  factor_tells (Signed s x) is =
      let h = power_tells x is in
      record { value = ap (λ v. Signed v (value (power a) (power_tree a at x))) (sign_value s) ∙ ap (Signed s) h.value; pieces = ap (λ l. l ++ pieces (power a) (power_tree a at x)) (sign_pieces s) ∙ ap (λ l. sign_piece s ∷ l) h.pieces; fits = (sign_fits s, h.fits) }
  factor_tells e is = no_sign e (power_tree a at e) (power_tells e is)

  factor_alone : (e : Expr) (x : Tree (factor a)) → Tells (factor a) x (bare e) (expr_pieces e) → Tells (product a) (one_factor a x) (bare e) (expr_pieces e)
  unfolding value pieces Fits product one_factor
  factor_alone e x h = record { value = h.value; pieces = append-nil (pieces (factor a) x) ∙ h.pieces; fits = (h.fits, tt) }

  -- one more factor, after this operator
  product_last : (o : Unit {0} ⊎ Unit {0}) (e f : Expr) (x : Tree (product a)) (y : Tree (factor a)) → Tells (product a) x (bare e) (expr_pieces e) → Tells (factor a) y (bare f) (expr_pieces f) → Tells (product a) (last_factor a x o y) (bare (Binary (by_side o operator.Times operator.Over) e 0 f)) (expr_pieces (Binary (by_side o operator.Times operator.Over) e 0 f))
  unfolding value pieces Fits product times last_factor bare expr_pieces
  product_last (inl u) e f x y h g =
      record { value = ap (with_further (value (factor a) x.0)) (map-last (value (times a)) x.1 (inl u, y)) ∙ with_further-last (value (factor a) x.0) (map (value (times a)) x.1) (value (times a) (inl u, y)) ∙ ap (λ v. Binary operator.Times v 0 (value (factor a) y)) h.value ∙ ap (Binary operator.Times (bare e) 0) g.value; pieces = ap (λ l. pieces (factor a) x.0 ++ l) (pieces-last (pieces (times a)) x.1 (inl u, y)) ∙ sym (append_assoc (pieces (factor a) x.0) (all_pieces (pieces (times a)) x.1) (the t.Star ∷ pieces (factor a) y)) ∙ ap (λ l. l ++ (the t.Star ∷ pieces (factor a) y)) h.pieces ∙ ap (λ l. expr_pieces e ++ (the t.Star ∷ l)) g.pieces; fits = (h.fits.0, fits-last (Fits (times a)) x.1 (inl u, y) h.fits.1 (tt, g.fits)) }
  product_last (inr u) e f x y h g =
      record { value = ap (with_further (value (factor a) x.0)) (map-last (value (times a)) x.1 (inr u, y)) ∙ with_further-last (value (factor a) x.0) (map (value (times a)) x.1) (value (times a) (inr u, y)) ∙ ap (λ v. Binary operator.Over v 0 (value (factor a) y)) h.value ∙ ap (Binary operator.Over (bare e) 0) g.value; pieces = ap (λ l. pieces (factor a) x.0 ++ l) (pieces-last (pieces (times a)) x.1 (inr u, y)) ∙ sym (append_assoc (pieces (factor a) x.0) (all_pieces (pieces (times a)) x.1) (the t.Slash ∷ pieces (factor a) y)) ∙ ap (λ l. l ++ (the t.Slash ∷ pieces (factor a) y)) h.pieces ∙ ap (λ l. expr_pieces e ++ (the t.Slash ∷ l)) g.pieces; fits = (h.fits.0, fits-last (Fits (times a)) x.1 (inr u, y) h.fits.1 (tt, g.fits)) }

  product_tells : (e : Expr) → AtProduct A e → Tells (product a) (product_tree a at e) (bare e) (expr_pieces e)
  unfolding bare expr_pieces
  product_tells (Binary operator.Times x q y) is =
      product_last (inl tt) x y (product_tree a at x) (factor_tree a at y) (product_tells x is.0) (factor_tells y is.1)
  product_tells (Binary operator.Over x q y) is =
      product_last (inr tt) x y (product_tree a at x) (factor_tree a at y) (product_tells x is.0) (factor_tells y is.1)
  product_tells e is = factor_alone e (factor_tree a at e) (factor_tells e is)

  term_alone : (e : Expr) (x : Tree (product a)) → Tells (product a) x (bare e) (expr_pieces e) → Tells (sum a) (one_term a x) (bare e) (expr_pieces e)
  unfolding value pieces Fits sum one_term
  term_alone e x h = record { value = h.value; pieces = append-nil (pieces (product a) x) ∙ h.pieces; fits = (h.fits, tt) }

  sum_last : (o : Unit {0} ⊎ Unit {0}) (e f : Expr) (x : Tree (sum a)) (y : Tree (product a)) → Tells (sum a) x (bare e) (expr_pieces e) → Tells (product a) y (bare f) (expr_pieces f) → Tells (sum a) (last_term a x o y) (bare (Binary (by_side o operator.Plus operator.Minus) e 0 f)) (expr_pieces (Binary (by_side o operator.Plus operator.Minus) e 0 f))
  unfolding value pieces Fits sum plus last_term bare expr_pieces
  sum_last (inl u) e f x y h g =
      record { value = ap (with_further (value (product a) x.0)) (map-last (value (plus a)) x.1 (inl u, y)) ∙ with_further-last (value (product a) x.0) (map (value (plus a)) x.1) (value (plus a) (inl u, y)) ∙ ap (λ v. Binary operator.Plus v 0 (value (product a) y)) h.value ∙ ap (Binary operator.Plus (bare e) 0) g.value; pieces = ap (λ l. pieces (product a) x.0 ++ l) (pieces-last (pieces (plus a)) x.1 (inl u, y)) ∙ sym (append_assoc (pieces (product a) x.0) (all_pieces (pieces (plus a)) x.1) (the t.Plus ∷ pieces (product a) y)) ∙ ap (λ l. l ++ (the t.Plus ∷ pieces (product a) y)) h.pieces ∙ ap (λ l. expr_pieces e ++ (the t.Plus ∷ l)) g.pieces; fits = (h.fits.0, fits-last (Fits (plus a)) x.1 (inl u, y) h.fits.1 (tt, g.fits)) }
  sum_last (inr u) e f x y h g =
      record { value = ap (with_further (value (product a) x.0)) (map-last (value (plus a)) x.1 (inr u, y)) ∙ with_further-last (value (product a) x.0) (map (value (plus a)) x.1) (value (plus a) (inr u, y)) ∙ ap (λ v. Binary operator.Minus v 0 (value (product a) y)) h.value ∙ ap (Binary operator.Minus (bare e) 0) g.value; pieces = ap (λ l. pieces (product a) x.0 ++ l) (pieces-last (pieces (plus a)) x.1 (inr u, y)) ∙ sym (append_assoc (pieces (product a) x.0) (all_pieces (pieces (plus a)) x.1) (the t.Minus ∷ pieces (product a) y)) ∙ ap (λ l. l ++ (the t.Minus ∷ pieces (product a) y)) h.pieces ∙ ap (λ l. expr_pieces e ++ (the t.Minus ∷ l)) g.pieces; fits = (h.fits.0, fits-last (Fits (plus a)) x.1 (inr u, y) h.fits.1 (tt, g.fits)) }

  pub sum_tells : (e : Expr) → AtSum A e → Tells (sum a) (sum_tree a at e) (bare e) (expr_pieces e)
  unfolding bare expr_pieces
  sum_tells (Binary operator.Plus x q y) is =
      sum_last (inl tt) x y (sum_tree a at x) (product_tree a at y) (sum_tells x is.0) (product_tells y is.1)
  sum_tells (Binary operator.Minus x q y) is =
      sum_last (inr tt) x y (sum_tree a at x) (product_tree a at y) (sum_tells x is.0) (product_tells y is.1)
  sum_tells e is = term_alone e (product_tree a at e) (product_tells e is)
