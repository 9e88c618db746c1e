-- What is made of the tokens of a text is in form.
use Rattle.std.proofs.Common.{◌≡◌, ℕ, List, [], ◌∷◌, Bool, true, false, inl, inr, Option, Some, None, refl, sym, ap, ◌∙◌, subst}
use Rattle.mp_syntax.specs.declared.operator.Sign.{Sign}
use Rattle.mp_tokens.specs.declared.terminal.Terminal.TheVariants as t
use Rattle.mp_tokens.specs.Tokens.{Tok}
use Rattle.mp_format.proofs.TokenForms.{IsToken, whole_is, number_is, name_is}
use Rattle.mp_syntax.specs.declared.operator.Operator.{Operator}
use Rattle.mp_syntax.specs.declared.operator.Operator.TheVariants as operator
use Rattle.mp_syntax.specs.Syntax.{Shift, Expr, Number, Variable, Signed, Binary, Power, Paren, Call, Diff, Further, with_further}
use Rattle.mp_format.specs.Pieces.{IsLiteral, AreDigits}
use Rattle.mp_format.specs.Format.{Look, Every, Format, opt, Made}
use Rattle.mp_expressions.specs.Productions.{WholeFrom, expr, sign_format}
use Rattle.mp_format.specs.Notation.{of, ◌⊗◌}
use Rattle.mp_format.proofs.Looks.{clash}
use Rattle.mp_expressions.specs.Expressions.{raised, shift, shift_part, fenced, closed, inside, pair, literal, flat_atom, atom, power, factor, times, product, plus, sum}
use Rattle.mp_expressions.specs.InForm.{AtPower, AtFactor, AtProduct, AtSum, IsShift, Flat, Deep}

literal_form : (x : Expr) (A : Expr → Type 0) → ((l : List ℕ) (at : ℕ) → IsLiteral l → A (Number l at)) → Made literal IsToken x → A x
unfolding Made
literal_form x A h (u, e, inl m) = subst A e (h u.bytes u.at (whole_is u m.0 m.1).0)
literal_form x A h (u, e, inr m) = subst A e (h u.bytes u.at (number_is u m.0 m.1))

pub flat_form : (x : Expr) → Made flat_atom IsToken x → Flat x
unfolding Made flat_atom
flat_form x (inl m) = literal_form x Flat (λ l at h. h) m
flat_form x (inr (u, e, m)) = subst Flat e (name_is u m.0 m.1)

shift_form : (s : Option Shift) → Made shift_part IsToken s → IsShift s
unfolding Made fenced shift
shift_form None m = tt
shift_form (Some s) (p, e, (o, (q, d, ((v, f, m), c)))) =
    subst (λ (x : Shift). AreDigits x.digits) (f ∙ d ∙ e) (whole_is v.1 m.1.0 m.1.1).1

two : {first : List Look} (e : WholeFrom first) (I : Expr → Type 0) → ((x : Expr) → Made (expr e) IsToken x → I x) → (z : Expr × Expr) → Made (pair e) IsToken z → I z.0 × I z.1
unfolding Made pair
two e I h z ((p, q, (o, (y, r, (m, c)))), (v, s, (n, d))) = (subst I (r ∙ q) (h y.0 m), subst I s (h v.0 n))

abbrev pub is_atom : Expr → Bool
is_atom (Number l at) = true
is_atom (Variable n s) = true
is_atom (Paren x) = true
is_atom (Call f x y) = true
is_atom (Diff at x) = true
is_atom _ = false

-- what may follow a base
abbrev power_rest : Format Expr → Format (Option (Tok × (Option Sign × Expr)))
power_rest a = opt (of t.Caret ⊗ opt sign_format ⊗ a)

pub atom_form : {first : List Look} (e : WholeFrom first) (I : Expr → Type 0) → ((x : Expr) → Made (expr e) IsToken x → I x) → (x : Expr) → Made (atom e) IsToken x → Deep I x
unfolding Made atom closed inside pair
atom_form e I h x (inl m) = literal_form x (Deep I) (λ l at h. h) m
atom_form e I h x (inr (inl (p, q, m))) = subst (Deep I) q (name_is p.0 m.0.0 m.0.1, shift_form p.1 m.1)
atom_form e I h x (inr (inr (inl (a, q, (p, r, (o, (y, s, (m, c)))))))) =
    subst (Deep I) q (subst I (s ∙ r) (h y.0 m))
atom_form e I h x (inr (inr (inr (inl (ab, q, (p, r, (o, m))))))) =
    subst (Deep I) q (subst (λ (z : Expr × Expr). I z.0 × I z.1) r (two e I h p.1 m))
atom_form e I h x (inr (inr (inr (inr (inl (ab, q, (p, r, (o, m)))))))) =
    subst (Deep I) q (subst (λ (z : Expr × Expr). I z.0 × I z.1) r (two e I h p.1 m))
atom_form e I h x (inr (inr (inr (inr (inr (a, q, (d, (p, r, (o, (y, s, (m, c))))))))))) =
    subst (Deep I) q (subst I (s ∙ r) (h y.0 m))

abbrev is_times : Operator → Bool
is_times operator.Times = true
is_times operator.Over = true
is_times _ = false

-- what A holds of is neither a sum nor a product, has no sign and is no power
abbrev pub Alone : (Expr → Type 0) → Type 0
Alone A = (x : Expr) → A x → is_atom x ≡ true

module _ (a : Format Expr) (A : Expr → Type 0) (alone : Alone A) (h : (x : Expr) → Made a IsToken x → A x) where
  up_power : (x : Expr) → A x → AtPower A x
  up_power (Power x at s y) m = absurd (clash _ (alone (Power x at s y) m) refl)
  up_power x m = m

  up_factor : (x : Expr) → AtPower A x → AtFactor A x
  up_factor (Signed s x) m = absurd (clash _ (alone (Signed s x) m) refl)
  up_factor x m = m

  up_product : (x : Expr) → AtFactor A x → AtProduct A x
  up_product (Binary operator.Times x at y) m = absurd (clash _ (alone (Binary operator.Times x at y) m) refl)
  up_product (Binary operator.Over x at y) m = absurd (clash _ (alone (Binary operator.Over x at y) m) refl)
  up_product x m = m

  up_sum : (x : Expr) → AtProduct A x → AtSum A x
  up_sum (Binary operator.Plus x at y) m = absurd (clash _ (alone (Binary operator.Plus x at y) m) refl)
  up_sum (Binary operator.Minus x at y) m = absurd (clash _ (alone (Binary operator.Minus x at y) m) refl)
  up_sum x m = m

  power_form : (x : Expr) → Made (power a) IsToken x → AtPower A x
  unfolding Made
  power_form x (p, q, m) = by p q m
    where
      by : (p : Expr × Option (Tok × (Option Sign × Expr))) → raised p.0 p.1 ≡ x → Made a IsToken p.0 × Made (power_rest a) IsToken p.1 → AtPower A x
      by (b, None) q m = subst (AtPower A) q (up_power b (h b m.0))
      by (b, Some r) q m = subst (AtPower A) q (h b m.0, h r.1.1 m.1.1.1)

  factor_form : (x : Expr) → Made (factor a) IsToken x → AtFactor A x
  unfolding Made factor
  factor_form x ((None, b), q, m) = subst (AtFactor A) q (up_factor b (power_form b m.1))
  factor_form x ((Some s, b), q, m) = subst (AtFactor A) q (power_form b m.1)

  -- a further factor is one, after a sign of products
  abbrev FurtherFactor : Further → Type 0
  FurtherFactor x = (is_times x.op ≡ true) × AtFactor A x.operand

  abbrev FurtherTerm : Further → Type 0
  FurtherTerm x = (is_times x.op ≡ false) × AtProduct A x.operand

  times_form : (x : Further) → Made (times a) IsToken x → FurtherFactor x
  unfolding Made times
  times_form x (p, q, (inl (u, e, m), n)) = subst FurtherFactor q (ap (λ (o : Operator × ℕ). is_times o.0) (sym e), factor_form p.1 n)
  times_form x (p, q, (inr (u, e, m), n)) = subst FurtherFactor q (ap (λ (o : Operator × ℕ). is_times o.0) (sym e), factor_form p.1 n)

  by_times : (op : Operator) (x : Expr) (at : ℕ) (y : Expr) → is_times op ≡ true → AtProduct A x → AtFactor A y → AtProduct A (Binary op x at y)
  by_times operator.Times x at y is m n = (m, n)
  by_times operator.Over x at y is m n = (m, n)
  by_times _ x at y is m n = cc

  factors_form : (x : Expr) (fs : List Further) → AtProduct A x → Every (Made (times a) IsToken) fs → AtProduct A (with_further x fs)
  factors_form x [] m all = m
  factors_form x (f ∷ fs) m all =
      let h = times_form f all.0 in
      factors_form (Binary f.op x f.at f.operand) fs (by_times f.op x f.at f.operand h.0 m h.1) all.1

  product_form : (x : Expr) → Made (product a) IsToken x → AtProduct A x
  unfolding Made product
  product_form x (p, q, m) =
      subst (AtProduct A) q (factors_form p.0 p.1 (up_product p.0 (factor_form p.0 m.0)) m.1)

  plus_form : (x : Further) → Made (plus a) IsToken x → FurtherTerm x
  unfolding Made plus
  plus_form x (p, q, (inl (u, e, m), n)) = subst FurtherTerm q (ap (λ (o : Operator × ℕ). is_times o.0) (sym e), product_form p.1 n)
  plus_form x (p, q, (inr (u, e, m), n)) = subst FurtherTerm q (ap (λ (o : Operator × ℕ). is_times o.0) (sym e), product_form p.1 n)

  by_plus : (op : Operator) (x : Expr) (at : ℕ) (y : Expr) → is_times op ≡ false → AtSum A x → AtProduct A y → AtSum A (Binary op x at y)
  by_plus operator.Plus x at y is m n = (m, n)
  by_plus operator.Minus x at y is m n = (m, n)
  by_plus _ x at y is m n = cc

  terms_form : (x : Expr) (fs : List Further) → AtSum A x → Every (Made (plus a) IsToken) fs → AtSum A (with_further x fs)
  terms_form x [] m all = m
  terms_form x (f ∷ fs) m all =
      let h = plus_form f all.0 in
      terms_form (Binary f.op x f.at f.operand) fs (by_plus f.op x f.at f.operand h.0 m h.1) all.1

  pub sum_form : (x : Expr) → Made (sum a) IsToken x → AtSum A x
  unfolding Made sum
  sum_form x (p, q, m) =
      subst (AtSum A) q (terms_form p.0 p.1 (up_sum p.0 (product_form p.0 m.0)) m.1)

pub flat_alone : Alone Flat
flat_alone (Number l at) m = refl
flat_alone (Variable n s) m = refl
flat_alone x m = absurd m

pub deep_alone : (I : Expr → Type 0) → Alone (Deep I)
deep_alone I (Number l at) m = refl
deep_alone I (Variable n s) m = refl
deep_alone I (Paren x) m = refl
deep_alone I (Call f x y) m = refl
deep_alone I (Diff at x) m = refl
deep_alone I x m = absurd m
