-- How many more brackets may be open, and what a reading does to this.
use Rattle.std.proofs.Common.{◌≡◌, ℕ, zero, suc, ◌+◌, ◌<◌, ◌≤◌, List, [], ◌∷◌, length, Bool, true, false, ◌||◌, nat_lt, refl, arith}
use Rattle.std.proofs.lemmas.Bool.Decides.{nat_tests}
use Rattle.mp_mexpr.specs.declared.operator.Operator.{Operator}
use Rattle.mp_mexpr.specs.declared.token.Mark.TheVariants as m
use Rattle.mp_mexpr.specs.Syntax.{Expr, Exprs}
use Rattle.mp_mexpr.specs.Tokens.{Tok, Binary, Single, deep_after}
use Rattle.mp_mexpr.specs.Readings as g
use Rattle.mp_mexpr.specs.Readings.{OrReads, AndReads, ComparisonReads, RangeReads, SumReads, ProductReads, UnaryReads, IndexReads, PrimaryReads, ElementsRead}

-- of one less, where there is one
abbrev pub OneLess : (ℕ → Type 0) → ℕ → Type 0
OneLess P zero = ⊥
OneLess P (suc room) = P room

-- nowhere more than so many brackets are open
abbrev pub Fits : ℕ → List Tok → Type 0
Fits room [] = Unit {0}
Fits room (Single m.Open ∷ ts) = OneLess (λ r. Fits r ts) room
Fits room (Single m.OpenBracket ∷ ts) = OneLess (λ r. Fits r ts) room
Fits room (Single m.Close ∷ ts) = Fits (suc room) ts
Fits room (Single m.CloseBracket ∷ ts) = Fits (suc room) ts
Fits room (_ ∷ ts) = Fits room ts

-- in as much room as there are tokens
pub Fits-length : (ts : List Tok) (room : ℕ) → length ts ≤ room → Fits room ts
Fits-length [] room le = tt
Fits-length (Single m.Open ∷ ts) zero le = absurd (omega arith)
Fits-length (Single m.Open ∷ ts) (suc room) le = Fits-length ts room (omega arith)
Fits-length (Single m.OpenBracket ∷ ts) zero le = absurd (omega arith)
Fits-length (Single m.OpenBracket ∷ ts) (suc room) le = Fits-length ts room (omega arith)
Fits-length (Single m.Close ∷ ts) room le = Fits-length ts (suc room) (omega arith)
Fits-length (Single m.CloseBracket ∷ ts) room le = Fits-length ts (suc room) (omega arith)
Fits-length (_ ∷ ts) room le = Fits-length ts room (omega arith)

or-false : (a b : Bool) → (a || b) ≡ false → (a ≡ false) × (b ≡ false)
or-false true b e = cc
or-false false b e = (refl, e)

no_room : (opened closed : ℕ) → 0 + opened ≡ 100 + closed → nat_lt (closed + 0 + 100) (opened + 1) ≡ false → ⊥
no_room opened closed e h = grind (arith, nat_tests)

-- after so many brackets that open and that close
pub Fits-deep : (ts : List Tok) (opened closed room : ℕ) → room + opened ≡ 100 + closed → deep_after opened closed ts ≡ false → Fits room ts
unfolding deep_after
Fits-deep [] opened closed room e h = tt
Fits-deep (Single m.Open ∷ ts) opened closed zero e h = absurd (no_room opened closed e (or-false _ _ h).0)
Fits-deep (Single m.Open ∷ ts) opened closed (suc room) e h =
    Fits-deep ts (opened + 1) (closed + 0) room (omega arith) (or-false _ _ h).1
Fits-deep (Single m.OpenBracket ∷ ts) opened closed zero e h = absurd (no_room opened closed e (or-false _ _ h).0)
Fits-deep (Single m.OpenBracket ∷ ts) opened closed (suc room) e h =
    Fits-deep ts (opened + 1) (closed + 0) room (omega arith) (or-false _ _ h).1
Fits-deep (Single m.Close ∷ ts) opened closed room e h =
    Fits-deep ts (opened + 0) (closed + 1) (suc room) (omega arith) (or-false _ _ h).1
Fits-deep (Single m.CloseBracket ∷ ts) opened closed room e h =
    Fits-deep ts (opened + 0) (closed + 1) (suc room) (omega arith) (or-false _ _ h).1
Fits-deep (_ ∷ ts) opened closed room e h = Fits-deep ts (opened + 0) (closed + 0) room (omega arith) (or-false _ _ h).1

-- tokens are read, and as many brackets are open after as before
pub record Passes (ts rest : List Tok) : Type 0 where
  pub shorter : length rest < length ts
  pub fits : (room : ℕ) → Fits room ts → Fits room rest

-- one after the other, with an operator between
joined : {ts us rest : List Tok} (operator : Operator) → Passes ts (Binary operator ∷ us) → Passes us rest → Passes ts rest
joined operator a b = record { shorter = omega (arith, a.shorter, b.shorter); fits = λ room f. b.fits room (a.fits room f) }

comma : {ts us rest : List Tok} → Passes ts (Single m.Comma ∷ us) → Passes us rest → Passes ts rest
comma a b = record { shorter = omega (arith, a.shorter, b.shorter); fits = λ room f. b.fits room (a.fits room f) }

one : (t : Tok) (rest : List Tok) → ((room : ℕ) → Fits room (t ∷ rest) → Fits room rest) → Passes (t ∷ rest) rest
one t rest fits = record { shorter = omega arith; fits = fits }

signed : {ts rest : List Tok} (t : Tok) → ((room : ℕ) → Fits room (t ∷ ts) → Fits room ts) → Passes ts rest → Passes (t ∷ ts) rest
signed t fits a = record { shorter = omega (arith, a.shorter); fits = λ room f. a.fits room (fits room f) }

-- in brackets
bracketed : {ts rest : List Tok} → Passes ts (Single m.CloseBracket ∷ rest) → Passes (Single m.OpenBracket ∷ ts) rest
bracketed {ts} {rest} a = record { shorter = omega (arith, a.shorter); fits = fits }
  where
    fits : (room : ℕ) → Fits room (Single m.OpenBracket ∷ ts) → Fits room rest
    fits zero f = absurd f
    fits (suc room) f = a.fits room f

parenthesised : {ts rest : List Tok} → Passes ts (Single m.Close ∷ rest) → Passes (Single m.Open ∷ ts) rest
parenthesised {ts} {rest} a = record { shorter = omega (arith, a.shorter); fits = fits }
  where
    fits : (room : ℕ) → Fits room (Single m.Open ∷ ts) → Fits room rest
    fits zero f = absurd f
    fits (suc room) f = a.fits room f

empty : (rest : List Tok) → Passes (Single m.OpenBracket ∷ Single m.CloseBracket ∷ rest) rest
empty rest = record { shorter = omega arith; fits = fits }
  where
    fits : (room : ℕ) → Fits room (Single m.OpenBracket ∷ Single m.CloseBracket ∷ rest) → Fits room rest
    fits zero f = absurd f
    fits (suc room) f = f

then : {ts us rest : List Tok} → Passes ts us → Passes us rest → Passes ts rest
then a b = record { shorter = omega (arith, a.shorter, b.shorter); fits = λ room f. b.fits room (a.fits room f) }

mutual
  pub or_passes : {ts rest : List Tok} {e : Expr} → OrReads ts e rest → Passes ts rest
  or_passes (g.OrReads.one_and ts rest e a) = and_passes a
  or_passes (g.OrReads.or ts us rest e f a b) = joined _ (or_passes a) (and_passes b)

  pub and_passes : {ts rest : List Tok} {e : Expr} → AndReads ts e rest → Passes ts rest
  and_passes (g.AndReads.one_comparison ts rest e a) = comparison_passes a
  and_passes (g.AndReads.and ts us rest e f a b) = joined _ (and_passes a) (comparison_passes b)

  pub comparison_passes : {ts rest : List Tok} {e : Expr} → ComparisonReads ts e rest → Passes ts rest
  comparison_passes (g.ComparisonReads.one_range ts rest e a) = range_passes a
  comparison_passes (g.ComparisonReads.comparison operator ts us rest e f c a b) =
      joined operator (range_passes a) (range_passes b)

  pub range_passes : {ts rest : List Tok} {e : Expr} → RangeReads ts e rest → Passes ts rest
  range_passes (g.RangeReads.one_sum ts rest e a) = sum_passes a
  range_passes (g.RangeReads.range ts us rest e f a b) = joined _ (sum_passes a) (sum_passes b)

  pub sum_passes : {ts rest : List Tok} {e : Expr} → SumReads ts e rest → Passes ts rest
  sum_passes (g.SumReads.one_product ts rest e a) = product_passes a
  sum_passes (g.SumReads.sum operator ts us rest e f c a b) = joined operator (sum_passes a) (product_passes b)

  pub product_passes : {ts rest : List Tok} {e : Expr} → ProductReads ts e rest → Passes ts rest
  product_passes (g.ProductReads.one_unary ts rest e a) = unary_passes a
  product_passes (g.ProductReads.product ts us rest e f a b) = joined _ (product_passes a) (unary_passes b)

  pub unary_passes : {ts rest : List Tok} {e : Expr} → UnaryReads ts e rest → Passes ts rest
  unary_passes (g.UnaryReads.bare ts rest e a) = index_passes a
  unary_passes (g.UnaryReads.minus ts rest e a) = signed _ (λ room f. f) (index_passes a)
  unary_passes (g.UnaryReads.negation ts rest e a) = signed _ (λ room f. f) (index_passes a)

  pub index_passes : {ts rest : List Tok} {e : Expr} → IndexReads ts e rest → Passes ts rest
  index_passes (g.IndexReads.one_primary ts rest e a) = primary_passes a
  index_passes (g.IndexReads.element ts us rest e f a b) = then (index_passes a) (bracketed (or_passes b))

  pub primary_passes : {ts rest : List Tok} {e : Expr} → PrimaryReads ts e rest → Passes ts rest
  primary_passes (g.PrimaryReads.digits bytes rest) = one _ rest (λ room f. f)
  primary_passes (g.PrimaryReads.text bytes rest) = one _ rest (λ room f. f)
  primary_passes (g.PrimaryReads.truth rest) = one _ rest (λ room f. f)
  primary_passes (g.PrimaryReads.falsehood rest) = one _ rest (λ room f. f)
  primary_passes (g.PrimaryReads.name bytes rest) = one _ rest (λ room f. f)
  primary_passes (g.PrimaryReads.no_elements rest) = empty rest
  primary_passes (g.PrimaryReads.array ts rest es a) = bracketed (elements_pass a)
  primary_passes (g.PrimaryReads.paren ts rest e a) = parenthesised (or_passes a)

  pub elements_pass : {ts rest : List Tok} {es : Exprs} → ElementsRead ts es rest → Passes ts rest
  elements_pass (g.ElementsRead.first ts rest e a) = or_passes a
  elements_pass (g.ElementsRead.further ts us rest es e a b) = comma (elements_pass a) (or_passes b)
