-- The term that a printed derivative means.
use Rattle.std.specs.Prelude.{◌≡◌, ℕ, List, [], Ok}
use Rattle.mp_tokens.specs.Tokens.{Tok, tokens}
use Rattle.mp_tokens.specs.Literals.{decimal_of}
use Rattle.mp_syntax.specs.Syntax.{Expr, Number, Variable, Signed, Binary, Power, Paren, Call, Diff, Pick}
use Rattle.mp_semantics.specs.Term.{Term, leaf, negative, binary, power_of, pick}
use Rattle.mp_semantics.specs.Shifted.{difference}
use Rattle.mp_values.specs.Names.{Names, named_term, shift_of}
use Rattle.mp_values.specs.Limits.{Folded, ◌>>=◌, known, binary_of, exact}
use Rattle.mp_values.specs.Values.{value_by, exponent_at}
use Rattle.mp_values.specs.ModelOf.{number_by, signed_term, binary_called}
use Rattle.mp_canonical.specs.Printable.{IsPrintableLeaf}
use Rattle.mp_canonical.specs.Terms.{canonical}
use Rattle.mp_canonical.specs.Spelled.{spelled}
use Rattle.mp_derivatives.specs.Grammar.{ReadsDerivative}

-- the term of an expression where these are the declared names, and an exponent is the whole number that it is worth; nothing where a name stands for nothing. It has no locals, and knows no limits
abbrev pub meant : Names → Expr → Folded Term
meant ns (Number literal at) = Ok (number_by (decimal_of literal))
meant ns (Variable name shift) = known name.name (named_term ns name.name (shift_of shift))
meant ns (Signed s a) = meant ns a >>= λ x. Ok (signed_term s x)
meant ns (Binary o a at b) = meant ns a >>= λ x. meant ns b >>= λ y. Ok (binary (binary_of o) x y)
meant ns (Power a at s b) =
    meant ns a >>= λ x. value_by exact [] b >>= λ y. exponent_at exact at s y >>= λ k. Ok (power_of x k)
meant ns (Paren a) = meant ns a
meant ns (Call f a b) = meant ns a >>= λ x. meant ns b >>= λ y. Ok (binary (binary_called f) x y)
meant ns (Diff at a) = meant ns a >>= λ x. Ok (difference x)
meant ns (Pick a b c d) = meant ns a >>= λ x. meant ns b >>= λ y. meant ns c >>= λ z. meant ns d >>= λ w. Ok (pick x y z w)

-- the text of a term where these are the names
abbrev pub term_text : Names → Term → List ℕ
term_text ns t = spelled (canonical ns t)

-- a text can write it: its numbers have the fewest places, and its names are found at their places. It may have `pick`
abbrev pub IsPrintableDerivative : Names → Term → Type 0
IsPrintableDerivative ns (leaf l) = IsPrintableLeaf ns l
IsPrintableDerivative ns (negative a) = IsPrintableDerivative ns a
IsPrintableDerivative ns (binary op a b) = IsPrintableDerivative ns a × IsPrintableDerivative ns b
IsPrintableDerivative ns (power_of a k) = IsPrintableDerivative ns a
IsPrintableDerivative ns (pick a b c d) =
    (IsPrintableDerivative ns a × IsPrintableDerivative ns b) × (IsPrintableDerivative ns c × IsPrintableDerivative ns d)

-- the text has tokens, these read as one expression, and it means this term
pub record MeansTerm (ns : Names) (text : List ℕ) (t : Term) : Type 0 where
  pub ts : List Tok
  pub e : Expr
  pub lexed : tokens text ≡ Ok ts
  pub reads : ReadsDerivative ts e
  pub only : (other : Expr) → ReadsDerivative ts other → other ≡ e
  pub means : meant ns e ≡ Ok t
