-- Parts of the model of a file.
use Rattle.std.specs.Prelude.{ℕ, ℤ, List, [], ◌∷◌, ◌++◌, Option, Ok}
use Rattle.mp_tokens.specs.Literals.{decimal_of}
use Rattle.mp_syntax.specs.Syntax.{Shift, Named, Further}
use Rattle.mp_statements.specs.Statements.{Statement}
use Rattle.mp_rational.specs.Fraction.{Fraction}
use Rattle.mp_semantics.specs.Term.{Term, binary}
use Rattle.mp_semantics.specs.Model as m
use Rattle.mp_values.specs.Names.{Names, names_of, shift_of}
use Rattle.mp_values.specs.Table.{Table}
use Rattle.mp_values.specs.ModelOf.{Locals, number_by, meaning_of, parameter_of, model_with, parameters_given, equations_given}
use Rattle.mp_values.specs.Limits.{limited, binary_of, Folded, ◌>>=◌, known}
use Rattle.mp_values.specs.From.{Taken, term_from}

-- the number of a literal at this place
abbrev pub number_given : List ℕ → ℕ → Folded Term
number_given literal at = limited.literal at (decimal_of literal) >>= λ n. Ok (number_by n)

-- the variable or the parameter of a name, or the expression of a local
abbrev pub name_given : Names → Locals → Named → Option Shift → Folded Term
name_given ns ls name shift = limited.shift name.at (shift_of shift) >>= λ k. known name.name (meaning_of ns ls name.name k)

-- a parameter with its value, which it has to have
abbrev pub parameter_given : List ℕ × Option Fraction → Folded m.Parameter
parameter_given p = known p.0 (parameter_of p)

-- these in front of what is given
abbrev pub after_these : {A : Type 0} → List A → Folded (List A) → Folded (List A)
after_these front r = r >>= λ more. Ok (front ++ more)

-- the model of a file, where its parameters have these values
abbrev pub model_at : List Statement → Table → Folded m.Model
model_at file t = parameters_given t >>= λ ps. equations_given file t >>= λ es. Ok (model_with (names_of file) ps es)

-- these operands joined to a first one, from left to right, and the exponents that are left
abbrev pub further_from : Names → Locals → Term → List Further → List ℤ → Taken Term
further_from ns ls x [] ks = Ok (x, ks)
further_from ns ls x (f ∷ more) ks =
    term_from ns ls f.operand ks >>= λ y. further_from ns ls (binary (binary_of f.op) x y.0) more y.1

-- these in front of what is taken
abbrev pub after_taken : {A : Type 0} → List A → Taken (List A) → Taken (List A)
after_taken front r = r >>= λ more. Ok (front ++ more.0, more.1)
