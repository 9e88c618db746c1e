-- When the code's comparison of terminals is the definition's.
use Rattle.std.proofs.Common.{◌≡◌, Bool, true, false, refl, subst, rules}
use denote.Enum.Bare.{sameb, same_true, same_false}
use Rattle.mp_tokens.specs.declared.terminal.Terminal.{Terminal}
use Rattle.mp_tokens.specs.declared.terminal.Terminal.TheVariants as t
use Rattle.mp_tokens.specs.contracts.terminal.Terminal.{the_type}
use Rattle.mp_format.specs.Reading.{is}
use Rattle.mp_format.proofs.ReadLaws.{is-same}

is-itself : (a : Terminal) → is a a ≡ true
is-itself t.Var = refl
is-itself t.Varexo = refl
is-itself t.Parameters = refl
is-itself t.Model = refl
is-itself t.End = refl
is-itself t.Initval = refl
is-itself t.Endval = refl
is-itself t.Histval = refl
is-itself t.Shocks = refl
is-itself t.Steady = refl
is-itself t.SteadyStateModel = refl
is-itself t.PerfectForesightSetup = refl
is-itself t.PerfectForesightSolver = refl
is-itself t.OccbinConstraints = refl
is-itself t.OccbinSetup = refl
is-itself t.OccbinSolver = refl
is-itself t.Check = refl
is-itself t.Resid = refl
is-itself t.Rplot = refl
is-itself t.ModelDiagnostics = refl
is-itself t.Min = refl
is-itself t.Max = refl
is-itself t.Diff = refl
is-itself t.Abs = refl
is-itself t.Pick = refl
is-itself t.SteadyState = refl
is-itself t.Reserved = refl
is-itself t.Name = refl
is-itself t.Whole = refl
is-itself t.Number = refl
is-itself t.Text = refl
is-itself t.Tex = refl
is-itself t.Semicolon = refl
is-itself t.Comma = refl
is-itself t.Equals = refl
is-itself t.Open = refl
is-itself t.Close = refl
is-itself t.OpenBracket = refl
is-itself t.CloseBracket = refl
is-itself t.Plus = refl
is-itself t.Minus = refl
is-itself t.Star = refl
is-itself t.Slash = refl
is-itself t.Caret = refl
is-itself t.Hash = refl
is-itself t.Colon = refl
is-itself t.Less = refl
is-itself t.Greater = refl
is-itself t.AtMost = refl
is-itself t.AtLeast = refl

same_is : (a b : Terminal) → a ≡ b → is b a ≡ true
same_is a b e = subst (λ c. is c a ≡ true) e (is-itself a)

-- whether two terminals are the same
pub compared : (a b : Terminal) → sameb the_type a b ≡ is b a
compared a b = by_answers (sameb the_type a b) (is b a) refl refl
  where
    by_answers : (r s : Bool) → sameb the_type a b ≡ r → is b a ≡ s → r ≡ s
    by_answers true true e f = refl
    by_answers false false e f = refl
    by_answers true false e f = cc (same_is a b (same_true the_type (search rules) a b e), f)
    by_answers false true e f = absurd (same_false the_type a b e (is-same b a f))
