-- Laws of every reading.
use Rattle.std.proofs.Common.{◌≡◌, List, true, Result, Ok, Err, refl, subst}
use Rattle.mp_tokens.specs.declared.terminal.Terminal.{Terminal}
use Rattle.mp_tokens.specs.declared.terminal.Terminal.TheVariants as k
use Rattle.mp_tokens.specs.Tokens.{Tok}
use Rattle.mp_format.specs.Reading.{Read, ◌>>=◌, is}

abbrev pub got : {X : Type 0} → X → Result X (List Tok)
got x = Ok x

-- what is said of one reading is said of the same
pub carried : {X : Type 0} (P : X → List Tok → Type 0) (x y : X × List Tok) → got x ≡ Ok y → P x.0 x.1 → P y.0 y.1
carried {X} P x y e p =
    let F : Read X → Type 0 = λ o. elim o [ Err l ↦ Unit {0} | Ok z ↦ P z.0 z.1 ] in subst F e p

-- a reading that goes on
pub bound : {A B : Type 0} (r : Result A (List Tok)) (f : A → Result B (List Tok)) (y : B) → (r >>= f) ≡ Ok y → (x : A) × (r ≡ Ok x) × (f x ≡ Ok y)
bound (Err l) f y e = cc
bound (Ok x) f y e = (x, refl, e)

pub is-same : (a b : Terminal) → is a b ≡ true → b ≡ a
is-same k.Var k.Var e = refl
is-same k.Varexo k.Varexo e = refl
is-same k.Parameters k.Parameters e = refl
is-same k.Model k.Model e = refl
is-same k.End k.End e = refl
is-same k.Initval k.Initval e = refl
is-same k.Endval k.Endval e = refl
is-same k.Histval k.Histval e = refl
is-same k.Shocks k.Shocks e = refl
is-same k.Steady k.Steady e = refl
is-same k.SteadyStateModel k.SteadyStateModel e = refl
is-same k.PerfectForesightSetup k.PerfectForesightSetup e = refl
is-same k.PerfectForesightSolver k.PerfectForesightSolver e = refl
is-same k.OccbinConstraints k.OccbinConstraints e = refl
is-same k.OccbinSetup k.OccbinSetup e = refl
is-same k.OccbinSolver k.OccbinSolver e = refl
is-same k.Check k.Check e = refl
is-same k.Resid k.Resid e = refl
is-same k.Rplot k.Rplot e = refl
is-same k.ModelDiagnostics k.ModelDiagnostics e = refl
is-same k.Min k.Min e = refl
is-same k.Max k.Max e = refl
is-same k.Diff k.Diff e = refl
is-same k.Abs k.Abs e = refl
is-same k.Pick k.Pick e = refl
is-same k.SteadyState k.SteadyState e = refl
is-same k.Reserved k.Reserved e = refl
is-same k.Name k.Name e = refl
is-same k.Whole k.Whole e = refl
is-same k.Number k.Number e = refl
is-same k.Text k.Text e = refl
is-same k.Tex k.Tex e = refl
is-same k.Semicolon k.Semicolon e = refl
is-same k.Comma k.Comma e = refl
is-same k.Equals k.Equals e = refl
is-same k.Open k.Open e = refl
is-same k.Close k.Close e = refl
is-same k.OpenBracket k.OpenBracket e = refl
is-same k.CloseBracket k.CloseBracket e = refl
is-same k.Plus k.Plus e = refl
is-same k.Minus k.Minus e = refl
is-same k.Star k.Star e = refl
is-same k.Slash k.Slash e = refl
is-same k.Caret k.Caret e = refl
is-same k.Hash k.Hash e = refl
is-same k.Colon k.Colon e = refl
is-same k.Less k.Less e = refl
is-same k.Greater k.Greater e = refl
is-same k.AtMost k.AtMost e = refl
is-same k.AtLeast k.AtLeast e = refl
is-same _ _ e = cc
