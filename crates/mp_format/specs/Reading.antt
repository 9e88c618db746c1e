-- A reading from left to right: a value and the tokens after it, or the tokens from the wrong one on.
use Rattle.std.specs.Prelude.{ℕ, zero, suc, ◌+◌, List, [], ◌∷◌, length, Bool, true, false, Option, Some, None, Result, Ok, Err}
use Rattle.mp_tokens.specs.declared.terminal.Terminal.{Terminal}
use Rattle.mp_tokens.specs.declared.terminal.Terminal.TheVariants as t
use Rattle.mp_tokens.specs.Tokens.{Tok}

-- a value and the tokens after it, or the tokens from the wrong one on
abbrev pub Read : Type 0 → Type 0
Read X = Result (X × List Tok) (List Tok)

-- reads on where something was read
abbrev pub go : {A B : Type 0} → (A → Result B (List Tok)) → Result A (List Tok) → Result B (List Tok)
go next (Ok x) = next x
go next (Err left) = Err left

infixl 10 ◌>>=◌
abbrev pub ◌>>=◌ : {A B : Type 0} → Result A (List Tok) → (A → Result B (List Tok)) → Result B (List Tok)
r >>= next = go next r

-- goes on where something begins, and ends where not
abbrev pub go_on : {B Y : Type 0} → Option B → Y → (B → Y) → Y
go_on None done next = done
go_on (Some b) done next = next b

-- at most so many, as long as there begins one
unfoldable pub more_at : {B X : Type 0} → ℕ → (List Tok → Option B) → (B → Read X) → List Tok → Read (List X)
more_at zero begin step ts = Err ts
more_at (suc n) begin step ts =
    go_on (begin ts) (Ok ([], ts)) (λ b. step b >>= λ x. more_at n begin step x.1 >>= λ xs. Ok (x.0 ∷ xs.0, xs.1))

-- as many as there are: each has a token
abbrev pub all_at : {B X : Type 0} → (List Tok → Option B) → (B → Read X) → List Tok → Read (List X)
all_at begin step ts = more_at (length ts + 1) begin step ts

-- both are the same terminal
abbrev pub is : Terminal → Terminal → Bool
is t.Var t.Var = true
is t.Varexo t.Varexo = true
is t.Parameters t.Parameters = true
is t.Model t.Model = true
is t.End t.End = true
is t.Initval t.Initval = true
is t.Endval t.Endval = true
is t.Histval t.Histval = true
is t.Shocks t.Shocks = true
is t.Steady t.Steady = true
is t.SteadyStateModel t.SteadyStateModel = true
is t.PerfectForesightSetup t.PerfectForesightSetup = true
is t.PerfectForesightSolver t.PerfectForesightSolver = true
is t.OccbinConstraints t.OccbinConstraints = true
is t.OccbinSetup t.OccbinSetup = true
is t.OccbinSolver t.OccbinSolver = true
is t.Check t.Check = true
is t.Resid t.Resid = true
is t.Rplot t.Rplot = true
is t.ModelDiagnostics t.ModelDiagnostics = true
is t.Min t.Min = true
is t.Max t.Max = true
is t.Diff t.Diff = true
is t.Abs t.Abs = true
is t.Pick t.Pick = true
is t.SteadyState t.SteadyState = true
is t.Reserved t.Reserved = true
is t.Name t.Name = true
is t.Whole t.Whole = true
is t.Number t.Number = true
is t.Text t.Text = true
is t.Tex t.Tex = true
is t.Semicolon t.Semicolon = true
is t.Comma t.Comma = true
is t.Equals t.Equals = true
is t.Open t.Open = true
is t.Close t.Close = true
is t.OpenBracket t.OpenBracket = true
is t.CloseBracket t.CloseBracket = true
is t.Plus t.Plus = true
is t.Minus t.Minus = true
is t.Star t.Star = true
is t.Slash t.Slash = true
is t.Caret t.Caret = true
is t.Hash t.Hash = true
is t.Colon t.Colon = true
is t.Less t.Less = true
is t.Greater t.Greater = true
is t.AtMost t.AtMost = true
is t.AtLeast t.AtLeast = true
is _ _ = false
