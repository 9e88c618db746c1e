-- A chain of one level: something, and turn after turn further ones.
use Rattle.std.proofs.Common.{◌≡◌, ℕ, suc, ◌+◌, ◌-◌, ◌<◌, ◌≤◌, List, ◌∷◌, length, Bool, true, false, ◌==◌, if◌then◌else◌, Option, Some, None, refl, ap, ◌∙◌, arith}
use Rattle.std.proofs.lemmas.Bool.Decides.{nat_tests}
use Rattle.mp_mexpr.specs.declared.operator.Operator.{Operator}
use Rattle.mp_mexpr.specs.declared.token.Mark.TheVariants as m
use Rattle.mp_mexpr.specs.Syntax.{Expr, Apply}
use Rattle.mp_mexpr.specs.Tokens.{Tok, Binary}
use Rattle.mp_mexpr.specs.Grammar.{Reader, ◌>>=◌, go_on, past, operator_at, level_of, most, repeated, applied, level_at, inside_at}
use Rattle.mp_mexpr.proofs.Reading.{repeated-end}

-- no place of an element follows, and no operator that binds tighter than this level
abbrev pub Ends : ℕ → List Tok → Type 0
Ends level ts = (past m.OpenBracket ts ≡ None) × ((k : ℕ) → k < level → operator_at k ts ≡ None)

pub Ends-tighter : (level : ℕ) (ts : List Tok) → Ends (suc level) ts → Ends level ts
Ends-tighter level ts e = (e.0, λ k lt. e.1 k (omega arith))

tighter : (a k : ℕ) → k < a → (a == k) ≡ false
tighter a k lt = grind (arith, nat_tests)

equals : (a k : ℕ) → a ≡ k → (a == k) ≡ true
equals a k e = grind (arith, nat_tests)

pub Ends-operator : (level : ℕ) (operator : Operator) (us : List Tok) → level_of operator ≡ level → Ends level (Binary operator ∷ us)
Ends-operator level operator us is =
    (refl, λ k lt. ap (λ (b : Bool). if b then Some (operator, us) else None) (tighter (level_of operator) k (omega arith)))

pub operator_at-is : (level : ℕ) (operator : Operator) (us : List Tok) → level_of operator ≡ level → operator_at level (Binary operator ∷ us) ≡ Some (operator, us)
operator_at-is level operator us is =
    ap (λ (b : Bool). if b then Some (operator, us) else None) (equals (level_of operator) level is)

-- so many turns lead from the first, which is read at the start, to x
pub record Chain {B X : Type 0} (begin : List Tok → Option B) (step : X → B → Option (X × List Tok)) (start : Reader X) (ts : List Tok) (x : X) (rest : List Tok) : Type 0 where
  pub first : X
  pub mid : List Tok
  pub turns : ℕ
  pub begun : start ts ≡ Some (first, mid)
  pub turned : (n : ℕ) → repeated (turns + n) begin step first mid ≡ repeated n begin step x rest
  pub within : turns + length rest ≤ length mid

turn : {B X : Type 0} (begin : List Tok → Option B) (step : X → B → Option (X × List Tok)) (n : ℕ) (x : X) (ts : List Tok) (b : B) (y : X × List Tok) → begin ts ≡ Some b → step x b ≡ Some y → repeated (suc n) begin step x ts ≡ repeated n begin step y.0 y.1
unfolding repeated
turn begin step n x ts b y begun stepped =
    ap (λ o. go_on o (Some (x, ts)) (λ b. step x b >>= λ y. repeated n begin step y.0 y.1)) begun
    ∙ ap (λ o. o >>= λ y. repeated n begin step y.0 y.1) stepped

module _ {B X : Type 0} (begin : List Tok → Option B) (step : X → B → Option (X × List Tok)) (start : Reader X) where
  pub chain-one : (ts : List Tok) (x : X) (rest : List Tok) → start ts ≡ Some (x, rest) → Chain begin step start ts x rest
  chain-one ts x rest e =
      let none : (n : ℕ) → 0 + n ≡ n = λ n. omega arith in
      record { first = x; mid = rest; turns = 0; begun = e; turned = λ n. ap (λ k. repeated k begin step x rest) (none n); within = omega arith }

  pub chain-more : (ts : List Tok) (x : X) (us : List Tok) (b : B) (y : X) (rest : List Tok) → Chain begin step start ts x us → begin us ≡ Some b → step x b ≡ Some (y, rest) → length rest < length us → Chain begin step start ts y rest
  chain-more ts x us b y rest c begun stepped lt =
      let one : (n : ℕ) → (c.turns + 1) + n ≡ c.turns + suc n = λ n. omega arith in
      record { first = c.first; mid = c.mid; turns = c.turns + 1; begun = c.begun; turned = λ n. ap (λ k. repeated k begin step c.first c.mid) (one n) ∙ c.turned (suc n) ∙ turn begin step n x us b (y, rest) begun stepped; within = omega (arith, c.within) }

  pub chain-end : (ts : List Tok) (x : X) (rest : List Tok) → (c : Chain begin step start ts x rest) → begin rest ≡ None → (n : ℕ) → length c.mid ≤ n → repeated n begin step c.first c.mid ≡ Some (x, rest)
  chain-end ts x rest c none n le =
      let all : n ≡ c.turns + (n - c.turns) = omega (arith, c.within) in
      ap (λ k. repeated k begin step c.first c.mid) all
      ∙ c.turned (n - c.turns)
      ∙ repeated-end begin step (n - c.turns) x rest none

-- a level, where so many more brackets may be open
abbrev pub at : ℕ → ℕ → Reader Expr
at room level ts = level_at (inside_at room) level ts

-- operands of a level, with operators of the level between
abbrev pub Operands : ℕ → ℕ → List Tok → Expr → List Tok → Type 0
Operands room level = Chain (operator_at level) (applied (at room level)) (at room level)

pub operands-one : (room level : ℕ) (ts : List Tok) (e : Expr) (rest : List Tok) → at room level ts ≡ Some (e, rest) → Operands room level ts e rest
operands-one room level ts e rest h =
    chain-one (operator_at level) (applied (at room level)) (at room level) ts e rest h

pub operands-more : (room level : ℕ) (operator : Operator) (ts us rest : List Tok) (e f : Expr) → level_of operator ≡ level → Operands room level ts e (Binary operator ∷ us) → at room level us ≡ Some (f, rest) → length rest < length us → Operands room level ts (Apply operator e f) rest
operands-more room level operator ts us rest e f is c h lt =
    chain-more (operator_at level) (applied (at room level)) (at room level) ts e (Binary operator ∷ us) (operator, us) (Apply operator e f) rest c (operator_at-is level operator us is) (ap (λ o. o >>= λ right. Some (Apply operator e right.0, right.1)) h) (omega arith)

-- all operands are read where no operator of the level follows
pub operands-end : (room level : ℕ) (ts : List Tok) (e : Expr) (rest : List Tok) → ((l : List Tok) → most level l ≡ length l) → Operands room level ts e rest → operator_at level rest ≡ None → at room (suc level) ts ≡ Some (e, rest)
unfolding level_at
operands-end room level ts e rest long c none =
    ap (λ o. o >>= λ first. repeated (most level first.1) (operator_at level) (applied (at room level)) first.0 first.1) c.begun
    ∙ ap (λ n. repeated n (operator_at level) (applied (at room level)) c.first c.mid) (long c.mid)
    ∙ chain-end (operator_at level) (applied (at room level)) (at room level) ts e rest c none (length c.mid) (omega arith)

-- one operand, or two, where a level has one operator at most
pub operand-alone : (room level : ℕ) (ts : List Tok) (e : Expr) (rest : List Tok) → at room level ts ≡ Some (e, rest) → operator_at level rest ≡ None → at room (suc level) ts ≡ Some (e, rest)
unfolding level_at
operand-alone room level ts e rest h none =
    ap (λ o. o >>= λ first. repeated (most level first.1) (operator_at level) (applied (at room level)) first.0 first.1) h
    ∙ repeated-end (operator_at level) (applied (at room level)) (most level rest) e rest none

pub operands-two : (room level : ℕ) (operator : Operator) (ts us rest : List Tok) (e f : Expr) → ((l : List Tok) → most level l ≡ 1) → level_of operator ≡ level → at room level ts ≡ Some (e, Binary operator ∷ us) → at room level us ≡ Some (f, rest) → at room (suc level) ts ≡ Some (Apply operator e f, rest)
unfolding level_at repeated
operands-two room level operator ts us rest e f one is h k =
    ap (λ o. o >>= λ first. repeated (most level first.1) (operator_at level) (applied (at room level)) first.0 first.1) h
    ∙ ap (λ n. repeated n (operator_at level) (applied (at room level)) e (Binary operator ∷ us)) (one (Binary operator ∷ us))
    ∙ turn (operator_at level) (applied (at room level)) 0 e (Binary operator ∷ us) (operator, us) (Apply operator e f, rest) (operator_at-is level operator us is) (ap (λ o. o >>= λ right. Some (Apply operator e right.0, right.1)) k)
