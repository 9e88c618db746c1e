-- How readers read on.
use Rattle.std.proofs.Common.{◌≡◌, ℕ, zero, suc, ◌-◌, ◌<◌, List, Option, Some, None, Err, Bor, refl, sym, ap, ◌∙◌, arith}
use Rattle.mp_mexpr.specs.Tokens.{Tok, toks}
use Rattle.mp_mexpr.specs.Grammar.{Reader, ◌>>=◌, go_on, repeated, applied, extended, indexed, place_at, operator_at, most, unary_at, level_at, inside_at}
use Rattle.mp_mexpr.specs.declared.token.Token.{Token}
use Rattle.mp_mexpr.specs.declared.expression.Expr.{Expr as Code}
use Rattle.mp_mexpr.specs.Shown.{expr_of, after}
use Rattle.mp_mexpr.specs.Syntax.{Expr, Exprs, Apply, Index, Empty, With}
use Rattle.mp_mexpr.specs.Gives.{Reads}
use Rattle.mp_mexpr.specs.declared.operator.Operator.{Operator}
use Rattle.mp_mexpr.specs.declared.reader.Unread.{Unread}
use Rattle.mp_mexpr.specs.declared.reader.Unread.TheVariants as u

pub inside_at-none : (room : ℕ) (ts : List Tok) → room ≡ 0 → inside_at room ts ≡ None
unfolding inside_at
inside_at-none zero ts is = refl
inside_at-none (suc room) ts is = cc

pub inside_at-some : (room : ℕ) (ts : List Tok) → (room ≡ 0 → ⊥) → inside_at room ts ≡ level_at (inside_at (room - 1)) 6 ts
unfolding inside_at
inside_at-some zero ts some = absurd (some refl)
inside_at-some (suc room) ts some = let m : room ≡ suc room - 1 = omega arith in ap (λ n. level_at (inside_at n) 6 ts) m

pub level_at-tightest : (inside : Reader Expr) (level : ℕ) (ts : List Tok) → level ≡ 0 → level_at inside level ts ≡ unary_at inside ts
unfolding level_at
level_at-tightest inside zero ts is = refl
level_at-tightest inside (suc level) ts is = cc

pub level_at-looser : (inside : Reader Expr) (level : ℕ) (ts : List Tok) → (level ≡ 0 → ⊥) → level_at inside level ts ≡ (level_at inside (level - 1) ts >>= λ first. repeated (most (level - 1) first.1) (operator_at (level - 1)) (applied (level_at inside (level - 1))) first.0 first.1)
unfolding level_at
level_at-looser inside zero ts some = absurd (some refl)
level_at-looser inside (suc level) ts some =
    let m : level ≡ suc level - 1 = omega arith in
    ap (λ k. level_at inside k ts >>= λ first. repeated (most k first.1) (operator_at k) (applied (level_at inside k)) first.0 first.1) m

pub ruleset rooms = (inside_at-none, inside_at-some)

pub ruleset levels = (level_at-tightest, level_at-looser)

-- no further turn is left, or none begins
pub repeated-none : {B X : Type 0} (begin : List Tok → Option B) (step : X → B → Option (X × List Tok)) (n : ℕ) (x : X) (ts : List Tok) → n ≡ 0 → repeated n begin step x ts ≡ Some (x, ts)
unfolding repeated
repeated-none begin step zero x ts is = refl
repeated-none begin step (suc n) x ts is = cc

pub repeated-end : {B X : Type 0} (begin : List Tok → Option B) (step : X → B → Option (X × List Tok)) (n : ℕ) (x : X) (ts : List Tok) → begin ts ≡ None → repeated n begin step x ts ≡ Some (x, ts)
unfolding repeated
repeated-end begin step zero x ts is = refl
repeated-end begin step (suc n) x ts is =
    ap (λ o. go_on o (Some (x, ts)) (λ b. step x b >>= λ y. repeated n begin step y.0 y.1)) is

-- a turn
pub repeated-turn : {B X : Type 0} (begin : List Tok → Option B) (step : X → B → Option (X × List Tok)) (n : ℕ) (x : X) (ts : List Tok) (b : B) → 0 < n → begin ts ≡ Some b → repeated n begin step x ts ≡ (step x b >>= λ y. repeated (n - 1) begin step y.0 y.1)
unfolding repeated
repeated-turn begin step zero x ts b lt is = absurd (none lt)
  where
    none : 0 < 0 → ⊥
    none h = omega arith
repeated-turn begin step (suc n) x ts b lt is =
    let m : n ≡ suc n - 1 = omega arith in
    ap (λ o. go_on o (Some (x, ts)) (λ b. step x b >>= λ y. repeated n begin step y.0 y.1)) is
    ∙ ap (λ k. step x b >>= λ y. repeated k begin step y.0 y.1) m

pub repeated-next : {B X : Type 0} (begin : List Tok → Option B) (step : X → B → Option (X × List Tok)) (n : ℕ) (x : X) (ts : List Tok) (b : B) (y : X × List Tok) (r : Option (X × List Tok)) → repeated n begin step x ts ≡ r → 0 < n → begin ts ≡ Some b → step x b ≡ Some y → repeated (n - 1) begin step y.0 y.1 ≡ r
repeated-next begin step n x ts b y r told lt begun some =
    sym (ap (λ o. o >>= λ y. repeated (n - 1) begin step y.0 y.1) some) ∙ sym (repeated-turn begin step n x ts b lt begun) ∙ told

pub repeated-fails : {B X : Type 0} (begin : List Tok → Option B) (step : X → B → Option (X × List Tok)) (n : ℕ) (x : X) (ts : List Tok) (b : B) (r : Option (X × List Tok)) → repeated n begin step x ts ≡ r → 0 < n → begin ts ≡ Some b → step x b ≡ None → r ≡ None
repeated-fails begin step n x ts b r told lt begun none =
    sym told ∙ repeated-turn begin step n x ts b lt begun ∙ ap (λ o. o >>= λ y. repeated (n - 1) begin step y.0 y.1) none

pub applied-is : (operand : Reader Expr) (left : Expr) (b : Operator × List Tok) (r : Option (Expr × List Tok)) → operand b.1 ≡ r → applied operand left b ≡ (r >>= λ right. Some (Apply b.0 left right.0, right.1))
applied-is operand left b r e = ap (λ o. o >>= λ right. Some (Apply b.0 left right.0, right.1)) e

pub extended-is : (inside : Reader Expr) (front : Exprs) (ts : List Tok) (r : Option (Expr × List Tok)) → inside ts ≡ r → extended inside front ts ≡ (r >>= λ last. Some (With front last.0, last.1))
extended-is inside front ts r e = ap (λ o. o >>= λ last. Some (With front last.0, last.1)) e

pub indexed-is : (inside : Reader Expr) (array : Expr) (ts : List Tok) (r : Option (Expr × List Tok)) → place_at inside ts ≡ r → indexed inside array ts ≡ (r >>= λ place. Some (Index array place.0, place.1))
indexed-is inside array ts r e = ap (λ o. o >>= λ place. Some (Index array place.0, place.1)) e

-- what was read, and the tokens after it
abbrev pub seen_expr : Code × Bor (List Token) → Expr × List Tok
seen_expr x = (expr_of x.0, toks x.1.now)

abbrev pub seen_exprs : List Code × Bor (List Token) → Exprs × List Tok
seen_exprs x = (after Empty x.0, toks x.1.now)

-- this is what was read
abbrev pub seen_rest : Expr → Bor (List Token) → Expr × List Tok
seen_rest read rest = (read, toks rest.now)

-- where a part is not read, neither is the whole
pub Reads-fails : {X Y X' Y' : Type 0} (view : Y → X × List Tok) (view' : Y' → X' × List Tok) (e : Unread) (part : Option (X × List Tok)) (all : Option (X' × List Tok)) → (part ≡ None → all ≡ None) → Reads view (Err e) part → Reads view' (Err e) all
Reads-fails view view' u.Wrong part all h none = h none
Reads-fails view view' u.NoMemory part all h none = tt
