-- A sum or a product, joined from the left.
use Rattle.std.proofs.Common.{◌≡◌, ℕ, ℤ, List, [], ◌∷◌, Result, Ok, Err, refl, sym, ap, ◌∙◌}
use Rattle.std.specs.Prelude.{IfOk}
use Rattle.mp_syntax.specs.Syntax.{Expr, Binary, Further, with_further}
use Rattle.mp_semantics.specs.Term as sem
use Rattle.mp_semantics.specs.Term.{Term, binary, power_of}
use Rattle.mp_values.specs.Names.{Names}
use Rattle.mp_values.specs.Limits.{◌>>=◌, binary_of}
use Rattle.mp_values.specs.ModelOf.{Locals}
use Rattle.mp_values.specs.From.{Taken, term_from, first_of, rest_of}
use Rattle.mp_trees.specs.declared.fault.ModelFault.{ModelFault}
use Rattle.mp_graph.specs.Shared.{term_at}
use Rattle.mp_trees.specs.Earlier.{HasEarlier}
use Rattle.mp_trees.specs.Gives.{Fails, Gives}
use Rattle.mp_trees.specs.Parts.{further_from}
use Rattle.mp_trees.proofs.Bound.{bind-Ok, Fails-bind, Fails_same}

-- a first operand joined to one that was taken
abbrev joined : Further → Term → Term × List ℤ → Taken Term
joined f x y = Ok (binary (binary_of f.op) x y.0, y.1)

module _ (ns : Names) (ls : Locals) (f : Further) (more : List Further) where
  abbrev goes_on : Term × List ℤ → Taken Term
  goes_on x = further_from ns ls x.0 more x.1

  abbrev joins : Term × List ℤ → Taken Term
  joins x = term_from ns ls f.operand x.1 >>= joined f x.0

  second : (x : Term) (s : Taken Term) → (s >>= joined f x >>= goes_on) ≡ (s >>= λ y. further_from ns ls (binary (binary_of f.op) x y.0) more y.1)
  second x (Ok y) = refl
  second x (Err e) = refl

  step : (r : Taken Term) → (r >>= joins >>= goes_on) ≡ (r >>= λ x. further_from ns ls x.0 (f ∷ more) x.1)
  step (Ok x) = second x.0 (term_from ns ls f.operand x.1)
  step (Err e) = refl

pub term_chain : (ns : Names) (ls : Locals) (e : Expr) (more : List Further) (ks : List ℤ) → term_from ns ls (with_further e more) ks ≡ (term_from ns ls e ks >>= λ x. further_from ns ls x.0 more x.1)
term_chain ns ls e [] ks = sym (bind-Ok (term_from ns ls e ks))
term_chain ns ls e (f ∷ more) ks = term_chain ns ls (Binary f.op e f.at f.operand) more ks ∙ step ns ls f more (term_from ns ls e ks)

-- a power takes the next exponent
pub power_taken : (x y : Term) (k : ℤ) (ks js : List ℤ) → k ≡ first_of ks → js ≡ rest_of ks → y ≡ power_of x k → (let r : Taken Term = Ok (power_of x (first_of ks), rest_of ks) in let s : Taken Term = Ok (y, js) in r ≡ s)
power_taken x y k ks js e f g = cc (e, f, g)

-- a function of a first operand, and a second one that was taken
abbrev pub called_with : sem.Binary → Term → Term × List ℤ → Taken Term
called_with o x y = Ok (binary o x y.0, y.1)

-- the two operands of a call, the first of which stays what it was
pub call_same : (r s : Taken Term) (o : sem.Binary) (x still : Term) → r ≡ s → still ≡ x → (r >>= called_with o still) ≡ (s >>= called_with o x)
call_same r s o x still p q = ap (λ t. r >>= called_with o t) q ∙ ap (λ t. t >>= called_with o x) p

-- a term that is given is one whose difference can be taken
pub earlier_of_given : (ts : List Term) (r : Result ℕ ModelFault) (given : Taken Term) (ks : List ℤ) → Gives (λ id. (term_at ts id, ks)) r given → ((t : Term) → given ≡ Ok (t, ks) → HasEarlier t) → IfOk r (λ id. HasEarlier (term_at ts id))
earlier_of_given ts (Ok id) given ks gives has = has (term_at ts id) gives
earlier_of_given ts (Err e) given ks gives has = tt

-- ---- one more operand
module _ (ns : Names) (ls : Locals) (x : Term) (f : Further) (rest : List Further) (ks : List ℤ) (whole : Taken Term) (so_far : further_from ns ls x (f ∷ rest) ks ≡ whole) where
  abbrev then_rest : Term × List ℤ → Taken Term
  then_rest y = further_from ns ls (binary (binary_of f.op) x y.0) rest y.1

  pub further_fails : (e : ModelFault) → Fails e (term_from ns ls f.operand ks) → Fails e whole
  further_fails e fails = Fails_same e _ whole so_far (Fails-bind e (term_from ns ls f.operand ks) then_rest fails)

  pub further_turn : (y t still : Term) (o : sem.Binary) (js : List ℤ) → term_from ns ls f.operand ks ≡ Ok (y, js) → t ≡ binary o still y → o ≡ binary_of f.op → still ≡ x → further_from ns ls t rest js ≡ whole
  further_turn y t still o js is e same kept =
      ap (λ u. further_from ns ls u rest js) (e ∙ ap (λ b. binary b still y) same ∙ ap (λ z. binary (binary_of f.op) z y) kept)
      ∙ ap (λ r. r >>= then_rest) (sym is) ∙ so_far
