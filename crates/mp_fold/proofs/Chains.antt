-- Sums and products from left to right.
use Rattle.std.proofs.Common.{◌≡◌, ℤ, List, [], ◌∷◌, ◌++◌, append_assoc, Ok, Err, refl, sym, ap, ◌∙◌}
use Rattle.mp_syntax.specs.declared.operator.Operator.TheVariants as op
use Rattle.mp_syntax.specs.Syntax.{Expr, Further, with_further}
use Rattle.mp_values.specs.Table.{Table}
use Rattle.mp_values.specs.Chained.{chained}
use Rattle.mp_values.specs.Limits.{Folded, ◌>>=◌, limited}
use Rattle.mp_values.specs.Values.{folded}
use Rattle.mp_values.specs.Exponents.{joined, exponents_given}
use Rattle.mp_fold.specs.Collected.{after, appended}
use Rattle.mp_values.proofs.Chains.{chained_is}

pub folded_chain : (t : Table) (e : Expr) (more : List Further) → folded t (with_further e more) ≡ (folded t e >>= λ x. chained (λ a. folded t a) limited.result x more)
folded_chain t = chained_is (λ e. folded t e) limited.result (λ o a at b. refl)

-- what stands in front of a list that grows from left to right stays in front of it
after_two : (front ks : List ℤ) (of : Expr → Folded (List ℤ)) (more : List Further) (r : Folded (List ℤ)) → ((js : List ℤ) → chained of appended (front ++ (ks ++ js)) more ≡ after front (chained of appended (ks ++ js) more)) → (r >>= λ js. appended op.Plus 0 (front ++ ks) js >>= λ z. chained of appended z more) ≡ after front (r >>= λ js. appended op.Plus 0 ks js >>= λ z. chained of appended z more)
after_two front ks of more (Ok js) next = ap (λ l. chained of appended l more) (append_assoc front ks js) ∙ next js
after_two front ks of more (Err e) next = refl

pub after_chain : (of : Expr → Folded (List ℤ)) (front ks : List ℤ) (more : List Further) → chained of appended (front ++ ks) more ≡ after front (chained of appended ks more)
after_chain of front ks [] = refl
after_chain of front ks (y ∷ more) = after_two front ks of more (of y.operand) (λ js. after_chain of front (ks ++ js) more)

-- two parts one after the other
pub after_joined : (front : List ℤ) (r s : Folded (List ℤ)) → after front (joined r s) ≡ (after front r >>= λ middle. after middle s)
after_joined front (Ok ks) (Ok js) = ap Ok (sym (append_assoc front ks js))
after_joined front (Ok ks) (Err e) = refl
after_joined front (Err e) s = refl

after_given : (of : Expr → Folded (List ℤ)) (front : List ℤ) (more : List Further) (r : Folded (List ℤ)) → after front (r >>= λ ks. chained of appended ks more) ≡ (after front r >>= λ middle. chained of appended middle more)
after_given of front more (Ok ks) = sym (after_chain of front ks more)
after_given of front more (Err k) = refl

pub exponents_chain : (t : Table) (front : List ℤ) (e : Expr) (more : List Further) → after front (exponents_given t (with_further e more)) ≡ (after front (exponents_given t e) >>= λ middle. chained (λ a. exponents_given t a) appended middle more)
exponents_chain t front e more =
    ap (after front) (chained_is (λ a. exponents_given t a) appended (λ o a at b. refl) e more)
    ∙ after_given (λ a. exponents_given t a) front more (exponents_given t e)
