-- The exponents of several statements.
use Rattle.std.proofs.Common.{◌≡◌, ℕ, ℤ, ◌+◌, ◌<◌, List, [], ◌∷◌, ◌++◌, append_assoc, map, length, drop, get_or, Result, Ok, Err, refl, sym, ap, ◌∙◌}
use Rattle.std.proofs.lemmas.List.{drop_more}
use Rattle.mp_statements.specs.Statements.{Item}
use Rattle.mp_statements.specs.Parts.{items_in, items_of}
use Rattle.mp_file.specs.declared.Statement.{Statement}
use Rattle.mp_file.specs.Shown.{statement_of}
use Rattle.mp_values.specs.Table.{Table}
use Rattle.mp_values.specs.Limits.{Folded, ◌>>=◌}
use Rattle.mp_values.specs.Exponents.{joined, item_exponents, all_exponents}
use Rattle.mp_fold.specs.declared.exponents.ExponentFault.{ExponentFault}
use Rattle.mp_fold.specs.declared.exponents.ExponentFault.TheVariants.{Refused, NoMemory}
use Rattle.mp_fold.specs.Collected.{after, Adds}
use Rattle.mp_fold.proofs.Chains.{after_joined}
use Rattle.mp_decl.specs.Exponents.{Fails}

none-joined : (r : Folded (List ℤ)) → r ≡ joined (Ok []) r
none-joined (Ok ks) = refl
none-joined (Err e) = refl

joined-joined : (r s q : Folded (List ℤ)) → joined r (joined s q) ≡ joined (joined r s) q
joined-joined (Ok ks) (Ok js) (Ok is) = ap Ok (sym (append_assoc ks js is))
joined-joined (Ok ks) (Ok js) (Err e) = refl
joined-joined (Ok ks) (Err e) q = refl
joined-joined (Err e) s q = refl

exponents-append : (t : Table) (xs ys : List Item) → all_exponents t (xs ++ ys) ≡ joined (all_exponents t xs) (all_exponents t ys)
exponents-append t [] ys = none-joined (all_exponents t ys)
exponents-append t (x ∷ xs) ys =
    ap (joined (item_exponents t x)) (exponents-append t xs ys) ∙ joined-joined (item_exponents t x) (all_exponents t xs) (all_exponents t ys)

module _ (t : Table) (xs : List Statement) (i : ℕ) (x d : Statement) (found : List ℤ) (whole : Folded (List ℤ)) (within : i < length xs) (is : x ≡ get_or xs i d) (so_far : after found (all_exponents t (items_of (map statement_of (drop i xs)))) ≡ whole) where
  here : (after found (all_exponents t (items_in (statement_of x))) >>= λ middle. after middle (all_exponents t (items_of (map statement_of (drop (i + 1) xs))))) ≡ whole
  here =
      sym (ap (λ l. after found (all_exponents t (items_of (map statement_of l)))) (drop_more xs i d within ∙ ap (λ y. y ∷ drop (i + 1) xs) (sym is))
      ∙ ap (after found) (exponents-append t (items_in (statement_of x)) (items_of (map statement_of (drop (i + 1) xs))))
      ∙ after_joined found (all_exponents t (items_in (statement_of x))) (all_exponents t (items_of (map statement_of (drop (i + 1) xs)))))
      ∙ so_far

  pub turn_goes : (u : Unit {0}) (new : List ℤ) → (let r : Result (Unit {0}) ExponentFault = Ok u in Adds r found new (all_exponents t (items_in (statement_of x)))) → after new (all_exponents t (items_of (map statement_of (drop (i + 1) xs)))) ≡ whole
  turn_goes u new e = sym (ap (λ r. r >>= λ middle. after middle (all_exponents t (items_of (map statement_of (drop (i + 1) xs))))) e) ∙ here

  pub turn_stops : (e : ExponentFault) (new : List ℤ) → (let r : Result (Unit {0}) ExponentFault = Err e in Adds r found new (all_exponents t (items_in (statement_of x)))) → Fails e whole
  turn_stops (Refused f) new h = sym here ∙ ap (λ r. r >>= λ middle. after middle (all_exponents t (items_of (map statement_of (drop (i + 1) xs))))) h
  turn_stops NoMemory new h = tt
