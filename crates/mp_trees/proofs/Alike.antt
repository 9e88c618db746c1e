-- What a graph that grows keeps of its locals.
use Rattle.std.proofs.Common.{◌≡◌, ◌<◌, length, get_or, ℕ, ℤ, List, [], ◌∷◌, Option, Some, None, Ok, option_map, refl, sym, ap, subst, ◌∙◌, arith}
use Rattle.std.specs.Option.{option_or}
use Rattle.std.specs.List.{AllByRecursion}
use Rattle.mp_syntax.specs.Syntax.{Expr, Number, Variable, Signed, Binary, Power, Paren, Call, Diff, Pick, Further, with_further}
use Rattle.mp_statements.specs.Statements.{Equation}
use Rattle.mp_statements.specs.Parts.{name_of}
use Rattle.mp_semantics.specs.Term as sem
use Rattle.mp_semantics.specs.Term.{Term}
use Rattle.mp_semantics.specs.Shifted.{difference}
use Rattle.mp_values.specs.Names.{Names, named_term, shift_of}
use Rattle.mp_values.specs.Limits.{◌>>=◌, known, limited, binary_of}
use Rattle.mp_values.specs.ModelOf.{Locals, signed_term, binary_called, equation_named}
use Rattle.mp_values.specs.From.{Taken, term_from, right_from, equation_from, first_of, rest_of}
use Rattle.mp_graph.specs.declared.images.Images.{Images}
use Rattle.mp_graph.specs.Images.{AreImages}
use Rattle.mp_graph.specs.Shared.{Shared, Says, Keeps, term_at}
use Rattle.mp_graph.proofs.Kept.{still}
use Rattle.mp_trees.specs.Earlier.{HasDifferences}
use Rattle.mp_trees.specs.Locals.{node_in, locals_in, AreNodes, AreAlike}
use Rattle.mp_trees.specs.Parts.{further_from}
use Rattle.mp_trees.proofs.Bound.{bind_same}
use Rattle.mp_trees.proofs.Found.{local_shown}

module _ (ns : Names) (ls ks : Locals) (alike : AreAlike ls ks) where
  -- one part and then another
  two : {X : Type 0} (a b : Expr) (js : List ℤ) (next : Term → Term × List ℤ → Taken X) → term_from ns ls a js ≡ term_from ns ks a js → ((is : List ℤ) → term_from ns ls b is ≡ term_from ns ks b is)
      → (term_from ns ls a js >>= λ x. term_from ns ls b x.1 >>= next x.0) ≡ (term_from ns ks a js >>= λ x. term_from ns ks b x.1 >>= next x.0)
  two a b js next p q =
      ap (λ r. r >>= λ x. term_from ns ls b x.1 >>= next x.0) p
      ∙ bind_same (term_from ns ks a js) _ _ (λ x. ap (λ r. r >>= next x.0) (q x.1))

  pub term_alike : (e : Expr) (js : List ℤ) → term_from ns ls e js ≡ term_from ns ks e js
  term_alike (Number literal at) js = refl
  term_alike (Variable name shift) js =
      bind_same (limited.shift name.at (shift_of shift)) _ _ (λ k. ap (λ o. known name.name (option_or o (named_term ns name.name k)) >>= λ x. Ok (x, js)) (alike name.name))
  term_alike (Signed s a) js = ap (λ r. r >>= λ x. Ok (signed_term s x.0, x.1)) (term_alike a js)
  term_alike (Binary o a at b) js = two a b js (λ x y. Ok (sem.binary (binary_of o) x y.0, y.1)) (term_alike a js) (term_alike b)
  term_alike (Power a at s b) js = ap (λ r. r >>= λ x. Ok (sem.power_of x.0 (first_of x.1), rest_of x.1)) (term_alike a js)
  term_alike (Paren a) js = term_alike a js
  term_alike (Call f a b) js = two a b js (λ x y. Ok (sem.binary (binary_called f) x y.0, y.1)) (term_alike a js) (term_alike b)
  term_alike (Diff at a) js = ap (λ r. r >>= λ x. Ok (difference x.0, x.1)) (term_alike a js)
  term_alike (Pick a b c d) js = refl

  pub differences_alike : (e : Expr) → HasDifferences ns ls e → HasDifferences ns ks e
  differences_alike (Number literal at) h = tt
  differences_alike (Variable name shift) h = tt
  differences_alike (Signed s a) h = differences_alike a h
  differences_alike (Binary o a at b) h = (differences_alike a h.0, differences_alike b h.1)
  differences_alike (Power a at s b) h = differences_alike a h
  differences_alike (Paren a) h = differences_alike a h
  differences_alike (Call f a b) h = (differences_alike a h.0, differences_alike b h.1)
  differences_alike (Diff at a) h = (differences_alike a h.0, λ is js t e. h.1 is js t (term_alike a is ∙ e))
  differences_alike (Pick a b c d) h = tt

-- ---- while the graph grows
module _ (g h : Shared) (ls : List (List ℕ × ℕ)) (kept : Keeps g h) (nodes : AreNodes g.terms ls) where
  pub nodes_kept : AreNodes h.terms ls
  nodes_kept = record { within = λ name id e. let l = nodes.within name id e in omega (arith, l, kept.longer) }

  same_node : (o : Option ℕ) → ((id : ℕ) → o ≡ Some id → id < length g.terms) → option_map (term_at h.terms) o ≡ option_map (term_at g.terms) o
  same_node None l = refl
  same_node (Some id) l = ap Some (kept.each id (l id refl))

  pub alike_kept : AreAlike (locals_in h.terms ls) (locals_in g.terms ls)
  alike_kept name = local_shown h.terms ls name ∙ same_node (node_in ls name) (nodes.within name) ∙ sym (local_shown g.terms ls name)

  pub term_kept : (e : Expr) (js : List ℤ) → term_from h.names (locals_in h.terms ls) e js ≡ term_from g.names (locals_in g.terms ls) e js
  term_kept e js = ap (λ ns. term_from ns (locals_in h.terms ls) e js) kept.names ∙ term_alike g.names (locals_in h.terms ls) (locals_in g.terms ls) alike_kept e js

  pub differences_kept : (e : Expr) → HasDifferences g.names (locals_in g.terms ls) e → HasDifferences h.names (locals_in h.terms ls) e
  differences_kept e d =
      subst (λ ns. HasDifferences ns (locals_in h.terms ls) e) (sym kept.names)
      (differences_alike g.names (locals_in g.terms ls) (locals_in h.terms ls) (λ name. sym (alike_kept name)) e d)

  pub all_differences_kept : (fs : List Further) → AllByRecursion (λ f. HasDifferences g.names (locals_in g.terms ls) f.operand) fs → AllByRecursion (λ f. HasDifferences h.names (locals_in h.terms ls) f.operand) fs
  all_differences_kept [] d = tt
  all_differences_kept (f ∷ fs) d = (differences_kept f.operand d.0, all_differences_kept fs d.1)

-- ---- sums and products
pub chain_differences : (ns : Names) (ls : Locals) (e : Expr) (more : List Further) → HasDifferences ns ls (with_further e more) → HasDifferences ns ls e × AllByRecursion (λ f. HasDifferences ns ls f.operand) more
chain_differences ns ls e [] d = (d, tt)
chain_differences ns ls e (f ∷ more) d =
    let rest = chain_differences ns ls (Binary f.op e f.at f.operand) more d in (rest.0.0, (rest.0.1, rest.1))

-- ---- sums and products, and images, while the graph grows
pub further_kept : (g h : Shared) (ls : List (List ℕ × ℕ)) → Keeps g h → AreNodes g.terms ls → (x : Term) (fs : List Further) (js : List ℤ)
    → further_from h.names (locals_in h.terms ls) x fs js ≡ further_from g.names (locals_in g.terms ls) x fs js
further_kept g h ls kept nodes x [] js = refl
further_kept g h ls kept nodes x (f ∷ fs) js =
    ap (λ r. r >>= λ y. further_from h.names (locals_in h.terms ls) (sem.binary (binary_of f.op) x y.0) fs y.1) (term_kept g h ls kept nodes f.operand js)
    ∙ bind_same (term_from g.names (locals_in g.terms ls) f.operand js) _ _ (λ y. further_kept g h ls kept nodes (sem.binary (binary_of f.op) x y.0) fs y.1)

pub images_kept : (g h : Shared) (images : Images) (image : Term → Term) → Keeps g h → AreImages g images image → AreImages h images image
images_kept g h images image kept are = record {
  room = are.room;
  within = λ i known. omega (arith, are.within i known, kept.longer);
  says = λ i known.
      subst (λ t. Says h (get_or images.table.items i 0) (image t)) (sym (kept.each i (are.within i known)))
      (still g h (get_or images.table.items i 0) (image (term_at g.terms i)) kept (are.says i known));
}

pub right_kept : (g h : Shared) (ls : List (List ℕ × ℕ)) → Keeps g h → AreNodes g.terms ls → (right : Option Expr) (js : List ℤ)
    → right_from h.names (locals_in h.terms ls) right js ≡ right_from g.names (locals_in g.terms ls) right js
right_kept g h ls kept nodes None js = refl
right_kept g h ls kept nodes (Some e) js = term_kept g h ls kept nodes e js

-- an equation of two sides, the first of which stays what it was
pub equation_taken : (ns : Names) (ls : Locals) (x : Equation) (ks js is : List ℤ) (l still r : Term) (name : Option (List ℕ))
    → term_from ns ls x.left ks ≡ Ok (l, js) → right_from ns ls x.right js ≡ Ok (r, is) → still ≡ l → name ≡ name_of x → equation_from ns ls x ks ≡ Ok (equation_named name still r, is)
equation_taken ns ls x ks js is l still r name p q e named = rw (p, q) (cc (e, named))
