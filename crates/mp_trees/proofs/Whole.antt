-- The model of equations that have used up their exponents.
use Rattle.std.proofs.Common.{◌≡◌, ℤ, List, [], map, Ok, Err, sym, ap, ◌∙◌}
use Rattle.mp_statements.specs.Statements.{Item, Statement}
use Rattle.mp_semantics.specs.Model as m
use Rattle.mp_values.specs.Names.{Names, names_of}
use Rattle.mp_values.specs.Table.{Table}
use Rattle.mp_values.specs.Limits.{Folded, Stuck, ◌>>=◌}
use Rattle.mp_values.specs.From.{items_from, used_up}
use Rattle.mp_values.specs.ModelOf.{parameters_given, equations_given, model_with}
use Rattle.mp_model_data.specs.Shown.{Held, equation_in, model_data}
use Rattle.mp_trees.specs.declared.fault.ModelFault.{ModelFault}
use Rattle.mp_trees.specs.Gives.{Fails}
use Rattle.mp_trees.specs.Parts.{model_at}
use Rattle.mp_trees.proofs.Bound.{Fails-whole}

used_up_fails : {X : Type 0} (r : Folded X) (s : Stuck) → used_up r ≡ Err s → r ≡ Err s
used_up_fails (Ok x) s e = absurd (let z : ⊥ = cc in z)
used_up_fails (Err k) s e = cc

abbrev without_rest : {X : Type 0} → X × List ℤ → Folded X
without_rest p = Ok p.0

used_up_gives : {X : Type 0} (r : Folded X) (x : X) (left : List ℤ) → used_up r ≡ Ok (x, left) → r ≡ Ok x
used_up_gives (Ok y) x left e = ap (λ s. s >>= without_rest) e
used_up_gives (Err k) x left e = absurd (let z : ⊥ = cc in z)

module _ (g ns : Names) (items : List Item) (js ks : List ℤ) (given : Folded (List m.Equation)) (named : g ≡ ns) (same : js ≡ ks) (law : items_from ns [] items ks ≡ used_up given) where
  all : items_from g [] items js ≡ used_up given
  all = ap (λ n. items_from n [] items js) named ∙ ap (items_from ns [] items) same ∙ law

  pub equations_fail : (e : ModelFault) → Fails e (items_from g [] items js) → Fails e given
  equations_fail e fails = Fails-whole e (items_from g [] items js) given (λ s is. used_up_fails given s (sym all ∙ is)) fails

  pub equations_are : (es : List m.Equation) (left : List ℤ) → items_from g [] items js ≡ Ok (es, left) → given ≡ Ok es
  equations_are es left is = used_up_gives given es left (sym all ∙ is)

pub model_is : (file : List Statement) (t : Table) (h : Held) → parameters_given t ≡ Ok h.parameters → equations_given file t ≡ Ok (map (equation_in h.graph.terms) h.equations) → h.graph.names ≡ names_of file → model_at file t ≡ Ok (model_data h)
model_is file t h p q named =
    rw (p, q) (ap (λ (n : Names). Ok (model_with n h.parameters (map (equation_in h.graph.terms) h.equations))) (sym named))
