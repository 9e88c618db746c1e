-- The parameters of a model are those that its file declares.
use Rattle.std.proofs.Common.{◌≡◌, ℕ, List, [], ◌∷◌, map, cond, Bool, true, false, Option, Some, None, Ok, Err, refl, sym, ap, ◌∙◌}
use Rattle.std.specs.Str.{bytes_eq}
use Rattle.mp_rational.specs.Fraction.{Fraction}
use Rattle.mp_statements.specs.Statements.{Statement, Declares, Assigns, Model, Notes}
use Rattle.mp_semantics.specs.Model as m
use Rattle.mp_values.specs.Table.{Table, unset, with_value}
use Rattle.mp_values.specs.Names.{names_of}
use Rattle.mp_values.specs.Limits.{Folded, ◌>>=◌, limited}
use Rattle.mp_values.specs.Values.{value_by, assigned_by, values_given}
use Rattle.mp_values.specs.ModelOf.{parameters_given}

abbrev names : Table → List (List ℕ)
names t = map (λ p. p.0) t

names-unset : (ns : List (List ℕ)) → names (unset ns) ≡ ns
names-unset [] = refl
names-unset (n ∷ ns) = ap (λ l. n ∷ l) (names-unset ns)

names-with_value : (name : List ℕ) (v : Option Fraction) (t : Table) → names (with_value name v t) ≡ names t
names-with_value name v [] = refl
names-with_value name v (p ∷ ps) = by (bytes_eq name p.0) (names-with_value name v ps)
  where
    by : (b : Bool) → names (with_value name v ps) ≡ names ps → names (cond b (p.0, v) p ∷ with_value name v ps) ≡ names (p ∷ ps)
    by true h = ap (λ l. p.0 ∷ l) h
    by false h = ap (λ l. p.0 ∷ l) h

names-assigned : (file : List Statement) (t u : Table) → assigned_by limited t file ≡ Ok u → names u ≡ names t
names-assigned [] t u e = let same : t ≡ u = cc in ap names (sym same)
names-assigned (Declares kind ns ∷ more) t u e = names-assigned more t u e
names-assigned (Model at choices items ∷ more) t u e = names-assigned more t u e
names-assigned (Notes command ns ∷ more) t u e = names-assigned more t u e
names-assigned (Assigns name value ∷ more) t u e = by (value_by limited t value) e (λ x. names-assigned more (with_value name.name (Some x) t) u)
  where
    by : (r : Folded Fraction) → (r >>= λ x. assigned_by limited (with_value name.name (Some x) t) more) ≡ Ok u → ((x : Fraction) → assigned_by limited (with_value name.name (Some x) t) more ≡ Ok u → names u ≡ names (with_value name.name (Some x) t)) → names u ≡ names t
    by (Ok x) e h = h x e ∙ names-with_value name.name (Some x) t
    by (Err k) e h = absurd (let z : ⊥ = cc in z)

abbrev valued : List ℕ → Fraction → m.Parameter
valued n v = record { name = n; value = v }

names-given : (t : Table) (ps : List m.Parameter) → parameters_given t ≡ Ok ps → map (λ p. p.name) ps ≡ names t
names-given [] ps e = let same : [] ≡ ps = cc in ap (map (λ (p : m.Parameter). p.name)) (sym same)
names-given ((n, None) ∷ t) ps e = absurd (let z : ⊥ = cc in z)
names-given ((n, Some v) ∷ t) ps e = by (parameters_given t) (names-given t) e
  where
    by : (r : Folded (List m.Parameter)) → ((qs : List m.Parameter) → r ≡ Ok qs → map (λ p. p.name) qs ≡ names t) → (r >>= λ qs. Ok (valued n v ∷ qs)) ≡ Ok ps → map (λ p. p.name) ps ≡ n ∷ names t
    by (Ok qs) h e =
        let same : valued n v ∷ qs ≡ ps = cc in
        ap (map (λ (p : m.Parameter). p.name)) (sym same) ∙ ap (λ l. n ∷ l) (h qs refl)
    by (Err k) h e = absurd (let z : ⊥ = cc in z)

pub parameters_named : (file : List Statement) (t : Table) (ps : List m.Parameter) → values_given file ≡ Ok t → parameters_given t ≡ Ok ps → map (λ p. p.name) ps ≡ (names_of file).parameters
parameters_named file t ps v e =
    names-given t ps e ∙ names-assigned file (unset (names_of file).parameters) t v ∙ names-unset (names_of file).parameters
