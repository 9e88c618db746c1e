-- What a name stands for, among locals that are nodes.
use Rattle.std.proofs.Common.{◌≡◌, ℕ, ℤ, List, [], ◌∷◌, map, Bool, true, false, cond, Some, None, Ok, option_map, refl, sym, ap, ◌∙◌, subst, true≢false}
use Rattle.std.specs.Map.{lookup}
use Rattle.std.specs.Option.{option_or}
use Rattle.std.specs.Str.{bytes_eq}
use Rattle.std.proofs.lemmas.Slice.Eq.{bytes_eq-Decides}
use Rattle.indexmap.specs.IndexMap.{insert_entry}
use Rattle.mp_semantics.specs.Term.{Term}
use Rattle.mp_values.specs.Names.{Names, named_term}
use Rattle.mp_values.specs.Limits.{known}
use Rattle.mp_values.specs.ModelOf.{Locals, local_in, meaning_of}
use Rattle.mp_graph.specs.Shared.{term_at}
use Rattle.mp_trees.specs.Locals.{node_in, locals_in}

-- the entries of a map, looked up by name
pub node_lookup : {K : Type 0} (key : K → List ℕ) (es : List (K × ℕ)) (name : List ℕ) → node_in (map (λ e. (key e.0, e.1)) es) name ≡ lookup (λ k. bytes_eq name (key k)) es
node_lookup key [] name = refl
node_lookup key (e ∷ es) name = ap (λ o. cond (bytes_eq name (key e.0)) (Some e.1) o) (node_lookup key es name)

module _ {K : Type 0} (key : K → List ℕ) where
  abbrev pub shown : List (K × ℕ) → List (List ℕ × ℕ)
  shown es = map (λ e. (key e.0, e.1)) es

  abbrev pub alike : K → K → Bool
  alike j k = bytes_eq (key j) (key k)

  -- the name that was put in comes first among those that are looked up
  pub node_inserted : (es : List (K × ℕ)) (k : K) (v : ℕ) (name : List ℕ) → node_in (shown (insert_entry alike es k v)) name ≡ cond (bytes_eq name (key k)) (Some v) (node_in (shown es) name)
  node_inserted [] k v name = refl
  node_inserted (e ∷ es) k v name = by (alike k e.0) refl (node_inserted es k v name)
    where
      turned : (t u : Bool) → bytes_eq name (key k) ≡ t → bytes_eq name (key e.0) ≡ u → alike k e.0 ≡ false → cond u (Some e.1) (cond t (Some v) (node_in (shown es) name)) ≡ cond t (Some v) (cond u (Some e.1) (node_in (shown es) name))
      turned true true f g h =
          let one : key k ≡ key e.0 = sym ((bytes_eq-Decides name (key k)).0 f) ∙ (bytes_eq-Decides name (key e.0)).0 g in
          absurd (true≢false (sym ((bytes_eq-Decides (key k) (key e.0)).1 one) ∙ h))
      turned true false f g h = refl
      turned false true f g h = refl
      turned false false f g h = refl

      over : (t : Bool) → cond t (Some v) (node_in (shown es) name) ≡ cond t (Some v) (cond t (Some e.1) (node_in (shown es) name))
      over true = refl
      over false = refl

      by : (t : Bool) → alike k e.0 ≡ t → node_in (shown (insert_entry alike es k v)) name ≡ cond (bytes_eq name (key k)) (Some v) (node_in (shown es) name)
          → node_in (shown (cond t ((e.0, v) ∷ es) (e ∷ insert_entry alike es k v))) name ≡ cond (bytes_eq name (key k)) (Some v) (cond (bytes_eq name (key e.0)) (Some e.1) (node_in (shown es) name))
      by true is further =
          let one : key k ≡ key e.0 = (bytes_eq-Decides (key k) (key e.0)).0 is in
          subst (λ n. cond (bytes_eq name (key e.0)) (Some v) (node_in (shown es) name) ≡ cond (bytes_eq name n) (Some v) (cond (bytes_eq name (key e.0)) (Some e.1) (node_in (shown es) name))) (sym one)
          (over (bytes_eq name (key e.0)))
      by false is further =
          ap (λ o. cond (bytes_eq name (key e.0)) (Some e.1) o) further ∙ turned (bytes_eq name (key k)) (bytes_eq name (key e.0)) refl refl is

-- a local stands for the term of its node
pub local_shown : (ts : List Term) (ls : List (List ℕ × ℕ)) (name : List ℕ) → local_in (locals_in ts ls) name ≡ option_map (term_at ts) (node_in ls name)
local_shown ts [] name = refl
local_shown ts (l ∷ ls) name = by (bytes_eq name l.0) (local_shown ts ls name)
  where
    by : (t : Bool) → local_in (locals_in ts ls) name ≡ option_map (term_at ts) (node_in ls name) → cond t (Some (term_at ts l.1)) (local_in (locals_in ts ls) name) ≡ option_map (term_at ts) (cond t (Some l.1) (node_in ls name))
    by true h = refl
    by false h = h

module _ (ns : Names) (ls : Locals) (name : List ℕ) (k : ℤ) where
  pub local_known : (x : Term) → local_in ls name ≡ Some x → known name (meaning_of ns ls name k) ≡ Ok x
  local_known x e = ap (λ o. known name (option_or o (named_term ns name k))) e

  pub named_known : local_in ls name ≡ None → known name (meaning_of ns ls name k) ≡ known name (named_term ns name k)
  named_known e = ap (λ o. known name (option_or o (named_term ns name k))) e
