-- The entries of a table of locals, after one is put.
use Rattle.std.proofs.Common.{◌≡◌, ℕ, List, [], ◌∷◌, Bool, true, false, cond, Option, Some, refl, sym, ap, ◌∙◌, true≢false}
use Rattle.std.specs.Map.{lookup}
use Rattle.std.specs.Str.{bytes_eq}
use Rattle.std.proofs.lemmas.Slice.Eq.{bytes_eq-Decides}
use Rattle.indexmap.specs.IndexMap.{insert_entry}

module _ {K : Type 0} (key : K → List ℕ) where
  abbrev pub same : K → K → Bool
  same j k = bytes_eq (key j) (key k)

  -- a name that is that of one key is no other
  apart : (name : List ℕ) (j k : K) → bytes_eq name (key k) ≡ true → same j k ≡ false → bytes_eq name (key j) ≡ false
  apart name j k one other = by (bytes_eq name (key j)) refl
    where
      by : (t : Bool) → bytes_eq name (key j) ≡ t → t ≡ false
      by false e = refl
      by true e =
          let s : key j ≡ key k = sym ((bytes_eq-Decides name (key j)).0 e) ∙ (bytes_eq-Decides name (key k)).0 one in
          absurd (true≢false (sym ((bytes_eq-Decides (key j) (key k)).1 s) ∙ other))

module _ {K V : Type 0} (key : K → List ℕ) where
  abbrev pub found : List ℕ → List (K × V) → Option V
  found name es = lookup (λ k. bytes_eq name (key k)) es

  pub found-insert_entry : (name : List ℕ) (es : List (K × V)) (k : K) (v : V) → found name (insert_entry (same key) es k v) ≡ cond (bytes_eq name (key k)) (Some v) (found name es)
  found-insert_entry name [] k v = refl
  found-insert_entry name (e ∷ es) k v = by (same key k e.0) refl (found-insert_entry name es k v)
    where
      name_is : bytes_eq (key k) (key e.0) ≡ true → bytes_eq name (key e.0) ≡ bytes_eq name (key k)
      name_is one = let s : key k ≡ key e.0 = (bytes_eq-Decides (key k) (key e.0)).0 one in ap (bytes_eq name) (sym s)

      twice : (t : Bool) (a : Option V) → cond t (Some v) a ≡ cond t (Some v) (cond t (Some e.1) a)
      twice true a = refl
      twice false a = refl

      both_tests : (t u : Bool) → bytes_eq name (key e.0) ≡ t → bytes_eq name (key k) ≡ u → same key k e.0 ≡ false → cond t (Some e.1) (cond u (Some v) (found name es)) ≡ cond u (Some v) (cond t (Some e.1) (found name es))
      both_tests true true one two other = absurd (true≢false (sym two ∙ apart key name k e.0 one other))
      both_tests true false one two other = refl
      both_tests false u one two other = refl

      by : (t : Bool) → same key k e.0 ≡ t → found name (insert_entry (same key) es k v) ≡ cond (bytes_eq name (key k)) (Some v) (found name es) → found name (cond t ((e.0, v) ∷ es) (e ∷ insert_entry (same key) es k v)) ≡ cond (bytes_eq name (key k)) (Some v) (found name (e ∷ es))
      by true one further =
          ap (λ b. cond b (Some v) (found name es)) (name_is one)
          ∙ twice (bytes_eq name (key k)) (found name es)
          ∙ ap (λ b. cond (bytes_eq name (key k)) (Some v) (cond b (Some e.1) (found name es))) (sym (name_is one))
      by false other further =
          ap (λ a. cond (bytes_eq name (key e.0)) (Some e.1) a) further
          ∙ both_tests (bytes_eq name (key e.0)) (bytes_eq name (key k)) refl refl other
