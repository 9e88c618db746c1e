-- The first far name among several items.
use Rattle.std.proofs.Common.{◌≡◌, ℕ, true, false, is_some, List, [], ◌∷◌, ◌++◌, Option, Some, None, option_map, Ok, Err, refl, sym, ap, subst, ◌∙◌}
use Rattle.std.specs.List.{flat_map}
use Rattle.std.specs.Option.{option_or}
use Rattle.mp_statements.specs.Statements.{Item}
use Rattle.mp_values.specs.Shifts as v
use Rattle.mp_values.specs.Shifts.{Shifts, item_readings, shifts_from, first_far, with_item, far_name}
use Rattle.mp_local.specs.declared.ends.Ends.{Ends}
use Rattle.mp_local.specs.declared.far.FarName.{FarName}
use Rattle.mp_local.specs.declared.known.Known.{Known}
use Rattle.mp_local.specs.Ends.{Spans}
use Rattle.mp_local.specs.Known.{Knows}
use Rattle.mp_local.specs.Reaches.{far_of, stopped_far, Reaches, with_items, Goes}

-- ---- items, and then others

with_items-append : (s : Shifts) (xs ys : List Item) → with_items s (xs ++ ys) ≡ with_items (with_items s xs) ys
with_items-append s [] ys = refl
with_items-append s (x ∷ xs) ys = with_items-append (with_item s x) xs ys

far_name-none : (limit : ℕ) (s : Shifts) (xs ys : List Item) → far_name limit s xs ≡ None → far_name limit s (xs ++ ys) ≡ far_name limit (with_items s xs) ys
far_name-none limit s [] ys none = refl
far_name-none limit s (x ∷ xs) ys none = by (first_far limit s (item_readings x)) (far_name-none limit (with_item s x) xs ys) none
  where
    by : (found : Option v.FarName) → (far_name limit (with_item s x) xs ≡ None → far_name limit (with_item s x) (xs ++ ys) ≡ far_name limit (with_items (with_item s x) xs) ys) → option_or found (far_name limit (with_item s x) xs) ≡ None → option_or found (far_name limit (with_item s x) (xs ++ ys)) ≡ far_name limit (with_items (with_item s x) xs) ys
    by None further h = further h
    by (Some f) further h = absurd cc

far_name-some : (limit : ℕ) (s : Shifts) (f : v.FarName) (xs ys : List Item) → far_name limit s xs ≡ Some f → far_name limit s (xs ++ ys) ≡ Some f
far_name-some limit s f [] ys some = absurd cc
far_name-some limit s f (x ∷ xs) ys some = by (first_far limit s (item_readings x)) (far_name-some limit (with_item s x) f xs ys) some
  where
    by : (found : Option v.FarName) → (far_name limit (with_item s x) xs ≡ Some f → far_name limit (with_item s x) (xs ++ ys) ≡ Some f) → option_or found (far_name limit (with_item s x) xs) ≡ Some f → option_or found (far_name limit (with_item s x) (xs ++ ys)) ≡ Some f
    by None further h = further h
    by (Some g) further h = h

-- a name that is far among the first items is the first one
pub goes_front : (limit : ℕ) (s : Shifts) (xs ys : List Item) (known new : Known) (far : FarName) → Goes limit s xs known (Some far) → Goes limit s (xs ++ ys) new (Some far)
goes_front limit s xs ys known new far h = by (far_name limit s xs) refl h
  where
    by : (found : Option v.FarName) → far_name limit s xs ≡ found → option_map stopped_far found ≡ Some (far_of far) → option_map stopped_far (far_name limit s (xs ++ ys)) ≡ Some (far_of far)
    by None is e = absurd cc
    by (Some x) is e = ap (option_map stopped_far) (far_name-some limit s x xs ys is) ∙ e

-- what other items answer, after those without a far name
pub goes_further : (limit : ℕ) (s : Shifts) (xs ys : List Item) (known new : Known) (far : Option FarName) → Goes limit s xs known None → Goes limit (with_items s xs) ys new far → Goes limit s (xs ++ ys) new far
goes_further limit s xs ys known new None a b =
    (b.0, far_name-none limit s xs ys a.1 ∙ b.1, subst (Knows new) (sym (with_items-append s xs ys)) b.2)
goes_further limit s xs ys known new (Some far) a b = ap (option_map stopped_far) (far_name-none limit s xs ys a.1) ∙ b

-- ---- one item

option_or-none : (found : Option v.FarName) → option_or found None ≡ found
option_or-none None = refl
option_or-none (Some x) = refl

pub goes_far : (limit : ℕ) (s : Shifts) (x : Item) (known : Known) (far : FarName) → Reaches limit s (item_readings x) (Err far) → Goes limit s (x ∷ []) known (Some far)
goes_far limit s x known far h = ap (option_map stopped_far) (option_or-none (first_far limit s (item_readings x))) ∙ h

pub goes_on : (limit : ℕ) (s : Shifts) (x : Item) (known : Known) (ends : Option Ends) → known.limit ≡ limit → Reaches limit s (item_readings x) (Ok ends) → (Spans ends (flat_map (shifts_from s) (item_readings x)) → Knows known (with_item s x)) → Goes limit s (x ∷ []) known None
goes_on limit s x known ends same h knows = (same, option_or-none (first_far limit s (item_readings x)) ∙ h.0, knows h.1)

-- the same items under another list
pub same_items : (limit : ℕ) (s : Shifts) (xs ys : List Item) (known : Known) (far : Option FarName) → xs ≡ ys → Goes limit s ys known far → Goes limit s xs known far
same_items limit s xs ys known far is h = subst (λ (l : List Item). Goes limit s l known far) (sym is) h

-- ---- an answer that is there or is not

pub goes_found : (limit : ℕ) (s : Shifts) (xs ys : List Item) (known new : Known) (far : Option FarName) → is_some far ≡ true → Goes limit s xs known far → Goes limit s (xs ++ ys) new far
goes_found limit s xs ys known new None some h = absurd cc
goes_found limit s xs ys known new (Some far) some h = goes_front limit s xs ys known new far h

pub goes_none : (limit : ℕ) (s : Shifts) (xs : List Item) (known : Known) (far : Option FarName) → is_some far ≡ false → Goes limit s xs known far → Goes limit s xs known None
goes_none limit s xs known None none h = h
goes_none limit s xs known (Some far) none h = absurd cc

pub told : (limit : ℕ) (s : Shifts) (xs : List Item) (known : Known) (far : Option FarName) → Goes limit s xs known far → option_map far_of far ≡ option_map stopped_far (far_name limit s xs)
told limit s xs known None h = ap (option_map stopped_far) (sym h.1)
told limit s xs known (Some far) h = sym h

-- the same limit under another name
pub same_limit : (m n : ℕ) (s : Shifts) (xs : List Item) (known : Known) (far : Option FarName) → m ≡ n → Goes m s xs known far → Goes n s xs known far
same_limit m n s xs known far is h = subst (λ (k : ℕ). Goes k s xs known far) is h
