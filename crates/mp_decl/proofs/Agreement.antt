-- The names that are known are those that the points declare or define, each standing for one thing.
use Rattle.std.proofs.Common.{◌≡◌, ℕ, List, [], ◌∷◌, ◌++◌, Bool, true, false, cond, ◌||◌, not, Option, Some, None, option_map, if◌then◌else◌, refl, sym, ap, ◌∙◌}
use Rattle.std.specs.List.{list_any}
use Rattle.std.specs.Option.{option_or}
use Rattle.std.specs.Str.{bytes_eq}
use Rattle.std.proofs.lemmas.List.Folds.{list_any-append}
use Rattle.std.proofs.lemmas.Slice.Eq.{bytes_eq-Decides}
use Rattle.mp_syntax.specs.Syntax.{Named}
use Rattle.mp_statements.specs.declared.kind.NameKind.{NameKind}
use Rattle.mp_statements.specs.declared.kind.NameKind.TheVariants as kind
use Rattle.mp_values.specs.Names.{Names}
use Rattle.mp_names.specs.Named.{kind_in, with_name}
use Rattle.mp_declared.specs.Points.{Point, Declared, Assigned, Begins, Chosen, Defines, Defined, Reads, Differs, Tagged, Noted}
use Rattle.mp_declared.specs.Declared.{Standing, Of, ALocal, standing_of}
use Rattle.mp_decl.specs.declared.known.Known.{Known}
use Rattle.mp_decl.specs.Walk.{with_new, local_standing, standing_in, with_point}

-- the kind of one name, where it is this one
abbrev one_kind : NameKind → List ℕ → List ℕ → Option NameKind
one_kind k n name = if bytes_eq name n then Some k else None

-- the kind by whether the name is among each
abbrev kind_by : Bool → Bool → Bool → Option NameKind
kind_by a b c = if a then Some kind.Endogenous else if b then Some kind.Exogenous else if c then Some kind.Parameter else None

or_one : (x e : Bool) → (x || (e || false)) ≡ (x || e)
or_one false false = refl
or_one false true = refl
or_one true e = refl

kind_by-endogenous : (a b c e : Bool) → (e ≡ true → kind_by a b c ≡ None) → kind_by (a || e) b c ≡ option_or (kind_by a b c) (if e then Some kind.Endogenous else None)
kind_by-endogenous true b c e new = refl
kind_by-endogenous false true c false new = refl
kind_by-endogenous false true c true new = absurd (let h = new refl in cc)
kind_by-endogenous false false true false new = refl
kind_by-endogenous false false true true new = absurd (let h = new refl in cc)
kind_by-endogenous false false false false new = refl
kind_by-endogenous false false false true new = refl

kind_by-exogenous : (a b c e : Bool) → (e ≡ true → kind_by a b c ≡ None) → kind_by a (b || e) c ≡ option_or (kind_by a b c) (if e then Some kind.Exogenous else None)
kind_by-exogenous true b c e new = refl
kind_by-exogenous false true c e new = refl
kind_by-exogenous false false true false new = refl
kind_by-exogenous false false true true new = absurd (let h = new refl in cc)
kind_by-exogenous false false false false new = refl
kind_by-exogenous false false false true new = refl

kind_by-parameter : (a b c e : Bool) → kind_by a b (c || e) ≡ option_or (kind_by a b c) (if e then Some kind.Parameter else None)
kind_by-parameter true b c e = refl
kind_by-parameter false true c e = refl
kind_by-parameter false false true e = refl
kind_by-parameter false false false e = refl

among : (name n : List ℕ) (names : List (List ℕ)) → list_any (bytes_eq name) (names ++ n ∷ []) ≡ (list_any (bytes_eq name) names || bytes_eq name n)
among name n names = list_any-append (bytes_eq name) names (n ∷ []) ∙ or_one (list_any (bytes_eq name) names) (bytes_eq name n)

-- a name that is new has the kind that it is added with, and the others keep theirs
pub kind_in-with_name : (ns : Names) (k : NameKind) (n name : List ℕ) → kind_in ns n ≡ None → kind_in (with_name k n ns) name ≡ option_or (kind_in ns name) (one_kind k n name)
kind_in-with_name ns k n name none = by k
  where
    new : bytes_eq name n ≡ true → kind_in ns name ≡ None
    new e =
        let s : name ≡ n = (bytes_eq-Decides name n).0 e in
        ap (kind_in ns) s ∙ none

    by : (k : NameKind) → kind_in (with_name k n ns) name ≡ option_or (kind_in ns name) (one_kind k n name)
    by kind.Endogenous =
        ap (λ (t : Bool). kind_by t (list_any (bytes_eq name) ns.exogenous) (list_any (bytes_eq name) ns.parameters)) (among name n ns.endogenous)
        ∙ kind_by-endogenous (list_any (bytes_eq name) ns.endogenous) (list_any (bytes_eq name) ns.exogenous) (list_any (bytes_eq name) ns.parameters) (bytes_eq name n) new
    by kind.Exogenous =
        ap (λ (t : Bool). kind_by (list_any (bytes_eq name) ns.endogenous) t (list_any (bytes_eq name) ns.parameters)) (among name n ns.exogenous)
        ∙ kind_by-exogenous (list_any (bytes_eq name) ns.endogenous) (list_any (bytes_eq name) ns.exogenous) (list_any (bytes_eq name) ns.parameters) (bytes_eq name n) new
    by kind.Parameter =
        ap (λ (t : Bool). kind_by (list_any (bytes_eq name) ns.endogenous) (list_any (bytes_eq name) ns.exogenous) t) (among name n ns.parameters)
        ∙ kind_by-parameter (list_any (bytes_eq name) ns.endogenous) (list_any (bytes_eq name) ns.exogenous) (list_any (bytes_eq name) ns.parameters) (bytes_eq name n)

first_stands : (b : Bool) (s : Standing) (all r q : Option Standing) → all ≡ option_or r q → cond b (Some s) all ≡ option_or (cond b (Some s) r) q
first_stands true s all r q further = refl
first_stands false s all r q further = further

-- what a name stands for is what the first point that names it says
pub standing_of-append : (name : List ℕ) (ps qs : List Point) → standing_of name (ps ++ qs) ≡ option_or (standing_of name ps) (standing_of name qs)
standing_of-append name [] qs = refl
standing_of-append name (Declared k n ∷ ps) qs = first_stands (bytes_eq name n.name) (Of k) _ _ _ (standing_of-append name ps qs)
standing_of-append name (Defined n ∷ ps) qs = first_stands (bytes_eq name n.name) ALocal _ _ _ (standing_of-append name ps qs)
standing_of-append name (Assigned n ∷ ps) qs = standing_of-append name ps qs
standing_of-append name (Begins at ∷ ps) qs = standing_of-append name ps qs
standing_of-append name (Chosen c ∷ ps) qs = standing_of-append name ps qs
standing_of-append name (Defines n ∷ ps) qs = standing_of-append name ps qs
standing_of-append name (Reads r n shift ∷ ps) qs = standing_of-append name ps qs
standing_of-append name (Differs r at ∷ ps) qs = standing_of-append name ps qs
standing_of-append name (Tagged before t ∷ ps) qs = standing_of-append name ps qs
standing_of-append name (Noted n ∷ ps) qs = standing_of-append name ps qs

-- ---- one more name

or_none : {X : Type 0} (r : Option X) → option_or r None ≡ r
or_none None = refl
or_none (Some x) = refl

none_first : (r : Option NameKind) (l : Option Standing) → option_or (option_map Of r) l ≡ None → r ≡ None
none_first None l e = refl
none_first (Some k) l e = absurd cc

declared_by : (r : Option NameKind) (l : Option Standing) (k : NameKind) (b : Bool) → (b ≡ true → option_or (option_map Of r) l ≡ None)
    → option_or (option_map Of (option_or r (if b then Some k else None))) l ≡ option_or (option_or (option_map Of r) l) (if b then Some (Of k) else None)
declared_by None l k false new = sym (or_none l)
declared_by (Some x) l k false new = refl
declared_by None None k true new = refl
declared_by None (Some s) k true new = absurd (let h = new refl in cc)
declared_by (Some x) l k true new = absurd (let h = new refl in cc)

-- a declared name that is new stands for its kind, and the others stand for what they did
pub standing_in-declared : (f : Known) (k : NameKind) (n : Named) (name : List ℕ) → standing_in f n.name ≡ None → standing_in (with_point f (Declared k n)) name ≡ option_or (standing_in f name) (standing_of name (Declared k n ∷ []))
standing_in-declared f k n name none =
    ap (λ r. option_or (option_map Of r) (local_standing (list_any (bytes_eq name) f.locals))) (kind_in-with_name f.names k n.name name (none_first (kind_in f.names n.name) _ none))
    ∙ declared_by (kind_in f.names name) (local_standing (list_any (bytes_eq name) f.locals)) k (bytes_eq name n.name) new
  where
    new : bytes_eq name n.name ≡ true → standing_in f name ≡ None
    new e =
        let s : name ≡ n.name = (bytes_eq-Decides name n.name).0 e in
        ap (standing_in f) s ∙ none

-- a name is among these with one more exactly where it is among them or is that one
pub any-with_new : (name n : List ℕ) (names : List (List ℕ)) → list_any (bytes_eq name) (with_new n names) ≡ (list_any (bytes_eq name) names || bytes_eq name n)
any-with_new name n names = by (list_any (bytes_eq n) names) refl
  where
    there : (a e : Bool) → (e ≡ true → a ≡ true) → a ≡ (a || e)
    there true e same = refl
    there false false same = refl
    there false true same = same refl

    by : (b : Bool) → list_any (bytes_eq n) names ≡ b → list_any (bytes_eq name) (if not b then names ++ n ∷ [] else names) ≡ (list_any (bytes_eq name) names || bytes_eq name n)
    by false e = among name n names
    by true e =
        there (list_any (bytes_eq name) names) (bytes_eq name n) (λ h.
        let s : name ≡ n = (bytes_eq-Decides name n).0 h in
        ap (λ m. list_any (bytes_eq m) names) s ∙ e)

local_or : (r : Option Standing) (a e : Bool) → option_or r (local_standing (a || e)) ≡ option_or (option_or r (local_standing a)) (local_standing e)
local_or (Some s) a e = refl
local_or None true e = refl
local_or None false e = refl

-- a local stands for itself where its name is new, and the others stand for what they did
pub standing_in-defined : (f : Known) (n : Named) (name : List ℕ) → standing_in (with_point f (Defined n)) name ≡ option_or (standing_in f name) (standing_of name (Defined n ∷ []))
standing_in-defined f n name =
    ap (λ b. option_or (option_map Of (kind_in f.names name)) (local_standing b)) (any-with_new name n.name f.locals)
    ∙ local_or (option_map Of (kind_in f.names name)) (list_any (bytes_eq name) f.locals) (bytes_eq name n.name)
