-- A walk over points of expressions ends at the first one that fails.
use Rattle.std.proofs.Common.{◌≡◌, ℕ, List, [], ◌∷◌, ◌++◌, Bool, true, false, cond, option_map, Option, Some, None, is_some, Ok, Err, refl, sym, ap, subst}
use Rattle.std.specs.Prelude.{find}
use Rattle.std.specs.List.{flat_map, AllByRecursion}
use Rattle.mp_syntax.specs.Syntax.{Expr, Number, Variable, Signed, Binary, Power, Paren, Call, Diff, Pick}
use Rattle.mp_declared.specs.Points.{Point, Declared, Assigned, Begins, Chosen, Defines, Defined, Reads, Differs, Tagged, Noted, Reader, Constant, reads}
use Rattle.mp_declared.specs.Declared.{Fault, is_missing, names_read}
use Rattle.mp_decl.specs.declared.fault.DeclFault.{DeclFault}
use Rattle.mp_decl.specs.declared.known.Known.{Known}
use Rattle.mp_decl.specs.Shown.{told}
use Rattle.mp_decl.specs.Search.{name_in, is_unlisted}
use Rattle.mp_decl.specs.Walk.{point_fault, unless, walk, walked_by}
use Rattle.mp_decl.specs.Walks.{Stops}

-- it stands in an expression
abbrev pub IsRead : Point → Type 0
IsRead (Reads r n shift) = Unit {0}
IsRead (Differs r at) = Unit {0}
IsRead _ = ⊥

pub all-append : (ps qs : List Point) → AllByRecursion IsRead ps → AllByRecursion IsRead qs → AllByRecursion IsRead (ps ++ qs)
all-append [] qs a b = b
all-append (p ∷ ps) qs a b = (a.0, all-append ps qs a.1 b)

pub all-reads : (r : Reader) (e : Expr) → AllByRecursion IsRead (reads r e)
unfolding reads
all-reads r (Number literal at) = tt
all-reads r (Variable name shift) = (tt, tt)
all-reads r (Binary o a at b) = all-append (reads r a) (reads r b) (all-reads r a) (all-reads r b)
all-reads r (Signed s a) = all-reads r a
all-reads r (Power a at s b) = all-append (reads r a) (reads Constant b) (all-reads r a) (all-reads Constant b)
all-reads r (Paren a) = all-reads r a
all-reads r (Call f a b) = all-append (reads r a) (reads r b) (all-reads r a) (all-reads r b)
all-reads r (Diff at a) = (tt, all-reads r a)
all-reads r (Pick a b c d) = tt

pub all-parts : {X : Type 0} (points : X → List Point) (xs : List X) → ((x : X) → AllByRecursion IsRead (points x)) → AllByRecursion IsRead (flat_map points xs)
all-parts points [] each = tt
all-parts points (x ∷ xs) each = all-append (points x) (flat_map points xs) (each x) (all-parts points xs each)

read_on : (k : Known) (p : Point) (ps : List Point) (r : Option Fault) → point_fault k p ≡ r → walk k ps ≡ walked_by k (find (λ q. is_some (point_fault k q)) ps)
    → unless r (walk k ps) ≡ walked_by k (cond (is_some r) (Some p) (find (λ q. is_some (point_fault k q)) ps))
read_on k p ps None e further = further
read_on k p ps (Some f) e further = ap (λ r. unless r (Ok k)) (sym e)

pub walk-reads : (k : Known) (ps : List Point) → AllByRecursion IsRead ps → walk k ps ≡ walked_by k (find (λ p. is_some (point_fault k p)) ps)
walk-reads k [] all = refl
walk-reads k (Reads r n shift ∷ ps) all = read_on k (Reads r n shift) ps (point_fault k (Reads r n shift)) refl (walk-reads k ps all.1)
walk-reads k (Differs r at ∷ ps) all = read_on k (Differs r at) ps (point_fault k (Differs r at)) refl (walk-reads k ps all.1)
walk-reads k (Declared kind n ∷ ps) all = absurd all.0
walk-reads k (Assigned n ∷ ps) all = absurd all.0
walk-reads k (Begins at ∷ ps) all = absurd all.0
walk-reads k (Chosen c ∷ ps) all = absurd all.0
walk-reads k (Defines n ∷ ps) all = absurd all.0
walk-reads k (Defined n ∷ ps) all = absurd all.0
walk-reads k (Tagged before t ∷ ps) all = absurd all.0
walk-reads k (Noted n ∷ ps) all = absurd all.0

-- a fault that is told stops the walk
pub stops_told : (fault : DeclFault) (r : Option Fault) (k : Known) → Some fault ≡ option_map told r → Stops fault (unless r (Ok k))
stops_told fault None k e = absurd cc
stops_told fault (Some f) k e =
    let s : told f ≡ fault = cc in
    subst (λ (g : DeclFault). Stops g (Err f)) s refl

pub none_told : (r : Option Fault) (k : Known) → None ≡ option_map told r → unless r (Ok k) ≡ Ok k
none_told None k e = refl
none_told (Some f) k e = absurd cc

-- the first name that is missing is that of the first point
pub names_read-find : (given : List (List ℕ)) (ps : List Point) → find (is_missing given) (names_read ps) ≡ option_map name_in (find (is_unlisted given) ps)
names_read-find given [] = refl
names_read-find given (Reads r n shift ∷ ps) = by (is_missing given n.name) (names_read-find given ps)
  where
    by : (b : Bool) → find (is_missing given) (names_read ps) ≡ option_map name_in (find (is_unlisted given) ps)
        → cond b (Some n.name) (find (is_missing given) (names_read ps)) ≡ option_map name_in (cond b (Some (Reads r n shift)) (find (is_unlisted given) ps))
    by true further = refl
    by false further = further
names_read-find given (Declared kind n ∷ ps) = names_read-find given ps
names_read-find given (Assigned n ∷ ps) = names_read-find given ps
names_read-find given (Begins at ∷ ps) = names_read-find given ps
names_read-find given (Chosen c ∷ ps) = names_read-find given ps
names_read-find given (Defines n ∷ ps) = names_read-find given ps
names_read-find given (Defined n ∷ ps) = names_read-find given ps
names_read-find given (Differs r at ∷ ps) = names_read-find given ps
names_read-find given (Tagged before t ∷ ps) = names_read-find given ps
names_read-find given (Noted n ∷ ps) = names_read-find given ps
