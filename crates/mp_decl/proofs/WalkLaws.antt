-- The walk over all points of a file ends at the first point that fails by what stands before it.
use Rattle.std.proofs.Common.{◌≡◌, ℕ, List, [], ◌∷◌, ◌++◌, map, codes, Bool, true, false, ◌||◌, Option, Some, None, if◌then◌else◌, Result, Ok, Err, refl, sym, ap, subst, ◌∙◌, append-nil, append_assoc}
use Rattle.std.specs.List.{list_any, flat_map}
use Rattle.std.specs.Option.{option_or}
use Rattle.std.specs.Str.{bytes_eq}
use Rattle.std.proofs.lemmas.Grind.{flat_map-append}
use Rattle.std.proofs.lemmas.List.Folds.{list_any-append}
use Rattle.mp_base.specs.declared.kinds.DeclKind.TheVariants as k
use Rattle.mp_syntax.specs.Syntax.{Named}
use Rattle.mp_statements.specs.declared.kind.NameKind.{NameKind}
use Rattle.mp_statements.specs.declared.kind.NameKind.TheVariants as kind
use Rattle.mp_statements.specs.Statements.{Statement}
use Rattle.mp_statements.specs.Parts.{is_kind}
use Rattle.mp_values.specs.Names.{Names}
use Rattle.mp_names.specs.Named.{with_name}
use Rattle.mp_declared.specs.Points.{Point, Declared, Assigned, Begins, Chosen, Defines, Defined, Reads, Differs, Tagged, Noted, points_of, with_earlier}
use Rattle.mp_declared.specs.Declared.{Standing, Fault, begins, gives_option, standing_of, fault_if, first_fault, new_fault, assigned_fault, option_fault, read_fault, noted_fault, fault_at, walk_fault}
use Rattle.mp_decl.specs.declared.known.Known.{Known}
use Rattle.mp_decl.specs.Walk.{nothing_known, standing_in, with_point, point_fault, unless, walk}
use Rattle.mp_decl.proofs.Agreement.{standing_of-append, standing_in-declared, standing_in-defined, any-with_new}

-- the names of a kind that a point declares
abbrev pub names_at : NameKind → Point → List (List ℕ)
names_at k (Declared other n) = if is_kind k other then n.name ∷ [] else []
names_at k _ = []

abbrev pub known_names : List Point → Names
known_names points = record {
  endogenous = flat_map (names_at kind.Endogenous) points;
  exogenous = flat_map (names_at kind.Exogenous) points;
  parameters = flat_map (names_at kind.Parameter) points;
}

-- what is known is what these points say
pub record Knows (points : List Point) (f : Known) : Type 0 where
  pub names : f.names ≡ known_names points
  pub standing : (name : List ℕ) → standing_in f name ≡ standing_of name points
  pub begun : f.begun ≡ list_any begins points
  pub chosen : (name : List ℕ) → list_any (bytes_eq name) f.chosen ≡ list_any (gives_option name) points

fault-knows : (earlier : List Point) (f : Known) → Knows earlier f → (p : Point) → point_fault f p ≡ fault_at earlier p
fault-knows earlier f knows (Declared kind n) = ap (new_fault n) (knows.standing n.name)
fault-knows earlier f knows (Assigned n) = ap (assigned_fault n) (knows.standing n.name)
fault-knows earlier f knows (Begins at) = ap (λ b. fault_if b k.BlockTwice (codes "model") at) knows.begun
fault-knows earlier f knows (Chosen c) = ap (option_fault c) (knows.chosen c.name.name)
fault-knows earlier f knows (Defines n) = ap (new_fault n) (knows.standing n.name)
fault-knows earlier f knows (Defined n) = refl
fault-knows earlier f knows (Reads r n shift) = ap (read_fault r n shift) (knows.standing n.name)
fault-knows earlier f knows (Differs r at) = refl
fault-knows earlier f knows (Tagged before t) = refl
fault-knows earlier f knows (Noted n) = ap (noted_fault n) (knows.standing n.name)

-- ---- one more point

or_false : (b : Bool) → b ≡ (b || false)
or_false true = refl
or_false false = refl

or_true : (b : Bool) → true ≡ (b || true)
or_true true = refl
or_true false = refl

or_none : {X : Type 0} (r : Option X) → r ≡ option_or r None
or_none None = refl
or_none (Some x) = refl

-- the names of a kind after one more point
names-more : (k : NameKind) (earlier : List Point) (p : Point) → flat_map (names_at k) (earlier ++ p ∷ []) ≡ flat_map (names_at k) earlier ++ names_at k p
names-more k earlier p = flat_map-append (names_at k) earlier (p ∷ []) ∙ ap (λ l. flat_map (names_at k) earlier ++ l) (append-nil (names_at k p))

module _ (earlier : List Point) (p : Point) where
  none-more : (k : NameKind) → names_at k p ≡ [] → flat_map (names_at k) earlier ≡ flat_map (names_at k) (earlier ++ p ∷ [])
  none-more k none = sym (names-more k earlier p ∙ ap (λ l. flat_map (names_at k) earlier ++ l) none ∙ append-nil (flat_map (names_at k) earlier))

  names-kept : ((k : NameKind) → names_at k p ≡ []) → known_names earlier ≡ known_names (earlier ++ p ∷ [])
  names-kept none = λ i. record {
    endogenous = none-more kind.Endogenous (none kind.Endogenous) i;
    exogenous = none-more kind.Exogenous (none kind.Exogenous) i;
    parameters = none-more kind.Parameter (none kind.Parameter) i;
  }

  any-kept : (test : Point → Bool) → test p ≡ false → list_any test earlier ≡ list_any test (earlier ++ p ∷ [])
  any-kept test none = or_false (list_any test earlier) ∙ ap (λ b. list_any test earlier || (b || false)) (sym none) ∙ sym (list_any-append test earlier (p ∷ []))

  standing-kept : (name : List ℕ) → standing_of name (p ∷ []) ≡ None → standing_of name earlier ≡ standing_of name (earlier ++ p ∷ [])
  standing-kept name none = or_none (standing_of name earlier) ∙ ap (option_or (standing_of name earlier)) (sym none) ∙ sym (standing_of-append name earlier (p ∷ []))

  -- a point that says nothing of names, options and the block
  all-kept : (f : Known) → ((k : NameKind) → names_at k p ≡ []) → ((name : List ℕ) → standing_of name (p ∷ []) ≡ None) → begins p ≡ false → ((name : List ℕ) → gives_option name p ≡ false) → Knows earlier f → Knows (earlier ++ p ∷ []) f
  all-kept f no_names no_standing no_block no_option knows = record {
    names = knows.names ∙ names-kept no_names;
    standing = λ name. knows.standing name ∙ standing-kept name (no_standing name);
    begun = knows.begun ∙ any-kept begins no_block;
    chosen = λ name. knows.chosen name ∙ any-kept (gives_option name) (no_option name);
  }

with-declared : (earlier : List Point) (kind' : NameKind) (n : Named) → with_name kind' n.name (known_names earlier) ≡ known_names (earlier ++ Declared kind' n ∷ [])
with-declared earlier kind.Endogenous n = λ i. record {
  endogenous = sym (names-more kind.Endogenous earlier (Declared kind.Endogenous n)) i;
  exogenous = none-more earlier (Declared kind.Endogenous n) kind.Exogenous refl i;
  parameters = none-more earlier (Declared kind.Endogenous n) kind.Parameter refl i;
}
with-declared earlier kind.Exogenous n = λ i. record {
  endogenous = none-more earlier (Declared kind.Exogenous n) kind.Endogenous refl i;
  exogenous = sym (names-more kind.Exogenous earlier (Declared kind.Exogenous n)) i;
  parameters = none-more earlier (Declared kind.Exogenous n) kind.Parameter refl i;
}
with-declared earlier kind.Parameter n = λ i. record {
  endogenous = none-more earlier (Declared kind.Parameter n) kind.Endogenous refl i;
  exogenous = none-more earlier (Declared kind.Parameter n) kind.Exogenous refl i;
  parameters = sym (names-more kind.Parameter earlier (Declared kind.Parameter n)) i;
}

new-none : (n : Named) (r : Option Standing) → new_fault n r ≡ None → r ≡ None
new-none n None e = refl
new-none n (Some s) e = absurd cc

-- after a point without fault
knows-on : (earlier : List Point) (f : Known) (p : Point) → fault_at earlier p ≡ None → Knows earlier f → Knows (earlier ++ p ∷ []) (with_point f p)
knows-on earlier f (Declared k n) fine knows = record {
  names = ap (with_name k n.name) knows.names ∙ with-declared earlier k n;
  standing = λ name. standing_in-declared f k n name (knows.standing n.name ∙ new-none n _ fine) ∙ ap (λ r. option_or r (standing_of name (Declared k n ∷ []))) (knows.standing name) ∙ sym (standing_of-append name earlier (Declared k n ∷ []));
  begun = knows.begun ∙ any-kept earlier (Declared k n) begins refl;
  chosen = λ name. knows.chosen name ∙ any-kept earlier (Declared k n) (gives_option name) refl;
}
knows-on earlier f (Begins at) fine knows = record {
  names = knows.names ∙ names-kept earlier (Begins at) (λ k. refl);
  standing = λ name. knows.standing name ∙ standing-kept earlier (Begins at) name refl;
  begun = or_true (list_any begins earlier) ∙ sym (list_any-append begins earlier (Begins at ∷ []));
  chosen = λ name. knows.chosen name ∙ any-kept earlier (Begins at) (gives_option name) refl;
}
knows-on earlier f (Chosen c) fine knows = record {
  names = knows.names ∙ names-kept earlier (Chosen c) (λ k. refl);
  standing = λ name. knows.standing name ∙ standing-kept earlier (Chosen c) name refl;
  begun = knows.begun ∙ any-kept earlier (Chosen c) begins refl;
  chosen = λ name. any-with_new name c.name.name f.chosen ∙ ap (λ b. b || bytes_eq name c.name.name) (knows.chosen name) ∙ ap (λ b. list_any (gives_option name) earlier || b) (or_false (bytes_eq name c.name.name)) ∙ sym (list_any-append (gives_option name) earlier (Chosen c ∷ []));
}
knows-on earlier f (Defined n) fine knows = record {
  names = knows.names ∙ names-kept earlier (Defined n) (λ k. refl);
  standing = λ name. standing_in-defined f n name ∙ ap (λ r. option_or r (standing_of name (Defined n ∷ []))) (knows.standing name) ∙ sym (standing_of-append name earlier (Defined n ∷ []));
  begun = knows.begun ∙ any-kept earlier (Defined n) begins refl;
  chosen = λ name. knows.chosen name ∙ any-kept earlier (Defined n) (gives_option name) refl;
}
knows-on earlier f (Assigned n) fine knows = all-kept earlier (Assigned n) f (λ k. refl) (λ name. refl) refl (λ name. refl) knows
knows-on earlier f (Defines n) fine knows = all-kept earlier (Defines n) f (λ k. refl) (λ name. refl) refl (λ name. refl) knows
knows-on earlier f (Reads r n shift) fine knows = all-kept earlier (Reads r n shift) f (λ k. refl) (λ name. refl) refl (λ name. refl) knows
knows-on earlier f (Differs r at) fine knows = all-kept earlier (Differs r at) f (λ k. refl) (λ name. refl) refl (λ name. refl) knows
knows-on earlier f (Tagged before t) fine knows = all-kept earlier (Tagged before t) f (λ k. refl) (λ name. refl) refl (λ name. refl) knows
knows-on earlier f (Noted n) fine knows = all-kept earlier (Noted n) f (λ k. refl) (λ name. refl) refl (λ name. refl) knows

-- ---- all points

-- the faults of these points, which stand after the earlier ones
abbrev faults : List Point → List (List Point × Point) → List (Option Fault)
faults earlier points = map (λ q. fault_at (earlier ++ q.0) q.1) points

faults-moved : (earlier : List Point) (p : Point) (points : List (List Point × Point)) → faults (earlier ++ p ∷ []) points ≡ faults earlier (map (λ q. (p ∷ q.0, q.1)) points)
faults-moved earlier p [] = refl
faults-moved earlier p (q ∷ points) = λ i. fault_at (append_assoc earlier (p ∷ []) q.0 i) q.1 ∷ faults-moved earlier p points i

-- the walk ended at this fault, or knows what all the points say
abbrev pub Ends : List Point → Option Fault → Result Known Fault → Type 0
Ends points fault (Ok f) = (fault ≡ None) × Knows points f
Ends points fault (Err x) = fault ≡ Some x

-- after the first point
ends-more : (earlier : List Point) (p : Point) (ps : List Point) (f : Known) (r : Option Fault)
    → (r ≡ None → Ends ((earlier ++ p ∷ []) ++ ps) (first_fault (faults (earlier ++ p ∷ []) (with_earlier ps))) (walk (with_point f p) ps))
    → Ends (earlier ++ p ∷ ps) (first_fault (r ∷ faults earlier (map (λ q. (p ∷ q.0, q.1)) (with_earlier ps)))) (unless r (walk (with_point f p) ps))
ends-more earlier p ps f (Some x) further = refl
ends-more earlier p ps f None further =
    subst (λ l. Ends l (first_fault (faults earlier (map (λ q. (p ∷ q.0, q.1)) (with_earlier ps)))) (walk (with_point f p) ps)) (append_assoc earlier (p ∷ []) ps)
    (subst (λ fs. Ends ((earlier ++ p ∷ []) ++ ps) (first_fault fs) (walk (with_point f p) ps)) (faults-moved earlier p (with_earlier ps)) (further refl))

walk-ends : (earlier points : List Point) (f : Known) → Knows earlier f → Ends (earlier ++ points) (first_fault (faults earlier (with_earlier points))) (walk f points)
walk-ends earlier [] f knows = (refl, subst (λ l. Knows l f) (sym (append-nil earlier)) knows)
walk-ends earlier (p ∷ ps) f knows =
    subst (λ r. Ends (earlier ++ p ∷ ps) (first_fault (fault_at (earlier ++ []) p ∷ faults earlier (map (λ q. (p ∷ q.0, q.1)) (with_earlier ps)))) (unless r (walk (with_point f p) ps))) (sym (fault-knows earlier f knows p))
    (subst (λ l. Ends (earlier ++ p ∷ ps) (first_fault (fault_at l p ∷ faults earlier (map (λ q. (p ∷ q.0, q.1)) (with_earlier ps)))) (unless (fault_at earlier p) (walk (with_point f p) ps))) (sym (append-nil earlier))
    (ends-more earlier p ps f (fault_at earlier p) (λ fine. walk-ends (earlier ++ p ∷ []) ps (with_point f p) (knows-on earlier f p fine knows))))

-- the walk gives the first fault, or what is known after all points
pub walk-file : (file : List Statement) → Ends (points_of file) (walk_fault file) (walk nothing_known (points_of file))
walk-file file = walk-ends [] (points_of file) nothing_known (record { names = refl; standing = λ name. refl; begun = refl; chosen = λ name. refl })
