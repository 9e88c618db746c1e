-- The first fault of a file is that of its walk, or of the whole by what is known then.
use Rattle.std.proofs.Common.{◌≡◌, ℕ, List, [], ◌∷◌, ◌++◌, map, Bool, true, false, cond, Option, Some, None, Result, Ok, Err, refl, sym, ap, subst, ◌∙◌}
use Rattle.std.specs.Prelude.{IsErrAnd}
use Rattle.std.specs.List.{flat_map, AllByRecursion}
use Rattle.std.proofs.lemmas.Grind.{flat_map-append}
use Rattle.mp_statements.specs.declared.kind.NameKind.{NameKind}
use Rattle.mp_statements.specs.declared.kind.NameKind.TheVariants as kind
use Rattle.mp_syntax.specs.Syntax.{Named}
use Rattle.mp_statements.specs.Statements.{Choice, Tag, Item, Local, Equates, Statement, Declares, Assigns, Model, Notes}
use Rattle.mp_statements.specs.Parts as parts
use Rattle.mp_statements.specs.Sides.{sides}
use Rattle.mp_values.specs.Names.{Names, names_of}
use Rattle.mp_declared.specs.Points.{Point, Declared, Assigned, Begins, Chosen, Defines, Defined, Reads, Differs, Tagged, Noted, InModel, Constant, reads, tag_points, item_points, points_in, points_of}
use Rattle.mp_declared.specs.Declared.{Fault, first_fault, has_model, walk_fault, whole_fault, declared_fault}
use Rattle.mp_decl.specs.declared.fault.DeclFault.{DeclFault}
use Rattle.mp_decl.specs.declared.fault.DeclFault.TheVariants as f
use Rattle.mp_decl.specs.declared.known.Known.{Known}
use Rattle.mp_decl.specs.Walk.{nothing_known, walk}
use Rattle.mp_decl.specs.Walks.{Stops, Is, Finds}
use Rattle.mp_decl.specs.Whole.{whole_fault_by}
use Rattle.mp_decl.proofs.ReadWalks.{IsRead, all-reads, all-parts}
use Rattle.mp_decl.proofs.WalkLaws.{names_at, known_names, Ends, walk-file}

module _ (k : NameKind) where
  none-append : (ps qs : List Point) → flat_map (names_at k) ps ≡ [] → flat_map (names_at k) qs ≡ [] → flat_map (names_at k) (ps ++ qs) ≡ []
  none-append ps qs first second = flat_map-append (names_at k) ps qs ∙ (λ i. first i ++ second i)

  names-read : (ps : List Point) → AllByRecursion IsRead ps → flat_map (names_at k) ps ≡ []
  names-read [] all = refl
  names-read (Reads r n shift ∷ ps) all = names-read ps all.1
  names-read (Differs r at ∷ ps) all = names-read ps all.1
  names-read (Declared kind n ∷ ps) all = absurd all.0
  names-read (Assigned n ∷ ps) all = absurd all.0
  names-read (Begins at ∷ ps) all = absurd all.0
  names-read (Chosen c ∷ ps) all = absurd all.0
  names-read (Defines n ∷ ps) all = absurd all.0
  names-read (Defined n ∷ ps) all = absurd all.0
  names-read (Tagged before t ∷ ps) all = absurd all.0
  names-read (Noted n ∷ ps) all = absurd all.0

  names-tags : (before ts : List Tag) → flat_map (names_at k) (tag_points before ts) ≡ []
  names-tags before [] = refl
  names-tags before (t ∷ ts) = names-tags (before ++ t ∷ []) ts

  names-item : (x : Item) → flat_map (names_at k) (item_points x) ≡ []
  names-item (Local name value) = none-append (reads InModel value) (Defined name ∷ []) (names-read (reads InModel value) (all-reads InModel value)) refl
  names-item (Equates x) =
      none-append (tag_points [] x.tags) (flat_map (reads InModel) (sides x)) (names-tags [] x.tags) (names-read (flat_map (reads InModel) (sides x)) (all-parts (reads InModel) (sides x) (all-reads InModel)))

  names-items : (items : List Item) → flat_map (names_at k) (flat_map item_points items) ≡ []
  names-items [] = refl
  names-items (x ∷ items) = none-append (item_points x) (flat_map item_points items) (names-item x) (names-items items)

  names-chosen : (choices : List Choice) → flat_map (names_at k) (map Chosen choices) ≡ []
  names-chosen [] = refl
  names-chosen (c ∷ choices) = names-chosen choices

  names-noted : (names : List Named) → flat_map (names_at k) (map Noted names) ≡ []
  names-noted [] = refl
  names-noted (n ∷ names) = names-noted names

declared_by : (b : Bool) (name : List ℕ) (more : List (List ℕ)) → cond b (name ∷ []) [] ++ cond b more [] ≡ cond b (name ∷ more) []
declared_by true name more = refl
declared_by false name more = refl

none_by : (b : Bool) → [] ≡ cond b [] (let l : List (List ℕ) = [] in l)
none_by true = refl
none_by false = refl

names-declared : (k other : NameKind) (names : List Named) → flat_map (names_at k) (map (Declared other) names) ≡ cond (parts.is_kind k other) (map (λ n. n.name) names) []
names-declared k other [] = none_by (parts.is_kind k other)
names-declared k other (n ∷ names) =
    ap (λ l. names_at k (Declared other n) ++ l) (names-declared k other names) ∙ declared_by (parts.is_kind k other) n.name (map (λ m. m.name) names)

names-points_in : (k : NameKind) (s : Statement) → flat_map (names_at k) (points_in s) ≡ parts.names_in k s
names-points_in k (Declares other names) = names-declared k other names
names-points_in k (Assigns name value) = names-read k (reads Constant value) (all-reads Constant value)
names-points_in k (Model at choices items) = none-append k (map Chosen choices) (flat_map item_points items) (names-chosen k choices) (names-items k items)
names-points_in k (Notes command names) = names-noted k names

names-points_of : (k : NameKind) (file : List Statement) → flat_map (names_at k) (points_of file) ≡ parts.names_of k file
names-points_of k [] = refl
names-points_of k (s ∷ file) =
    flat_map-append (names_at k) (points_in s) (points_of file) ∙ (λ i. names-points_in k s i ++ names-points_of k file i)

-- the names that the points declare are those of the file
known_names-points_of : (file : List Statement) → known_names (points_of file) ≡ names_of file
known_names-points_of file = λ i. record {
  endogenous = names-points_of kind.Endogenous file i;
  exogenous = names-points_of kind.Exogenous file i;
  parameters = names-points_of kind.Parameter file i;
}

module _ (file : List Statement) where
  ended : (r : Result Known Fault) → walk nothing_known (points_of file) ≡ r → Ends (points_of file) (walk_fault file) r
  ended r e = subst (Ends (points_of file) (walk_fault file)) e (walk-file file)

  -- what is known after the walk are the names of the file
  pub known-names : (k : Known) → walk nothing_known (points_of file) ≡ Ok k → k.names ≡ names_of file
  known-names k e = (ended (Ok k) e).1.names ∙ known_names-points_of file

  stopped : (end : ℕ) (x : Fault) → walk nothing_known (points_of file) ≡ Err x → declared_fault end file ≡ Some x
  stopped end x e = ap (λ r. first_fault (r ∷ whole_fault end file ∷ [])) (ended (Err x) e)

  -- the walk stopped
  pub declared_fault-stops : (end : ℕ) (fault : DeclFault) → Stops fault (walk nothing_known (points_of file)) → Is fault (declared_fault end file)
  declared_fault-stops end (f.Declared kind name at) stops = stopped end _ stops
  declared_fault-stops end (f.Data refused) stops = stops
  declared_fault-stops end f.NoMemory stops = tt

alone : (r : Option Fault) → first_fault (r ∷ []) ≡ r
alone None = refl
alone (Some f) = refl

-- where the walk finds no fault, the whole decides, by what is known then
pub declared_fault-went : (end : ℕ) (file : List Statement) (k : Known) → walk nothing_known (points_of file) ≡ Ok k → declared_fault end file ≡ whole_fault_by end k file
declared_fault-went end file k e =
    let w = ended file (Ok k) e in
    ap (λ r. first_fault (r ∷ whole_fault end file ∷ [])) w.0
    ∙ alone (whole_fault end file)
    ∙ ap (λ (ns : Names). whole_fault_by end (record nothing_known { names = ns; begun = has_model file }) file) (sym (known-names file k e))
    ∙ ap (λ b. whole_fault_by end (record nothing_known { names = k.names; begun = b }) file) (sym w.1.begun)

-- a fault that is passed on
pub finds_on : {X : Type 0} (result : Result X DeclFault) (fault : DeclFault) (found : Option Fault) → IsErrAnd result (λ e. e ≡ fault) → Is fault found → Finds result found
finds_on (Ok x) fault found is h = absurd is
finds_on (Err e) fault found is h = subst (λ (g : DeclFault). Is g found) (sym is) h
