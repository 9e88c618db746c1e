-- What is still to be made after one more item.
use Rattle.std.proofs.Common.{◌≡◌, ◌<◌, ℕ, ℤ, List, [], ◌∷◌, ◌++◌, append_assoc, length, map, Bool, true, false, cond, Option, Some, None, option_map, Ok, Err, refl, sym, ap, subst, ◌∙◌, arith}
use Rattle.std.proofs.lemmas.List.{map-append}
use Rattle.std.specs.List.{AllByRecursion}
use Rattle.std.specs.Str.{bytes_eq}
use Rattle.std.specs.Global.{Vec}
use Rattle.mp_syntax.specs.Syntax.{Named, Expr}
use Rattle.mp_statements.specs.Statements as f
use Rattle.mp_statements.specs.Statements.{Item, Local, Equates}
use Rattle.mp_statements.specs.Parts.{name_of}
use Rattle.mp_statements.specs.Sides.{right_side}
use Rattle.mp_semantics.specs.Model as m
use Rattle.mp_semantics.specs.Term.{Term}
use Rattle.mp_semantics.specs.Shifted.{earlier}
use Rattle.mp_values.specs.Names.{Names}
use Rattle.mp_values.specs.Limits.{◌>>=◌}
use Rattle.mp_values.specs.ModelOf.{Locals, local_in, equation_named}
use Rattle.mp_values.specs.From.{Taken, term_from, right_from, equation_from, items_from}
use Rattle.mp_graph.specs.declared.images.Images.{Images}
use Rattle.mp_graph.specs.Images.{AreImages}
use Rattle.mp_graph.specs.Shared.{Shared, Keeps, term_at}
use Rattle.mp_model_data.specs.declared.parts.Equation.{Equation}
use Rattle.mp_model_data.specs.Shown.{Sides, equation_in, sides_of, IsWithin}
use Rattle.mp_trees.specs.declared.fault.ModelFault.{ModelFault}
use Rattle.mp_trees.specs.declared.made.Made.{Made}
use Rattle.mp_trees.specs.Earlier.{HasDifferences, SidesHaveDifferences}
use Rattle.mp_trees.specs.Gives.{Fails}
use Rattle.mp_trees.specs.Locals.{node_in, locals_in, AreAlike}
use Rattle.mp_trees.specs.Made.{Equations, equations_made, IsRest}
use Rattle.mp_trees.specs.Parts.{after_taken}
use Rattle.mp_trees.proofs.Alike.{term_alike, differences_alike, nodes_kept, alike_kept}
use Rattle.mp_trees.proofs.Bound.{bind_same, Fails-bind, Fails_same}
use Rattle.mp_trees.proofs.Found.{local_shown}

-- ---- equations of a graph that grew
pub shown_kept : (old new : Shared) (es : List Sides) → Keeps old new → AllByRecursion (IsWithin old) es → map (equation_in new.terms) es ≡ map (equation_in old.terms) es
shown_kept old new [] k h = refl
shown_kept old new (x ∷ es) k h =
    let p = k.each x.left h.0.left in
    let q = k.each x.right h.0.right in
    let r = shown_kept old new es k h.1 in cc (p, q, r)

pub within_kept : (old new : Shared) (es : List Sides) → Keeps old new → AllByRecursion (IsWithin old) es → AllByRecursion (IsWithin new) es
within_kept old new [] k h = tt
within_kept old new (x ∷ es) k h =
    (record { left = omega (arith, h.0.left, k.longer); right = omega (arith, h.0.right, k.longer) }, within_kept old new es k h.1)

within_push : (g : Shared) (es : List Sides) (x : Sides) → AllByRecursion (IsWithin g) es → IsWithin g x → AllByRecursion (IsWithin g) (es ++ x ∷ [])
within_push g [] x h w = (w, tt)
within_push g (y ∷ es) x h w = (h.0, within_push g es x h.1 w)

-- ---- what is taken after these
abbrev onto : m.Equation → Equations × List ℤ → Taken Equations
onto y zs = Ok (y ∷ zs.0, zs.1)

abbrev in_front : Equations → Equations × List ℤ → Taken Equations
in_front front more = Ok (front ++ more.0, more.1)

pub none_in_front : (r : Taken Equations) → after_taken [] r ≡ r
none_in_front (Ok zs) = refl
none_in_front (Err e) = refl

one_first : (front : Equations) (y : m.Equation) (r : Taken Equations) → after_taken front (r >>= onto y) ≡ after_taken (front ++ y ∷ []) r
one_first front y (Ok zs) = ap (λ (l : Equations). Ok (l, zs.1)) (sym (append_assoc front (y ∷ []) zs.0))
one_first front y (Err e) = refl

-- ---- the terms of this graph and those of the rest
module _ (ns : Names) (whole : Taken Equations) (g : Shared) (made : Made) (items : List Item) (ks : List ℤ) (r : IsRest ns whole g made items ks) where
  abbrev pub here : Locals
  here = locals_in g.terms made.locals

  pub term_same : (e : Expr) (js : List ℤ) → term_from g.names here e js ≡ term_from ns r.locals e js
  term_same e js = ap (λ n. term_from n here e js) r.named ∙ term_alike ns here r.locals r.alike e js

  right_same : (right : Option Expr) (js : List ℤ) → right_from g.names here right js ≡ right_from ns r.locals right js
  right_same None js = refl
  right_same (Some e) js = term_same e js

  pub equation_same : (x : f.Equation) (js : List ℤ) → equation_from g.names here x js ≡ equation_from ns r.locals x js
  equation_same x js =
      ap (λ t. t >>= λ l. right_from g.names here x.right l.1 >>= λ q. Ok (equation_named (name_of x) l.0 q.0, q.1)) (term_same x.left js)
      ∙ bind_same (term_from ns r.locals x.left js) _ _ (λ l. ap (λ t. t >>= λ q. Ok (equation_named (name_of x) l.0 q.0, q.1)) (right_same x.right l.1))

  pub differences_here : (e : Expr) → HasDifferences ns r.locals e → HasDifferences g.names here e
  differences_here e h =
      subst (λ n. HasDifferences n here e) (sym r.named) (differences_alike ns r.locals here (λ name. sym (r.alike name)) e h)

  pub rest_at : (others : List Item) → items ≡ others → IsRest ns whole g made others ks
  rest_at others e = subst (λ l. IsRest ns whole g made l ks) e r

-- ---- a local stands for its node further on
module _ (ns : Names) (whole : Taken Equations) (g : Shared) (made : Made) (name : Named) (value : Expr) (more : List Item) (ks : List ℤ) (r : IsRest ns whole g made (Local name value ∷ more) ks) where
  abbrev then_more : Term × List ℤ → Taken Equations
  then_more x = items_from ns ((name.name, x.0) ∷ r.locals) more x.1

  pub local_differences : HasDifferences g.names (locals_in g.terms made.locals) value
  local_differences = differences_here ns whole g made (Local name value ∷ more) ks r value r.shifts.0

  pub local_fails : (e : ModelFault) → Fails e (term_from g.names (locals_in g.terms made.locals) value ks) → Fails e whole
  local_fails e fails =
      Fails_same e _ whole r.given
      (Fails-bind e (items_from ns r.locals (Local name value ∷ more) ks) (in_front (equations_made g made))
      (Fails-bind e (term_from ns r.locals value ks) then_more
      (Fails_same e _ _ (term_same ns whole g made (Local name value ∷ more) ks r value ks) fails)))

  module _ (h : Shared) (images : Images) (new : List (List ℕ × ℕ)) (id : ℕ) (js : List ℤ) (kept : Keeps g h) (are : AreImages h images earlier) (within : id < length h.terms)
      (is : term_from g.names (locals_in g.terms made.locals) value ks ≡ Ok (term_at h.terms id, js))
      (found : (n : List ℕ) → node_in new n ≡ cond (bytes_eq n name.name) (Some id) (node_in made.locals n)) where
    here_is : term_from ns r.locals value ks ≡ Ok (term_at h.terms id, js)
    here_is = sym (term_same ns whole g made (Local name value ∷ more) ks r value ks) ∙ is

    new_within : (n : List ℕ) (k : ℕ) → node_in new n ≡ Some k → k < length h.terms
    new_within n k e = by (bytes_eq n name.name) (sym (found n) ∙ e)
      where
        by : (b : Bool) → cond b (Some id) (node_in made.locals n) ≡ Some k → k < length h.terms
        by true f = let same : id ≡ k = cc in omega (arith, same, within)
        by false f = (nodes_kept g h made.locals kept r.nodes).within n k f

    new_alike : AreAlike (locals_in h.terms new) ((name.name, term_at h.terms id) ∷ r.locals)
    new_alike n = local_shown h.terms new n ∙ ap (option_map (term_at h.terms)) (found n) ∙ by (bytes_eq n name.name)
      where
        by : (b : Bool) → option_map (term_at h.terms) (cond b (Some id) (node_in made.locals n)) ≡ cond b (Some (term_at h.terms id)) (local_in r.locals n)
        by true = refl
        by false = sym (local_shown h.terms made.locals n) ∙ alike_kept g h made.locals kept r.nodes n ∙ r.alike n

    pub local_done : IsRest ns whole h (record { locals = new; images = images; equations = made.equations }) more js
    local_done = record {
      named = kept.names ∙ r.named;
      images = are;
      nodes = record { within = new_within };
      within = within_kept g h (map sides_of made.equations.items) kept r.within;
      locals = (name.name, term_at h.terms id) ∷ r.locals;
      alike = new_alike;
      given =
          ap (λ l. after_taken l (items_from ns ((name.name, term_at h.terms id) ∷ r.locals) more js)) (shown_kept g h (map sides_of made.equations.items) kept r.within)
          ∙ ap (λ t. after_taken (equations_made g made) (t >>= then_more)) (sym here_is)
          ∙ r.given;
      shifts = r.shifts.1 ks js (term_at h.terms id) here_is;
    }

-- ---- an equation is added
module _ (ns : Names) (whole : Taken Equations) (g : Shared) (made : Made) (x : f.Equation) (more : List Item) (ks : List ℤ) (r : IsRest ns whole g made (Equates x ∷ more) ks) where
  abbrev then_others : m.Equation × List ℤ → Taken Equations
  then_others y = items_from ns r.locals more y.1 >>= onto y.0

  pub equation_differences : SidesHaveDifferences g.names (locals_in g.terms made.locals) x
  equation_differences =
      (differences_here ns whole g made (Equates x ∷ more) ks r x.left r.shifts.0.0, differences_here ns whole g made (Equates x ∷ more) ks r (right_side x.right) r.shifts.0.1)

  pub equation_fails : (e : ModelFault) → Fails e (equation_from g.names (locals_in g.terms made.locals) x ks) → Fails e whole
  equation_fails e fails =
      Fails_same e _ whole r.given
      (Fails-bind e (items_from ns r.locals (Equates x ∷ more) ks) (in_front (equations_made g made))
      (Fails-bind e (equation_from ns r.locals x ks) then_others
      (Fails_same e _ _ (equation_same ns whole g made (Equates x ∷ more) ks r x ks) fails)))

  module _ (h : Shared) (images : Images) (new : Vec Equation) (y : Equation) (js : List ℤ) (kept : Keeps g h) (are : AreImages h images earlier) (within : IsWithin h (sides_of y))
      (is : equation_from g.names (locals_in g.terms made.locals) x ks ≡ Ok (equation_in h.terms (sides_of y), js))
      (added : new.items ≡ made.equations.items ++ y ∷ []) where
    sides_added : map sides_of new.items ≡ map sides_of made.equations.items ++ sides_of y ∷ []
    sides_added = ap (map sides_of) added ∙ map-append sides_of made.equations.items (y ∷ [])

    made_added : map (equation_in h.terms) (map sides_of new.items) ≡ equations_made g made ++ equation_in h.terms (sides_of y) ∷ []
    made_added =
        ap (map (equation_in h.terms)) sides_added
        ∙ map-append (equation_in h.terms) (map sides_of made.equations.items) (sides_of y ∷ [])
        ∙ ap (λ l. l ++ equation_in h.terms (sides_of y) ∷ []) (shown_kept g h (map sides_of made.equations.items) kept r.within)

    pub equation_done : IsRest ns whole h (record { locals = made.locals; images = images; equations = new }) more js
    equation_done = record {
      named = kept.names ∙ r.named;
      images = are;
      nodes = nodes_kept g h made.locals kept r.nodes;
      within =
          subst (λ l. AllByRecursion (IsWithin h) l) (sym sides_added)
          (within_push h (map sides_of made.equations.items) (sides_of y) (within_kept g h (map sides_of made.equations.items) kept r.within) within);
      locals = r.locals;
      alike = λ n. alike_kept g h made.locals kept r.nodes n ∙ r.alike n;
      given =
          ap (λ l. after_taken l (items_from ns r.locals more js)) made_added
          ∙ sym (one_first (equations_made g made) (equation_in h.terms (sides_of y)) (items_from ns r.locals more js))
          ∙ ap (λ t. after_taken (equations_made g made) (t >>= then_others)) (sym is ∙ equation_same ns whole g made (Equates x ∷ more) ks r x ks)
          ∙ r.given;
      shifts = r.shifts.1;
    }
