-- The walk over the tags of an equation, turn by turn.
use Rattle.std.proofs.Common.{◌≡◌, ℕ, ◌+◌, ◌<◌, ◌≤◌, List, [], ◌∷◌, ◌++◌, map, length, take, drop, get_or, option_map, Option, Some, None, Result, Ok, sym, ap, subst, ◌∙◌}
use Rattle.std.proofs.Math.ListN.{drop_of_length-le}
use Rattle.std.proofs.lemmas.List.{drop_more, take_more, map-append}
use Rattle.mp_statements.specs.Statements as f
use Rattle.mp_file.specs.declared.Tag.{Tag}
use Rattle.mp_file.specs.Shown.{tag_of}
use Rattle.mp_declared.specs.Points.{tag_points}
use Rattle.mp_declared.specs.Declared.{Fault, tag_fault}
use Rattle.mp_decl.specs.declared.fault.DeclFault.{DeclFault}
use Rattle.mp_decl.specs.declared.known.Known.{Known}
use Rattle.mp_decl.specs.Shown.{told}
use Rattle.mp_decl.specs.Walk.{walk, unless}
use Rattle.mp_decl.specs.Walks.{Stops}

-- the walk over the tags from this place on
abbrev pub walk_from : Known → List Tag → ℕ → Result Known Fault
walk_from k ts i = walk k (tag_points (map tag_of (take i ts)) (map tag_of (drop i ts)))

module _ (k : Known) (ts : List Tag) (i : ℕ) (t d : Tag) (whole : Result Known Fault) (within : i < length ts) (is : t ≡ get_or ts i d) (so_far : walk_from k ts i ≡ whole) where
  abbrev further : List f.Tag
  further = map tag_of (drop (i + 1) ts)

  before-more : map tag_of (take i ts) ++ tag_of t ∷ [] ≡ map tag_of (take (i + 1) ts)
  before-more = sym (ap (map tag_of) (take_more ts i d within ∙ ap (λ x. take i ts ++ x ∷ []) (sym is)) ∙ map-append tag_of (take i ts) (t ∷ []))

  here : unless (tag_fault (map tag_of (take i ts)) (tag_of t)) (walk_from k ts (i + 1)) ≡ whole
  here =
      ap (λ l. unless (tag_fault (map tag_of (take i ts)) (tag_of t)) (walk k (tag_points l further))) (sym before-more)
      ∙ ap (λ l. walk k (tag_points (map tag_of (take i ts)) (map tag_of l))) (sym (drop_more ts i d within ∙ ap (λ x. x ∷ drop (i + 1) ts) (sym is)))
      ∙ so_far

  pub tag_goes : None ≡ option_map told (tag_fault (map tag_of (take i ts)) (tag_of t)) → walk_from k ts (i + 1) ≡ whole
  tag_goes none = by (tag_fault (map tag_of (take i ts)) (tag_of t)) none here
    where
      by : (r : Option Fault) → None ≡ option_map told r → unless r (walk_from k ts (i + 1)) ≡ whole → walk_from k ts (i + 1) ≡ whole
      by None e h = h
      by (Some x) e h = absurd cc

  pub tag_stops : (fault : DeclFault) → Some fault ≡ option_map told (tag_fault (map tag_of (take i ts)) (tag_of t)) → Stops fault whole
  tag_stops fault some = by (tag_fault (map tag_of (take i ts)) (tag_of t)) some here
    where
      by : (r : Option Fault) → Some fault ≡ option_map told r → unless r (walk_from k ts (i + 1)) ≡ whole → Stops fault whole
      by None e h = absurd cc
      by (Some x) e h =
          let s : told x ≡ fault = cc in
          subst (λ (g : DeclFault). Stops g whole) s (sym h)

-- the last turn is over
pub tags_end : (k : Known) (ts : List Tag) (i : ℕ) (whole : Result Known Fault) → length ts ≤ i → walk_from k ts i ≡ whole → whole ≡ Ok k
tags_end k ts i whole past so_far =
    sym so_far ∙ ap (λ l. walk k (tag_points (map tag_of (take i ts)) (map tag_of l))) (drop_of_length-le ts past)
