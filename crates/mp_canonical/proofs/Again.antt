-- The file of a model means that model.
use Rattle.std.proofs.Common.{◌≡◌, ℕ, List, [], ◌∷◌, ◌++◌, map, Some, Ok, refl, sym, ap, ◌∙◌, append-nil}
use Rattle.std.specs.List.{AllByRecursion}
use Rattle.mp_syntax.specs.Syntax.{Named}
use Rattle.mp_statements.specs.declared.kind.NameKind.{NameKind}
use Rattle.mp_statements.specs.declared.kind.NameKind.TheVariants as kind
use Rattle.mp_statements.specs.Parts.{name_of}
use Rattle.mp_semantics.specs.Model as m
use Rattle.mp_values.specs.Table.{Table}
use Rattle.mp_values.specs.Names.{Names}
use Rattle.mp_values.specs.Limits.{Folded, ◌>>=◌, answer, exact}
use Rattle.mp_values.specs.ModelOf.{term_by, equation_named, equation_by, items_by, parameters_given, model_with, model_of}
use Rattle.mp_canonical.specs.Terms.{unplaced, canonical}
use Rattle.mp_canonical.specs.Contents.{Contents, joined, declared_names, contents_in, contents_of}
use Rattle.mp_canonical.specs.Files.{names_part, value_part, equation_written, equation_part, equations_part, canonical_file}
use Rattle.mp_canonical.specs.Printable.{model_names, IsPrintableEquation, IsPrintable}
use Rattle.mp_canonical.proofs.Contents.{same_contents, both_parts, contents_model, model-told}
use Rattle.mp_canonical.proofs.Results.{then}
use Rattle.mp_canonical.proofs.TagNames.{name-again}
use Rattle.mp_canonical.proofs.Values.{Ratios}
use Rattle.mp_canonical.proofs.Tables.{assignment, values_again}
use Rattle.mp_canonical.proofs.Terms.{term_back}

-- ---- what each part holds

pub bare_names : (ns : List (List ℕ)) → map (λ (n : Named). n.name) (map unplaced ns) ≡ ns
bare_names [] = refl
bare_names (n ∷ ns) = ap (λ l. n ∷ l) (bare_names ns)

names-held : (k : NameKind) (ns : List (List ℕ)) → contents_of (names_part k ns) ≡ declared_names k ns
names-held kind.Endogenous [] = refl
names-held kind.Exogenous [] = refl
names-held kind.Parameter [] = refl
names-held kind.Endogenous (n ∷ ns) = same_contents (append-nil _ ∙ bare_names (n ∷ ns)) refl refl refl refl
names-held kind.Exogenous (n ∷ ns) = same_contents refl (append-nil _ ∙ bare_names (n ∷ ns)) refl refl refl
names-held kind.Parameter (n ∷ ns) = same_contents refl refl (append-nil _ ∙ bare_names (n ∷ ns)) refl refl

values-held : (ps : List m.Parameter) → contents_of (map value_part ps) ≡ record { endogenous = []; exogenous = []; parameters = []; assignments = map assignment ps; items = [] }
values-held [] = refl
values-held (p ∷ ps) = ap (joined (contents_in (value_part p))) (values-held ps)

equations-held : (ns : Names) (es : List m.Equation) → contents_of (equations_part ns es) ≡ record { endogenous = []; exogenous = []; parameters = []; assignments = []; items = map (equation_part ns) es }
equations-held ns [] = refl
equations-held ns (e ∷ es) = same_contents refl refl refl refl (append-nil _)

-- what the file of a model holds
canonical_contents : m.Model → Contents
canonical_contents M = record {
  endogenous = M.endogenous_names;
  exogenous = M.exogenous_names;
  parameters = (model_names M).parameters;
  assignments = map assignment M.parameters;
  items = map (equation_part (model_names M)) M.equations;
}

file-held : (M : m.Model) → contents_of (canonical_file M) ≡ canonical_contents M
unfolding canonical_contents
file-held M =
    let a = names_part kind.Endogenous M.endogenous_names in
    let b = names_part kind.Exogenous M.exogenous_names in
    let c = names_part kind.Parameter (model_names M).parameters in
    let d = map value_part M.parameters in
    let e = equations_part (model_names M) M.equations in
    both_parts a (b ++ (c ++ (d ++ e))) (names-held kind.Endogenous M.endogenous_names) (both_parts b (c ++ (d ++ e)) (names-held kind.Exogenous M.exogenous_names) (both_parts c (d ++ e) (names-held kind.Parameter (model_names M).parameters) (both_parts d e (values-held M.parameters) (equations-held (model_names M) M.equations))))
    ∙ same_contents (append-nil _) (append-nil _) (append-nil _) (append-nil _) refl

-- ---- what it means

module _ (laws : Ratios) (room : ℕ) (ns : Names) (t : Table) where
  equation_again : (e : m.Equation) → IsPrintableEquation room ns e → equation_by exact ns [] t (equation_written ns e) ≡ Ok e
  equation_again e h =
      let name = name_of (equation_written ns e) in
      then _ e.left (λ l. term_by exact ns [] t (canonical ns e.right) >>= λ r. Ok (equation_named name l r)) (term_back laws ns t e.left h.left_side.0)
      ∙ then _ e.right (λ r. Ok (equation_named name e.left r)) (term_back laws ns t e.right h.right_side.0)
      ∙ ap (λ n. Ok (equation_named n e.left e.right)) (name-again e.name (canonical ns e.left) (Some (canonical ns e.right)))
      ∙ ap Ok (sym h.plain)

  equations_again : (es : List m.Equation) → AllByRecursion (IsPrintableEquation room ns) es → items_by exact ns t [] (map (equation_part ns) es) ≡ Ok es
  equations_again [] h = refl
  equations_again (e ∷ es) h =
      then _ e (λ y. items_by exact ns t [] (map (equation_part ns) es) >>= λ ys. Ok (y ∷ ys)) (equation_again e h.0) ∙ then _ es (λ ys. Ok (e ∷ ys)) (equations_again es h.1)

pub model_again : Ratios → (room : ℕ) (M : m.Model) → IsPrintable room M → model_of (canonical_file M) ≡ Some M
unfolding canonical_contents
model_again laws room M is =
    let ns = model_names M in
    let v = values_again laws is.value M.parameters is.values in
    let es : Table → Folded (List m.Equation) = λ t. items_by exact ns t [] (map (equation_part ns) M.equations) in
    ap answer (model-told exact (canonical_file M) ∙ ap (contents_model exact) (file-held M)
    ∙ then _ v.table (λ t. parameters_given t >>= λ ps. es t >>= λ es. Ok (model_with ns ps es)) v.after
    ∙ then _ M.parameters (λ ps. es v.table >>= λ es. Ok (model_with ns ps es)) v.given
    ∙ then _ M.equations (λ es. Ok (model_with ns M.parameters es)) (equations_again laws room ns v.table M.equations is.equations)
    ∙ ap (λ c. Ok (record { endogenous_names = M.endogenous_names; exogenous_names = M.exogenous_names; parameters = M.parameters; equations = M.equations; constraints = c })) (sym is.unconstrained))
