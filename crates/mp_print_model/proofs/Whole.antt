-- The text of a model as code holds it, part by part.
use Rattle.std.proofs.Common.{◌≡◌, ℕ, List, ◌++◌, map, ap, ◌∙◌}
use Rattle.mp_semantics.specs.Model as m
use Rattle.mp_statements.specs.declared.kind.NameKind.TheVariants as kind
use Rattle.mp_values.specs.Names.{Names}
use Rattle.mp_model_data.specs.Shown.{Held, equation_in, model_data}
use Rattle.mp_canonical.specs.Printable.{model_names}
use Rattle.mp_canonical.specs.Files.{names_part, value_part, equations_part, canonical_text}
use Rattle.mp_canonical.specs.Spelled.{lines_of}
use Rattle.mp_canonical.proofs.Lines.{canonical_lines}

-- the lines of these names, parameters and equations
abbrev lines : Names → List m.Parameter → List m.Equation → List ℕ
lines ns ps es =
    lines_of (names_part kind.Endogenous ns.endogenous) ++ (lines_of (names_part kind.Exogenous ns.exogenous) ++ (lines_of (names_part kind.Parameter ns.parameters) ++ (lines_of (map value_part ps) ++ lines_of (equations_part ns es))))

pub held_lines : (h : Held) → map (λ (p : m.Parameter). p.name) h.parameters ≡ h.graph.names.parameters → canonical_text (model_data h) ≡ lines_of (names_part kind.Endogenous h.graph.names.endogenous) ++ (lines_of (names_part kind.Exogenous h.graph.names.exogenous) ++ (lines_of (names_part kind.Parameter h.graph.names.parameters) ++ (lines_of (map value_part h.parameters) ++ lines_of (equations_part h.graph.names (map (equation_in h.graph.terms) h.equations)))))
held_lines h named =
    let names : model_names (model_data h) ≡ h.graph.names = ap (λ ps. record { endogenous = h.graph.names.endogenous; exogenous = h.graph.names.exogenous; parameters = ps }) named in
    canonical_lines (model_data h) ∙ ap (λ ns. lines ns h.parameters (map (equation_in h.graph.terms) h.equations)) names
