use Rattle.std.proofs.Common.{rules, subst, bytes_eq}
use Rattle.std.specs.List.{IsDistinct}
use Rattle.mp_values.specs.Names.{Names}
use Rattle.mp_graph.specs.Shared.{Shared}
use Rattle.mp_file.specs.Shown.{file_of}
use Rattle.mp_tokens.specs.Tokens.{tokens}
use Rattle.mp_model_data.specs.Shown.{model_data}
use Rattle.mp_transform.proofs.FarShifts.{are-written}
use Rattle.mp_transform.proofs.FreeNames.{free_names}
use Rattle.mp_transform.proofs.Inverse.{lexed}
use Rattle.mp_transform.proofs.Told.{source_refused, names_refused, text_told, names_told, shown_further}
use Rattle.mp_transform.proofs.transform.text_output.Goals as goal

pub tested-requires : goal.tested-requires
tested-requires c =
    let ts = c.in_ok-tokens.tokens in
    record { written = are-written c.args.text.now ts (file_of c.in_ok-file.file) (lexed (tokens c.args.text.now) ts c.in_ok-tokens.ensures.says) c.in_ok-file.ensures.found }

pub returns-in_err-model-clause-says : goal.returns-in_err-model-clause-says
returns-in_err-model-clause-says c =
    source_refused c.args.output c.args.text.now _ c.in_ok-tokens.tokens (file_of c.in_ok-file.file) c.in_ok-tokens.ensures.says c.in_ok-file.ensures.says (search rules)
    c.from_residual-in_err-model.result c.in_err-model.field-0.0 c.from_residual-in_err-model.ensures.1 c.in_err-model.ensures.says

pub returns-in_err-names-clause-says : goal.returns-in_err-names-clause-says
returns-in_err-names-clause-says c =
    names_refused c.args.output c.args.text.now _ c.in_ok-tokens.tokens (file_of c.in_ok-file.file) c.in_ok-tokens.ensures.says c.in_ok-file.ensures.says (search rules)
    (model_data c.in_ok-model.model) c.in_ok-model.ensures.says
    c.from_residual-in_err-names.result c.in_err-names.field-0.0 c.from_residual-in_err-names.ensures.1 c.in_err-names.ensures.says

pub returns-in_err-names-clause-shows : goal.returns-in_err-names-clause-shows
returns-in_err-names-clause-shows c =
    shown_further c.from_residual-in_err-names.result c.in_err-names.field-0.0 c.from_residual-in_err-names.ensures.1 c.in_err-names.ensures.shows

pub returns-clause-says : goal.returns-clause-says
returns-clause-says c =
    text_told c.args.output c.args.text.now _ c.in_ok-tokens.tokens (file_of c.in_ok-file.file) c.in_ok-tokens.ensures.says c.in_ok-file.ensures.says (search rules)
    (model_data c.in_ok-model.model) c.in_ok-model.ensures.says c.in_ok-names.ensures.says c.shifted.result c.shifted.ensures.says

pub returns-clause-names : goal.returns-clause-names
returns-clause-names c =
    names_told c.args.output c.args.text.now _ c.in_ok-tokens.tokens (file_of c.in_ok-file.file) c.in_ok-tokens.ensures.says c.in_ok-file.ensures.says (search rules)
    (model_data c.in_ok-model.model) c.in_ok-model.ensures.says c.in_ok-names.ensures.says c.shifted.result
    (free_names (model_data c.in_ok-model.model) _ c.in_ok-names.ensures.names (subst (λ (g : Shared). IsDistinct bytes_eq g.names.endogenous) c.graph.ensures.graph (subst (λ (n : Names). IsDistinct bytes_eq n.endogenous) c.names.ensures c.distinct.ensures)))
