use Rattle.std.proofs.Common.{◌≡◌, ℕ, List, Bool, ◌||◌, is_some, sym, ap, ◌∙◌}
use Rattle.std.specs.List.{list_any}
use Rattle.std.specs.Str.{bytes_eq}
use Rattle.mp_values.specs.Names.{place_of}
use Rattle.mp_local.specs.Known.{counted}
use Rattle.mp_local.proofs.Counts.{is_some-position}
use Rattle.mp_local.proofs.known.Scope.counts.Goals as goal

-- a name that was found in a list has a place there
placed : (name : List ℕ) (has : Bool) (ns listed : List (List ℕ)) → has ≡ list_any (bytes_eq name) listed → listed ≡ ns → has ≡ is_some (place_of ns name)
placed name has ns listed is same = is ∙ ap (list_any (bytes_eq name)) same ∙ sym (is_some-position (bytes_eq name) ns)

pub returns-then-endogenous : goal.returns-then-endogenous
returns-then-endogenous c =
    let name = c.args.name.now in
    let there = placed name c.has-endogenous.result c.args.names.now.endogenous c.of_kind.result.now c.has-endogenous.ensures c.of_kind.ensures in
    c.if-endogenous.true
    ∙ ap (λ (b : Bool). b || is_some (place_of c.args.names.now.exogenous name)) (sym c.if-endogenous.true ∙ there)
    ∙ ap (λ s. counted s c.args.names.now name) (sym c.in-Variables.is)

pub returns-else-endogenous : goal.returns-else-endogenous
returns-else-endogenous c =
    let name = c.args.name.now in
    let missing = placed name c.has-endogenous.result c.args.names.now.endogenous c.of_kind.result.now c.has-endogenous.ensures c.of_kind.ensures in
    placed name c.has.result c.args.names.now.exogenous c.of_kind-else-endogenous.result.now c.has.ensures c.of_kind-else-endogenous.ensures
    ∙ ap (λ (b : Bool). b || is_some (place_of c.args.names.now.exogenous name)) (sym c.if-endogenous.false ∙ missing)
    ∙ ap (λ s. counted s c.args.names.now name) (sym c.in-Variables.is)

pub returns-in-Endogenous : goal.returns-in-Endogenous
returns-in-Endogenous c =
    let name = c.args.name.now in
    placed name c.has-endogenous.result c.args.names.now.endogenous c.of_kind.result.now c.has-endogenous.ensures c.of_kind.ensures
    ∙ ap (λ s. counted s c.args.names.now name) (sym c.in-Endogenous.is)
