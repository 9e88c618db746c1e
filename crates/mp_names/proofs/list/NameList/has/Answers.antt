use Rattle.std.proofs.Common.{ℕ, List, ap, sym, ◌∙◌}
use Rattle.std.specs.List.{list_any}
use Rattle.std.specs.Str.{bytes_eq}
use Rattle.mp_names.proofs.KeyLaws.{list_any-map}
use Rattle.mp_names.proofs.list.NameList.has.Goals as goal

pub returns : goal.returns
returns c =
    c.contains.ensures
    ∙ sym (list_any-map (λ k. k.now) (bytes_eq c.args.name.now) c.self.inside.set.keys)
    ∙ ap (λ (names : List (List ℕ)). list_any (bytes_eq c.args.name.now) names) c.self.view_is
