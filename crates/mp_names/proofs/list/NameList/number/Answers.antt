use Rattle.std.proofs.Common.{ℕ, ◌+◌, List, position, option_map, ap, sym, ◌∙◌}
use Rattle.std.specs.Str.{bytes_eq}
use Rattle.mp_names.proofs.KeyLaws.{position-map}
use Rattle.mp_names.proofs.list.NameList.number.Goals as goal

pub returns-in-Some : goal.returns-in-Some
returns-in-Some c =
    ap (option_map (λ (p : ℕ). p + 1))
    (c.in-Some.ensures.index
    ∙ sym (position-map (λ k. k.now) (bytes_eq c.args.name.now) c.self.inside.set.keys)
    ∙ ap (λ (names : List (List ℕ)). position (bytes_eq c.args.name.now) names) c.self.view_is)

pub returns-in-None : goal.returns-in-None
returns-in-None c =
    ap (option_map (λ (p : ℕ). p + 1))
    (c.in-None.ensures.index
    ∙ sym (position-map (λ k. k.now) (bytes_eq c.args.name.now) c.self.inside.set.keys)
    ∙ ap (λ (names : List (List ℕ)). position (bytes_eq c.args.name.now) names) c.self.view_is)
