use Rattle.std.proofs.Common.{ℕ, List, [], ◌∷◌, ◌++◌, cond, not, length, ap, sym, ◌∙◌}
use Rattle.std.specs.List.{list_any}
use Rattle.std.specs.Str.{bytes_eq}
use Rattle.mp_names.proofs.KeyLaws.{list_any-map, map-insert_key}
use Rattle.std.proofs.lemmas.List.{length-map}
use Rattle.mp_names.proofs.Room.{room_left}
use Rattle.mp_names.proofs.list.NameList.add.Goals as goal

pub returns-clause-added : goal.returns-clause-added
returns-clause-added c =
    c.in-Ok.ensures.added
    ∙ ap not (sym (list_any-map (λ k. k.now) (bytes_eq c.args.name.now) c.self.inside.set.keys)
    ∙ ap (λ (names : List (List ℕ)). list_any (bytes_eq c.args.name.now) names) c.self.view_is)

pub returns-clause-names : goal.returns-clause-names
returns-clause-names c =
    map-insert_key (λ k. k.now) (list_any (λ k. bytes_eq c.args.name.now k.now) c.self.inside.set.keys) c.in-Ok.added c.self.inside.set.keys c.insert.new.self.keys c.args.name c.in-Ok.ensures.added c.in-Ok.ensures.keys
    ∙ ap (λ (names : List (List ℕ)). cond c.in-Ok.added (names ++ c.args.name.now ∷ []) names) c.self.view_is

pub invariant_of-self-2 : goal.invariant_of-self-2
invariant_of-self-2 c =
    let seen = c.self.view_is in
    room_left c.self.inside.set.keys c.insert.new.self.keys c.args.name c.args.self.now c.args.name.now c.is_full.result
    (list_any (λ k. bytes_eq c.args.name.now k.now) c.self.inside.set.keys)
    (ap (λ (names : List (List ℕ)). length names) (sym seen) ∙ length-map c.self.inside.set.keys (λ k. k.now))
    (ap (λ (names : List (List ℕ)). list_any (bytes_eq c.args.name.now) names) (sym seen) ∙ list_any-map (λ k. k.now) (bytes_eq c.args.name.now) c.self.inside.set.keys)
    c.in-Ok.ensures.keys c.self.invariant c.if-is_full.false c.is_full.ensures
