-- The entries of a table, each at its place.
use Rattle.std.proofs.Common.{◌≡◌, ℕ, ◌+◌, ◌<◌, List, ◌∷◌, length, drop, get_or, Option, Some, None, [], rules, sym, ap, ◌∙◌}
use Rattle.std.specs.Prelude.{option_map, slice_get, IsSome}
use Rattle.std.proofs.lemmas.Option.{slice_get-get_or, slice_get_within, get_or_from_slice_get}
use Rattle.std.proofs.lemmas.List.{drop_more}
use Rattle.mp_values.specs.Table.{Table}
use Rattle.mp_names.specs.declared.table.Entry.{Entry}
use Rattle.mp_names.specs.Entry.{entry_of}

pub is_some_within : (t : Table) (place : ℕ) (o : Option Entry) → option_map entry_of o ≡ slice_get t place → place < length t → IsSome o
is_some_within t place None e within = let h = slice_get-get_or t place ([], None) within in cc
is_some_within t place (Some x) e within = search rules

pub entry_is : (t : Table) (place : ℕ) (o : Option Entry) (x : Entry) → option_map entry_of o ≡ slice_get t place → o ≡ Some x → slice_get t place ≡ Some (entry_of x)
entry_is t place o x e is = sym e ∙ ap (option_map entry_of) is

-- the rest of a list begins with the element at its place
pub drop_at : {X : Type 0} (xs : List X) (i : ℕ) (x : X) → slice_get xs i ≡ Some x → drop i xs ≡ x ∷ drop (i + 1) xs
drop_at xs i x is = drop_more xs i x (slice_get_within xs i x is) ∙ ap (λ y. y ∷ drop (i + 1) xs) (get_or_from_slice_get xs i x x is)

-- the same of a list that equals the one that was read
pub drop_same : {X : Type 0} (seen xs : List X) (i : ℕ) (x : X) → seen ≡ xs → i < length seen → x ≡ get_or seen i x → drop i xs ≡ x ∷ drop (i + 1) xs
drop_same seen xs i x same within is =
    ap (drop i) (sym same) ∙ drop_more seen i x within ∙ ap (λ y. y ∷ drop (i + 1) seen) (sym is) ∙ ap (λ l. x ∷ drop (i + 1) l) same
