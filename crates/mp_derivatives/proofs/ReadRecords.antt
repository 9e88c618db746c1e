-- The text of records reads back as these records.
use Rattle.std.proofs.Common.{◌≡◌, ℕ, zero, suc, ◌+◌, ◌≤◌, ◌<◌, List, [], ◌∷◌, ◌++◌, length, map, Bool, refl, ap, ◌∙◌, arith, length-append}
use Rattle.std.specs.Prelude.{if◌then◌else◌}
use Rattle.std.specs.List.{AllByRecursion, flat_map}
use Rattle.csv.specs.Machine.{next_record}
use Rattle.csv.specs.Reading.{records, records_from, records_next, default_config}
use Rattle.csv.specs.Writing.{row_text, row_body, default_writer, is_blank, read_back}
use Rattle.csv.specs.declared.parser.State.TheVariants as st
use Rattle.csv.proofs.RoundTrip.{read-write}
use Rattle.mp_derivatives.specs.Records.{Derivation, fields, rows, records_text}

-- their text
abbrev written : List (List (List ℕ)) → List ℕ
written rs = flat_map (row_text default_writer) rs

abbrev blank_row : Bool → List ℕ
blank_row blank = if blank then 34 ∷ 34 ∷ [] else []

-- each row has a byte at least, that which ends it
row-length : (row : List (List ℕ)) → 0 < length (row_text default_writer row)
row-length row = by (row_body default_writer row) (blank_row (is_blank default_writer row))
  where
    by : (body blank : List ℕ) → 0 < length (body ++ (blank ++ (10 ∷ [])))
    by body blank = omega (arith, length-append body (blank ++ (10 ∷ [])), length-append blank (10 ∷ []))

written-length : (rs : List (List (List ℕ))) → length rs ≤ length (written rs)
written-length [] = omega arith
written-length (row ∷ rs) =
    omega (arith, row-length row, written-length rs, length-append (row_text default_writer row) (written rs))

-- in as many turns as there are rows or more
read_in_turns : (turns : ℕ) (rs : List (List (List ℕ))) → length rs ≤ turns → AllByRecursion (λ row. read_back row ≡ row) rs → records_from default_config turns st.StartRecord (written rs) ≡ rs
unfolding records_from next_record
read_in_turns zero [] enough same = refl
read_in_turns (suc n) [] enough same = refl
read_in_turns zero (row ∷ rs) enough same = absurd (omega arith)
read_in_turns (suc n) (row ∷ rs) enough same =
    ap (records_next (records_from default_config n)) (read-write row (written rs))
    ∙ ap (λ (r : List (List ℕ)). r ∷ records_from default_config n st.StartRecord (written rs)) same.0
    ∙ ap (λ (l : List (List (List ℕ))). row ∷ l) (read_in_turns n rs (omega arith) same.1)

-- a record has fields
same_back : (ds : List Derivation) → AllByRecursion (λ row. read_back row ≡ row) (map fields ds)
same_back [] = tt
same_back (d ∷ ds) = (refl, same_back ds)

pub records_read : (ds : List Derivation) → records default_config (records_text ds) ≡ rows ds
records_read ds =
    read_in_turns (length (records_text ds) + 1) (rows ds) (omega (arith, written-length (rows ds))) (refl, same_back ds)
