-- Each token of a tree is one token, is what its look asks for, and begins and ends as its look says.
use Rattle.std.proofs.Common.{◌≡◌, ℕ, List, [], ◌∷◌, ◌++◌, Bool, true, false, not, ◌&&◌, ◌||◌, ◌==◌, Option, Some, None, refl, ap, ◌∙◌, arith}
use Rattle.std.proofs.lemmas.Bool.Decides.{nat_tests}
use Rattle.std.specs.Char.{is_ascii_digit}
use Rattle.mp_tokens.specs.declared.terminal.Terminal.TheVariants as t
use Rattle.mp_tokens.specs.Tokens.{is_blank, is_first}
use Rattle.mp_tokens.specs.Terminals.{terminal_of}
use Rattle.mp_format.specs.Reading.{is}
use Rattle.mp_format.specs.Format.{Look, Of, Word, sees, token_of}
use Rattle.mp_format.specs.Pieces.{Run, AfterName, AfterNumber, AfterSlash, AfterOrder, run_of, runs_into, stops, clear, IsOne, Edge, all_runs, free, within, Clears, IsWord, IsLiteral, AreDigits, IsText}
use Rattle.mp_format.specs.Spelling.{Leaf, token_at, Filled, same_run, spells_word, look_opens, look_closes, look_spells}
use Rattle.mp_format.proofs.Looks.{both_true}
use Rattle.mp_format.proofs.Ones.{number_first, name_one, digits_one, number_alone, text_one, the_one}

no : (a : Bool) → not a ≡ false → a ≡ true
no true e = refl
no false e = cc

twice : (a : Bool) → not a ≡ false → not (not a) ≡ false → ⊥
twice true e f = cc
twice false e f = cc

nat_word : (bs : List ℕ) → spells_word bs ≡ true → IsWord bs
nat_word [] e = cc
nat_word (b ∷ bs) e =
    let p = both_true _ _ e in let q = both_true _ _ p.1 in (p.0, q.0, grind (arith, nat_tests, q.1))

pub leaf_one : (l : Look) (x : Leaf l) → look_spells l ≡ true → Filled l x → IsOne (token_at l x).kind (token_at l x).bytes
leaf_one (Of t.Name) x s is = name_one x is.0
leaf_one (Of t.Whole) x s is = digits_one x is
leaf_one (Of t.Number) x s is = number_alone x is.0 is.1
leaf_one (Of t.Text) x s is = text_one x is
leaf_one (Of c) x s is = the_one c refl
leaf_one (Word bs) x s is = name_one bs (nat_word bs (both_true _ _ s).1)

pub leaf_seen : (l : Look) (x : Leaf l) → look_spells l ≡ true → Filled l x → sees l (token_at l x) ≡ true
unfolding terminal_of
leaf_seen (Of t.Name) x s h = ap (is t.Name) h.1
leaf_seen (Of t.Whole) x s is = refl
leaf_seen (Of t.Number) x s is = refl
leaf_seen (Of t.Text) x s is = refl
leaf_seen (Of c) x s is = s
leaf_seen (Word bs) x s is = (both_true _ _ s).0

first_slash : (b : ℕ) → is_first b ≡ true → not (b == 47 || b == 42) ≡ true
first_slash b e = grind (arith, nat_tests)

first_order : (b : ℕ) → is_first b ≡ true → not (b == 61) ≡ true
first_order b e = grind (arith, nat_tests)

number_slash : (b : ℕ) → (is_ascii_digit b || b == 46) ≡ true → not (b == 47 || b == 42) ≡ true
number_slash b e = grind (arith, nat_tests)

number_order : (b : ℕ) → (is_ascii_digit b || b == 46) ≡ true → not (b == 61) ≡ true
number_order b e = grind (arith, nat_tests)

digit_slash : (b : ℕ) → is_ascii_digit b ≡ true → not (b == 47 || b == 42) ≡ true
digit_slash b e = grind (arith, nat_tests)

digit_order : (b : ℕ) → is_ascii_digit b ≡ true → not (b == 61) ≡ true
digit_order b e = grind (arith, nat_tests)

quote_stops : (r : Run) (q : ℕ) → (q == 39 || q == 34) ≡ true → not (runs_into r q) ≡ true
quote_stops AfterName q e = grind (arith, nat_tests)
quote_stops AfterNumber q e = grind (arith, nat_tests)
quote_stops AfterSlash q e = grind (arith, nat_tests)
quote_stops AfterOrder q e = grind (arith, nat_tests)

pub blank_stops : (r : Run) (b : ℕ) → is_blank b ≡ true → not (runs_into r b) ≡ true
blank_stops AfterName b e = grind (arith, nat_tests)
blank_stops AfterNumber b e = grind (arith, nat_tests)
blank_stops AfterSlash b e = grind (arith, nat_tests)
blank_stops AfterOrder b e = grind (arith, nat_tests)

word_opens : (bs rest : List ℕ) (r : Run) → IsWord bs → look_opens (Word bs) r ≡ false → stops r (bs ++ rest) ≡ true
word_opens [] rest r is e = absurd is
word_opens (b ∷ bs) rest AfterName is e = cc
word_opens (b ∷ bs) rest AfterNumber is e = cc
word_opens (b ∷ bs) rest AfterSlash is e = first_slash b is.0
word_opens (b ∷ bs) rest AfterOrder is e = first_order b is.0

literal_opens : (bs rest : List ℕ) (r : Run) → IsLiteral bs → look_opens (Of t.Number) r ≡ false → stops r (bs ++ rest) ≡ true
literal_opens [] rest r is e = absurd (omega (arith, is.0))
literal_opens (b ∷ bs) rest AfterName is e = cc
literal_opens (b ∷ bs) rest AfterNumber is e = cc
literal_opens (b ∷ bs) rest AfterSlash is e = number_slash b (number_first b bs (omega (arith, is.1)))
literal_opens (b ∷ bs) rest AfterOrder is e = number_order b (number_first b bs (omega (arith, is.1)))

digits_open : (bs rest : List ℕ) (r : Run) → AreDigits bs → look_opens (Of t.Whole) r ≡ false → stops r (bs ++ rest) ≡ true
digits_open [] rest r is e = absurd (omega (arith, is.0))
digits_open (b ∷ bs) rest AfterName is e = cc
digits_open (b ∷ bs) rest AfterNumber is e = cc
digits_open (b ∷ bs) rest AfterSlash is e = digit_slash b (both_true _ _ is.1).0
digits_open (b ∷ bs) rest AfterOrder is e = digit_order b (both_true _ _ is.1).0

text_opens : (bs rest : List ℕ) (r : Run) → IsText bs → stops r (bs ++ rest) ≡ true
text_opens bs rest r (q, inside, is, e, all) = ap (λ l. stops r (l ++ rest)) is ∙ quote_stops r q e

pub leaf_opens : (l : Look) (x : Leaf l) (rest : List ℕ) (r : Run) → look_spells l ≡ true → Filled l x → look_opens l r ≡ false → stops r ((token_at l x).bytes ++ rest) ≡ true
leaf_opens (Of t.Name) x rest r s is e = word_opens x rest r is.0 e
leaf_opens (Of t.Whole) x rest r s is e = digits_open x rest r is e
leaf_opens (Of t.Number) x rest r s is e = literal_opens x rest r is.0 e
leaf_opens (Of t.Text) x rest r s is e = text_opens x rest r is
leaf_opens (Of c) x rest r s is e = no _ e
leaf_opens (Word bs) x rest r s is e = word_opens bs rest r (nat_word bs (both_true _ _ s).1) e

run_clear : (o : Option Run) (text : List ℕ) → ((r : Run) → same_run r o ≡ true → stops r text ≡ true) → clear o text ≡ true
run_clear None text h = refl
run_clear (Some AfterName) text h = h AfterName refl
run_clear (Some AfterNumber) text h = h AfterNumber refl
run_clear (Some AfterSlash) text h = h AfterSlash refl
run_clear (Some AfterOrder) text h = h AfterOrder refl

pub leaf_closes : (l : Look) (x : Leaf l) (text : List ℕ) → Clears (look_closes l) text → clear (run_of (token_at l x).kind) text ≡ true
leaf_closes (Of c) x text h = run_clear (run_of (token_of c).kind) text h
leaf_closes (Word bs) x text h = run_clear (Some AfterName) text h

each : (p : Edge) (r : Run) → all_runs p ≡ true → p r ≡ true
each p AfterName e = (both_true (p AfterName) (p AfterNumber && (p AfterSlash && p AfterOrder)) e).0
each p AfterNumber e =
    (both_true (p AfterNumber) (p AfterSlash && p AfterOrder) (both_true (p AfterName) (p AfterNumber && (p AfterSlash && p AfterOrder)) e).1).0
each p AfterSlash e =
    (both_true (p AfterSlash) (p AfterOrder) (both_true (p AfterNumber) (p AfterSlash && p AfterOrder) (both_true (p AfterName) (p AfterNumber && (p AfterSlash && p AfterOrder)) e).1).1).0
each p AfterOrder e =
    (both_true (p AfterSlash) (p AfterOrder) (both_true (p AfterNumber) (p AfterSlash && p AfterOrder) (both_true (p AfterName) (p AfterNumber && (p AfterSlash && p AfterOrder)) e).1).1).1

nand : (a b : Bool) → not (a && b) ≡ true → a ≡ true → b ≡ false
nand true true e f = cc
nand true false e f = refl
nand false b e f = cc

implied : (a b : Bool) → (not a || b) ≡ true → a ≡ true → b ≡ true
implied true b e f = e
implied false b e f = cc

-- at a free seam
pub free_at : (a b : Edge) (r : Run) → free a b ≡ true → a r ≡ true → b r ≡ false
free_at a b r e h = nand (a r) (b r) (each (λ q. not (a q && b q)) r e) h

pub within_at : (a b : Edge) (r : Run) → within a b ≡ true → a r ≡ true → b r ≡ true
within_at a b r e h = implied (a r) (b r) (each (λ q. not (a q) || b q) r e) h
