-- Laws of definitions that follow one another.
use Rattle.std.proofs.lemmas.List.{drop_more}
use Rattle.std.proofs.lemmas.Option.{slice_get_within, get_or_from_slice_get}
use Rattle.std.proofs.Common.{slice_get, ◌≡◌, ℕ, suc, ◌+◌, ◌-◌, ◌≤◌, ◌<◌, List, [], ◌∷◌, ◌++◌, drop, refl, ap, sym, ◌∙◌, arith, Bool, true, false, Option, Some, None, Result, Ok, Err, if◌then◌else◌, append_assoc, subst, take, length, get_or, zero}
use Rattle.std.specs.Borrow.{Bor}
use Rattle.clap.specs.Walk.{texts}
use Rattle.std.specs.Prelude.{IsTrue, is_some, nat_lt, position, ◌&&◌}
use Rattle.mp_mvalue.specs.declared.defines.Define.{Define}
use Rattle.mp_mvalue.specs.declared.value.Value.{Value}
use Rattle.mp_words.specs.Words.{is_definable, is_value, value_of, is_equals, define_at, define_or, with_define, defines_of, define_of}
use Rattle.mp_words.specs.Shown.{wrong_of}

-- what is there where something is
pub some_if : (b : Bool) (d : Define) → IsTrue (is_some (if b then Some d else None)) → (if b then Some d else None) ≡ Some d
some_if true d h = refl
some_if false d h = grind (arith, h)

-- these definitions in front
abbrev pub after : List Define → Result (List Define) ℕ → Result (List Define) ℕ
after front (Ok ds) = Ok (front ++ ds)
after front (Err at) = Err at

pub after-one : (front : List Define) (d : Define) (r : Result (List Define) ℕ) → after (front ++ d ∷ []) r ≡ after front (with_define d r)
after-one front d (Ok ds) = ap Ok (append_assoc front (d ∷ []) ds)
after-one front d (Err at) = refl

pub wrong-one : (d : Define) (r : Result (List Define) ℕ) → wrong_of (with_define d r) ≡ wrong_of r
wrong-one d (Ok ds) = refl
wrong-one d (Err at) = refl

-- the word with this number, from 1
pub at-word : (words : List (List ℕ)) (k : ℕ) (word bytes : List ℕ) → slice_get words (k + 1 - 1) ≡ Some word → bytes ≡ word → slice_get words k ≡ Some bytes
at-word words k word bytes e h =
    let same : k ≡ k + 1 - 1 = omega arith in
    ap (λ j. slice_get words j) same ∙ e ∙ ap Some (sym h)

-- the text behind a reference
pub at-text : (words : List (Bor (List ℕ))) (k : ℕ) (d : Bor (List ℕ)) (bytes : List ℕ) → k < length words → bytes ≡ (get_or words k d).now → slice_get (texts words) k ≡ Some bytes
at-text [] k d bytes lt e = absurd (omega (arith, lt))
at-text (w ∷ ws) zero d bytes lt e = ap Some (sym e)
at-text (w ∷ ws) (suc k) d bytes lt e = at-text ws k d bytes (omega (arith, lt)) e

-- either something is there or not
pub none-is : (o : Option Define) → is_some o ≡ false → o ≡ None
none-is None h = refl
none-is (Some d) h = grind (arith, h)

pub some-is : (o : Option Define) → is_some o ≡ true → (d : Define) × (o ≡ Some d)
some-is (Some d) h = (d, refl)
some-is None h = grind (arith, h)

-- a word, and those after it
pub drop-at : (words : List (List ℕ)) (k : ℕ) (w : List ℕ) → slice_get words k ≡ Some w → drop k words ≡ w ∷ drop (k + 1) words
drop-at words k w e =
    drop_more words k w (slice_get_within words k w e) ∙ ap (λ x. x ∷ drop (k + 1) words) (get_or_from_slice_get words k w w e)

-- the words from a place on, the first of all having this number, where so many may stand
module _ (at room : ℕ) where
  -- what the words from this place on are
  abbrev pub from : List (List ℕ) → ℕ → Result (List Define) ℕ
  from words k = defines_of (k + at) (room - k) (drop k words)

  -- no room is left for a word
  pub from-many : (words : List (List ℕ)) (k : ℕ) (w : List ℕ) → slice_get words k ≡ Some w → room ≤ k → from words k ≡ Err (k + at)
  from-many words k w e le =
      let none : room - k ≡ 0 = omega (arith, le) in
      ap (λ r. defines_of (k + at) r (drop k words)) none ∙ ap (defines_of (k + at) 0) (drop-at words k w e)

  pub from-define : (words : List (List ℕ)) (k : ℕ) (w : List ℕ) → slice_get words k ≡ Some w → k < room → from words k ≡ define_or (k + at) (define_of w) (from words (k + 1))
  from-define words k w e lt =
      let more : room - k ≡ suc (room - (k + 1)) = omega (arith, lt) in
      let next : k + at + 1 ≡ k + 1 + at = omega arith in
      ap (λ r. defines_of (k + at) r (drop k words)) more ∙ ap (defines_of (k + at) (suc (room - (k + 1)))) (drop-at words k w e)
      ∙ ap (λ n. define_or (k + at) (define_of w) (defines_of n (room - (k + 1)) (drop (k + 1) words))) next

  pub wrong-many : (words : List (List ℕ)) (k : ℕ) (w : List ℕ) → slice_get words k ≡ Some w → room ≤ k → wrong_of (from words k) ≡ Some (k + at)
  wrong-many words k w e le = ap wrong_of (from-many words k w e le)

  pub wrong-none : (words : List (List ℕ)) (k : ℕ) (w : List ℕ) → slice_get words k ≡ Some w → k < room → is_some (define_of w) ≡ false → wrong_of (from words k) ≡ Some (k + at)
  wrong-none words k w e lt h =
      ap wrong_of (from-define words k w e lt ∙ ap (λ o. define_or (k + at) o (from words (k + 1))) (none-is (define_of w) h))

  pub from-some : (words : List (List ℕ)) (k : ℕ) (w : List ℕ) (d : Define) → slice_get words k ≡ Some w → k < room → define_of w ≡ Some d → from words k ≡ with_define d (from words (k + 1))
  from-some words k w d e lt h =
      from-define words k w e lt ∙ ap (λ o. define_or (k + at) o (from words (k + 1))) h

  pub wrong-on : (words : List (List ℕ)) (k : ℕ) (w : List ℕ) → slice_get words k ≡ Some w → k < room → is_some (define_of w) ≡ true → wrong_of (from words (k + 1)) ≡ wrong_of (from words k)
  wrong-on words k w e lt h =
      let d = some-is (define_of w) h in
      sym (ap wrong_of (from-some words k w d.0 e lt d.1) ∙ wrong-one d.0 (from words (k + 1)))

  -- where no word from here on is wrong, there is room for the next, and it is a definition
  pub right-room : (words : List (List ℕ)) (k : ℕ) (w : List ℕ) → slice_get words k ≡ Some w → wrong_of (from words k) ≡ None → k < room
  right-room words k w e h = by (nat_lt k room) refl
    where
      by : (b : Bool) → nat_lt k room ≡ b → k < room
      by true t = grind (arith, t)
      by false t = let same : Some (k + at) ≡ None = sym (wrong-many words k w e (grind (arith, t))) ∙ h in grind (arith, same)

  pub right-define : (words : List (List ℕ)) (k : ℕ) (w : List ℕ) → slice_get words k ≡ Some w → wrong_of (from words k) ≡ None → is_some (define_of w) ≡ true
  right-define words k w e h = by (is_some (define_of w)) refl
    where
      by : (b : Bool) → is_some (define_of w) ≡ b → is_some (define_of w) ≡ true
      by true t = t
      by false t = let same : Some (k + at) ≡ None = sym (wrong-none words k w e (right-room words k w e h) t) ∙ h in grind (arith, same)

-- a word whose '=' stands here is its name and its value
pub define-made : (word : List ℕ) (at : ℕ) (name : List ℕ) (value : Value) → position is_equals word ≡ Some at → IsTrue (is_some (define_of word)) → name ≡ take at word → value ≡ value_of (drop (at + 1) word) → define_of word ≡ Some (record { name = name; value = value })
define-made word at name value e h n v =
    let there : IsTrue (is_some (define_at word (Some at))) = subst (λ o. IsTrue (is_some (define_at word o))) e h in
    ap (define_at word) e
    ∙ some_if (is_definable (take at word) && is_value (drop (at + 1) word)) (record { name = take at word; value = value_of (drop (at + 1) word) }) there
    ∙ ap (λ m. Some (record { name = m; value = value_of (drop (at + 1) word) })) (sym n)
    ∙ ap (λ w. Some (record { name = name; value = w })) (sym v)
