-- How terms are told apart.
use Rattle.std.specs.Prelude.{◌≡◌, ◌==◌, ℕ, ℤ, pos, List, [], ◌∷◌, refl, if◌then◌else◌}
use Rattle.std.specs.Coded.{Coded, code_by, coded×, coded_ℕ, coded_ℤ, coded_list}
use Rattle.std.proofs.Common.{ap, ◌∙◌}
use Rattle.mp_semantics.specs.Term.{endogenous, exogenous, Leaf, number, parameter, variable, steady_state, Binary, plus, minus, times, quotient, least, greatest, Term, leaf, negative, binary, power_of, pick}

-- a leaf or an operator: its kind, and what it holds
abbrev pub Word : Type 0
Word = ℕ × (ℕ × (ℕ × ℤ))

abbrev pub word : ℕ → ℕ → ℕ → ℤ → Word
word kind m s k = (kind, (m, (s, k)))

abbrev pub leaf_word : Leaf → Word
leaf_word (number m s) = word 0 m s (pos 0)
leaf_word (parameter p) = word 1 p 0 (pos 0)
leaf_word (variable (endogenous p) k) = word 2 p 0 k
leaf_word (variable (exogenous p) k) = word 3 p 0 k
leaf_word (steady_state p) = word 4 p 0 (pos 0)

abbrev pub operator_word : Binary → Word
operator_word plus = word 5 0 0 (pos 0)
operator_word minus = word 6 0 0 (pos 0)
operator_word times = word 7 0 0 (pos 0)
operator_word quotient = word 8 0 0 (pos 0)
operator_word least = word 9 0 0 (pos 0)
operator_word greatest = word 10 0 0 (pos 0)

-- the term in postfix form, before these words
abbrev pub words : Term → List Word → List Word
words (leaf l) ws = leaf_word l ∷ ws
words (negative a) ws = words a (word 11 0 0 (pos 0) ∷ ws)
words (binary o a b) ws = words a (words b (operator_word o ∷ ws))
words (power_of a k) ws = words a (word 12 0 0 k ∷ ws)
words (pick a b c d) ws = words a (words b (words c (words d (word 13 0 0 (pos 0) ∷ ws))))

abbrev pub one : (Term → Term) → List Term → List Term
one f [] = []
one f (a ∷ st) = f a ∷ st

abbrev pub two : Binary → List Term → List Term
two o [] = []
two o (b ∷ []) = []
two o (b ∷ a ∷ st) = binary o a b ∷ st

abbrev pub four : List Term → List Term
four [] = []
four (d ∷ []) = []
four (d ∷ c ∷ []) = []
four (d ∷ c ∷ b ∷ []) = []
four (d ∷ c ∷ b ∷ a ∷ st) = pick a b c d ∷ st

-- one word read over the terms so far, the last first
abbrev pub step : ℕ → ℕ → ℕ → ℤ → List Term → List Term
step kind m s k st =
    if kind == 0 then leaf (number m s) ∷ st else if kind == 1 then leaf (parameter m) ∷ st else if kind == 2 then leaf (variable (endogenous m) k) ∷ st else if kind == 3 then leaf (variable (exogenous m) k) ∷ st else if kind == 4 then leaf (steady_state m) ∷ st else if kind == 5 then two plus st else if kind == 6 then two minus st else if kind == 7 then two times st else if kind == 8 then two quotient st else if kind == 9 then two least st else if kind == 10 then two greatest st else if kind == 11 then one negative st else if kind == 12 then one (λ a. power_of a k) st else four st

abbrev pub run : List Word → List Term → List Term
run [] st = st
run (w ∷ ws) st = run ws (step w.0 w.1.0 w.1.1.0 w.1.1.1 st)

pub run-leaf : (l : Leaf) (ws : List Word) (st : List Term) → run (leaf_word l ∷ ws) st ≡ run ws (leaf l ∷ st)
run-leaf (number m s) ws st = refl
run-leaf (parameter p) ws st = refl
run-leaf (variable (endogenous p) k) ws st = refl
run-leaf (variable (exogenous p) k) ws st = refl
run-leaf (steady_state p) ws st = refl

pub run-operator : (o : Binary) (a b : Term) (ws : List Word) (st : List Term) → run (operator_word o ∷ ws) (b ∷ a ∷ st) ≡ run ws (binary o a b ∷ st)
run-operator plus a b ws st = refl
run-operator minus a b ws st = refl
run-operator times a b ws st = refl
run-operator quotient a b ws st = refl
run-operator least a b ws st = refl
run-operator greatest a b ws st = refl

pub run-words : (t : Term) (ws : List Word) (st : List Term) → run (words t ws) st ≡ run ws (t ∷ st)
run-words (leaf l) ws st = run-leaf l ws st
run-words (negative a) ws st = run-words a (word 11 0 0 (pos 0) ∷ ws) st
run-words (binary o a b) ws st =
    run-words a (words b (operator_word o ∷ ws)) st ∙ run-words b (operator_word o ∷ ws) (a ∷ st) ∙ run-operator o a b ws st
run-words (power_of a k) ws st = run-words a (word 12 0 0 k ∷ ws) st
run-words (pick a b c d) ws st =
    run-words a (words b (words c (words d (word 13 0 0 (pos 0) ∷ ws)))) st
    ∙ run-words b (words c (words d (word 13 0 0 (pos 0) ∷ ws))) (a ∷ st)
    ∙ run-words c (words d (word 13 0 0 (pos 0) ∷ ws)) (b ∷ a ∷ st)
    ∙ run-words d (word 13 0 0 (pos 0) ∷ ws) (c ∷ b ∷ a ∷ st)

abbrev pub top : List Term → Term
top [] = leaf (number 0 0)
top (t ∷ st) = t

abbrev pub read : List Word → Term
read ws = top (run ws [])

pub read-words : (t : Term) → read (words t []) ≡ t
read-words t = ap top (run-words t [] [])

abbrev pub term_code : Coded Term
term_code =
    code_by (List Word) (coded_list (coded× coded_ℕ (coded× coded_ℕ (coded× coded_ℕ coded_ℤ)))) (λ t. words t []) read read-words
