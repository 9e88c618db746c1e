-- From the grammar to the reading functions.
use Rattle.std.proofs.Common.{◌≡◌, ℕ, zero, suc, List, [], ◌∷◌, length, Option, Some, None, refl, ap, ◌∙◌, arith}
use Rattle.mp_mexpr.specs.declared.operator.Operator.{Operator}
use Rattle.mp_mexpr.specs.declared.operator.Operator.TheVariants as o
use Rattle.mp_mexpr.specs.declared.token.Mark.TheVariants as m
use Rattle.mp_mexpr.specs.Syntax.{Expr, Exprs, Array, Negative, Not, Index, Empty, With}
use Rattle.mp_mexpr.specs.Tokens.{Tok, Binary, Single}
use Rattle.mp_mexpr.specs.Grammar.{Reader, ◌>>=◌, go_on, past, past_minus, level_of, repeated, extended, indexed, more_elements_at, array_at, paren_at, primary_at, index_at, unary_at, level_at, inside_at}
use Rattle.mp_mexpr.specs.Readings as g
use Rattle.mp_mexpr.specs.Readings.{Compares, Adds, OrReads, AndReads, ComparisonReads, RangeReads, SumReads, ProductReads, UnaryReads, IndexReads, PrimaryReads, ElementsRead}
use Rattle.mp_mexpr.proofs.Depth.{Fits, or_passes, and_passes, comparison_passes, range_passes, sum_passes, product_passes, unary_passes, index_passes, elements_pass}
use Rattle.mp_mexpr.proofs.Chains.{Ends, Ends-tighter, Ends-operator, Chain, chain-one, chain-more, chain-end, at, Operands, operands-one, operands-more, operands-end, operand-alone, operands-two}

compares_level : {operator : Operator} → Compares operator → level_of operator ≡ 3
compares_level g.Compares.equal = refl
compares_level g.Compares.different = refl
compares_level g.Compares.less = refl
compares_level g.Compares.greater = refl
compares_level g.Compares.at_most = refl
compares_level g.Compares.at_least = refl
compares_level g.Compares.among = refl

adds_level : {operator : Operator} → Adds operator → level_of operator ≡ 1
adds_level g.Adds.add = refl
adds_level g.Adds.subtract = refl

-- an expression, where so many more brackets may be open
or_end : (room : ℕ) (ts : List Tok) (e : Expr) (rest : List Tok) → Operands room 5 ts e rest → Ends 6 rest → at room 6 ts ≡ Some (e, rest)
or_end room ts e rest c ends = operands-end room 5 ts e rest (λ l. refl) c (ends.1 5 (omega arith))

and_end : (room : ℕ) (ts : List Tok) (e : Expr) (rest : List Tok) → Operands room 4 ts e rest → Ends 5 rest → at room 5 ts ≡ Some (e, rest)
and_end room ts e rest c ends = operands-end room 4 ts e rest (λ l. refl) c (ends.1 4 (omega arith))

sum_end : (room : ℕ) (ts : List Tok) (e : Expr) (rest : List Tok) → Operands room 1 ts e rest → Ends 2 rest → at room 2 ts ≡ Some (e, rest)
sum_end room ts e rest c ends = operands-end room 1 ts e rest (λ l. refl) c (ends.1 1 (omega arith))

product_end : (room : ℕ) (ts : List Tok) (e : Expr) (rest : List Tok) → Operands room 0 ts e rest → Ends 1 rest → at room 1 ts ≡ Some (e, rest)
product_end room ts e rest c ends = operands-end room 0 ts e rest (λ l. refl) c (ends.1 0 (omega arith))

-- elements of arrays
abbrev Elements : ℕ → List Tok → Expr → List Tok → Type 0
Elements room = Chain (past m.OpenBracket) (indexed (inside_at room)) (primary_at (inside_at room))

index_end : (room : ℕ) (ts : List Tok) (e : Expr) (rest : List Tok) → Elements room ts e rest → past m.OpenBracket rest ≡ None → index_at (inside_at room) ts ≡ Some (e, rest)
unfolding index_at
index_end room ts e rest c none =
    ap (λ o. o >>= λ first. repeated (length first.1) (past m.OpenBracket) (indexed (inside_at room)) first.0 first.1) c.begun
    ∙ chain-end (past m.OpenBracket) (indexed (inside_at room)) (primary_at (inside_at room)) ts e rest c none (length c.mid) (omega arith)

place_is : (room : ℕ) (us rest : List Tok) (e f : Expr) → at room 6 us ≡ Some (f, Single m.CloseBracket ∷ rest) → indexed (inside_at (suc room)) e us ≡ Some (Index e f, rest)
unfolding inside_at
place_is room us rest e f h =
    let placed : Option (Expr × List Tok) → Option (Expr × List Tok) = λ o. o >>= λ place. past m.CloseBracket place.1 >>= λ rest. Some (place.0, rest) in
    ap (λ o. placed o >>= λ place. Some (Index e place.0, place.1)) h

-- a sign
index_begins : (inside : Reader Expr) (ts : List Tok) (x : Expr × List Tok) → index_at inside ts ≡ Some x → (past_minus ts ≡ None) × (past m.Not ts ≡ None)
unfolding index_at primary_at
index_begins inside [] x e = (refl, refl)
index_begins inside (Binary operator ∷ ts) x e = cc
index_begins inside (Single m.Not ∷ ts) x e = cc
index_begins inside (_ ∷ ts) x e = (refl, refl)

bare_is : (room : ℕ) (ts rest : List Tok) (e : Expr) → index_at (inside_at room) ts ≡ Some (e, rest) → at room 0 ts ≡ Some (e, rest)
unfolding level_at unary_at
bare_is room ts rest e h =
    let inside = inside_at room in
    let begins = index_begins inside ts (e, rest) h in
    ap (λ o. go_on o (go_on (past m.Not ts) (index_at inside ts) (λ rest. index_at inside rest >>= λ e. Some (Not e.0, e.1))) (λ rest. index_at inside rest >>= λ e. Some (Negative e.0, e.1))) begins.0
    ∙ ap (λ o. go_on o (index_at inside ts) (λ rest. index_at inside rest >>= λ e. Some (Not e.0, e.1))) begins.1
    ∙ h

minus_is : (room : ℕ) (ts rest : List Tok) (e : Expr) → index_at (inside_at room) ts ≡ Some (e, rest) → at room 0 (Binary o.Subtract ∷ ts) ≡ Some (Negative e, rest)
unfolding level_at unary_at
minus_is room ts rest e h = ap (λ o. o >>= λ e. Some (Negative e.0, e.1)) h

negation_is : (room : ℕ) (ts rest : List Tok) (e : Expr) → index_at (inside_at room) ts ≡ Some (e, rest) → at room 0 (Single m.Not ∷ ts) ≡ Some (Not e, rest)
unfolding level_at unary_at
negation_is room ts rest e h = ap (λ o. o >>= λ e. Some (Not e.0, e.1)) h

-- elements between brackets
abbrev front_at : ℕ → Reader Exprs
front_at room ts = at room 6 ts >>= λ first. Some (With Empty first.0, first.1)

abbrev Listed : ℕ → List Tok → Exprs → List Tok → Type 0
Listed room = Chain (past m.Comma) (extended (at room 6)) (front_at room)

front_begins : (room : ℕ) (ts : List Tok) (y : Exprs × List Tok) → front_at room ts ≡ Some y → past m.CloseBracket ts ≡ None
unfolding level_at unary_at index_at primary_at
front_begins room [] y e = refl
front_begins room (Single m.CloseBracket ∷ ts) y e = cc
front_begins room (_ ∷ ts) y e = refl

after_front : {Y : Type 0} (r : Option (Expr × List Tok)) (next : Exprs × List Tok → Option Y) → (r >>= λ first. next (With Empty first.0, first.1)) ≡ ((r >>= λ first. Some (With Empty first.0, first.1)) >>= next)
after_front None next = refl
after_front (Some x) next = refl

array_is : (room : ℕ) (ts rest : List Tok) (es : Exprs) → Listed room ts es (Single m.CloseBracket ∷ rest) → primary_at (inside_at (suc room)) (Single m.OpenBracket ∷ ts) ≡ Some (Array es, rest)
unfolding primary_at array_at more_elements_at inside_at
array_is room ts rest es c =
    let more : Exprs × List Tok → Option (Expr × List Tok) = λ y. repeated (length y.1) (past m.Comma) (extended (at room 6)) y.0 y.1 >>= λ all. past m.CloseBracket all.1 >>= λ rest. Some (Array all.0, rest) in
    ap (λ o. go_on o (at room 6 ts >>= λ first. more (With Empty first.0, first.1)) (λ rest. Some (Array Empty, rest))) (front_begins room ts (c.first, c.mid) c.begun)
    ∙ after_front (at room 6 ts) more
    ∙ ap (λ o. o >>= more) c.begun
    ∙ ap (λ o. o >>= λ all. past m.CloseBracket all.1 >>= λ rest. Some (Array all.0, rest)) (chain-end (past m.Comma) (extended (at room 6)) (front_at room) ts es (Single m.CloseBracket ∷ rest) c refl (length c.mid) (omega arith))

no_elements_is : (room : ℕ) (rest : List Tok) → primary_at (inside_at room) (Single m.OpenBracket ∷ Single m.CloseBracket ∷ rest) ≡ Some (Array Empty, rest)
unfolding primary_at array_at
no_elements_is room rest = refl

paren_is : (room : ℕ) (ts rest : List Tok) (e : Expr) → at room 6 ts ≡ Some (e, Single m.Close ∷ rest) → primary_at (inside_at (suc room)) (Single m.Open ∷ ts) ≡ Some (e, rest)
unfolding primary_at paren_at inside_at
paren_is room ts rest e h = ap (λ o. o >>= λ e. past m.Close e.1 >>= λ rest. Some (e.0, rest)) h

mutual
  unfolding primary_at

  pub or_operands : {ts rest : List Tok} {e : Expr} → OrReads ts e rest → (room : ℕ) → Fits room ts → Ends 5 rest → Operands room 5 ts e rest
  or_operands (g.OrReads.one_and ts rest e a) room fits ends =
      operands-one room 5 ts e rest (and_end room ts e rest (and_operands a room fits (Ends-tighter 4 rest ends)) ends)
  or_operands (g.OrReads.or ts us rest e f a b) room fits ends =
      operands-more room 5 o.Or ts us rest e f refl (or_operands a room fits (Ends-operator 5 o.Or us refl)) (and_end room us f rest (and_operands b room ((or_passes a).fits room fits) (Ends-tighter 4 rest ends)) ends) (and_passes b).shorter

  and_operands : {ts rest : List Tok} {e : Expr} → AndReads ts e rest → (room : ℕ) → Fits room ts → Ends 4 rest → Operands room 4 ts e rest
  and_operands (g.AndReads.one_comparison ts rest e a) room fits ends =
      operands-one room 4 ts e rest (comparison_at a room fits ends)
  and_operands (g.AndReads.and ts us rest e f a b) room fits ends =
      operands-more room 4 o.And ts us rest e f refl (and_operands a room fits (Ends-operator 4 o.And us refl)) (comparison_at b room ((and_passes a).fits room fits) ends) (comparison_passes b).shorter

  comparison_at : {ts rest : List Tok} {e : Expr} → ComparisonReads ts e rest → (room : ℕ) → Fits room ts → Ends 4 rest → at room 4 ts ≡ Some (e, rest)
  comparison_at (g.ComparisonReads.one_range ts rest e a) room fits ends =
      operand-alone room 3 ts e rest (range_at a room fits (Ends-tighter 3 rest ends)) (ends.1 3 (omega arith))
  comparison_at (g.ComparisonReads.comparison operator ts us rest e f c a b) room fits ends =
      operands-two room 3 operator ts us rest e f (λ l. refl) (compares_level c) (range_at a room fits (Ends-operator 3 operator us (compares_level c))) (range_at b room ((range_passes a).fits room fits) (Ends-tighter 3 rest ends))

  range_at : {ts rest : List Tok} {e : Expr} → RangeReads ts e rest → (room : ℕ) → Fits room ts → Ends 3 rest → at room 3 ts ≡ Some (e, rest)
  range_at (g.RangeReads.one_sum ts rest e a) room fits ends =
      operand-alone room 2 ts e rest (sum_end room ts e rest (sum_operands a room fits (Ends-tighter 1 rest (Ends-tighter 2 rest ends))) (Ends-tighter 2 rest ends)) (ends.1 2 (omega arith))
  range_at (g.RangeReads.range ts us rest e f a b) room fits ends =
      operands-two room 2 o.Range ts us rest e f (λ l. refl) refl (sum_end room ts e (Binary o.Range ∷ us) (sum_operands a room fits (Ends-tighter 1 (Binary o.Range ∷ us) (Ends-operator 2 o.Range us refl))) (Ends-operator 2 o.Range us refl)) (sum_end room us f rest (sum_operands b room ((sum_passes a).fits room fits) (Ends-tighter 1 rest (Ends-tighter 2 rest ends))) (Ends-tighter 2 rest ends))

  sum_operands : {ts rest : List Tok} {e : Expr} → SumReads ts e rest → (room : ℕ) → Fits room ts → Ends 1 rest → Operands room 1 ts e rest
  sum_operands (g.SumReads.one_product ts rest e a) room fits ends =
      operands-one room 1 ts e rest (product_end room ts e rest (product_operands a room fits (Ends-tighter 0 rest ends)) ends)
  sum_operands (g.SumReads.sum operator ts us rest e f c a b) room fits ends =
      operands-more room 1 operator ts us rest e f (adds_level c) (sum_operands a room fits (Ends-operator 1 operator us (adds_level c))) (product_end room us f rest (product_operands b room ((sum_passes a).fits room fits) (Ends-tighter 0 rest ends)) ends) (product_passes b).shorter

  product_operands : {ts rest : List Tok} {e : Expr} → ProductReads ts e rest → (room : ℕ) → Fits room ts → Ends 0 rest → Operands room 0 ts e rest
  product_operands (g.ProductReads.one_unary ts rest e a) room fits ends = operands-one room 0 ts e rest (unary_at_is a room fits ends)
  product_operands (g.ProductReads.product ts us rest e f a b) room fits ends =
      operands-more room 0 o.Multiply ts us rest e f refl (product_operands a room fits (Ends-operator 0 o.Multiply us refl)) (unary_at_is b room ((product_passes a).fits room fits) ends) (unary_passes b).shorter

  unary_at_is : {ts rest : List Tok} {e : Expr} → UnaryReads ts e rest → (room : ℕ) → Fits room ts → Ends 0 rest → at room 0 ts ≡ Some (e, rest)
  unary_at_is (g.UnaryReads.bare ts rest e a) room fits ends =
      bare_is room ts rest e (index_end room ts e rest (index_elements a room fits) ends.0)
  unary_at_is (g.UnaryReads.minus ts rest e a) room fits ends =
      minus_is room ts rest e (index_end room ts e rest (index_elements a room fits) ends.0)
  unary_at_is (g.UnaryReads.negation ts rest e a) room fits ends =
      negation_is room ts rest e (index_end room ts e rest (index_elements a room fits) ends.0)

  index_elements : {ts rest : List Tok} {e : Expr} → IndexReads ts e rest → (room : ℕ) → Fits room ts → Elements room ts e rest
  index_elements (g.IndexReads.one_primary ts rest e a) room fits =
      chain-one (past m.OpenBracket) (indexed (inside_at room)) (primary_at (inside_at room)) ts e rest (primary_is a room fits)
  index_elements (g.IndexReads.element ts us rest e f a b) zero fits = absurd ((index_passes a).fits zero fits)
  index_elements (g.IndexReads.element ts us rest e f a b) (suc room) fits =
      let place = or_end room us f (Single m.CloseBracket ∷ rest) (or_operands b room ((index_passes a).fits (suc room) fits) (refl, λ k lt. refl)) (refl, λ k lt. refl) in
      chain-more (past m.OpenBracket) (indexed (inside_at (suc room))) (primary_at (inside_at (suc room))) ts e (Single m.OpenBracket ∷ us) us (Index e f) rest (index_elements a (suc room) fits) refl (place_is room us rest e f place) (omega (arith, (or_passes b).shorter))

  primary_is : {ts rest : List Tok} {e : Expr} → PrimaryReads ts e rest → (room : ℕ) → Fits room ts → primary_at (inside_at room) ts ≡ Some (e, rest)
  primary_is (g.PrimaryReads.digits bytes rest) room fits = refl
  primary_is (g.PrimaryReads.text bytes rest) room fits = refl
  primary_is (g.PrimaryReads.truth rest) room fits = refl
  primary_is (g.PrimaryReads.falsehood rest) room fits = refl
  primary_is (g.PrimaryReads.name bytes rest) room fits = refl
  primary_is (g.PrimaryReads.no_elements rest) room fits = no_elements_is room rest
  primary_is (g.PrimaryReads.array ts rest es a) zero fits = absurd fits
  primary_is (g.PrimaryReads.array ts rest es a) (suc room) fits =
      array_is room ts rest es (elements_listed a room fits (refl, λ k lt. refl))
  primary_is (g.PrimaryReads.paren ts rest e a) zero fits = absurd fits
  primary_is (g.PrimaryReads.paren ts rest e a) (suc room) fits =
      paren_is room ts rest e (or_end room ts e (Single m.Close ∷ rest) (or_operands a room fits (refl, λ k lt. refl)) (refl, λ k lt. refl))

  elements_listed : {ts rest : List Tok} {es : Exprs} → ElementsRead ts es rest → (room : ℕ) → Fits room ts → Ends 6 rest → Listed room ts es rest
  elements_listed (g.ElementsRead.first ts rest e a) room fits ends =
      chain-one (past m.Comma) (extended (at room 6)) (front_at room) ts (With Empty e) rest (ap (λ o. o >>= λ first. Some (With Empty first.0, first.1)) (or_end room ts e rest (or_operands a room fits (Ends-tighter 5 rest ends)) ends))
  elements_listed (g.ElementsRead.further ts us rest es e a b) room fits ends =
      let last = or_end room us e rest (or_operands b room ((elements_pass a).fits room fits) (Ends-tighter 5 rest ends)) ends in
      chain-more (past m.Comma) (extended (at room 6)) (front_at room) ts es (Single m.Comma ∷ us) us (With es e) rest (elements_listed a room fits (refl, λ k lt. refl)) refl (ap (λ o. o >>= λ last. Some (With es last.0, last.1)) last) (omega (arith, (or_passes b).shorter))

-- the tokens of an expression are read as it
pub or_read : (ts : List Tok) (e : Expr) (room : ℕ) → Fits room ts → OrReads ts e [] → at room 6 ts ≡ Some (e, [])
or_read ts e room fits a =
    or_end room ts e [] (or_operands a room fits (refl, λ k lt. refl)) (refl, λ k lt. refl)
