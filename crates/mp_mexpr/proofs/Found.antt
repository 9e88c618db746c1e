-- From the reading functions to the grammar.
use Rattle.std.proofs.Common.{◌≡◌, ℕ, zero, suc, List, [], ◌∷◌, length, Bool, true, false, ◌==◌, if◌then◌else◌, Option, Some, None, refl, sym, ap, ◌∙◌, subst, arith}
use Rattle.std.proofs.lemmas.Bool.Decides.{nat_tests}
use Rattle.mp_mexpr.specs.declared.operator.Operator.{Operator}
use Rattle.mp_mexpr.specs.declared.operator.Operator.TheVariants as o
use Rattle.mp_mexpr.specs.declared.token.Mark.{Mark}
use Rattle.mp_mexpr.specs.declared.token.Mark.TheVariants as m
use Rattle.mp_mexpr.specs.Syntax.{Expr, Exprs, Array, Negative, Not, Apply, Index, Empty, With}
use Rattle.mp_mexpr.specs.Tokens.{Tok, Digits, Quoted, Name, Binary, Single}
use Rattle.mp_mexpr.specs.Grammar.{Reader, ◌>>=◌, go_on, is_mark, past, past_minus, operator_at, level_of, most, repeated, applied, extended, indexed, place_at, more_elements_at, array_at, paren_at, primary_by, primary_at, index_at, unary_at, level_at, inside_at}
use Rattle.mp_mexpr.specs.Readings as g
use Rattle.mp_mexpr.specs.Readings.{Compares, Adds, OrReads, AndReads, ComparisonReads, RangeReads, SumReads, ProductReads, UnaryReads, IndexReads, PrimaryReads, ElementsRead}

-- what is said of one reading is said of the same
carried : {X : Type 0} (P : X → List Tok → Type 0) (x y : X × List Tok) → Some x ≡ Some y → P x.0 x.1 → P y.0 y.1
carried {X} P x y e p =
    let F : Option (X × List Tok) → Type 0 = λ o. elim o [ None ↦ Unit {0} | Some z ↦ P z.0 z.1 ] in subst F e p

-- a reading that goes on
bound : {A B : Type 0} (r : Option A) (f : A → Option B) (y : B) → (r >>= f) ≡ Some y → (x : A) × (r ≡ Some x) × (f x ≡ Some y)
bound None f y e = cc
bound (Some x) f y e = (x, refl, e)

is_mark-same : (a b : Mark) → is_mark a b ≡ true → b ≡ a
is_mark-same m.Not m.Not e = refl
is_mark-same m.OpenBracket m.OpenBracket e = refl
is_mark-same m.CloseBracket m.CloseBracket e = refl
is_mark-same m.Comma m.Comma e = refl
is_mark-same m.Open m.Open e = refl
is_mark-same m.Close m.Close e = refl
is_mark-same m.True m.True e = refl
is_mark-same m.False m.False e = refl
is_mark-same _ _ e = cc

past_found : (mark : Mark) (ts us : List Tok) → past mark ts ≡ Some us → ts ≡ Single mark ∷ us
past_found mark [] us e = cc
past_found mark (Single other ∷ ts) us e = by_mark (is_mark mark other) refl e
  where
    by_mark : (b : Bool) → is_mark mark other ≡ b → (if b then Some ts else None) ≡ Some us → Single other ∷ ts ≡ Single mark ∷ us
    by_mark true h e = let same : other ≡ mark = is_mark-same mark other h in cc
    by_mark false h e = cc
past_found mark (_ ∷ ts) us e = cc

past_minus_found : (ts us : List Tok) → past_minus ts ≡ Some us → ts ≡ Binary o.Subtract ∷ us
past_minus_found [] us e = cc
past_minus_found (Binary o.Subtract ∷ ts) us e = cc
past_minus_found (_ ∷ ts) us e = cc

operator_found : (level : ℕ) (ts : List Tok) (b : Operator × List Tok) → operator_at level ts ≡ Some b → (ts ≡ Binary b.0 ∷ b.1) × (level_of b.0 ≡ level)
operator_found level [] b e = cc
operator_found level (Binary operator ∷ ts) b e = by_level (level_of operator == level) refl e
  where
    equal : (a k : ℕ) → (a == k) ≡ true → a ≡ k
    equal a k h = grind (arith, nat_tests)

    by_level : (q : Bool) → (level_of operator == level) ≡ q → (if q then Some (operator, ts) else None) ≡ Some b → (Binary operator ∷ ts ≡ Binary b.0 ∷ b.1) × (level_of b.0 ≡ level)
    by_level true h e =
        carried (λ p rest. (Binary operator ∷ ts ≡ Binary p ∷ rest) × (level_of p ≡ level)) (operator, ts) b e (refl, equal (level_of operator) level h)
    by_level false h e = cc
operator_found level (_ ∷ ts) b e = cc

-- what each turn keeps
repeated_found : {B X : Type 0} (P : X → List Tok → Type 0) (begin : List Tok → Option B) (step : X → B → Option (X × List Tok)) → ((x : X) (us : List Tok) (b : B) (y : X × List Tok) → P x us → begin us ≡ Some b → step x b ≡ Some y → P y.0 y.1) → (n : ℕ) (x : X) (ts : List Tok) (y : X × List Tok) → P x ts → repeated n begin step x ts ≡ Some y → P y.0 y.1
unfolding repeated
repeated_found P begin step keeps zero x ts y p e = carried P (x, ts) y e p
repeated_found {B} {X} P begin step keeps (suc n) x ts y p e =
    by_begin (λ z q h. repeated_found P begin step keeps n z.0 z.1 y q h) (begin ts) refl e
  where
    by_begin : ((z : X × List Tok) → P z.0 z.1 → repeated n begin step z.0 z.1 ≡ Some y → P y.0 y.1) → (o : Option B) → begin ts ≡ o → go_on o (Some (x, ts)) (λ b. step x b >>= λ z. repeated n begin step z.0 z.1) ≡ Some y → P y.0 y.1
    by_begin rest None none e = carried P (x, ts) y e p
    by_begin rest (Some b) is e = let z = bound (step x b) _ y e in rest z.0 (keeps x ts b z.0 p is z.1) z.2

-- one turn at most
once_found : {B X : Type 0} (P : X → List Tok → Type 0) (begin : List Tok → Option B) (step : X → B → Option (X × List Tok)) (n : ℕ) (x : X) (ts : List Tok) (y : X × List Tok) → n ≡ 1 → P x ts → ((b : B) (z : X × List Tok) → begin ts ≡ Some b → step x b ≡ Some z → P z.0 z.1) → repeated n begin step x ts ≡ Some y → P y.0 y.1
unfolding repeated
once_found {B} P begin step n x ts y one none some e =
    by_begin (begin ts) refl (sym (ap (λ k. repeated k begin step x ts) one) ∙ e)
  where
    by_begin : (o : Option B) → begin ts ≡ o → go_on o (Some (x, ts)) (λ b. step x b >>= λ z. Some (z.0, z.1)) ≡ Some y → P y.0 y.1
    by_begin None is e = carried P (x, ts) y e none
    by_begin (Some b) is e = let z = bound (step x b) _ y e in carried P z.0 y z.2 (some b z.0 is z.1)

-- what is read is an expression of the grammar
abbrev pub Sound : {X : Type 0} → Reader X → (List Tok → X → List Tok → Type 0) → Type 0
Sound {X} read R = (ts : List Tok) (y : X × List Tok) → read ts ≡ Some y → R ts y.0 y.1

module _ (inside : Reader Expr) (level : ℕ) (R S : List Tok → Expr → List Tok → Type 0) (operand : Sound (level_at inside level) R) (one : (ts rest : List Tok) (e : Expr) → R ts e rest → S ts e rest) where
  operands_found : ((operator : Operator) (ts us rest : List Tok) (e f : Expr) → level_of operator ≡ level → S ts e (Binary operator ∷ us) → R us f rest → S ts (Apply operator e f) rest) → Sound (level_at inside (suc level)) S
  unfolding level_at
  operands_found more ts y e =
      let x = bound (level_at inside level ts) _ y e in
      repeated_found (S ts) (operator_at level) (applied (level_at inside level)) turn (most level x.0.1) x.0.0 x.0.1 y (one ts x.0.1 x.0.0 (operand ts x.0 x.1)) x.2
    where
      turn : (left : Expr) (us : List Tok) (b : Operator × List Tok) (z : Expr × List Tok) → S ts left us → operator_at level us ≡ Some b → applied (level_at inside level) left b ≡ Some z → S ts z.0 z.1
      turn left us b z s begun stepped =
          let p = operator_found level us b begun in
          let r = bound (level_at inside level b.1) _ z stepped in
          carried (S ts) (Apply b.0 left r.0.0, r.0.1) z r.2 (more b.0 ts b.1 r.0.1 left r.0.0 p.1 (subst (S ts left) p.0 s) (operand b.1 r.0 r.1))

  two_found : ((ts : List Tok) → most level ts ≡ 1) → ((operator : Operator) (ts us rest : List Tok) (e f : Expr) → level_of operator ≡ level → R ts e (Binary operator ∷ us) → R us f rest → S ts (Apply operator e f) rest) → Sound (level_at inside (suc level)) S
  unfolding level_at
  two_found single more ts y e =
      let x = bound (level_at inside level ts) _ y e in
      once_found (S ts) (operator_at level) (applied (level_at inside level)) (most level x.0.1) x.0.0 x.0.1 y (single x.0.1) (one ts x.0.1 x.0.0 (operand ts x.0 x.1)) (turn x.0.0 x.0.1 (operand ts x.0 x.1)) x.2
    where
      turn : (left : Expr) (us : List Tok) → R ts left us → (b : Operator × List Tok) (z : Expr × List Tok) → operator_at level us ≡ Some b → applied (level_at inside level) left b ≡ Some z → S ts z.0 z.1
      turn left us s b z begun stepped =
          let p = operator_found level us b begun in
          let r = bound (level_at inside level b.1) _ z stepped in
          carried (S ts) (Apply b.0 left r.0.0, r.0.1) z r.2 (more b.0 ts b.1 r.0.1 left r.0.0 p.1 (subst (R ts left) p.0 s) (operand b.1 r.0 r.1))

-- the operators of each level
or_more : (operator : Operator) (ts us rest : List Tok) (e f : Expr) → level_of operator ≡ 5 → OrReads ts e (Binary operator ∷ us) → AndReads us f rest → OrReads ts (Apply operator e f) rest
or_more o.Or ts us rest e f is a b = g.OrReads.or ts us rest e f a b
or_more _ ts us rest e f is a b = absurd (omega arith)

and_more : (operator : Operator) (ts us rest : List Tok) (e f : Expr) → level_of operator ≡ 4 → AndReads ts e (Binary operator ∷ us) → ComparisonReads us f rest → AndReads ts (Apply operator e f) rest
and_more o.And ts us rest e f is a b = g.AndReads.and ts us rest e f a b
and_more _ ts us rest e f is a b = absurd (omega arith)

level_compares : (operator : Operator) → level_of operator ≡ 3 → Compares operator
level_compares o.Equal is = g.Compares.equal
level_compares o.Different is = g.Compares.different
level_compares o.Less is = g.Compares.less
level_compares o.Greater is = g.Compares.greater
level_compares o.AtMost is = g.Compares.at_most
level_compares o.AtLeast is = g.Compares.at_least
level_compares o.In is = g.Compares.among
level_compares _ is = absurd (omega arith)

range_more : (operator : Operator) (ts us rest : List Tok) (e f : Expr) → level_of operator ≡ 2 → SumReads ts e (Binary operator ∷ us) → SumReads us f rest → RangeReads ts (Apply operator e f) rest
range_more o.Range ts us rest e f is a b = g.RangeReads.range ts us rest e f a b
range_more _ ts us rest e f is a b = absurd (omega arith)

level_adds : (operator : Operator) → level_of operator ≡ 1 → Adds operator
level_adds o.Add is = g.Adds.add
level_adds o.Subtract is = g.Adds.subtract
level_adds _ is = absurd (omega arith)

product_more : (operator : Operator) (ts us rest : List Tok) (e f : Expr) → level_of operator ≡ 0 → ProductReads ts e (Binary operator ∷ us) → UnaryReads us f rest → ProductReads ts (Apply operator e f) rest
product_more o.Multiply ts us rest e f is a b = g.ProductReads.product ts us rest e f a b
product_more _ ts us rest e f is a b = absurd (omega arith)

module _ (inside : Reader Expr) (h : Sound inside OrReads) where
  paren_found : (ts : List Tok) (y : Expr × List Tok) → paren_at inside ts ≡ Some y → PrimaryReads (Single m.Open ∷ ts) y.0 y.1
  unfolding paren_at
  paren_found ts y e =
      let x = bound (inside ts) _ y e in
      let p = bound (past m.Close x.0.1) _ y x.2 in
      carried (PrimaryReads (Single m.Open ∷ ts)) (x.0.0, p.0) y p.2 (g.PrimaryReads.paren ts p.0 x.0.0 (subst (OrReads ts x.0.0) (past_found m.Close x.0.1 p.0 p.1) (h ts x.0 x.1)))

  elements_found : (ts us : List Tok) (front : Exprs) (y : Expr × List Tok) → ElementsRead ts front us → more_elements_at inside front us ≡ Some y → PrimaryReads (Single m.OpenBracket ∷ ts) y.0 y.1
  unfolding more_elements_at
  elements_found ts us front y a e =
      let all = bound (repeated (length us) (past m.Comma) (extended inside) front us) _ y e in
      let p = bound (past m.CloseBracket all.0.1) _ y all.2 in
      let read = repeated_found (ElementsRead ts) (past m.Comma) (extended inside) turn (length us) front us all.0 a all.1 in
      carried (PrimaryReads (Single m.OpenBracket ∷ ts)) (Array all.0.0, p.0) y p.2 (g.PrimaryReads.array ts p.0 all.0.0 (subst (ElementsRead ts all.0.0) (past_found m.CloseBracket all.0.1 p.0 p.1) read))
    where
      turn : (es : Exprs) (vs b : List Tok) (z : Exprs × List Tok) → ElementsRead ts es vs → past m.Comma vs ≡ Some b → extended inside es b ≡ Some z → ElementsRead ts z.0 z.1
      turn es vs b z s begun stepped =
          let r = bound (inside b) _ z stepped in
          carried (ElementsRead ts) (With es r.0.0, r.0.1) z r.2 (g.ElementsRead.further ts b r.0.1 es r.0.0 (subst (ElementsRead ts es) (past_found m.Comma vs b begun) s) (h b r.0 r.1))

  array_found : (ts : List Tok) (y : Expr × List Tok) → array_at inside ts ≡ Some y → PrimaryReads (Single m.OpenBracket ∷ ts) y.0 y.1
  unfolding array_at
  array_found ts y e = by_close (past m.CloseBracket ts) refl e
    where
      by_close : (c : Option (List Tok)) → past m.CloseBracket ts ≡ c → go_on c (inside ts >>= λ first. more_elements_at inside (With Empty first.0) first.1) (λ rest. Some (Array Empty, rest)) ≡ Some y → PrimaryReads (Single m.OpenBracket ∷ ts) y.0 y.1
      by_close None is e =
          let x = bound (inside ts) _ y e in
          elements_found ts x.0.1 (With Empty x.0.0) y (g.ElementsRead.first ts x.0.1 x.0.0 (h ts x.0 x.1)) x.2
      by_close (Some rest) is e =
          let F : List Tok → Type 0 = λ l. PrimaryReads (Single m.OpenBracket ∷ l) (Array Empty) rest in
          carried (PrimaryReads (Single m.OpenBracket ∷ ts)) (Array Empty, rest) y e (subst F (sym (past_found m.CloseBracket ts rest is)) (g.PrimaryReads.no_elements rest))

  primary_found_by : (t : Tok) (ts : List Tok) (y : Expr × List Tok) → primary_by inside t ts ≡ Some y → PrimaryReads (t ∷ ts) y.0 y.1
  primary_found_by (Digits bytes) ts y e = carried (PrimaryReads (Digits bytes ∷ ts)) _ y e (g.PrimaryReads.digits bytes ts)
  primary_found_by (Quoted bytes) ts y e = carried (PrimaryReads (Quoted bytes ∷ ts)) _ y e (g.PrimaryReads.text bytes ts)
  primary_found_by (Name bytes) ts y e = carried (PrimaryReads (Name bytes ∷ ts)) _ y e (g.PrimaryReads.name bytes ts)
  primary_found_by (Single m.True) ts y e = carried (PrimaryReads (Single m.True ∷ ts)) _ y e (g.PrimaryReads.truth ts)
  primary_found_by (Single m.False) ts y e =
      carried (PrimaryReads (Single m.False ∷ ts)) _ y e (g.PrimaryReads.falsehood ts)
  primary_found_by (Single m.OpenBracket) ts y e = array_found ts y e
  primary_found_by (Single m.Open) ts y e = paren_found ts y e
  primary_found_by _ ts y e = cc

  primary_found : Sound (primary_at inside) PrimaryReads
  unfolding primary_at
  primary_found [] y e = cc
  primary_found (t ∷ ts) y e = primary_found_by t ts y e

  index_found : Sound (index_at inside) IndexReads
  unfolding index_at
  index_found ts y e =
      let x = bound (primary_at inside ts) _ y e in
      repeated_found (IndexReads ts) (past m.OpenBracket) (indexed inside) turn (length x.0.1) x.0.0 x.0.1 y (g.IndexReads.one_primary ts x.0.1 x.0.0 (primary_found ts x.0 x.1)) x.2
    where
      turn : (array : Expr) (us b : List Tok) (z : Expr × List Tok) → IndexReads ts array us → past m.OpenBracket us ≡ Some b → indexed inside array b ≡ Some z → IndexReads ts z.0 z.1
      turn array us b z s begun stepped =
          let place = bound (place_at inside b) _ z stepped in
          let x = bound (inside b) _ place.0 place.1 in
          let p = bound (past m.CloseBracket x.0.1) _ place.0 x.2 in
          let read : OrReads b x.0.0 (Single m.CloseBracket ∷ p.0) = subst (OrReads b x.0.0) (past_found m.CloseBracket x.0.1 p.0 p.1) (h b x.0 x.1) in
          let placed : OrReads b place.0.0 (Single m.CloseBracket ∷ place.0.1) = carried (λ e rest. OrReads b e (Single m.CloseBracket ∷ rest)) (x.0.0, p.0) place.0 p.2 read in
          carried (IndexReads ts) (Index array place.0.0, place.0.1) z place.2 (g.IndexReads.element ts b place.0.1 array place.0.0 (subst (IndexReads ts array) (past_found m.OpenBracket us b begun) s) placed)

  unary_found : Sound (unary_at inside) UnaryReads
  unfolding unary_at
  unary_found ts y e = by_minus (past_minus ts) refl e
    where
      by_not : (c : Option (List Tok)) → past m.Not ts ≡ c → go_on c (index_at inside ts) (λ rest. index_at inside rest >>= λ e. Some (Not e.0, e.1)) ≡ Some y → UnaryReads ts y.0 y.1
      by_not None is e = g.UnaryReads.bare ts y.1 y.0 (index_found ts y e)
      by_not (Some us) is e =
          let x = bound (index_at inside us) _ y e in
          let F : List Tok → Type 0 = λ l. UnaryReads l (Not x.0.0) x.0.1 in
          carried (UnaryReads ts) (Not x.0.0, x.0.1) y x.2 (subst F (sym (past_found m.Not ts us is)) (g.UnaryReads.negation us x.0.1 x.0.0 (index_found us x.0 x.1)))

      by_minus : (c : Option (List Tok)) → past_minus ts ≡ c → go_on c (go_on (past m.Not ts) (index_at inside ts) (λ rest. index_at inside rest >>= λ e. Some (Not e.0, e.1))) (λ rest. index_at inside rest >>= λ e. Some (Negative e.0, e.1)) ≡ Some y → UnaryReads ts y.0 y.1
      by_minus None is e = by_not (past m.Not ts) refl e
      by_minus (Some us) is e =
          let x = bound (index_at inside us) _ y e in
          let F : List Tok → Type 0 = λ l. UnaryReads l (Negative x.0.0) x.0.1 in
          carried (UnaryReads ts) (Negative x.0.0, x.0.1) y x.2 (subst F (sym (past_minus_found ts us is)) (g.UnaryReads.minus us x.0.1 x.0.0 (index_found us x.0 x.1)))

  tightest_found : Sound (level_at inside 0) UnaryReads
  unfolding level_at
  tightest_found ts y e = unary_found ts y e

  level_found : Sound (level_at inside 6) OrReads
  level_found =
      let product = operands_found inside 0 UnaryReads ProductReads tightest_found g.ProductReads.one_unary product_more in
      let sum = operands_found inside 1 ProductReads SumReads product g.SumReads.one_product (λ operator ts us rest e f is a b. g.SumReads.sum operator ts us rest e f (level_adds operator is) a b) in
      let range = two_found inside 2 SumReads RangeReads sum g.RangeReads.one_sum (λ l. refl) range_more in
      let comparison = two_found inside 3 RangeReads ComparisonReads range g.ComparisonReads.one_range (λ l. refl) (λ operator ts us rest e f is a b. g.ComparisonReads.comparison operator ts us rest e f (level_compares operator is) a b) in
      let and = operands_found inside 4 ComparisonReads AndReads comparison g.AndReads.one_comparison and_more in
      operands_found inside 5 AndReads OrReads and g.OrReads.one_and or_more

inside_found : (room : ℕ) → Sound (inside_at room) OrReads
unfolding inside_at
inside_found zero ts y e = cc
inside_found (suc room) ts y e = level_found (inside_at room) (inside_found room) ts y e

-- what is read is an expression of the grammar
pub or_found : (room : ℕ) → Sound (level_at (inside_at room) 6) OrReads
or_found room = level_found (inside_at room) (inside_found room)
