-- In a file each name is shifted by at most the greatest whole number of its tokens, and stands in at most 500 `diff`.
use Rattle.std.proofs.Common.{◌≡◌, ℕ, zero, suc, ◌+◌, ◌≤◌, unsigned_abs, List, [], ◌∷◌, ◌++◌, true, inl, inr, Option, Some, None, flat_map, sym, subst, arith, le_trans}
use Rattle.std.specs.List.{AllByRecursion}
use Rattle.std.proofs.lemmas.List.Concat.{flat_map-append}
use Rattle.mp_tokens.specs.declared.terminal.Terminal.TheVariants as t
use Rattle.mp_tokens.specs.Tokens.{Tok}
use Rattle.mp_tokens.specs.Literals.{number_of}
use Rattle.mp_syntax.specs.declared.operator.Sign.{Sign}
use Rattle.mp_syntax.specs.declared.operator.Sign.TheVariants as sign
use Rattle.mp_syntax.specs.declared.operator.Operator.{Operator}
use Rattle.mp_syntax.specs.declared.operator.Function.{Function}
use Rattle.mp_syntax.specs.Syntax.{Shift, Named, Expr, Variable, Paren, Call, Binary, Diff, Further, with_further, signed}
use Rattle.mp_statements.specs.declared.kind.NameKind.{NameKind}
use Rattle.mp_statements.specs.Statements.{Equation, Item, Statement}
use Rattle.mp_statements.specs.Parts.{items_in, items_of}
use Rattle.mp_statements.specs.Sides.{right_side, sides}
use Rattle.mp_format.specs.Format.{Format, Of, sees, both, choose, opt, many, via, Every, Made}
use Rattle.mp_format.specs.Notation.{of}
use Rattle.mp_format.proofs.Whole.{whole-made}
use Rattle.mp_format.proofs.MadeLaws.{made}
use Rattle.mp_expressions.specs.Productions.{Whole, expr}
use Rattle.mp_expressions.specs.Expressions.{shift, literal, flat_atom, pair, fenced, shift_part, closed, inside, atom, raised, power, factor, times, product, plus, sum}
use Rattle.mp_grammar.specs.Productions.{declared, declares, assigns, local, equation, item, model, notes, statement, statements}
use Rattle.mp_grammar.specs.Levels.{expression, flat, deeper}
use Rattle.mp_grammar.specs.Grammar.{ReadsFile}
use Rattle.mp_values.specs.Names.{along, shift_of}
use Rattle.mp_values.specs.Shifts.{Reading, readings, item_readings}

-- the token is no whole number, or one of at most this
abbrev pub IsWithin : ℕ → Tok → Type 0
IsWithin limit u = sees (Of t.Whole) u ≡ true → number_of u.bytes ≤ limit

-- a name is shifted by at most this, in at most so many `diff`
pub record IsNear (limit depth : ℕ) (r : Reading) : Type 0 where
  pub periods : unsigned_abs (shift_of r.shift) ≤ limit
  pub depth_is : r.depth ≤ depth

-- so is each name that the expression reads, where it stands in d `diff` and so many "(" may be open in it
abbrev AreNear : ℕ → ℕ → Expr → Type 0
AreNear limit room e = (d : ℕ) → AllByRecursion (IsNear limit (d + room)) (readings d e)

each-append : {X : Type 0} (P : X → Type 0) (xs ys : List X) → AllByRecursion P xs → AllByRecursion P ys → AllByRecursion P (xs ++ ys)
each-append P [] ys h k = k
each-append P (x ∷ xs) ys h k = (h.0, each-append P xs ys h.1 k)

each-flat : {X Y : Type 0} (P : Y → Type 0) (f : X → List Y) (xs : List X) → Every (λ x. AllByRecursion P (f x)) xs → AllByRecursion P (flat_map f xs)
each-flat P f [] each = tt
each-flat P f (x ∷ xs) each = each-append P (f x) (flat_map f xs) each.0 (each-flat P f xs each.1)

module _ (limit : ℕ) where
  -- what is made of tokens within the limit keeps to this
  Keeps : {X : Type 0} → Format X → (X → Type 0) → Type 0
  Keeps {X} f P = (x : X) → Made f (IsWithin limit) x → P x

  abbrev OrNone : {X : Type 0} → (X → Type 0) → Option X → Type 0
  OrNone P None = Unit {0}
  OrNone P (Some x) = P x

  -- ---- a rule for each form of format

  both_keeps : {X Y : Type 0} (f : Format X) (g : Format Y) (P : X → Type 0) (R : Y → Type 0) → Keeps f P → Keeps g R → Keeps (both f g) (λ p. P p.0 × R p.1)
  unfolding Made Keeps
  both_keeps f g P R h k x m = (h x.0 m.0, k x.1 m.1)

  choose_keeps : {X : Type 0} (f g : Format X) (P : X → Type 0) → Keeps f P → Keeps g P → Keeps (choose f g) P
  unfolding Made Keeps
  choose_keeps f g P h k x (inl m) = h x m
  choose_keeps f g P h k x (inr m) = k x m

  opt_keeps : {X : Type 0} (f : Format X) (P : X → Type 0) → Keeps f P → Keeps (opt f) (OrNone P)
  unfolding Made Keeps
  opt_keeps f P h None m = tt
  opt_keeps f P h (Some x) m = h x m

  many_keeps : {X : Type 0} (f : Format X) (P : X → Type 0) → Keeps f P → Keeps (many f) (Every P)
  unfolding Made Keeps
  many_keeps f P h [] m = tt
  many_keeps f P h (x ∷ xs) m = (h x m.0, many_keeps f P h xs m.1)

  via_keeps : {X Y : Type 0} (to : X → Y) (f : Format X) (P : X → Type 0) (R : Y → Type 0) → ((x : X) → P x → R (to x)) → Keeps f P → Keeps (via to f) R
  unfolding Made Keeps
  via_keeps to f P R more h y (x, e, m) = subst R e (more x (h x m))

  front_keeps : {X Y : Type 0} (f : Format X) (g : Format Y) (R : Y → Type 0) → Keeps g R → Keeps (via (λ (p : X × Y). p.1) (both f g)) R
  unfolding Made Keeps
  front_keeps f g R k y (p, e, m) = subst R e (k p.1 m.1)

  back_keeps : {X Y : Type 0} (f : Format X) (g : Format Y) (P : X → Type 0) → Keeps f P → Keeps (via (λ (p : X × Y). p.0) (both f g)) P
  unfolding Made Keeps
  back_keeps f g P h x (p, e, m) = subst P e (h p.0 m.0)

  -- nothing is said of it
  free : {X : Type 0} (f : Format X) → Keeps f (λ x. Unit {0})
  unfolding Keeps
  free f x m = tt

  -- ---- expressions

  deeper_near : (m n : ℕ) → m ≤ n → (rs : List Reading) → AllByRecursion (IsNear limit m) rs → AllByRecursion (IsNear limit n) rs
  deeper_near m n low [] h = tt
  deeper_near m n low (r ∷ rs) h =
      (record { periods = h.0.periods; depth_is = le_trans h.0.depth_is low }, deeper_near m n low rs h.1)

  abbrev ShiftNear : Shift → Type 0
  ShiftNear s = number_of s.digits ≤ limit

  whole_keeps : Keeps (of t.Whole) (λ u. number_of u.bytes ≤ limit)
  unfolding Made Keeps
  whole_keeps u m = m.1 m.0

  shift_keeps : Keeps shift_part (OrNone ShiftNear)
  unfolding fenced shift
  shift_keeps =
      opt_keeps _ ShiftNear (front_keeps _ _ ShiftNear (back_keeps _ _ ShiftNear (via_keeps _ _ (λ p. Unit {0} × (number_of p.1.bytes ≤ limit)) ShiftNear (λ p h. h.1) (both_keeps _ _ (λ s. Unit {0}) (λ u. number_of u.bytes ≤ limit) (free _) whole_keeps))))

  periods_near : (s : Option Shift) → OrNone ShiftNear s → unsigned_abs (shift_of s) ≤ limit
  periods_near None h = omega arith
  periods_near (Some s) h = by s.sign (number_of s.digits) h
    where
      by : (g : Sign) (n : ℕ) → n ≤ limit → unsigned_abs (along g n) ≤ limit
      by sign.Plus n low = low
      by sign.Minus zero low = low
      by sign.Minus (suc n) low = low

  -- in an expression where so many "(" may be open
  module _ (room : ℕ) where
    abbrev Near : Expr → Type 0
    Near e = AreNear limit room e

    abbrev FurtherNear : Further → Type 0
    FurtherNear x = Near x.operand

    binary_near : (op : Operator) (a : Expr) (at : ℕ) (b : Expr) → Near a → Near b → Near (Binary op a at b)
    unfolding readings
    binary_near op a at b x y d = each-append _ (readings d a) (readings d b) (x d) (y d)

    call_near : (g : Function) (a b : Expr) → Near a → Near b → Near (Call g a b)
    unfolding readings
    call_near g a b x y d = each-append _ (readings d a) (readings d b) (x d) (y d)

    signed_near : (s : Option Sign) (e : Expr) → Near e → Near (signed s e)
    unfolding readings
    signed_near None e is d = is d
    signed_near (Some s) e is d = is d

    further_near : (e : Expr) (more : List Further) → Near e → Every FurtherNear more → Near (with_further e more)
    further_near e [] is each = is
    further_near e (x ∷ more) is each =
        further_near (Binary x.op e x.at x.operand) more (binary_near x.op e x.at x.operand is each.0) each.1

    literal_keeps : Keeps literal Near
    unfolding readings
    literal_keeps = via_keeps _ _ (λ u. Unit {0}) Near (λ u h d. tt) (free _)

    name_near : (n : Named) (s : Option Shift) → OrNone ShiftNear s → Near (Variable n s)
    unfolding readings
    name_near n s h d = (record { periods = periods_near s h; depth_is = omega arith }, tt)

    abbrev ExponentNear : Tok × (Option Sign × Expr) → Type 0
    ExponentNear p = Near p.1.1

    raised_near : (x : Expr) (o : Option (Tok × (Option Sign × Expr))) → Near x → Near (raised x o)
    unfolding readings
    raised_near x None h d = h d
    raised_near x (Some p) h d = h d

    module _ (a : Format Expr) (inner : Keeps a Near) where
      power_keeps : Keeps (power a) Near
      power_keeps =
          via_keeps _ _ (λ p. Near p.0 × Unit {0}) Near (λ p h. raised_near p.0 p.1 h.0) (both_keeps _ _ Near (λ o. Unit {0}) inner (free _))

      factor_keeps : Keeps (factor a) Near
      unfolding factor
      factor_keeps = via_keeps _ _ (λ p. Unit {0} × Near p.1) Near (λ p h. signed_near p.0 p.1 h.1) (both_keeps _ _ (λ s. Unit {0}) Near (free _) power_keeps)

      times_keeps : Keeps (times a) FurtherNear
      unfolding times
      times_keeps = via_keeps _ _ (λ p. Unit {0} × Near p.1) FurtherNear (λ p h. h.1) (both_keeps _ _ (λ o. Unit {0}) Near (free _) factor_keeps)

      product_keeps : Keeps (product a) Near
      unfolding product
      product_keeps = via_keeps _ _ (λ p. Near p.0 × Every FurtherNear p.1) Near (λ p h. further_near p.0 p.1 h.0 h.1) (both_keeps _ _ Near (Every FurtherNear) factor_keeps (many_keeps _ FurtherNear times_keeps))

      plus_keeps : Keeps (plus a) FurtherNear
      unfolding plus
      plus_keeps = via_keeps _ _ (λ p. Unit {0} × Near p.1) FurtherNear (λ p h. h.1) (both_keeps _ _ (λ o. Unit {0}) Near (free _) product_keeps)

      sum_keeps : Keeps (sum a) Near
      unfolding sum
      sum_keeps = via_keeps _ _ (λ p. Near p.0 × Every FurtherNear p.1) Near (λ p h. further_near p.0 p.1 h.0 h.1) (both_keeps _ _ Near (Every FurtherNear) product_keeps (many_keeps _ FurtherNear plus_keeps))

  flat_keeps : Keeps flat_atom (Near 0)
  unfolding flat_atom
  flat_keeps = choose_keeps _ _ (Near 0) (literal_keeps 0) (via_keeps _ _ (λ u. Unit {0}) (Near 0) (λ u h. name_near 0 _ None tt) (free _))

  -- one "(" further out
  module _ (room : ℕ) (e : Whole) (inner : Keeps (expr e) (Near room)) where
    abbrev Outer : Expr → Type 0
    Outer x = Near (suc room) x

    abbrev TwoNear : Expr × Expr → Type 0
    TwoNear p = Near room p.0 × Near room p.1

    outer : (x : Expr) → Near room x → Outer x
    outer x h d = deeper_near (d + room) (d + suc room) (omega arith) (readings d x) (h d)

    pair_keeps : Keeps (pair e) TwoNear
    unfolding pair
    pair_keeps =
        both_keeps _ _ (Near room) (Near room) (front_keeps _ _ (Near room) (back_keeps _ _ (Near room) inner)) (back_keeps _ _ (Near room) inner)

    paren_near : (x : Expr) → Near room x → Outer (Paren x)
    unfolding readings
    paren_near x h d = outer x h d

    diff_near : (at : ℕ) (x : Expr) → Near room x → Outer (Diff at x)
    unfolding readings
    diff_near at x h d = deeper_near (suc d + room) (d + suc room) (omega arith) (readings (suc d) x) (h (suc d))

    called_near : (g : Function) (a b : Expr) → Near room a → Near room b → Outer (Call g a b)
    called_near g a b x y = call_near (suc room) g a b (outer a x) (outer b y)

    inside_keeps : Keeps (inside e) (Near room)
    unfolding inside closed
    inside_keeps = front_keeps _ _ (Near room) (back_keeps _ _ (Near room) inner)

    atom_keeps : Keeps (atom e) Outer
    unfolding atom closed
    atom_keeps =
        choose_keeps _ _ Outer (literal_keeps (suc room)) (choose_keeps _ _ Outer (via_keeps _ _ (λ p. Unit {0} × OrNone ShiftNear p.1) Outer (λ p h. name_near (suc room) _ p.1 h.1) (both_keeps _ _ (λ u. Unit {0}) (OrNone ShiftNear) (free _) shift_keeps)) (choose_keeps _ _ Outer (via_keeps _ _ (Near room) Outer (λ x h. paren_near x h) (front_keeps _ _ (Near room) (back_keeps _ _ (Near room) inner))) (choose_keeps _ _ Outer (via_keeps _ _ TwoNear Outer (λ p h. called_near _ p.0 p.1 h.0 h.1) (front_keeps _ _ TwoNear pair_keeps)) (choose_keeps _ _ Outer (via_keeps _ _ TwoNear Outer (λ p h. called_near _ p.0 p.1 h.0 h.1) (front_keeps _ _ TwoNear pair_keeps)) (via_keeps _ _ (λ p. Unit {0} × Near room p.1) Outer (λ p h. diff_near p.0.at p.1 h.1) (both_keeps _ _ (λ u. Unit {0}) (Near room) (free _) inside_keeps))))))

  expr_keeps : (room : ℕ) → Keeps (expr (expression room)) (Near room)
  unfolding Made Keeps expression flat deeper
  expr_keeps zero x m =
      sum_keeps 0 flat_atom flat_keeps x (subst (λ (M : (Tok → Type 0) → Expr → Type 0). M (IsWithin limit) x) (whole-made _ _ _ (sum flat_atom) _ _) m)
  expr_keeps (suc room) x m =
      sum_keeps (suc room) (atom (expression room)) (atom_keeps room (expression room) (expr_keeps room)) x (subst (λ (M : (Tok → Type 0) → Expr → Type 0). M (IsWithin limit) x) (whole-made _ _ _ (sum (atom (expression room))) _ _) m)

  -- ---- statements

  abbrev ItemNear : Item → Type 0
  ItemNear x = AllByRecursion (IsNear limit 500) (item_readings x)

  right_near : (r : Option Expr) → OrNone (Near 500) r → Near 500 (right_side r)
  unfolding readings
  right_near None h d = tt
  right_near (Some e) h d = h d

  local_keeps : Keeps (local (expression 500)) ItemNear
  unfolding local
  local_keeps = via_keeps _ _ (λ p. Unit {0} × Near 500 p.1) ItemNear (λ p h. h.1 0) (both_keeps _ _ (λ n. Unit {0}) (Near 500) (free _) (back_keeps _ _ (Near 500) (expr_keeps 500)))

  abbrev EquationNear : Equation → Type 0
  EquationNear x = AllByRecursion (IsNear limit 500) (flat_map (readings 0) (sides x))

  equation_keeps : Keeps (equation (expression 500)) EquationNear
  unfolding equation
  equation_keeps =
      via_keeps _ _ (λ p. Unit {0} × (Near 500 p.1.0 × OrNone (Near 500) p.1.1)) EquationNear (λ p h. each-flat (IsNear limit 500) (readings 0) (p.1.0 ∷ (right_side p.1.1 ∷ [])) (h.1.0 0, (right_near p.1.1 h.1.1 0, tt))) (both_keeps _ _ (λ u. Unit {0}) (λ q. Near 500 q.0 × OrNone (Near 500) q.1) (free _) (both_keeps _ _ (Near 500) (OrNone (Near 500)) (expr_keeps 500) (back_keeps _ _ (OrNone (Near 500)) (opt_keeps _ (Near 500) (front_keeps _ _ (Near 500) (expr_keeps 500))))))

  item_keeps : Keeps (item (expression 500)) ItemNear
  unfolding item
  item_keeps = choose_keeps _ _ ItemNear local_keeps (via_keeps _ _ EquationNear ItemNear (λ x h. h) equation_keeps)

  abbrev StatementNear : Statement → Type 0
  StatementNear s = Every ItemNear (items_in s)

  declared_keeps : (k : NameKind) → Keeps (declared k) StatementNear
  declared_keeps k = via_keeps _ _ (λ ns. Unit {0}) StatementNear (λ ns h. tt) (free _)

  notes_keeps : Keeps notes StatementNear
  unfolding notes
  notes_keeps = via_keeps _ _ (λ p. Unit {0}) StatementNear (λ p h. tt) (free _)

  model_keeps : Keeps (model (expression 500)) StatementNear
  unfolding model
  model_keeps =
      via_keeps _ _ (λ p. Unit {0} × (Unit {0} × Every ItemNear p.1.1)) StatementNear (λ p h. h.1.1) (both_keeps _ _ (λ u. Unit {0}) (λ q. Unit {0} × Every ItemNear q.1) (free _) (both_keeps _ _ (λ u. Unit {0}) (Every ItemNear) (free _) (back_keeps _ _ (Every ItemNear) (back_keeps _ _ (Every ItemNear) (many_keeps _ ItemNear item_keeps)))))

  statement_keeps : Keeps (statement (expression 500)) StatementNear
  unfolding statement declares assigns
  statement_keeps =
      choose_keeps _ _ StatementNear (choose_keeps _ _ StatementNear (front_keeps _ _ StatementNear (declared_keeps _)) (choose_keeps _ _ StatementNear (front_keeps _ _ StatementNear (declared_keeps _)) (front_keeps _ _ StatementNear (declared_keeps _)))) (choose_keeps _ _ StatementNear (via_keeps _ _ (λ p. Unit {0}) StatementNear (λ p h. tt) (free _)) (choose_keeps _ _ StatementNear model_keeps notes_keeps))

  all_near : (file : List Statement) → Every StatementNear file → AllByRecursion (IsNear limit 500) (flat_map item_readings (items_of file))
  all_near [] h = tt
  all_near (s ∷ file) h =
      subst (AllByRecursion (IsNear limit 500)) (sym (flat_map-append item_readings (items_in s) (items_of file))) (each-append (IsNear limit 500) _ _ (each-flat (IsNear limit 500) item_readings (items_in s) h.0) (all_near file h.1))

  -- each name of the model's items, where each whole number of the tokens is at most this
  pub read_near : (ts : List Tok) (file : List Statement) → Every (IsWithin limit) ts → ReadsFile ts file → AllByRecursion (IsNear limit 500) (flat_map item_readings (items_of file))
  unfolding statements Made Keeps
  read_near ts file within r =
      all_near file (many_keeps (statement (expression 500)) StatementNear statement_keeps file (made (statements (expression 500)) (IsWithin limit) ts [] file r within).0)
