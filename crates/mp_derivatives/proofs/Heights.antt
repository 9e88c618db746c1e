-- A term is no higher than its expression has tokens.
use Rattle.std.proofs.Common.{◌≡◌, ℕ, suc, ◌+◌, ◌≤◌, ◌<◌, List, [], ◌∷◌, ◌++◌, length, Bool, true, false, nat_lt, None, refl, ap, ◌∙◌, arith, length-append}
use Rattle.mp_tokens.specs.declared.terminal.Terminal.TheVariants as t
use Rattle.mp_tokens.specs.Tokens.{Tok}
use Rattle.mp_syntax.specs.declared.operator.Sign.TheVariants as sign
use Rattle.mp_syntax.specs.Syntax.{Expr, Signed, Power, Pick}
use Rattle.mp_semantics.specs.Term.{Leaf, number, parameter, variable, steady_state, Binary, plus, minus, times, quotient, least, greatest, Term, leaf, negative, binary, power_of, pick}
use Rattle.mp_expr.specs.Size.{height_of}
use Rattle.mp_format.specs.Format.{token_of}
use Rattle.mp_format.specs.Pieces.{Piece, Solid, Blank, words, placed}
use Rattle.mp_format.proofs.TextLaws.{words-append}
use Rattle.mp_expressions.specs.Script.{the, expr_pieces}
use Rattle.mp_values.specs.Names.{Names}
use Rattle.mp_canonical.specs.Terms.{level, is_loose, is_loose_right, fenced, operation, canonical_leaf, canonical_exponent, canonical}

-- how many tokens an expression has
abbrev pub token_count : Expr → ℕ
token_count e = length (words (expr_pieces e))

count-append : (ps qs : List Piece) → length (words (ps ++ qs)) ≡ length (words ps) + length (words qs)
count-append ps qs = ap length (words-append ps qs) ∙ length-append (words ps) (words qs)

pub placed-count : (at : ℕ) (ps : List Piece) → length (placed at ps) ≡ length (words ps)
placed-count at [] = refl
placed-count at (Solid u ∷ ps) = ap suc (placed-count (at + length u.bytes) ps)
placed-count at (Blank b ∷ ps) = placed-count (at + 1) ps

-- a token between two runs of pieces
between-count : (ps qs : List Piece) (u : Tok) → length (words (ps ++ (Solid u ∷ qs))) ≡ length (words ps) + suc (length (words qs))
between-count ps qs u = count-append ps (Solid u ∷ qs)

fenced-count : (b : Bool) (e : Expr) → token_count e ≤ token_count (fenced b e)
unfolding expr_pieces
fenced-count true e = omega (arith, between-count (expr_pieces e) [] (token_of t.Close))
fenced-count false e = omega arith

operation-count : (op : Binary) (x y : Expr) → token_count x + token_count y < token_count (operation op x y)
unfolding expr_pieces
operation-count plus x y = omega (arith, between-count (expr_pieces x) (expr_pieces y) (token_of t.Plus))
operation-count minus x y = omega (arith, between-count (expr_pieces x) (expr_pieces y) (token_of t.Minus))
operation-count times x y = omega (arith, between-count (expr_pieces x) (expr_pieces y) (token_of t.Star))
operation-count quotient x y = omega (arith, between-count (expr_pieces x) (expr_pieces y) (token_of t.Slash))
operation-count least x y =
    omega (arith, between-count (expr_pieces x) (expr_pieces y ++ (the t.Close ∷ [])) (token_of t.Comma), between-count (expr_pieces y) [] (token_of t.Close))
operation-count greatest x y =
    omega (arith, between-count (expr_pieces x) (expr_pieces y ++ (the t.Close ∷ [])) (token_of t.Comma), between-count (expr_pieces y) [] (token_of t.Close))

leaf-count : (ns : Names) (l : Leaf) → 1 ≤ token_count (canonical_leaf ns l)
unfolding expr_pieces
leaf-count ns (number m s) = omega arith
leaf-count ns (parameter q) = omega arith
leaf-count ns (variable x k) = omega arith
leaf-count ns (steady_state v) = omega arith

choice-count : (a b c d : Expr) → token_count a + token_count b + token_count c + token_count d < token_count (Pick a b c d)
unfolding expr_pieces
choice-count a b c d =
    let last = expr_pieces d ++ (the t.Close ∷ []) in
    let third = expr_pieces c ++ (the t.Comma ∷ last) in
    let second = expr_pieces b ++ (the t.Comma ∷ third) in
    omega (arith, between-count (expr_pieces a) second (token_of t.Comma), between-count (expr_pieces b) third (token_of t.Comma), between-count (expr_pieces c) last (token_of t.Comma), between-count (expr_pieces d) [] (token_of t.Close))

negative-count : (e : Expr) → token_count e < token_count (Signed sign.Minus e)
unfolding expr_pieces
negative-count e = omega arith

power-count : (x y : Expr) → token_count x < token_count (Power x 0 None y)
unfolding expr_pieces
power-count x y = omega (arith, between-count (expr_pieces x) (expr_pieces y) (token_of t.Caret))

pub height-tokens : (ns : Names) (t : Term) → height_of t ≤ token_count (canonical ns t)
unfolding canonical
height-tokens ns (leaf l) = leaf-count ns l
height-tokens ns (negative a) =
    omega (arith, height-tokens ns a, fenced-count (nat_lt (level a) 4) (canonical ns a), negative-count (fenced (nat_lt (level a) 4) (canonical ns a)))
height-tokens ns (binary op a b) =
    omega (arith, height-tokens ns a, height-tokens ns b, fenced-count (is_loose op a) (canonical ns a), fenced-count (is_loose_right op b) (canonical ns b), operation-count op (fenced (is_loose op a) (canonical ns a)) (fenced (is_loose_right op b) (canonical ns b)))
height-tokens ns (power_of a k) =
    omega (arith, height-tokens ns a, fenced-count (nat_lt (level a) 5) (canonical ns a), power-count (fenced (nat_lt (level a) 5) (canonical ns a)) (canonical_exponent k))
height-tokens ns (pick a b c d) =
    omega (arith, height-tokens ns a, height-tokens ns b, height-tokens ns c, height-tokens ns d, choice-count (canonical ns a) (canonical ns b) (canonical ns c) (canonical ns d))
