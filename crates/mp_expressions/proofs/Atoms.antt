-- An atom in form has a tree, and so has a sum of such atoms.
use Rattle.std.proofs.Common.{◌≡◌, ℕ, suc, ◌+◌, List, [], ◌∷◌, ◌++◌, length, Bool, true, false, cond, ◌&&◌, ◌==◌, Option, Some, None, option_map, refl, sym, ap, ◌∙◌, arith, append_assoc}
use Rattle.std.proofs.lemmas.Bool.Decides.{nat_tests}
use Rattle.std.specs.Char.{is_ascii_digit}
use Rattle.std.specs.List.{prefix_len, list_all}
use Rattle.mp_tokens.specs.declared.token.TokenKind.TheVariants as k
use Rattle.mp_tokens.specs.declared.terminal.Terminal.TheVariants as t
use Rattle.mp_tokens.specs.Tokens.{number_length, digits_length, number_kind}
use Rattle.mp_syntax.specs.declared.operator.Function.TheVariants as function
use Rattle.mp_syntax.specs.Syntax.{Shift, Expr, Number, Variable, Paren, Call, Diff}
use Rattle.mp_format.specs.Format.{Look, token, empty}
use Rattle.mp_format.specs.Pieces.{Solid, IsLiteral}
use Rattle.mp_expressions.specs.Script.{bare_name, bare, the, shift_pieces, expr_pieces, expr_script}
use Rattle.mp_format.specs.Spelling.{value, pieces, Fits, opens, closes, Writing}
use Rattle.mp_expressions.specs.Productions.{WholeFrom, Whole}
use Rattle.mp_expressions.specs.Expressions.{shift, shift_part, fenced, closed, inside, pair, literal, flat_atom, atom, factor, times, product, plus, sum}
use Rattle.mp_expressions.specs.InForm.{AtSum, IsShift, Flat, Deep, number_by, number_tree, flat_tree, shift_tree, pair_tree, closed_tree, inside_tree, atom_tree, sum_tree}
use Rattle.mp_format.proofs.Writings.{Tells, writing}
use Rattle.mp_expressions.proofs.Spaced.{flat_spaced, sum_spaced}
use Rattle.mp_expressions.proofs.ExprTrees.{sign_value, sign_pieces, sign_fits, sum_tells}

-- a run to the end is of all
all_run : (p : ℕ → Bool) (bs : List ℕ) → prefix_len p bs ≡ length bs → list_all p bs ≡ true
all_run p [] e = refl
all_run p (b ∷ bs) e = by (p b) e (all_run p bs)
  where
    by : (s : Bool) → cond s (1 + prefix_len p bs) 0 ≡ suc (length bs) → (prefix_len p bs ≡ length bs → list_all p bs ≡ true) → (s && list_all p bs) ≡ true
    by true e more = more (omega arith)
    by false e more = absurd (omega arith)

same_number : (m n : ℕ) → (m == n) ≡ true → m ≡ n
same_number m n e = grind (arith, nat_tests)

pub number_tells : (l : List ℕ) → IsLiteral l → Tells literal (number_tree l) (Number l 0) (Solid (token (number_kind l) l) ∷ [])
unfolding value pieces Fits
number_tells l is = by (number_length l == digits_length l) refl
  where
    by : (b : Bool) → (number_length l == digits_length l) ≡ b → Tells literal (number_by b l) (Number l 0) (Solid (token (cond b k.Whole k.Number) l) ∷ [])
    by true e =
        record { value = refl; pieces = refl; fits = (is.0, all_run is_ascii_digit l (sym (same_number _ _ e) ∙ is.1)) }
    by false e =
        record { value = refl; pieces = refl; fits = (is, ap (λ b. cond b k.Whole k.Number) e) }

flat_tells : (e : Expr) → Flat e → Tells flat_atom (flat_tree e) (bare e) (expr_pieces e)
unfolding value pieces Fits bare expr_pieces flat_atom flat_tree
flat_tells (Number l q) is =
    let h = number_tells l is in record { value = h.value; pieces = h.pieces; fits = h.fits }
flat_tells (Variable n None) is = record { value = refl; pieces = refl; fits = is }
flat_tells (Variable n (Some s)) is = absurd is
flat_tells e is = absurd is

shift_tells : (s : Option Shift) → IsShift s → Tells shift_part (option_map shift_tree s) s (shift_pieces s)
unfolding value pieces Fits fenced shift shift_tree
shift_tells None is = record { value = refl; pieces = refl; fits = tt }
shift_tells (Some s) is =
    record { value = ap (λ v. Some (record { sign = v; digits = s.digits })) (sign_value s.sign); pieces = ap (λ l. the t.Open ∷ ((l ++ (Solid (token k.Whole s.digits) ∷ [])) ++ (the t.Close ∷ []))) (sign_pieces s.sign); fits = (tt, ((sign_fits s.sign, is), tt)) }

pub atom_tells : {first : List Look} (e : WholeFrom first) (x : Expr) → Deep e.Fits x → Tells (atom e) (atom_tree e x) (bare x) (expr_pieces x)
unfolding value pieces Fits bare expr_pieces atom closed inside pair atom_tree closed_tree inside_tree pair_tree
atom_tells e (Number l q) is =
    let h = number_tells l is in record { value = h.value; pieces = h.pieces; fits = h.fits }
atom_tells e (Variable n s) is =
    let h = shift_tells s is.1 in
    record { value = ap (Variable (bare_name n)) h.value; pieces = ap (λ l. Solid (token k.Name n.name) ∷ l) h.pieces; fits = (is.0, h.fits) }
atom_tells e (Paren a) is = record { value = refl; pieces = refl; fits = (tt, (is, tt)) }
atom_tells e (Call function.Min a b) is =
    record { value = refl; pieces = ap (λ l. the t.Min ∷ the t.Open ∷ l) (append_assoc (expr_pieces a) (the t.Comma ∷ []) (expr_pieces b ++ (the t.Close ∷ []))); fits = (tt, ((tt, (is.0, tt)), (is.1, tt))) }
atom_tells e (Call function.Max a b) is =
    record { value = refl; pieces = ap (λ l. the t.Max ∷ the t.Open ∷ l) (append_assoc (expr_pieces a) (the t.Comma ∷ []) (expr_pieces b ++ (the t.Close ∷ []))); fits = (tt, ((tt, (is.0, tt)), (is.1, tt))) }
atom_tells e (Diff q a) is = record { value = refl; pieces = refl; fits = (tt, (tt, (is, tt))) }
atom_tells e x is = absurd is

pub flat_writing : Writing (sum flat_atom) expr_script
unfolding empty opens closes shift fenced closed inside pair flat_atom atom factor times product plus sum
flat_writing =
    writing (sum flat_atom) expr_script (sum_tree flat_atom flat_tree) (AtSum Flat) (sum_tells flat_atom flat_tree Flat flat_tells) flat_spaced refl refl refl

pub sum_writing : (e : Whole) → Writing (sum (atom e)) expr_script
unfolding empty opens closes shift fenced closed inside pair flat_atom atom factor times product plus sum
sum_writing e =
    writing (sum (atom e)) expr_script (sum_tree (atom e) (atom_tree e)) (AtSum (Deep e.Fits)) (sum_tells (atom e) (atom_tree e) (Deep e.Fits) (atom_tells e)) (sum_spaced e) refl refl refl

pub flat_fits : flat_writing.Fits ≡ AtSum Flat
unfolding flat_writing writing
flat_fits = refl

pub sum_fits : (e : Whole) → (sum_writing e).Fits ≡ AtSum (Deep e.Fits)
unfolding sum_writing writing
sum_fits e = refl
