-- An atom of a derivative in form has a tree, and so has a sum of such atoms.
use Rattle.std.proofs.Common.{◌≡◌, [], ◌∷◌, ◌++◌, true, refl, ap, ◌∙◌, append_assoc}
use Rattle.mp_tokens.specs.declared.terminal.Terminal.TheVariants as t
use Rattle.mp_tokens.specs.Terminals.{terminal_of, word_of}
use Rattle.mp_syntax.specs.Syntax.{Expr, Pick}
use Rattle.mp_format.specs.Format.{told, empty, first, goes_on}
use Rattle.mp_format.specs.Spelling.{value, pieces, Fits, opens, closes, spaced, Writing}
use Rattle.mp_format.proofs.Writings.{Tells, writing}
use Rattle.mp_expressions.specs.Script.{bare, the, expr_pieces, expr_script}
use Rattle.mp_expressions.specs.Expressions.{shift, fenced, closed, inside, pair, flat_atom, atom, factor, times, product, plus, sum}
use Rattle.mp_expressions.specs.InForm.{AtSum, atom_tree, sum_tree}
use Rattle.mp_expressions.proofs.Atoms.{atom_tells}
use Rattle.mp_expressions.proofs.ExprTrees.{sum_tells}
use Rattle.mp_choices.specs.Productions.{Whole, four, chosen_atom}
use Rattle.mp_choices.proofs.InForm.{Chosen, four_tree, other_tree, chosen_tree}

-- choices are told apart from other atoms by one token
pub chosen_told : (e : Whole) → told (sum (chosen_atom e)) ≡ true
unfolding terminal_of word_of told empty first goes_on shift fenced closed inside pair flat_atom atom factor times product plus sum four chosen_atom
chosen_told e = refl

-- no token of a derivative runs into the next
pub chosen_spaced : (e : Whole) → spaced (sum (chosen_atom e)) ≡ true
unfolding terminal_of word_of spaced empty opens closes shift fenced closed inside pair flat_atom atom factor times product plus sum four chosen_atom
chosen_spaced e = refl

-- an atom that is no choice
other_tells : (e : Whole) (x : Expr) → Tells (atom e) (atom_tree e x) (bare x) (expr_pieces x) → Tells (chosen_atom e) (other_tree e (atom_tree e x)) (bare x) (expr_pieces x)
unfolding value pieces Fits chosen_atom other_tree
other_tells e x h = record { value = h.value; pieces = h.pieces; fits = h.fits }

chosen_tells : (e : Whole) (x : Expr) → Chosen e.Fits x → Tells (chosen_atom e) (chosen_tree e x) (bare x) (expr_pieces x)
unfolding value pieces Fits bare expr_pieces four chosen_atom four_tree chosen_tree
chosen_tells e (Pick a b c d) is =
    let comma = the t.Comma ∷ [] in
    let last = expr_pieces d ++ (the t.Close ∷ []) in
    let pieces_are = append_assoc (expr_pieces a) comma ((expr_pieces b ++ comma) ++ ((expr_pieces c ++ comma) ++ last)) ∙ ap (λ l. expr_pieces a ++ (the t.Comma ∷ l)) (append_assoc (expr_pieces b) comma ((expr_pieces c ++ comma) ++ last) ∙ ap (λ l. expr_pieces b ++ (the t.Comma ∷ l)) (append_assoc (expr_pieces c) comma last)) in
    record {
      value = refl;
      pieces = ap (λ l. the t.Pick ∷ the t.Open ∷ l) pieces_are;
      fits = (tt, ((tt, (is.0, tt)), ((is.1, tt), ((is.2, tt), (is.3, tt)))));
    }
chosen_tells e x is = other_tells e x (atom_tells e x is)

pub chosen_writing : (e : Whole) → Writing (sum (chosen_atom e)) expr_script
unfolding empty opens closes shift fenced closed inside pair flat_atom atom factor times product plus sum four chosen_atom
chosen_writing e =
    writing (sum (chosen_atom e)) expr_script (sum_tree (chosen_atom e) (chosen_tree e)) (AtSum (Chosen e.Fits)) (sum_tells (chosen_atom e) (chosen_tree e) (Chosen e.Fits) (chosen_tells e)) (chosen_spaced e) refl refl refl

pub chosen_fits : (e : Whole) → (chosen_writing e).Fits ≡ AtSum (Chosen e.Fits)
unfolding chosen_writing writing
chosen_fits e = refl
