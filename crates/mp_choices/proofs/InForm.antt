-- Expressions of derivatives that a text may write, and how each is written as a tree.
use Rattle.std.proofs.Common.{ℕ, zero, suc, inl, inr}
use Rattle.mp_syntax.specs.Syntax.{Expr, Pick}
use Rattle.mp_format.specs.Spelling.{Tree}
use Rattle.mp_expressions.specs.Expressions.{atom}
use Rattle.mp_expressions.specs.InForm.{AtSum, Flat, Deep, atom_tree}
use Rattle.mp_choices.specs.Productions.{Whole, four, chosen_atom}

-- what stands inside parentheses is this
abbrev pub Chosen : (Expr → Type 0) → Expr → Type 0
Chosen Inside (Pick a b c d) = Inside a × Inside b × Inside c × Inside d
Chosen Inside e = Deep Inside e

-- no operand needs a parenthesis that it has not, and at most so many are open at once
unfoldable pub InDerivative : ℕ → Expr → Type 0
InDerivative zero e = AtSum Flat e
InDerivative (suc room) e = AtSum (Chosen (InDerivative room)) e

unfoldable pub four_tree : (e : Whole) → Expr → Expr → Expr → Expr → Tree (four e)
unfolding four
four_tree e a b c d = ((tt, (a, tt)), ((b, tt), ((c, tt), (d, tt))))

-- an atom that is no choice
unfoldable pub other_tree : (e : Whole) → Tree (atom e) → Tree (chosen_atom e)
unfolding chosen_atom
other_tree e x = inl x

-- an expression that is no atom is none here
unfoldable pub chosen_tree : (e : Whole) → Expr → Tree (chosen_atom e)
unfolding chosen_atom
chosen_tree e (Pick a b c d) = inr (tt, four_tree e a b c d)
chosen_tree e x = other_tree e (atom_tree e x)
