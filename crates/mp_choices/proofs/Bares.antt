-- Where the tokens of atoms of a derivative are the same but for their places, so are the atoms.
use Rattle.std.proofs.Common.{refl}
use Rattle.mp_syntax.specs.Syntax.{Pick}
use Rattle.mp_format.proofs.Bares.{Bares, paired, both_bares, choose_bares, via_bares, front_bares, back_bares}
use Rattle.mp_expressions.specs.Script.{bare}
use Rattle.mp_expressions.specs.Productions.{expr}
use Rattle.mp_expressions.proofs.Bares.{atom_bares}
use Rattle.mp_choices.specs.Productions.{Whole, four, chosen_atom}

four_bares : (e : Whole) → Bares (expr e) bare → Bares (four e) (paired bare (paired bare (paired bare bare)))
unfolding four
four_bares e h =
    let next = back_bares _ _ bare h in
    both_bares _ _ bare _ (front_bares _ _ bare next) (both_bares _ _ bare _ next (both_bares _ _ bare bare next (back_bares _ _ bare h)))

pub chosen_bares : (e : Whole) → Bares (expr e) bare → Bares (chosen_atom e) bare
unfolding chosen_atom bare
chosen_bares e h =
    choose_bares _ _ bare (atom_bares e h) (via_bares _ _ (paired bare (paired bare (paired bare bare))) bare (λ p. Pick p.0 p.1.0 p.1.1.0 p.1.1.1) (λ p. refl) (front_bares _ _ _ (four_bares e h)))
