-- A reading taken apart, for laws on what is read.
use Rattle.std.proofs.Common.{◌≡◌, List, ◌∷◌, true, subst}
use Rattle.mp_tokens.specs.declared.terminal.Terminal.{Terminal}
use Rattle.mp_tokens.specs.Tokens.{Tok}
use Rattle.mp_format.specs.Format.{Of, sees, Format, Reads}
use Rattle.mp_format.specs.Notation.{of, ◌▸◌, ◌◂◌}

pub after_parts : {Y : Type 0} (c : Terminal) (f : Format Y) (ts rest : List Tok) (y : Y) → Reads (of c ▸ f) ts y rest → (u : Tok) × (us : List Tok) × (sees (Of c) u ≡ true) × (ts ≡ u ∷ us) × Reads f us y rest
unfolding Reads
after_parts c f ts rest y (p, (mid, (s, e), r), same) =
    (p.0, mid, s, e, subst (λ z. Reads f mid z rest) same r)

pub before_parts : {X : Type 0} (c : Terminal) (f : Format X) (ts rest : List Tok) (x : X) → Reads (f ◂ of c) ts x rest → (u : Tok) × (sees (Of c) u ≡ true) × Reads f ts x (u ∷ rest)
unfolding Reads
before_parts c f ts rest x (p, (mid, r, (s, e)), same) =
    (p.1, s, subst (λ z. Reads f ts z (p.1 ∷ rest)) same (subst (λ l. Reads f ts p.0 l) e r))
