-- The token at which a reading stops.
use Rattle.std.proofs.Common.{◌≡◌, ℕ, ◌<◌, List, length, take, drop, map, get_or, ap, sym, ◌∙◌}
use Rattle.std.proofs.lemmas.List.{drop-map, drop_more}
use Rattle.mp_base.specs.declared.refusal.Refusal.TheVariants as o
use Rattle.mp_base.specs.declared.kinds.TextKind.TheVariants as t
use Rattle.mp_lex.specs.declared.tokens.Token.{Token}
use Rattle.mp_lex.specs.Shown.{tok_of}
use Rattle.mp_transform.specs.Text.{wrong_token}

pub stops_here : (all : List Token) (i : ℕ) (x d : Token) (end : ℕ) → i < length all → x ≡ get_or all i d → o.Text t.Token (tok_of x).at (take 128 (tok_of x).bytes) ≡ wrong_token end (drop i (map tok_of all))
stops_here all i x d end lt e =
    ap (λ (y : Token). o.Text t.Token (tok_of y).at (take 128 (tok_of y).bytes)) e
    ∙ ap (λ l. wrong_token end (map tok_of l)) (sym (drop_more all i d lt))
    ∙ ap (wrong_token end) (sym (drop-map tok_of i all))
