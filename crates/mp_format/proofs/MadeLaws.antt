-- What reads from tokens of which each is so is made of such tokens.
use Rattle.std.proofs.Common.{List, [], ◌∷◌, inl, inr, Some, None, subst}
use Rattle.mp_tokens.specs.Tokens.{Tok}
use Rattle.mp_format.specs.Format.{Every, Format, tok, both, choose, opt, many, via, part, ManyReads, Reads, Made}

pub made : {X : Type 0} (f : Format X) (Q : Tok → Type 0) (ts rest : List Tok) (x : X) → Reads f ts x rest → Every Q ts → Made f Q x × Every Q rest
unfolding Reads Made
made (tok l _) Q ts rest x r all = let h : Every Q (x ∷ rest) = subst (Every Q) r.1 all in ((r.0, h.0), h.1)
made (both f g) Q ts rest x (mid, r, s) all =
    let h = made f Q ts mid x.0 r all in
    let k = made g Q mid rest x.1 s h.1 in
    ((h.0, k.0), k.1)
made (choose f g) Q ts rest x (inl r) all = let h = made f Q ts rest x r all in (inl h.0, h.1)
made (choose f g) Q ts rest x (inr r) all = let h = made g Q ts rest x r all in (inr h.0, h.1)
made (opt f) Q ts rest None r all = (tt, subst (Every Q) r all)
made (opt f) Q ts rest (Some x) r all = made f Q ts rest x r all
made (many {X} f) Q ts rest xs r all = by_list ts xs r all (made f Q)
  where
    by_list : (ts : List Tok) (xs : List X) → ManyReads (Reads f) ts xs rest → Every Q ts → ((ts rest : List Tok) (x : X) → Reads f ts x rest → Every Q ts → Made f Q x × Every Q rest) → Every (Made f Q) xs × Every Q rest
    by_list ts [] r all one = (tt, subst (Every Q) r all)
    by_list ts (x ∷ xs) (mid, r, s) all one =
        let h = one ts mid x r all in
        let k = by_list mid xs s h.1 one in
        ((h.0, k.0), k.1)
made (via to f) Q ts rest y (x, r, e) all = let h = made f Q ts rest x r all in ((x, e, h.0), h.1)
made (part ls ms w p) Q ts rest x r all = p.laws.made Q ts rest x r all
