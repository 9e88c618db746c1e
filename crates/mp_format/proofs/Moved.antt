-- Tokens that are the same but for places read alike.
use Rattle.std.proofs.Common.{◌≡◌, inl, inr, List, [], ◌∷◌, true, Some, None, refl, sym, ap, ◌∙◌, subst, ◌&&◌, bytes_eq}
use Rattle.mp_tokens.specs.declared.terminal.Terminal.TheVariants as t
use Rattle.mp_tokens.specs.Tokens.{Tok}
use Rattle.mp_tokens.specs.Terminals.{terminal_by, terminal_of}
use Rattle.mp_format.specs.Reading.{is}
use Rattle.mp_format.specs.Format.{Look, Of, Word, sees, AlikeToken, AllAlike, Moves, Format, tok, both, choose, opt, many, via, part, ManyReads, Reads, Alike}

same_terminal : (u v : Tok) → AlikeToken u v → terminal_of u ≡ terminal_of v
unfolding terminal_of
same_terminal u v a = ap (λ k. terminal_by k u.bytes) a.0 ∙ ap (terminal_by v.kind) a.1

same_seen : (l : Look) (u v : Tok) → AlikeToken u v → sees l u ≡ sees l v
same_seen (Of k) u v a = ap (is k) (same_terminal u v a)
same_seen (Word bs) u v a =
    ap (λ k. is t.Name k && bytes_eq bs u.bytes) (same_terminal u v a) ∙ ap (λ q. is t.Name (terminal_of v) && bytes_eq bs q) a.1

first_moved : (l : Look) (rest us ts : List Tok) (u : Tok) → sees l u ≡ true → ts ≡ u ∷ rest → AllAlike AlikeToken ts us → (y : Tok) × (left : List Tok) × ((sees l y ≡ true) × (us ≡ y ∷ left)) × AllAlike AlikeToken rest left × AlikeToken u y
first_moved l rest us ts u s is a = by_list us (subst (λ q. AllAlike AlikeToken q us) is a)
  where
    by_list : (us : List Tok) → AllAlike AlikeToken (u ∷ rest) us → (y : Tok) × (left : List Tok) × ((sees l y ≡ true) × (us ≡ y ∷ left)) × AllAlike AlikeToken rest left × AlikeToken u y
    by_list [] a = absurd a
    by_list (v ∷ vs) a = (v, vs, (sym (same_seen l u v a.0) ∙ s, refl), a.1, a.0)

pub moved : {X : Type 0} (f : Format X) → Moves (Reads f) (Alike f)
unfolding Reads Alike
moved (tok l _) ts rest us x r a = first_moved l rest us ts x r.0 r.1 a
moved (both f g) ts rest us x r a =
    let p = moved f ts r.0 us x.0 r.1 a in
    let q = moved g r.0 rest p.1 x.1 r.2 p.3 in ((p.0, q.0), q.1, (p.1, p.2, q.2), q.3, (p.4, q.4))
moved (choose f g) ts rest us x (inl r) a = let p = moved f ts rest us x r a in (p.0, p.1, inl p.2, p.3, inl p.4)
moved (choose f g) ts rest us x (inr r) a = let p = moved g ts rest us x r a in (p.0, p.1, inr p.2, p.3, inr p.4)
moved (opt f) ts rest us None r a = (None, us, refl, subst (λ q. AllAlike AlikeToken q us) r a, tt)
moved (opt f) ts rest us (Some x) r a = let p = moved f ts rest us x r a in (Some p.0, p.1, p.2, p.3, p.4)
moved (many {X} f) ts rest us xs r a = by_list xs ts us r a (moved f)
  where
    by_list : (xs : List X) (ts us : List Tok) → ManyReads (Reads f) ts xs rest → AllAlike AlikeToken ts us → Moves (Reads f) (Alike f) → (ys : List X) × (left : List Tok) × ManyReads (Reads f) us ys left × AllAlike AlikeToken rest left × AllAlike (Alike f) xs ys
    by_list [] ts us r a one = ([], us, refl, subst (λ q. AllAlike AlikeToken q us) r a, tt)
    by_list (x ∷ xs) ts us r a one =
        let p = one ts r.0 us x r.1 a in
        let q = by_list xs r.0 p.1 r.2 p.3 one in (p.0 ∷ q.0, q.1, (p.1, p.2, q.2), q.3, (p.4, q.4))
moved (via to f) ts rest us y r a =
    let p = moved f ts rest us r.0 r.1 a in (to p.0, p.1, (p.0, p.2, refl), p.3, (r.0, p.0, r.2, refl, p.4))
moved (part ls ms w p) ts rest us x r a = p.laws.moved ts rest us x r a
