-- Where tokens are the same but for their places, the values are the same without places: one rule for each way to make a format.
use Rattle.std.proofs.Common.{◌≡◌, ℕ, List, [], ◌∷◌, map, inl, inr, Some, None, option_map, refl, sym, ap, ◌∙◌}
use Rattle.mp_tokens.specs.Tokens.{Tok}
use Rattle.mp_format.specs.Pieces.{Around}
use Rattle.mp_format.specs.Format.{Look, AllAlike, Format, tok, both, choose, opt, many, via, Alike}
use Rattle.mp_format.specs.Notation.{◌▸◌, ◌◂◌, some_of}

-- this takes the places away
abbrev pub Bares : {X Y : Type 0} → Format X → (X → Y) → Type 0
Bares {X} f b = (x y : X) → Alike f x y → b x ≡ b y

abbrev pub paired : {X Y V W : Type 0} → (X → V) → (Y → W) → X × Y → V × W
paired b c p = (b p.0, c p.1)

abbrev pub itself : {X : Type 0} → X → X
itself x = x

abbrev pub unplaced : Tok → Tok
unplaced u = record { kind = u.kind; bytes = u.bytes; at = 0 }

pub tok_bares : (l : Look) (w : Around) → Bares (tok l w) unplaced
unfolding Alike
tok_bares l w x y h =
    ap (λ k. record { kind = k; bytes = x.bytes; at = 0 }) h.0 ∙ ap (λ (b : List ℕ). record { kind = y.kind; bytes = b; at = 0 }) h.1

pub both_bares : {X Y V W : Type 0} (f : Format X) (g : Format Y) (b : X → V) (c : Y → W) → Bares f b → Bares g c → Bares (both f g) (paired b c)
unfolding Alike
both_bares f g b c p q x y h =
    ap (λ v. (v, c x.1)) (p x.0 y.0 h.0) ∙ ap (λ w. (b y.0, w)) (q x.1 y.1 h.1)

pub choose_bares : {X V : Type 0} (f g : Format X) (b : X → V) → Bares f b → Bares g b → Bares (choose f g) b
unfolding Alike
choose_bares f g b p q x y (inl h) = p x y h
choose_bares f g b p q x y (inr h) = q x y h

pub opt_bares : {X V : Type 0} (f : Format X) (b : X → V) → Bares f b → Bares (opt f) (option_map b)
unfolding Alike
opt_bares f b p None None h = refl
opt_bares f b p None (Some y) h = absurd h
opt_bares f b p (Some x) None h = absurd h
opt_bares f b p (Some x) (Some y) h = ap Some (p x y h)

pub many_bares : {X V : Type 0} (f : Format X) (b : X → V) → Bares f b → Bares (many f) (map b)
unfolding Alike
many_bares {X} f b p xs ys h = by_list xs ys h
  where
    by_list : (xs ys : List X) → AllAlike (Alike f) xs ys → map b xs ≡ map b ys
    by_list [] [] h = refl
    by_list [] (y ∷ ys) h = absurd h
    by_list (x ∷ xs) [] h = absurd h
    by_list (x ∷ xs) (y ∷ ys) h = ap (λ v. v ∷ map b xs) (p x y h.0) ∙ ap (λ l. b y ∷ l) (by_list xs ys h.1)

-- what is made is the same without places, where it is made so of what has none
pub via_bares : {X Y V W : Type 0} (to : X → Y) (f : Format X) (b : X → V) (c : Y → W) (make : V → W) → ((x : X) → c (to x) ≡ make (b x)) → Bares f b → Bares (via to f) c
unfolding Alike
via_bares to f b c make e p x y (m, n, r, s, h) =
    ap c (sym r) ∙ e m ∙ ap make (p m n h) ∙ sym (e n) ∙ ap c s

pub front_bares : {X Y W : Type 0} (f : Format X) (g : Format Y) (c : Y → W) → Bares g c → Bares (f ▸ g) c
unfolding Alike
front_bares f g c p x y (m, n, r, s, h) = ap c (sym r) ∙ p m.1 n.1 h.1 ∙ ap c s

pub back_bares : {X Y W : Type 0} (f : Format X) (g : Format Y) (c : X → W) → Bares f c → Bares (f ◂ g) c
unfolding Alike
back_bares f g c p x y (m, n, r, s, h) = ap c (sym r) ∙ p m.0 n.0 h.0 ∙ ap c s

-- a token that stands for this value, whatever its place
pub stands_bares : {X W : Type 0} (l : Look) (w : Around) (to : Tok → X) (c : X → W) → ((u : Tok) → c (to u) ≡ c (to (unplaced u))) → Bares (via to (tok l w)) c
stands_bares l w to c e = via_bares to (tok l w) unplaced c (λ u. c (to u)) e (tok_bares l w)

pub some_bares : {X Y V : Type 0} (between : Format Y) (f : Format X) (b : X → V) → Bares f b → Bares (some_of between f) (map b)
some_bares between f b h =
    via_bares _ _ (paired b (map b)) (map b) (λ p. p.0 ∷ p.1) (λ p. refl) (both_bares f _ b (map b) h (many_bares _ b (front_bares between f b h)))
