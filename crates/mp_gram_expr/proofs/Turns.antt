-- A loop over what a format repeats: told for what is left.
use Rattle.std.proofs.Common.{◌≡◌, List, [], ◌∷◌, ◌++◌, true, false, cond, Some, None, Result, Ok, Err, refl, sym, ap, ◌∙◌}
use Rattle.mp_tokens.specs.Tokens.{Tok}
use Rattle.mp_syntax.specs.Syntax.{Expr}
use Rattle.mp_format.specs.Reading.{Read, ◌>>=◌}
use Rattle.mp_format.specs.Format.{Format, opt, many, read, meets, first, empty, with_front}
use Rattle.mp_format.proofs.Turns.{many_end, many_next, many_fails}
use Rattle.mp_expressions.specs.Expressions.{times, plus}
use Rattle.mp_gram_expr.specs.declared.level.Level.{Level}
use Rattle.mp_gram_expr.specs.declared.level.Level.TheVariants as l
use Rattle.mp_gram_expr.specs.Levels.{further_at}
use Rattle.mp_gram_expr.specs.Gives.{Fails}
use Rattle.mp_gram_expr.specs.declared.rest.Wrong.{Wrong}
use Rattle.mp_gram_expr.specs.declared.rest.Wrong.TheVariants as w
use Rattle.mp_gram_expr.specs.Shown.{toks}

-- a reading whose value is made into another
abbrev pub mapped : {X Y : Type 0} → (X → Y) → Read X → Read Y
mapped to s = s >>= λ x. Ok (to x.0, x.1)

-- a part that fails makes the whole fail, at the same place
pub Fails-whole : {X Y : Type 0} (e : Wrong) (part : Result X (List Tok)) (whole : Result Y (List Tok)) → ((left : List Tok) → part ≡ Err left → whole ≡ Err left) → Fails e part → Fails e whole
Fails-whole (w.Token left) part whole h fails = h (toks left.now) fails
Fails-whole w.NoMemory part whole h fails = tt

pub turn-end : {X : Type 0} (f : Format X) (front : List X) (ts : List Tok) (r : Read (List X)) → empty f ≡ false → with_front front (read (many f) ts) ≡ r → meets (first f) ts ≡ false → r ≡ Ok (front, ts)
turn-end f front ts r k is h = sym is ∙ many_end f front ts k h

pub turn-next : {X : Type 0} (f : Format X) (front new : List X) (ts : List Tok) (x : X × List Tok) (r : Read (List X)) → empty f ≡ false → with_front front (read (many f) ts) ≡ r → meets (first f) ts ≡ true → read f ts ≡ Ok x → new ≡ front ++ x.0 ∷ [] → with_front new (read (many f) x.1) ≡ r
turn-next f front new ts x r k is h e pushed =
    ap (λ l. with_front l (read (many f) x.1)) pushed ∙ sym (many_next f front ts x k h e) ∙ is

pub turn-fails : {X : Type 0} (f : Format X) (front : List X) (ts : List Tok) (e : Wrong) (r : Read (List X)) → empty f ≡ false → with_front front (read (many f) ts) ≡ r → meets (first f) ts ≡ true → Fails e (read f ts) → Fails e r
turn-fails f front ts e r k is h fails =
    Fails-whole e (read f ts) r (λ left wrong. sym is ∙ many_fails f front ts left k h wrong) fails

pub further_full : (level : Level) (a : Format Expr) → empty (further_at level a) ≡ false
unfolding empty times plus
further_full l.Sum a = refl
further_full l.Product a = refl

pub opt_none : {X : Type 0} (f : Format X) (ts : List Tok) → meets (first f) ts ≡ false → read (opt f) ts ≡ Ok (None, ts)
unfolding read
opt_none f ts h = ap (λ b. cond b (mapped (λ x. Some x) (read f ts)) (Ok (None, ts))) h

pub opt_some : {X : Type 0} (f : Format X) (ts : List Tok) → meets (first f) ts ≡ true → read (opt f) ts ≡ mapped (λ x. Some x) (read f ts)
unfolding read
opt_some f ts h = ap (λ b. cond b (mapped (λ x. Some x) (read f ts)) (Ok (None, ts))) h

pub front_none : {X : Type 0} (r : Read (List X)) → with_front [] r ≡ r
front_none (Ok x) = refl
front_none (Err left) = refl

pub many_none : {X : Type 0} (f : Format X) (ts : List Tok) → empty f ≡ false → meets (first f) ts ≡ false → read (many f) ts ≡ Ok ([], ts)
many_none f ts k h = sym (front_none (read (many f) ts)) ∙ many_end f [] ts k h
