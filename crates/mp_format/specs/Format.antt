-- Productions as values.
use Rattle.std.specs.Prelude.{◌≡◌, ℕ, List, [], ◌∷◌, ◌++◌, Bool, true, false, not, ◌&&◌, ◌||◌, if◌then◌else◌, ◌⊎◌, Option, Some, None, Result, Ok, Err, codes}
use Rattle.std.specs.Str.{bytes_eq}
use Rattle.mp_tokens.specs.declared.terminal.Terminal.{Terminal}
use Rattle.mp_tokens.specs.declared.terminal.Terminal.TheVariants as t
use Rattle.mp_tokens.specs.declared.token.TokenKind.{TokenKind}
use Rattle.mp_tokens.specs.declared.token.TokenKind.TheVariants as k
use Rattle.mp_tokens.specs.Tokens.{Tok}
use Rattle.mp_tokens.specs.Terminals.{terminal_of}
use Rattle.mp_format.specs.Reading.{Read, ◌>>=◌, is, all_at}
use Rattle.mp_format.specs.Pieces.{Around, Piece, Run, words, text_of, stops, Apart, Clears, Script}

-- what the next token is asked to be: a terminal, or a name of these bytes
pub data Look : Type 0 where
  Of : (terminal : Terminal) → Look
  Word : (bytes : List ℕ) → Look

abbrev pub sees : Look → Tok → Bool
sees (Of k) u = is k (terminal_of u)
sees (Word bs) u = is t.Name (terminal_of u) && bytes_eq bs u.bytes

-- no token is both
abbrev pub apart : Look → Look → Bool
apart (Of a) (Of b) = not (is a b)
apart (Of a) (Word bs) = not (is t.Name a)
apart (Word bs) (Of a) = not (is t.Name a)
apart (Word bs) (Word cs) = not (bytes_eq bs cs)

abbrev pub sees_any : List Look → Tok → Bool
sees_any [] u = false
sees_any (l ∷ ls) u = sees l u || sees_any ls u

-- the next token is one of these
abbrev pub meets : List Look → List Tok → Bool
meets ls [] = false
meets ls (u ∷ us) = sees_any ls u

abbrev pub apart_all : Look → List Look → Bool
apart_all l [] = true
apart_all l (m ∷ ms) = apart l m && apart_all l ms

abbrev pub disjoint : List Look → List Look → Bool
disjoint [] ms = true
disjoint (l ∷ ls) ms = apart_all l ms && disjoint ls ms

-- how tokens read as an X, and the tokens after it
abbrev pub Reading : Type 0 → Type 1
Reading X = List Tok → X → List Tok → Type 0

-- what a reading leaves
abbrev pub left_of : {X : Type 0} → Read X → List Tok
left_of (Ok y) = y.1
left_of (Err l) = l

-- the same, but that it leaves these
abbrev pub leaving : {X : Type 0} → Read X → List Tok → Read X
leaving (Ok y) l = Ok (y.0, l)
leaving (Err _) l = Err l

-- with other tokens after the first one that is left, the same is read
abbrev pub Keeps : {X : Type 0} → (List Tok → Read X) → Type 0
Keeps {X} r =
    (ts ms : List Tok) (m : Tok) (y : Read X) → r ts ≡ y → left_of y ≡ m ∷ ms → (front : List Tok) × (ts ≡ front ++ (m ∷ ms)) × ((ns : List Tok) → r (front ++ (m ∷ ns)) ≡ leaving y (m ∷ ns))

-- what stands before these tokens, which are left, begins something that reads
abbrev pub Mends : {X : Type 0} → Reading X → List Tok → List Tok → Type 0
Mends {X} R ts left =
    (front more : List Tok) × (x : X) × (ts ≡ front ++ left) × ((r : List Tok) → R (front ++ (more ++ r)) x r)

-- the same but for their places
abbrev pub AlikeToken : Tok → Tok → Type 0
AlikeToken u v = (u.kind ≡ v.kind) × (u.bytes ≡ v.bytes)

abbrev pub AllAlike : {X : Type 0} → (X → X → Type 0) → List X → List X → Type 0
AllAlike R [] [] = Unit {0}
AllAlike R [] (y ∷ ys) = ⊥
AllAlike R (x ∷ xs) [] = ⊥
AllAlike R (x ∷ xs) (y ∷ ys) = R x y × AllAlike R xs ys

abbrev pub OptAlike : {X : Type 0} → (X → X → Type 0) → Option X → Option X → Type 0
OptAlike R None None = Unit {0}
OptAlike R None (Some y) = ⊥
OptAlike R (Some x) None = ⊥
OptAlike R (Some x) (Some y) = R x y

-- what tokens read as, tokens that are the same but for places read as, but for places
abbrev pub Moves : {X : Type 0} → Reading X → (X → X → Type 0) → Type 0
Moves {X} R Same =
    (ts rest us : List Tok) (x : X) → R ts x rest → AllAlike AlikeToken ts us → (y : X) × (left : List Tok) × R us y left × AllAlike AlikeToken rest left × Same x y

abbrev pub Every : {X : Type 0} → (X → Type 0) → List X → Type 0
Every P [] = Unit {0}
Every P (x ∷ xs) = P x × Every P xs

-- the laws of a part that reads so, ends so, is the same but for places so, is written as its script writes the trees that fit, and is made of tokens so
pub record PartLaws (first more : List Look) {T X : Type 0} (w : Script T X) (Reads : Reading X) (read : List Tok → Read X) (ending : List Tok) (value : X) (Alike : X → X → Type 0) (Fits : T → Type 0) (Made : (Tok → Type 0) → X → Type 0) : Type 1 where
  pub sound : (ts : List Tok) (x : X × List Tok) → read ts ≡ Ok x → Reads ts x.0 x.1
  pub complete : (ts rest : List Tok) (x : X) → Reads ts x rest → meets more rest ≡ false → read ts ≡ Ok (x, rest)
  pub begins : (ts rest : List Tok) (x : X) → Reads ts x rest → meets first ts ≡ true
  pub local : (ts rest : List Tok) (x : X) → Reads ts x rest → (front : List Tok) × (ts ≡ front ++ rest) × ((r : List Tok) → Reads (front ++ r) x r)
  pub keeps : Keeps read
  pub ends : (r : List Tok) → Reads (ending ++ r) value r
  pub mends : (ts left : List Tok) → read ts ≡ Err left → Mends Reads ts left
  pub moved : Moves Reads Alike
  pub written : (x : T) → Fits x → (r : List Tok) → Reads (words (w.pieces x) ++ r) (w.value x) r
  pub opened : (x : T) (ps : List Piece) (r : Run) → Fits x → w.opens r ≡ false → stops r (text_of (w.pieces x ++ ps)) ≡ true
  pub made : (Q : Tok → Type 0) (ts rest : List Tok) (x : X) → Reads ts x rest → Every Q ts → Made Q x × Every Q rest
  pub apart : (x : T) (ps : List Piece) → Fits x → Apart ps → Clears w.closes (text_of ps) → Apart (w.pieces x ++ ps)

-- a part that is read elsewhere, as an expression: what it means, and that it has the laws
pub record Part (first more : List Look) {T X : Type 0} (w : Script T X) : Type 1 where
  pub Reads : List Tok → X → List Tok → Type 0
  pub read : List Tok → Read X
  pub ending : List Tok
  pub value : X
  pub Alike : X → X → Type 0
  pub Fits : T → Type 0
  pub Made : (Tok → Type 0) → X → Type 0
  pub laws : PartLaws first more w Reads read ending value Alike Fits Made

abbrev pub token : TokenKind → List ℕ → Tok
token kind bytes = record { kind = kind; bytes = bytes; at = 0 }

-- a token of each terminal
abbrev pub token_of : Terminal → Tok
token_of t.Var = token k.Name (codes "var")
token_of t.Varexo = token k.Name (codes "varexo")
token_of t.Parameters = token k.Name (codes "parameters")
token_of t.Model = token k.Name (codes "model")
token_of t.End = token k.Name (codes "end")
token_of t.Initval = token k.Name (codes "initval")
token_of t.Endval = token k.Name (codes "endval")
token_of t.Histval = token k.Name (codes "histval")
token_of t.Shocks = token k.Name (codes "shocks")
token_of t.Steady = token k.Name (codes "steady")
token_of t.SteadyStateModel = token k.Name (codes "steady_state_model")
token_of t.PerfectForesightSetup = token k.Name (codes "perfect_foresight_setup")
token_of t.PerfectForesightSolver = token k.Name (codes "perfect_foresight_solver")
token_of t.OccbinConstraints = token k.Name (codes "occbin_constraints")
token_of t.OccbinSetup = token k.Name (codes "occbin_setup")
token_of t.OccbinSolver = token k.Name (codes "occbin_solver")
token_of t.Check = token k.Name (codes "check")
token_of t.Resid = token k.Name (codes "resid")
token_of t.Rplot = token k.Name (codes "rplot")
token_of t.ModelDiagnostics = token k.Name (codes "model_diagnostics")
token_of t.Min = token k.Name (codes "min")
token_of t.Max = token k.Name (codes "max")
token_of t.Diff = token k.Name (codes "diff")
token_of t.Abs = token k.Name (codes "abs")
token_of t.Pick = token k.Name (codes "pick")
token_of t.SteadyState = token k.Name (codes "STEADY_STATE")
token_of t.Reserved = token k.Name (codes "exp")
token_of t.Name = token k.Name (codes "x")
token_of t.Whole = token k.Whole (codes "1")
token_of t.Number = token k.Number (codes "1.")
token_of t.Text = token k.Text (codes "''")
token_of t.Tex = token k.Tex (codes "$$")
token_of t.Semicolon = token k.Semicolon (codes ";")
token_of t.Comma = token k.Comma (codes ",")
token_of t.Equals = token k.Equals (codes "=")
token_of t.Open = token k.Open (codes "(")
token_of t.Close = token k.Close (codes ")")
token_of t.OpenBracket = token k.OpenBracket (codes "[")
token_of t.CloseBracket = token k.CloseBracket (codes "]")
token_of t.Plus = token k.Plus (codes "+")
token_of t.Minus = token k.Minus (codes "-")
token_of t.Star = token k.Star (codes "*")
token_of t.Slash = token k.Slash (codes "/")
token_of t.Caret = token k.Caret (codes "^")
token_of t.Hash = token k.Hash (codes "#")
token_of t.Colon = token k.Colon (codes ":")
token_of t.Less = token k.Less (codes "<")
token_of t.Greater = token k.Greater (codes ">")
token_of t.AtMost = token k.AtMost (codes "<=")
token_of t.AtLeast = token k.AtLeast (codes ">=")

-- a token that this sees
abbrev pub sample_of : Look → Tok
sample_of (Of terminal) = token_of terminal
sample_of (Word bytes) = token k.Name bytes

pub data Format : Type 0 → Type 1 where
  tok : (look : Look) (blanks : Around) → Format Tok
  both : {X Y : Type 0} (f : Format X) (g : Format Y) → Format (X × Y)
  choose : {X : Type 0} (f g : Format X) → Format X
  opt : {X : Type 0} (f : Format X) → Format (Option X)
  many : {X : Type 0} (f : Format X) → Format (List X)
  via : {X Y : Type 0} (to : X → Y) (f : Format X) → Format Y
  part : {T X : Type 0} (first more : List Look) (w : Script T X) (p : Part first more w) → Format X

abbrev pub OptReads : {X : Type 0} → Reading X → Reading (Option X)
OptReads R ts None rest = ts ≡ rest
OptReads R ts (Some x) rest = R ts x rest

abbrev pub ManyReads : {X : Type 0} → Reading X → List Tok → List X → List Tok → Type 0
ManyReads R ts [] rest = ts ≡ rest
ManyReads R ts (x ∷ xs) rest = (mid : List Tok) × R ts x mid × ManyReads R mid xs rest

unfoldable pub Reads : {X : Type 0} → Format X → List Tok → X → List Tok → Type 0
Reads (tok l _) ts x rest = (sees l x ≡ true) × (ts ≡ x ∷ rest)
Reads (both f g) ts x rest = (mid : List Tok) × Reads f ts x.0 mid × Reads g mid x.1 rest
Reads (choose f g) ts x rest = Reads f ts x rest ⊎ Reads g ts x rest
Reads (opt f) ts x rest = OptReads (Reads f) ts x rest
Reads (many f) ts x rest = ManyReads (Reads f) ts x rest
Reads (via {X} to f) ts y rest = (x : X) × Reads f ts x rest × (to x ≡ y)
Reads (part ls ms w p) ts x rest = p.Reads ts x rest

-- the empty list reads
unfoldable pub empty : {X : Type 0} → Format X → Bool
empty (tok l _) = false
empty (both f g) = empty f && empty g
empty (choose f g) = empty f || empty g
empty (opt f) = true
empty (many f) = true
empty (via to f) = empty f
empty (part ls ms w p) = false

-- with which tokens it begins
unfoldable pub first : {X : Type 0} → Format X → List Look
first (tok l _) = l ∷ []
first (both f g) = if empty f then first f ++ first g else first f
first (choose f g) = first f ++ first g
first (opt f) = first f
first (many f) = first f
first (via to f) = first f
first (part ls ms w p) = ls

-- with which tokens it goes on where it might end
unfoldable pub goes_on : {X : Type 0} → Format X → List Look
goes_on (tok l _) = []
goes_on (both f g) = if empty g then goes_on g ++ goes_on f else goes_on g
goes_on (choose f g) = if empty g then goes_on f ++ (first f ++ goes_on g) else goes_on f ++ goes_on g
goes_on (opt f) = first f ++ goes_on f
goes_on (many f) = first f ++ goes_on f
goes_on (via to f) = goes_on f
goes_on (part ls ms w p) = ms

-- choices and repetitions are told apart by one token, and each token can be written
unfoldable pub told : {X : Type 0} → Format X → Bool
told (tok l _) = sees l (sample_of l)
told (both f g) = told f && told g && disjoint (goes_on f) (first g)
told (choose f g) = told f && told g && not (empty f) && disjoint (first f) (first g)
told (opt f) = told f && not (empty f)
told (many f) = told f && not (empty f) && disjoint (goes_on f) (first f)
told (via to f) = told f
told (part ls ms w p) = true

-- the shortest tokens that read, with what they read as
unfoldable pub ending : {X : Type 0} → Format X → List Tok × X
ending (tok l _) = (sample_of l ∷ [], sample_of l)
ending (both f g) = ((ending f).0 ++ (ending g).0, ((ending f).1, (ending g).1))
ending (choose f g) = ending f
ending (opt f) = ([], None)
ending (many f) = ([], [])
ending (via to f) = ((ending f).0, to (ending f).1)
ending (part ls ms w p) = (p.ending, p.value)

unfoldable pub tok_at : Look → List Tok → Read Tok
tok_at l [] = Err []
tok_at l (u ∷ us) = if sees l u then Ok (u, us) else Err (u ∷ us)

-- all tokens, where one of these is next
abbrev pub begin : List Look → List Tok → Option (List Tok)
begin ls ts = if meets ls ts then Some ts else None

-- reading from left to right
unfoldable pub read : {X : Type 0} → Format X → List Tok → Read X
read (tok l _) ts = tok_at l ts
read (both f g) ts = read f ts >>= λ a. read g a.1 >>= λ b. Ok ((a.0, b.0), b.1)
read (choose f g) ts = if meets (first f) ts then read f ts else read g ts
read (opt f) ts = if meets (first f) ts then (read f ts >>= λ x. Ok (Some x.0, x.1)) else Ok (None, ts)
read (many f) ts = all_at (begin (first f)) (read f) ts
read (via to f) ts = read f ts >>= λ x. Ok (to x.0, x.1)
read (part ls ms w p) ts = p.read ts

-- these in front of what is read
abbrev pub with_front : {X : Type 0} → List X → Read (List X) → Read (List X)
with_front front r = r >>= λ xs. Ok (front ++ xs.0, xs.1)

-- a value with no tokens after it
abbrev pub at_end : {X : Type 0} → X → List Tok → Result X (List Tok)
at_end x [] = Ok x
at_end x (m ∷ ms) = Err (m ∷ ms)

-- a whole list, or the tokens from the wrong one on
unfoldable pub read_all : {X : Type 0} → Format X → List Tok → Result X (List Tok)
read_all f ts = read f ts >>= λ y. at_end y.0 y.1

-- some list with a reading begins so
abbrev pub Begins : {X : Type 0} → Format X → List Tok → Type 0
Begins {X} f ts = (more : List Tok) × (x : X) × Reads f (ts ++ more) x []

-- these tokens have no reading, and with the first of those after them none begins
abbrev pub Refused : {X : Type 0} → Format X → List Tok → List Tok → Type 0
Refused {X} f front [] = (x : X) → Reads f front x [] → ⊥
Refused f front (m ∷ ms) = Begins f (front ++ (m ∷ [])) → ⊥

-- the same looks
abbrev pub same_look : Look → Look → Bool
same_look (Of a) (Of b) = is b a
same_look (Word bs) (Word cs) = bytes_eq cs bs
same_look _ _ = false

abbrev pub one_of : Look → List Look → Bool
one_of l [] = false
one_of l (m ∷ ms) = same_look l m || one_of l ms

abbrev pub covers : List Look → List Look → Bool
covers [] ms = true
covers (l ∷ ls) ms = one_of l ms && covers ls ms

-- the same but for places
unfoldable pub Alike : {X : Type 0} → Format X → X → X → Type 0
Alike (tok l _) u v = AlikeToken u v
Alike (both f g) x y = Alike f x.0 y.0 × Alike g x.1 y.1
Alike (choose f g) x y = Alike f x y ⊎ Alike g x y
Alike (opt f) x y = OptAlike (Alike f) x y
Alike (many f) x y = AllAlike (Alike f) x y
Alike (via {X} to f) x y = (a b : X) × (to a ≡ x) × (to b ≡ y) × Alike f a b
Alike (part ls ms w p) x y = p.Alike x y

abbrev pub OptMade : {X : Type 0} → (X → Type 0) → Option X → Type 0
OptMade P None = Unit {0}
OptMade P (Some x) = P x

-- made of tokens of which each is so
unfoldable pub Made : {X : Type 0} → Format X → (Tok → Type 0) → X → Type 0
Made (tok l _) Q u = (sees l u ≡ true) × Q u
Made (both f g) Q x = Made f Q x.0 × Made g Q x.1
Made (choose f g) Q x = Made f Q x ⊎ Made g Q x
Made (opt f) Q x = OptMade (Made f Q) x
Made (many f) Q x = Every (Made f Q) x
Made (via {X} to f) Q y = (x : X) × (to x ≡ y) × Made f Q x
Made (part ls ms w p) Q x = p.Made Q x
