-- What a format writes: a tree, which has a value, pieces and a text.
use Rattle.std.specs.Prelude.{◌≡◌, ℕ, List, [], ◌∷◌, ◌++◌, Bool, true, false, not, ◌&&◌, ◌||◌, if◌then◌else◌, ◌⊎◌, Option, Some, None, map, option_map, nat_le, length}
use mathlib.Core.Logic.{inl, inr}
use Rattle.std.specs.List.{list_all, flat_map}
use Rattle.mp_tokens.specs.declared.token.TokenKind.TheVariants as k
use Rattle.mp_tokens.specs.declared.terminal.Terminal.{Terminal}
use Rattle.mp_tokens.specs.declared.terminal.Terminal.TheVariants as t
use Rattle.mp_tokens.specs.Tokens.{Tok, is_blank, is_first, is_word, number_kind}
use Rattle.mp_format.specs.Pieces.{Piece, Solid, blanks, text_of, Run, AfterName, AfterNumber, AfterSlash, AfterOrder, run_of, stops, free, Apart, Clears, words, IsName, IsLiteral, AreDigits, IsText, Script}
use Rattle.mp_format.specs.Format.{Look, Of, Word, sees, token_of, token, Format, Reads, tok, both, choose, opt, many, via, part, empty}

-- a token that is one of many
abbrev pub varies : Terminal → Bool
varies t.Name = true
varies t.Whole = true
varies t.Number = true
varies t.Text = true
varies _ = false

abbrev pub Held : Bool → Type 0
Held true = List ℕ
Held false = Unit {0}

-- the bytes of a token, where its look does not say them
abbrev pub Leaf : Look → Type 0
Leaf (Of c) = Held (varies c)
Leaf (Word bs) = Unit {0}

abbrev pub held : (v : Bool) → Held v → List ℕ → List ℕ
held true bytes sample = bytes
held false none sample = sample

abbrev pub token_at : (l : Look) → Leaf l → Tok
token_at (Of c) x = token (token_of c).kind (held (varies c) x (token_of c).bytes)
token_at (Word bs) x = token k.Name bs

-- what the bytes are
abbrev pub Fills : Terminal → List ℕ → Type 0
Fills t.Name bytes = IsName bytes
Fills t.Whole bytes = AreDigits bytes
Fills t.Number bytes = IsLiteral bytes × (number_kind bytes ≡ k.Number)
Fills t.Text bytes = IsText bytes
Fills _ bytes = Unit {0}

abbrev pub Filled : (l : Look) → Leaf l → Type 0
Filled (Of c) x = Fills c (held (varies c) x (token_of c).bytes)
Filled (Word bs) x = Unit {0}

-- what was chosen, left out, repeated, and the bytes of the tokens that vary
abbrev pub Tree : {X : Type 0} → Format X → Type 0
Tree (tok l _) = Leaf l
Tree (both f g) = Tree f × Tree g
Tree (choose f g) = Tree f ⊎ Tree g
Tree (opt f) = Option (Tree f)
Tree (many f) = List (Tree f)
Tree (via to f) = Tree f
Tree (part {T} ls ms w p) = T

abbrev pub side : {S T Y : Type 0} → (S → Y) → (T → Y) → S ⊎ T → Y
side f g (inl x) = f x
side f g (inr y) = g y

-- what the tree stands for, with each token at 0
unfoldable pub value : {X : Type 0} (f : Format X) → Tree f → X
value (tok l _) x = token_at l x
value (both f g) x = (value f x.0, value g x.1)
value (choose f g) x = side (value f) (value g) x
value (opt f) x = option_map (value f) x
value (many f) xs = map (value f) xs
value (via to f) x = to (value f x)
value (part ls ms w p) x = w.value x

abbrev pub opt_pieces : {T : Type 0} → (T → List Piece) → Option T → List Piece
opt_pieces s None = []
opt_pieces s (Some x) = s x

abbrev pub all_pieces : {T : Type 0} → (T → List Piece) → List T → List Piece
all_pieces s [] = []
all_pieces s (x ∷ xs) = s x ++ all_pieces s xs

unfoldable pub pieces : {X : Type 0} (f : Format X) → Tree f → List Piece
pieces (tok l w) x = blanks w.before ++ (Solid (token_at l x) ∷ blanks w.after)
pieces (both f g) x = pieces f x.0 ++ pieces g x.1
pieces (choose f g) x = side (pieces f) (pieces g) x
pieces (opt f) x = opt_pieces (pieces f) x
pieces (many f) xs = all_pieces (pieces f) xs
pieces (via to f) x = pieces f x
pieces (part ls ms w p) x = w.pieces x

abbrev pub behind : List ℕ → List ℕ → List ℕ
behind bytes [] = bytes
behind bytes (b ∷ bs) = bytes ++ (b ∷ bs)

abbrev pub opt_text : {T : Type 0} → (T → List ℕ) → Option T → List ℕ
opt_text s None = []
opt_text s (Some x) = s x

-- the text of a tree
unfoldable pub text : {X : Type 0} (f : Format X) → Tree f → List ℕ
text (tok l w) x = w.before ++ behind (token_at l x).bytes w.after
text (both f g) x = text f x.0 ++ text g x.1
text (choose f g) x = side (text f) (text g) x
text (opt f) x = opt_text (text f) x
text (many f) xs = flat_map (text f) xs
text (via to f) x = text f x
text (part ls ms w p) x = text_of (w.pieces x)

abbrev pub FitsSide : {S T : Type 0} → (S → Type 0) → (T → Type 0) → S ⊎ T → Type 0
FitsSide P Q (inl x) = P x
FitsSide P Q (inr y) = Q y

abbrev pub FitsOpt : {T : Type 0} → (T → Type 0) → Option T → Type 0
FitsOpt P None = Unit {0}
FitsOpt P (Some x) = P x

abbrev pub FitsAll : {T : Type 0} → (T → Type 0) → List T → Type 0
FitsAll P [] = Unit {0}
FitsAll P (x ∷ xs) = P x × FitsAll P xs

-- the bytes that vary are what their tokens are made of
unfoldable pub Fits : {X : Type 0} (f : Format X) → Tree f → Type 0
Fits (tok l _) x = Filled l x
Fits (both f g) x = Fits f x.0 × Fits g x.1
Fits (choose f g) x = FitsSide (Fits f) (Fits g) x
Fits (opt f) x = FitsOpt (Fits f) x
Fits (many f) xs = FitsAll (Fits f) xs
Fits (via to f) x = Fits f x
Fits (part ls ms w p) x = p.Fits x

-- what might run into the token, and what it might run into
abbrev pub tied : Run → Bool
tied AfterName = true
tied AfterNumber = true
tied _ = false

abbrev pub same_run : Run → Option Run → Bool
same_run AfterName (Some AfterName) = true
same_run AfterNumber (Some AfterNumber) = true
same_run AfterSlash (Some AfterSlash) = true
same_run AfterOrder (Some AfterOrder) = true
same_run _ _ = false

abbrev pub look_opens : Look → Run → Bool
look_opens (Of t.Name) r = tied r
look_opens (Of t.Whole) r = tied r
look_opens (Of t.Number) r = tied r
look_opens (Of t.Text) r = false
look_opens (Of c) r = not (stops r (token_of c).bytes)
look_opens (Word bs) r = tied r

abbrev pub look_closes : Look → Run → Bool
look_closes (Of c) r = same_run r (run_of (token_of c).kind)
look_closes (Word bs) r = same_run r (Some AfterName)

abbrev pub none : List ℕ → Bool
none [] = true
none (b ∷ bs) = false

unfoldable pub opens : {X : Type 0} → Format X → Run → Bool
opens (tok l w) r = none w.before && look_opens l r
opens (both f g) r = if empty f then opens f r || opens g r else opens f r
opens (choose f g) r = opens f r || opens g r
opens (opt f) r = opens f r
opens (many f) r = opens f r
opens (via to f) r = opens f r
opens (part ls ms w p) r = w.opens r

unfoldable pub closes : {X : Type 0} → Format X → Run → Bool
closes (tok l w) r = none w.after && look_closes l r
closes (both f g) r = if empty g then closes g r || closes f r else closes g r
closes (choose f g) r = closes f r || closes g r
closes (opt f) r = closes f r
closes (many f) r = closes f r
closes (via to f) r = closes f r
closes (part ls ms w p) r = w.closes r

-- letters that a name may have, 128 at most
abbrev pub spells_word : List ℕ → Bool
spells_word [] = false
spells_word (b ∷ bs) = is_first b && (list_all is_word bs && nat_le (length bs) 127)

abbrev pub look_spells : Look → Bool
look_spells (Of c) = sees (Of c) (token_of c)
look_spells (Word bs) = sees (Word bs) (token k.Name bs) && spells_word bs

-- no token runs into the next, whatever the tree
unfoldable pub spaced : {X : Type 0} → Format X → Bool
spaced (tok l w) = look_spells l && (list_all is_blank w.before && list_all is_blank w.after)
spaced (both f g) = spaced f && (spaced g && free (closes f) (opens g))
spaced (choose f g) = spaced f && spaced g
spaced (opt f) = spaced f
spaced (many f) = spaced f && free (closes f) (opens f)
spaced (via to f) = spaced f
spaced (part ls ms w p) = true

-- the tree of f {between f}; none are this
abbrev pub some_tree : {S T U : Type 0} → U → T → (S → T) → List S → T × List (U × T)
some_tree between nothing tree [] = (nothing, [])
some_tree between nothing tree (x ∷ xs) = (tree x, map (λ y. (between, tree y)) xs)

-- how a format is written otherwise than by its own trees
pub record Writing {T X : Type 0} (f : Format X) (w : Script T X) : Type 1 where
  pub Fits : T → Type 0
  pub written : (x : T) → Fits x → (r : List Tok) → Reads f (words (w.pieces x) ++ r) (w.value x) r
  pub opened : (x : T) (ps : List Piece) (r : Run) → Fits x → w.opens r ≡ false → stops r (text_of (w.pieces x ++ ps)) ≡ true
  pub apart : (x : T) (ps : List Piece) → Fits x → Apart ps → Clears w.closes (text_of ps) → Apart (w.pieces x ++ ps)
