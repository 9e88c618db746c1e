-- Formats as one writes a grammar.
use Rattle.std.specs.Prelude.{ℕ, List, [], ◌∷◌}
use Rattle.mp_tokens.specs.declared.terminal.Terminal.{Terminal}
use Rattle.mp_tokens.specs.Tokens.{Tok}
use Rattle.mp_format.specs.Pieces.{close}
use Rattle.mp_format.specs.Format.{Of, Word, Format, tok, both, choose, many, via}

-- a token of this terminal
abbrev pub of : Terminal → Format Tok
of k = tok (Of k) close

-- the same with a blank before it, with one before and one after it, and with a newline after it
abbrev pub gap : Terminal → Format Tok
gap k = tok (Of k) (record { before = 32 ∷ []; after = [] })

abbrev pub wide : Terminal → Format Tok
wide k = tok (Of k) (record { before = 32 ∷ []; after = 32 ∷ [] })

abbrev pub line : Terminal → Format Tok
line k = tok (Of k) (record { before = []; after = 10 ∷ [] })

-- a name of these bytes
abbrev pub word : List ℕ → Format Tok
word bs = tok (Word bs) close

-- both, one after the other
infixr 40 ◌⊗◌
abbrev pub ◌⊗◌ : {X Y : Type 0} → Format X → Format Y → Format (X × Y)
f ⊗ g = both f g

-- both, of which the second gives the value
infixr 45 ◌▸◌
abbrev pub ◌▸◌ : {X Y : Type 0} → Format X → Format Y → Format Y
◌▸◌ {X} {Y} f g = via (λ (p : X × Y). p.1) (both f g)

-- both, of which the first gives the value
infixl 50 ◌◂◌
abbrev pub ◌◂◌ : {X Y : Type 0} → Format X → Format Y → Format X
◌◂◌ {X} {Y} f g = via (λ (p : X × Y). p.0) (both f g)

-- one or the other, by the next token
infixr 20 ◌∣◌
abbrev pub ◌∣◌ : {X : Type 0} → Format X → Format X → Format X
f ∣ g = choose f g

-- a value made of what is read
infixl 30 ◌⇒◌
abbrev pub ◌⇒◌ : {X Y : Type 0} → Format X → (X → Y) → Format Y
f ⇒ to = via to f

-- this token stands for this value
infixl 60 ◌stands◌
abbrev pub ◌stands◌ : {X : Type 0} → Terminal → X → Format X
k stands x = via (λ (u : Tok). x) (tok (Of k) close)

-- f {between f}
abbrev pub some_of : {X Y : Type 0} → Format Y → Format X → Format (List X)
some_of {X} between f = via (λ (p : X × List X). p.0 ∷ p.1) (both f (many (between ▸ f)))
