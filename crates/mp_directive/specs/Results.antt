-- Steps that give something or the reason why not.
use Rattle.std.specs.Prelude.{Result, Ok, Err}

-- goes on with what there is
infixl 10 ◌>>=◌
abbrev pub ◌>>=◌ : {A B E : Type 0} → Result A E → (A → Result B E) → Result B E
Ok x >>= next = next x
Err e >>= next = Err e
