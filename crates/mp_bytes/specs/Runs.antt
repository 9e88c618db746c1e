-- Which bytes go on with a run.
use Rattle.std.specs.Prelude.{ℕ, Bool}
use Rattle.std.specs.Char.{is_ascii_digit}
use Rattle.mp_tokens.specs.Tokens.{is_blank, is_inside, is_on_line, is_word}
use Rattle.mp_bytes.specs.declared.run.Run.{Run}
use Rattle.mp_bytes.specs.declared.run.Run.TheVariants.{Blanks, Word, Digits, Line, Inside}

abbrev pub goes_on : Run → ℕ → Bool
goes_on Blanks = is_blank
goes_on Word = is_word
goes_on Digits = is_ascii_digit
goes_on Line = is_on_line
goes_on (Inside quote) = is_inside quote
