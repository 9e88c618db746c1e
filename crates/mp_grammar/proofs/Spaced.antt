-- No token of a production runs into the next.
use Rattle.std.proofs.Common.{◌≡◌, true, refl}
use Rattle.mp_tokens.specs.Terminals.{terminal_of, word_of}
use Rattle.mp_format.specs.Format.{empty}
use Rattle.mp_format.specs.Spelling.{opens, closes, spaced}
use Rattle.mp_expressions.specs.Productions.{Whole}
use Rattle.mp_grammar.specs.Tags.{tag, further_tag, some_tags, tags, texts}
use Rattle.mp_grammar.specs.Options.{setting, given, choice, further_choice, choices}
use Rattle.mp_grammar.specs.Productions.{decl, further_decl, declares, assigns, local, equation, item, model, noted, further_name, notes, statement, statements}
use Rattle.mp_grammar.specs.Shocks.{shocks, shock, paths, deviation}

pub statements_spaced : (e : Whole) → spaced (statements e) ≡ true
unfolding terminal_of word_of spaced empty opens closes statements statement declares decl further_decl texts assigns model item local equation tags some_tags tag further_tag choices choice further_choice given setting notes noted further_name
statements_spaced e = refl

pub tags_spaced : spaced tags ≡ true
unfolding terminal_of word_of spaced empty opens closes tags some_tags tag further_tag
tags_spaced = refl

pub shocks_spaced : (e : Whole) → spaced (shocks e) ≡ true
unfolding terminal_of word_of spaced empty opens closes shocks shock paths deviation
shocks_spaced e = refl
