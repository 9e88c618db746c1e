-- The productions pass the test: choices and repetitions are told apart by one token.
use Rattle.std.proofs.Common.{◌≡◌, true, refl}
use Rattle.mp_tokens.specs.Terminals.{terminal_of, word_of}
use Rattle.mp_format.specs.Format.{told, empty, first, goes_on}
use Rattle.mp_expressions.specs.Productions.{Whole}
use Rattle.mp_grammar.specs.Tags.{tag, further_tag, some_tags, tags, texts}
use Rattle.mp_grammar.specs.Options.{setting, given, choice, further_choice, choices}
use Rattle.mp_grammar.specs.Productions.{decl, further_decl, declares, assigns, local, equation, item, model, noted, further_name, notes, statement, statements}
use Rattle.mp_grammar.specs.Shocks.{shocks, shock, paths, deviation}

pub declares_told : told declares ≡ true
unfolding terminal_of word_of told empty first goes_on declares decl further_decl texts some_tags tag further_tag
declares_told = refl

pub assigns_told : (e : Whole) → told (assigns e) ≡ true
unfolding terminal_of word_of told empty first goes_on assigns
assigns_told e = refl

pub item_told : (e : Whole) → told (item e) ≡ true
unfolding terminal_of word_of told empty first goes_on item local equation tags some_tags tag further_tag
item_told e = refl

pub model_told : (e : Whole) → told (model e) ≡ true
unfolding terminal_of word_of told empty first goes_on model item local equation tags some_tags tag further_tag choices choice further_choice given setting
model_told e = refl

pub notes_told : told notes ≡ true
unfolding terminal_of word_of told empty first goes_on notes noted further_name choices choice further_choice given setting
notes_told = refl

pub statements_told : (e : Whole) → told (statements e) ≡ true
unfolding terminal_of word_of told empty first goes_on statements statement declares decl further_decl texts assigns model item local equation tags some_tags tag further_tag choices choice further_choice given setting notes noted further_name
statements_told e = refl

pub tags_told : told tags ≡ true
unfolding terminal_of word_of told empty first goes_on tags some_tags tag further_tag
tags_told = refl

pub shocks_told : (e : Whole) → told (shocks e) ≡ true
unfolding terminal_of word_of told empty first goes_on shocks shock paths deviation
shocks_told e = refl
