use Rattle.std.proofs.Common.{rules, tests, sym, ◌∙◌}
use Rattle.mp_lex.proofs.Reserved.{word_of-of_length, word_of-no}
use Rattle.mp_lex.proofs.terminal.word_of.Goals as goal

pub returns-in-2 : goal.returns-in-2
returns-in-2 c = c.word_in.ensures ∙ sym (word_of-of_length c.args.text.now 2 c.in-2.is)

pub returns-in-3 : goal.returns-in-3
returns-in-3 c = c.word_in-in-3.ensures ∙ sym (word_of-of_length c.args.text.now 3 c.in-3.is)

pub returns-in-4 : goal.returns-in-4
returns-in-4 c = c.word_in-in-4.ensures ∙ sym (word_of-of_length c.args.text.now 4 c.in-4.is)

pub returns-in-5 : goal.returns-in-5
returns-in-5 c = c.word_in-in-5.ensures ∙ sym (word_of-of_length c.args.text.now 5 c.in-5.is)

pub returns-in-6 : goal.returns-in-6
returns-in-6 c = c.word_in-in-6.ensures ∙ sym (word_of-of_length c.args.text.now 6 c.in-6.is)

pub returns-in-7 : goal.returns-in-7
returns-in-7 c = c.word_in-in-7.ensures ∙ sym (word_of-of_length c.args.text.now 7 c.in-7.is)

pub returns-in-10 : goal.returns-in-10
returns-in-10 c = c.word_in-in-10.ensures ∙ sym (word_of-of_length c.args.text.now 10 c.in-10.is)

pub returns-in-12 : goal.returns-in-12
returns-in-12 c = c.word_in-in-12.ensures ∙ sym (word_of-of_length c.args.text.now 12 c.in-12.is)

pub returns-in-13 : goal.returns-in-13
returns-in-13 c = c.word_in-in-13.ensures ∙ sym (word_of-of_length c.args.text.now 13 c.in-13.is)

pub returns-in-17 : goal.returns-in-17
returns-in-17 c = c.word_in-in-17.ensures ∙ sym (word_of-of_length c.args.text.now 17 c.in-17.is)

pub returns-in-18 : goal.returns-in-18
returns-in-18 c = c.word_in-in-18.ensures ∙ sym (word_of-of_length c.args.text.now 18 c.in-18.is)

pub returns-in-23 : goal.returns-in-23
returns-in-23 c = c.word_in-in-23.ensures ∙ sym (word_of-of_length c.args.text.now 23 c.in-23.is)

pub returns-in-24 : goal.returns-in-24
returns-in-24 c = c.word_in-in-24.ensures ∙ sym (word_of-of_length c.args.text.now 24 c.in-24.is)

pub returns-in_default : goal.returns-in_default
returns-in_default c = sym (search (rules, tests, word_of-no))
