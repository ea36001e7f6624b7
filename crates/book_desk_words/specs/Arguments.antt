-- What the tables of arguments say of a command.
use Rattle.std.specs.Prelude.{List, fold}
use Rattle.clap.specs.Words.{App, Rule, with_rule}
use Rattle.book_desk_words.specs.CommandLine.{counted_rule, flag_rule, last_word_rule, option_rule, options_rule, required_rule, whole_rule, word_rule, words_rule}
use Rattle.book_desk_words.specs.declared.arguments.Argument.{Argument}
use Rattle.book_desk_words.specs.declared.arguments.Argument.TheVariants.{Flag, Value, File, Values, Number, Whole, Word, LastWord, Words}

-- the rule of an argument
abbrev pub argument_rule : Argument → Rule
argument_rule (Flag name help) = flag_rule name.now
argument_rule (Value name value help) = option_rule name.now
argument_rule (File name help) = required_rule name.now
argument_rule (Values name value help) = options_rule name.now
argument_rule (Number name least most help) = counted_rule name.now least most
argument_rule (Whole name help) = whole_rule name.now
argument_rule (Word name value help) = word_rule name.now
argument_rule (LastWord name value help) = last_word_rule name.now
argument_rule (Words name value help) = words_rule name.now

-- a command with one more argument
abbrev pub with_argument : App → Argument → App
with_argument app argument = with_rule app (argument_rule argument)

-- a command with these arguments, in their order
abbrev pub with_arguments : App → List Argument → App
with_arguments app arguments = fold with_argument app arguments
