-- What holds of a command to which a word was added, and of a program to which a command was.
use Rattle.std.proofs.Common.{◌≡◌, ◌∙◌, ◌||◌, ◌<◌, ◌+◌, ℕ, List, false, ap, ap₂, sym, get_or, length, take}
use Rattle.std.proofs.lemmas.List.Sums.{fold_more}
use Rattle.clap.specs.Words.{App, Rule, AddsArg, AddsSubcommand, app_of, rule_of, with_rule, with_subcommand}
use Rattle.book_desk_words.specs.Arguments.{argument_rule, with_argument, with_arguments}
use Rattle.book_desk_words.specs.declared.arguments.Argument.{Argument}
use Rattle.clap.specs.declared.builder.arg.Arg.{Arg}
use Rattle.clap.specs.declared.builder.command.Command.{Command}
use Rattle.clap.specs.declared.builder.command.Command.TheViews.{out-Command}

pub word_added : (app : App) (rule : Rule) (old new : Command) (word : Arg) → (app_of old ≡ app) × ((out-Command old).has_globals ≡ false)
    → AddsArg old word new → word.global ≡ false → rule_of word ≡ rule → (app_of new ≡ with_rule app rule) × ((out-Command new).has_globals ≡ false)
word_added app rule old new word is adds local same =
    (adds.shape local ∙ ap₂ with_rule is.0 same, adds.globals ∙ ap₂ (λ a b. a || b) is.1 local)

pub command_added : (app sub : App) (old new command : Command) → app_of old ≡ app → (app_of command ≡ sub) × ((out-Command command).has_globals ≡ false)
    → AddsSubcommand old command new → app_of new ≡ with_subcommand app sub.top
command_added app sub old new command is made adds = adds.shape made.1 ∙ ap₂ with_subcommand is (ap (λ (a : App). a.top) made.0)

-- the argument at i is added to a command that has those before it
pub argument_added : (base : App) (arguments : List Argument) (i : ℕ) (d : Argument) (old new : Command) (word : Arg) → i < length arguments
    → (app_of old ≡ with_arguments base (take i arguments)) × ((out-Command old).has_globals ≡ false)
    → AddsArg old word new → word.global ≡ false → rule_of word ≡ argument_rule (get_or arguments i d)
    → (app_of new ≡ with_arguments base (take (i + 1) arguments)) × ((out-Command new).has_globals ≡ false)
argument_added base arguments i d old new word within is adds local same =
    let added = word_added (with_arguments base (take i arguments)) (argument_rule (get_or arguments i d)) old new word is adds local same in
    (added.0 ∙ sym (fold_more with_argument base arguments i d within), added.1)
