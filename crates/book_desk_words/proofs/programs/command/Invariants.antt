use Rattle.std.proofs.Common.{◌≡◌, false, take}
use Rattle.clap.specs.Words.{app_of, new_app}
use Rattle.clap.specs.declared.builder.command.Command.TheViews.{out-Command}
use Rattle.book_desk_words.specs.Arguments.{with_arguments}
use Rattle.book_desk_words.proofs.programs.command.Given as goal

-- those so far are added, and none is global
abbrev pub invariant-loop-word : goal.invariant-loop-word
invariant-loop-word l =
    (app_of l.command ≡ with_arguments (new_app l.name) (take l.word-index l.arguments)) × ((out-Command l.command).has_globals ≡ false)
