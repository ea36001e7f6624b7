use Rattle.std.proofs.Common.{rules}
use Rattle.book_desk_words.proofs.Added.{argument_added}
use Rattle.book_desk_words.proofs.programs.command.Goals as goal

pub loop-word-preserved : goal.loop-word-preserved
loop-word-preserved c =
    argument_added _ c.args.arguments.now c.loop-word.word-index _ _ _ c.argument.result (search rules) c.loop-word.invariant
    c.in_ok-command.ensures c.argument.ensures.local c.argument.ensures.rule
