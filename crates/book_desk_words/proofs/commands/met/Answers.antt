use Rattle.std.proofs.Common.{◌∙◌}
use Rattle.clap.specs.Words.{found_of, rows_of, subcommand_rows_of}
use Rattle.book_desk_words.proofs.Found.{named, pair_of}
use Rattle.book_desk_words.proofs.commands.met.Goals as goal

pub returns : goal.returns
returns c = pair_of (λ p. p.0.now) (λ p. rows_of (found_of p.1.now)) c.subcommand.result (subcommand_rows_of c.args.matches.now) (c.subcommand.ensures.name ∙ named c.args.matches.now) c.subcommand.ensures.rows
