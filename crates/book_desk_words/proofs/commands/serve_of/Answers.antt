use Rattle.clap.specs.Words.{found_of, rows_of}
use Rattle.book_desk_words.proofs.Missing.{none_is, without_counts, without_places}
use Rattle.book_desk_words.proofs.commands.serve_of.Goals as goal

pub returns-in_default-clause-none : goal.returns-in_default-clause-none
returns-in_default-clause-none c = without_counts (rows_of (found_of c.args.found.now)) c.in_default.ensures.none

pub returns-in_default-2-clause-none : goal.returns-in_default-2-clause-none
returns-in_default-2-clause-none c = without_places (rows_of (found_of c.args.found.now)) (none_is c.in_ok-port.field-0 _ c.in_default-2.is c.in_ok-port.ensures.none)
