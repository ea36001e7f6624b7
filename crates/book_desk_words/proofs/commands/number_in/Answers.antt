use Rattle.std.specs.Str.Parse.{ParsesUnsigned, ExplainsUnsignedError, HasUnsignedDigitsIfOk}
use Rattle.clap.specs.Words.{found_of}
use Rattle.book_desk_words.proofs.Found.{number_read}
use Rattle.book_desk_words.proofs.Missing.{no_number}
use Rattle.book_desk_words.proofs.commands.number_in.Goals as goal

pub returns-clause-read : goal.returns-clause-read
returns-clause-read c = number_read _ (λ bs r. ParsesUnsigned 16 10 bs r × ExplainsUnsignedError 10 bs r × HasUnsignedDigitsIfOk bs r)
    (found_of c.args.found.now) c.args.id.now c.get_one.result c.get_one.ensures.none c.get_one.ensures.value (λ t x g. g.0)

pub returns-clause-none : goal.returns-clause-none
returns-clause-none c = no_number _ (λ bs r. ParsesUnsigned 16 10 bs r × ExplainsUnsignedError 10 bs r × HasUnsignedDigitsIfOk bs r)
    (found_of c.args.found.now) c.args.id.now c.get_one.result c.get_one.ensures.value (λ t x g. g.0)
