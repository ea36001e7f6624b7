use Rattle.std.proofs.Common.{◌∙◌, ap}
use Rattle.clap.specs.Words.{found_of}
use Rattle.clap.proofs.WalkLemmas.{first_value-rows}
use Rattle.book_desk_words.specs.CommandLine.{is_given}
use Rattle.book_desk_words.proofs.commands.flag_in.Goals as goal

pub returns-in-Some : goal.returns-in-Some
returns-in-Some c =
    let got = rw c.in-Some.is at c.get_str.ensures in
    c.eq.ensures ∙ ap is_given (got ∙ first_value-rows (found_of c.args.found.now) c.args.id.now)

pub returns-in-None : goal.returns-in-None
returns-in-None c =
    let got = rw c.in-None.is at c.get_str.ensures in
    ap is_given (got ∙ first_value-rows (found_of c.args.found.now) c.args.id.now)
