use Rattle.std.proofs.Common.{◌∙◌, ap, Some}
use Rattle.clap.specs.Words.{found_of}
use Rattle.clap.proofs.WalkLemmas.{first_value-rows}
use Rattle.book_desk_words.proofs.commands.file_in.Goals as goal

pub returns-in_ok-from_str-in-Some : goal.returns-in_ok-from_str-in-Some
returns-in_ok-from_str-in-Some c =
    let got = rw c.in-Some.is at c.get_str.ensures in
    ap Some c.in_ok-from_str-in-Some.ensures.ok ∙ got ∙ first_value-rows (found_of c.args.found.now) c.args.id.now

pub returns-in-None : goal.returns-in-None
returns-in-None c =
    let got = rw c.in-None.is at c.get_str.ensures in
    got ∙ first_value-rows (found_of c.args.found.now) c.args.id.now
