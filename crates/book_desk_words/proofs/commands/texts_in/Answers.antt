use Rattle.std.proofs.Common.{◌∙◌, ap, Some}
use Rattle.clap.specs.Words.{found_of}
use Rattle.book_desk_words.proofs.Found.{raw_values-rows}
use Rattle.book_desk_words.proofs.commands.texts_in.Goals as goal

pub returns-in_ok-copies_of-in-Some : goal.returns-in_ok-copies_of-in-Some
returns-in_ok-copies_of-in-Some c =
    let got = rw c.in-Some.is at c.get_strs.ensures in
    ap Some c.in_ok-copies_of-in-Some.ensures ∙ got ∙ raw_values-rows (found_of c.args.found.now) c.args.id.now

pub returns-in-None : goal.returns-in-None
returns-in-None c =
    let got = rw c.in-None.is at c.get_strs.ensures in
    got ∙ raw_values-rows (found_of c.args.found.now) c.args.id.now
