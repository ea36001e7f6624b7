use Rattle.std.proofs.Common.{◌∙◌, Option, ap, is_some}
use Rattle.clap.specs.Words.{Text, found_of}
use Rattle.clap.proofs.WalkLemmas.{first_value-rows}
use Rattle.book_desk_words.proofs.commands.is_given.Goals as goal

pub returns-in-Some : goal.returns-in-Some
returns-in-Some c =
    let got = rw c.in-Some.is at c.get_str.ensures in
    ap (λ (o : Option Text). is_some o) (got ∙ first_value-rows (found_of c.args.found.now) c.args.id.now)

pub returns-in-None : goal.returns-in-None
returns-in-None c =
    let got = rw c.in-None.is at c.get_str.ensures in
    ap (λ (o : Option Text). is_some o) (got ∙ first_value-rows (found_of c.args.found.now) c.args.id.now)
