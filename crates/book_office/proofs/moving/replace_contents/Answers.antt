use Rattle.book_office.proofs.Common.{ap, ◌∙◌, at_some}
use Rattle.book_office_values.specs.Names.{changed_if}
use Rattle.book_office.specs.Moving.{relabelled}
use Rattle.book_office.proofs.moving.replace_contents.Goals as goal

pub returns-in-Some : goal.returns-in-Some
returns-in-Some c =
    at_some c.get_mut.result _ c.in-Some.is (c.get_mut.follows.holds _)
    ∙ ap (changed_if (relabelled c.args.label c.args.text) c.args.cards.now c.args.name.now) c.in-Some.ensures.value
