use Rattle.book_office.proofs.Common.{ap, ◌∙◌, changed_if, at_some}
use Rattle.book_office.specs.Edits.{with_text}
use Rattle.book_office.proofs.changing.replace_text.Goals as goal

pub returns-in-Some : goal.returns-in-Some
returns-in-Some c =
    at_some c.get_mut.result _ c.in-Some.is (c.get_mut.follows.holds _)
    ∙ ap (changed_if (with_text c.args.text) c.args.cards.now c.args.name.now) c.in-Some.ensures.value
