use Rattle.book_office.proofs.Common.{ap, ◌∙◌, changed_if, card_labelled, at_some}
use Rattle.book_office.proofs.setting.replace_label.Goals as goal

pub returns-in-Some : goal.returns-in-Some
returns-in-Some c =
    at_some c.get_mut.result _ c.in-Some.is (c.get_mut.follows.holds _)
    ∙ ap (changed_if (card_labelled c.args.label) c.args.cards.now c.args.name.now) c.in-Some.ensures.value
