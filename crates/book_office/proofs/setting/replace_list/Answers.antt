use Rattle.book_office.proofs.Common.{ap, ◌∙◌, changed_if, listed_card, at_some}
use Rattle.book_office.proofs.setting.replace_list.Goals as goal

pub returns-in-Some : goal.returns-in-Some
returns-in-Some c =
    at_some c.get_mut.result _ c.in-Some.is (c.get_mut.follows.holds _)
    ∙ ap (changed_if (listed_card c.args.own) c.args.cards.now c.args.name.now) c.in-Some.ensures.value
