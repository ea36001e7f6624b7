use Rattle.book_office_adopting.proofs.Common.{ap, ◌∙◌}
use Rattle.book_office_values.specs.Names.{changed_if}
use Rattle.book_office_adopting.specs.TakingOver.{with_contents}
use Rattle.book_office_values.proofs.NameMapLaws.{at_some}
use Rattle.book_office_adopting.proofs.adopting.give_contents.Goals as goal

pub returns-in-Some : goal.returns-in-Some
returns-in-Some c =
    at_some c.get_mut.result _ c.in-Some.is (c.get_mut.follows.holds _)
    ∙ ap (changed_if (with_contents c.args.old) c.args.books.now c.args.name.now) c.in-Some.ensures.value
