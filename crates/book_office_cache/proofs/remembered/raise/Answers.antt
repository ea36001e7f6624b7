use Rattle.book_office_cache.proofs.Common.{ap, ◌∙◌}
use Rattle.book_office_cache.specs.Remembering.{with_next_number}
use Rattle.book_office_values.specs.Names.{changed_if}
use Rattle.book_office_values.proofs.NameMapLaws.{at_some}
use Rattle.book_office_cache.proofs.remembered.raise.Goals as goal

pub returns-in-Some : goal.returns-in-Some
returns-in-Some c =
    at_some c.get_mut.result _ c.in-Some.is (c.get_mut.follows.holds _)
    ∙ ap (changed_if with_next_number c.args.nodes.now c.args.name.now) c.in-Some.ensures.value
