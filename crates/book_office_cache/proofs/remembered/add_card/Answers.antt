use Rattle.book_office_cache.proofs.Common.{ap, ◌∙◌}
use Rattle.book_office_cache.specs.Remembering.{one_card_more}
use Rattle.book_office_values.specs.Names.{changed_if}
use Rattle.book_office_values.proofs.NameMapLaws.{at_some}
use Rattle.book_office_cache.proofs.remembered.add_card.Goals as goal

pub returns-in-Some : goal.returns-in-Some
returns-in-Some c =
    at_some c.get_mut.result _ c.in-Some.is (c.get_mut.follows.holds _)
    ∙ ap (changed_if one_card_more c.args.counts.now c.args.book.now) c.in-Some.ensures.value
