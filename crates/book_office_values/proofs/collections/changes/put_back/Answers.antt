use Rattle.book_office_values.proofs.Common.{ap, ◌∙◌, changed_if}
use Rattle.book_office_values.proofs.NameMapLaws.{at_some}
use Rattle.book_office_values.proofs.collections.changes.put_back.Goals as goal

pub returns-in-Some-get_mut : goal.returns-in-Some-get_mut
returns-in-Some-get_mut c =
    rw c.in-Some.is (at_some c.get_mut.result _ c.in-Some-get_mut.is (c.get_mut.follows.holds _)
    ∙ ap (changed_if (λ _. c.in-Some.number) c.args.last.now c.args.name.now) c.in-Some-get_mut.ensures.value)
