use Rattle.book_office_values.proofs.Common.{◌≡◌, [], ap, ◌∙◌, subst, filter, nat_lt, entries}
use Rattle.std.proofs.Common.{IfOk}
use Rattle.std.specs.FinMap.{empty}
use Rattle.book_office_values.specs.Changes.{NumberedNames, first_of}
use Rattle.book_office_values.proofs.CardChanges.{entered, entered_after}
use Rattle.book_office_values.proofs.offices.Book.changes_by_card.Goals as goal

pub returns : goal.returns
returns c =
    let over : c.loop-name.name-iterator ≡ [] = c.in-None.ensures.steps.0 in
    let last = c.args.self.now.changes.last in
    let number = c.args.number in
    let cards = entries c.args.self.now.cards in
    let whole : c.loop-name.names ≡ entered last number cards empty =
    subst (λ es. entered last number es c.loop-name.names ≡ entered last number cards empty) over c.loop-name.invariant.parts in
    subst (λ changes. IfOk c.after.result (λ told. told ≡ first_of c.args.at_most changes))
    (ap (λ (names : NumberedNames). filter (λ e. nat_lt number e.0) (entries names)) whole
    ∙ entered_after c.args.self.now.changes c.known.ensures number c.args.self.now.cards) c.after.ensures
