use Rattle.book_office_values.proofs.Common.{◌≡◌, filter, nat_lt, ap, ◌∙◌, subst, entries, Numbers}
use Rattle.std.proofs.Common.{IfOk}
use Rattle.book_office_values.specs.Changes.{by_number, first_of}
use Rattle.book_office_values.proofs.Indexes.{names_are}
use Rattle.book_office_values.proofs.collections.changes.Changes.after.Goals as goal

pub returns : goal.returns
returns c =
    subst (λ names. IfOk c.after.result (λ changes. changes ≡ first_of c.args.at_most (filter (λ e. nat_lt c.args.number e.0) (entries names))))
    (names_are c.self.inside.numbers.last c.self.inside.names c.self.invariant.inverse
    ∙ ap (λ (n : Numbers). by_number n.last) c.self.view_is) c.after.ensures
