use Rattle.book_office_values.proofs.Common.{◌≡◌, filter, nat_lt, ap, ◌∙◌, subst, get, entries, Numbers}
use Rattle.std.proofs.Common.{IfOk, is_some}
use Rattle.book_office_values.specs.Changes.{by_number, first_of}
use Rattle.book_office_values.proofs.Indexes.{names_are}
use Rattle.book_office_values.proofs.collections.changes.Changes.after_among.Goals as goal

pub returns : goal.returns
returns g c =
    subst (λ names. IfOk c.after_among.result (λ changes. changes ≡ first_of c.args.at_most (filter (λ e. is_some (get c.args.names.now e.1)) (filter (λ e. nat_lt c.args.number e.0) (entries names)))))
    (names_are c.self.inside.numbers.last c.self.inside.names c.self.invariant.inverse
    ∙ ap (λ (n : Numbers). by_number n.last) c.self.view_is) c.after_among.ensures
