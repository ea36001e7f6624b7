use Rattle.book_office.proofs.Common.{◌≡◌, refl, ap, ◌∙◌, rules, insert, remove}
use Rattle.book_office_values.proofs.NameMapLaws.{undone}
use Rattle.book_office.proofs.changing.add_card.Goals as goal

pub returns-in-Err-clause-err : goal.returns-in-Err-clause-err
returns-in-Err-clause-err c =
    let key : c.in_ok-key.key ≡ c.args.name.now = search rules in
    let back : c.remove.new.self ≡ c.args.book.now.cards =
    c.remove.ensures.removed ∙ ap (λ m. remove m c.args.name.now) (c.in_ok-insert.ensures.ok ∙ ap (λ k. insert c.args.book.now.cards k c.args.card) key)
    ∙ undone c.args.book.now.cards c.args.name.now c.args.card c.requires.free in
    rw (c.in-Err.ensures.err, back) refl
