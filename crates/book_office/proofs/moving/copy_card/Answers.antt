use Rattle.book_office.proofs.Common.{rules, ◌≡◌, None, Some, sym, ◌∙◌, on_ok_weaker, on_err_weaker, copy_from, card_at, StoredCard, at_some}
use Rattle.book_office.proofs.OfficeEdits.{edited, kept}
use Rattle.book_office.proofs.MovedCards.{copied_nothing, copy_is}
use Rattle.book_office.proofs.moving.copy_card.Goals as goal

pub returns-in_default-clause-ok : goal.returns-in_default-clause-ok
returns-in_default-clause-ok c = λ _.
    let none : card_at c.args.office.now c.args.from_book.now c.args.from_card.now ≡ None = search rules in
    sym (copied_nothing c.args.office.now c.args.to_book.now c.args.to_card.now c.args.owner.now (card_at c.args.office.now c.args.from_book.now c.args.from_card.now) none)

pub returns-in-Some-get_mut-clause-ok : goal.returns-in-Some-get_mut-clause-ok
returns-in-Some-get_mut-clause-ok c =
    let found : (source : StoredCard) × (card_at c.args.office.now c.args.from_book.now c.args.from_card.now ≡ Some source) × (c.in-Some.label ≡ source.label) × (c.in-Some.text ≡ source.text) = search rules in
    on_ok_weaker c.put_copy.result (λ e _.
    edited c.args.office.now c.args.to_book.now (copy_from (card_at c.args.office.now c.args.from_book.now c.args.from_card.now) c.args.to_card.now c.args.owner.now)
    c.in-Some-get_mut.book.now c.put_copy.new.book (c.get_mut.follows.lender c.put_copy.new.book) c.in-Some-get_mut.ensures.value
    (at_some c.get_mut.result _ c.in-Some-get_mut.is (c.get_mut.follows.holds c.put_copy.new.book))
    (e ∙ copy_is (card_at c.args.office.now c.args.from_book.now c.args.from_card.now) c.args.to_card.now c.args.owner.now c.in-Some.label c.in-Some.text c.in-Some-get_mut.book.now found))
    c.put_copy.ensures.ok

pub returns-in-Some-get_mut-clause-err : goal.returns-in-Some-get_mut-clause-err
returns-in-Some-get_mut-clause-err c = on_err_weaker c.put_copy.result
    (kept c.args.office.now c.args.to_book.now
    c.in-Some-get_mut.book.now c.put_copy.new.book (c.get_mut.follows.lender c.put_copy.new.book) c.in-Some-get_mut.ensures.value
    (at_some c.get_mut.result _ c.in-Some-get_mut.is (c.get_mut.follows.holds c.put_copy.new.book)))
    c.put_copy.ensures.err
