use Rattle.book_office.proofs.Common.{◌≤◌, refl, sym, arith, on_ok_weaker, on_err_weaker, LAST_NUMBER, put_card, remove_card, at_some}
use Rattle.book_office.proofs.OfficeEdits.{edited, kept}
use Rattle.book_office.proofs.StayingPairs.{list_pairs, pairs_either}
use Rattle.book_office.specs.Edits.{add_book, set_list}
use Rattle.book_office.proofs.changing.act.Goals as goal

pub returns-in-Some-clause-ok : goal.returns-in-Some-clause-ok
returns-in-Some-clause-ok c = rw c.in-PutCard.is (on_ok_weaker c.put_card.result
    (λ e _ _. edited c.args.office.now c.in-PutCard.book (put_card c.in-PutCard.card c.in-PutCard.owner c.in-PutCard.text)
    c.in-Some.book.now c.put_card.new.book (c.get_mut.follows.lender c.put_card.new.book) c.in-Some.ensures.value
    (at_some c.get_mut.result _ c.in-Some.is (c.get_mut.follows.holds c.put_card.new.book)) e)
    c.put_card.ensures.ok)

pub returns-in-Some-clause-err : goal.returns-in-Some-clause-err
returns-in-Some-clause-err c = on_err_weaker c.put_card.result
    (kept c.args.office.now c.in-PutCard.book
    c.in-Some.book.now c.put_card.new.book (c.get_mut.follows.lender c.put_card.new.book) c.in-Some.ensures.value
    (at_some c.get_mut.result _ c.in-Some.is (c.get_mut.follows.holds c.put_card.new.book)))
    c.put_card.ensures.err

pub returns-in-Some-get_mut-clause-ok : goal.returns-in-Some-get_mut-clause-ok
returns-in-Some-get_mut-clause-ok c = rw c.in-RemoveCard.is (on_ok_weaker c.remove_card.result
    (λ e _ _. edited c.args.office.now c.in-RemoveCard.book (remove_card c.in-RemoveCard.card)
    c.in-Some-get_mut.book.now c.remove_card.new.book (c.get_mut-in-RemoveCard.follows.lender c.remove_card.new.book) c.in-Some-get_mut.ensures.value
    (at_some c.get_mut-in-RemoveCard.result _ c.in-Some-get_mut.is (c.get_mut-in-RemoveCard.follows.holds c.remove_card.new.book)) e)
    c.remove_card.ensures.ok)

pub returns-in-Some-get_mut-clause-err : goal.returns-in-Some-get_mut-clause-err
returns-in-Some-get_mut-clause-err c = on_err_weaker c.remove_card.result
    (kept c.args.office.now c.in-RemoveCard.book
    c.in-Some-get_mut.book.now c.remove_card.new.book (c.get_mut-in-RemoveCard.follows.lender c.remove_card.new.book) c.in-Some-get_mut.ensures.value
    (at_some c.get_mut-in-RemoveCard.result _ c.in-Some-get_mut.is (c.get_mut-in-RemoveCard.follows.holds c.remove_card.new.book)))
    c.remove_card.ensures.err

-- a sound Office has no book whose number is beyond its limit
pub returns-in_default-clause-ok : goal.returns-in_default-clause-ok
returns-in_default-clause-ok c = λ sound _.
    let low : c.in-Some.book.now.changes.number ≤ LAST_NUMBER = (sound.books c.in-PutCard.book c.in-Some.book.now (sym c.in-Some.ensures.value)).1.last in
    absurd (omega (arith, low))

pub returns-in_default-get_mut-clause-ok : goal.returns-in_default-get_mut-clause-ok
returns-in_default-get_mut-clause-ok c = λ sound _.
    let low : c.in-Some-get_mut.book.now.changes.number ≤ LAST_NUMBER = (sound.books c.in-RemoveCard.book c.in-Some-get_mut.book.now (sym c.in-Some-get_mut.ensures.value)).1.last in
    absurd (omega (arith, low))

pub returns-in-CopyCard-clause-ok : goal.returns-in-CopyCard-clause-ok
returns-in-CopyCard-clause-ok c = rw c.in-CopyCard.is (on_ok_weaker c.copy_card.result
    (λ h sound _. h (λ name book at. (sound.books name book at).1.last))
    c.copy_card.ensures.ok)

pub returns-in-MoveCard-clause-ok : goal.returns-in-MoveCard-clause-ok
returns-in-MoveCard-clause-ok c = rw c.in-MoveCard.is (on_ok_weaker c.move_card.result
    (λ h sound possible. h (λ name book at. (sound.books name book at).1.last) possible.0 possible.1 possible.2)
    c.move_card.ensures.ok)

pub returns-in-SetLabel-clause-ok : goal.returns-in-SetLabel-clause-ok
returns-in-SetLabel-clause-ok c = rw c.in-SetLabel.is (on_ok_weaker c.set_label.result
    (λ h sound _. h (λ name book at. (sound.books name book at).1.last))
    c.set_label.ensures.ok)

pub returns-in-AddBook-clause-pairs : goal.returns-in-AddBook-clause-pairs
returns-in-AddBook-clause-pairs c = λ _.
    pairs_either c.add_book.result c.args.office.now c.add_book.new.office (add_book c.in-AddBook.book c.in-AddBook.owner c.args.office.now)
    c.add_book.ensures.ok c.add_book.ensures.err refl

pub returns-in-SetList-clause-pairs : goal.returns-in-SetList-clause-pairs
returns-in-SetList-clause-pairs c = λ _.
    pairs_either c.set_list.result c.args.office.now c.set_list.new.office (set_list c.in-SetList.path c.in-SetList.entries c.args.office.now)
    c.set_list.ensures.ok c.set_list.ensures.err (list_pairs c.in-SetList.path c.in-SetList.entries c.args.office.now)
