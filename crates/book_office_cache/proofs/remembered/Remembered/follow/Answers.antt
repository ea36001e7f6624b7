use Rattle.book_office_cache.proofs.CardEdits.{put_remembers, remove_remembers, copy_remembers}
use Rattle.book_office_cache.proofs.OtherEdits.{members_remember, remembers_removed}
use Rattle.book_office.specs.Edits.{apply}
use Rattle.book_office_cache.proofs.remembered.Remembered.follow.Goals as goal

pub returns-in-PutCard : goal.returns-in-PutCard
returns-in-PutCard c = λ o remembers.
    rw c.in-PutCard.is (put_remembers c.args.self.now o remembers c.in-PutCard.book c.in-PutCard.card c.in-PutCard.owner c.in-PutCard.text c.count_change.new.nodes c.count_card.new.counts c.count_change.ensures c.count_card.ensures)

pub returns-in-RemoveCard : goal.returns-in-RemoveCard
returns-in-RemoveCard c = λ o remembers.
    rw c.in-RemoveCard.is (remove_remembers c.args.self.now o remembers c.in-RemoveCard.book c.in-RemoveCard.card c.count_change-in-RemoveCard.new.nodes c.count_change-in-RemoveCard.ensures)

pub returns-in-CopyCard : goal.returns-in-CopyCard
returns-in-CopyCard c = λ o remembers.
    rw (c.in-CopyCard.is, c.remove.ensures.removed)
    (copy_remembers c.args.self.now o remembers c.in-CopyCard.from_book c.in-CopyCard.from_card c.in-CopyCard.to_book c.in-CopyCard.to_card c.in-CopyCard.owner c.count_card-in-CopyCard.new.counts c.count_card-in-CopyCard.ensures)

pub returns-in-MoveCard : goal.returns-in-MoveCard
returns-in-MoveCard c = λ o remembers. rw c.in-MoveCard.is (c.follow_move.ensures o c.in-MoveCard.to_card remembers)

pub returns-in-AddBook : goal.returns-in-AddBook
returns-in-AddBook c = λ o remembers. rw c.in-AddBook.is (c.follow_new_book.ensures o c.in-AddBook.owner remembers)

pub returns-in-RemoveBook : goal.returns-in-RemoveBook
returns-in-RemoveBook c = λ o remembers. rw (c.in-RemoveBook.is, c.forget_all_of.ensures) (remembers_removed c.args.self.now o remembers c.in-RemoveBook.book)

pub returns-in-SetLabel : goal.returns-in-SetLabel
returns-in-SetLabel c = λ o remembers. rw c.in-SetLabel.is (c.follow_label.ensures o c.in-SetLabel.label remembers)

pub returns-in-SetList : goal.returns-in-SetList
returns-in-SetList c = λ o remembers. rw c.in-SetList.is (c.follow_list.ensures o c.in-SetList.entries remembers)

pub returns-in-SetMembers : goal.returns-in-SetMembers
returns-in-SetMembers c = λ o remembers. rw c.in-SetMembers.is (members_remember c.args.self.now o remembers c.new.result c.new.ensures c.in-SetMembers.group c.in-SetMembers.members)

pub returns-in-Adopt : goal.returns-in-Adopt
returns-in-Adopt c = λ o remembers. c.forget.ensures (apply o c.args.edit.now)
