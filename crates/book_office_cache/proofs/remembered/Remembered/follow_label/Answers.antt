use Rattle.book_office_cache.proofs.OtherEdits.{book_labelled, card_labelled_in, group_labelled, groups_labelled, home_labelled, people_labelled, person_labelled, root_labelled}
use Rattle.book_office_cache.proofs.remembered.Remembered.follow_label.Goals as goal

pub returns-in-Root : goal.returns-in-Root
returns-in-Root c = λ o label remembers. rw c.in-Root.is (root_labelled c.args.self.now o remembers label)

pub returns-in-People : goal.returns-in-People
returns-in-People c = λ o label remembers. rw c.in-People.is (people_labelled c.args.self.now o remembers label)

pub returns-in-Groups : goal.returns-in-Groups
returns-in-Groups c = λ o label remembers. rw c.in-Groups.is (groups_labelled c.args.self.now o remembers label)

pub returns-in-Books : goal.returns-in-Books
returns-in-Books c = λ o label remembers. rw c.in-Books.is (home_labelled c.args.self.now o remembers label)

pub returns-in-Person : goal.returns-in-Person
returns-in-Person c = λ o label remembers. rw c.in-Person.is (person_labelled c.args.self.now o remembers c.new.result c.new.ensures c.in-Person.field-0 label)

pub returns-in-Group : goal.returns-in-Group
returns-in-Group c = λ o label remembers. rw c.in-Group.is (group_labelled c.args.self.now o remembers c.in-Group.field-0 label)

pub returns-in-Book : goal.returns-in-Book
returns-in-Book c = λ o label remembers. rw (c.in-Book.is, c.forget_book.ensures) (book_labelled c.args.self.now o remembers c.in-Book.book label)

pub returns-in-Card : goal.returns-in-Card
returns-in-Card c = λ o label remembers. rw (c.in-Card.is, c.remove.ensures.removed) (card_labelled_in c.args.self.now o remembers c.in-Card.book c.in-Card.field-1 label)
