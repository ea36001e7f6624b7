use Rattle.book_office_cache.proofs.OtherEdits.{book_listed, card_listed, group_listed, groups_listed, home_listed, people_listed, person_listed, root_listed}
use Rattle.book_office_cache.proofs.remembered.Remembered.follow_list.Goals as goal

pub returns-in-Root : goal.returns-in-Root
returns-in-Root c = λ o list remembers. rw c.in-Root.is (root_listed c.args.self.now o remembers list)

pub returns-in-People : goal.returns-in-People
returns-in-People c = λ o list remembers. rw c.in-People.is (people_listed c.args.self.now o remembers list)

pub returns-in-Groups : goal.returns-in-Groups
returns-in-Groups c = λ o list remembers. rw c.in-Groups.is (groups_listed c.args.self.now o remembers list)

pub returns-in-Books : goal.returns-in-Books
returns-in-Books c = λ o list remembers. rw c.in-Books.is (home_listed c.args.self.now o remembers list)

pub returns-in-Person : goal.returns-in-Person
returns-in-Person c = λ o list remembers. rw c.in-Person.is (person_listed c.args.self.now o remembers c.new.result c.new.ensures c.in-Person.field-0 list)

pub returns-in-Group : goal.returns-in-Group
returns-in-Group c = λ o list remembers. rw c.in-Group.is (group_listed c.args.self.now o remembers c.in-Group.field-0 list)

pub returns-in-Book : goal.returns-in-Book
returns-in-Book c = λ o list remembers. rw (c.in-Book.is, c.forget_book.ensures) (book_listed c.args.self.now o remembers c.in-Book.book list)

pub returns-in-Card : goal.returns-in-Card
returns-in-Card c = λ o list remembers. rw (c.in-Card.is, c.forget_bare_of.ensures) (card_listed c.args.self.now o remembers c.in-Card.book c.in-Card.field-1 list)
