use Rattle.book_office_cache.proofs.Common.{Remembers}
use Rattle.book_office_cache.proofs.OtherEdits.{new_bare, remembers_added}
use Rattle.book_office.specs.Edits.{apply}
use Rattle.book_office.specs.declared.edits.Edit.TheVariants.{AddBook}
use Rattle.book_office_cache.proofs.remembered.Remembered.follow_new_book.Goals as goal

pub returns : goal.returns
returns c = λ o owner remembers.
    let before : Remembers c.forget_all_of.new.self (apply o (AddBook c.args.book.now owner)) = rw c.forget_all_of.ensures (remembers_added c.args.self.now o remembers c.args.book.now owner) in
    c.keep_bare_book.ensures (apply o (AddBook c.args.book.now owner)) before (new_bare o c.args.book.now owner)
