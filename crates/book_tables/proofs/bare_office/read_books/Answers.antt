use Rattle.book_tables.proofs.Common.{◌≡◌, List, map, ap, ◌∙◌, empty, entries, state, Inside, Office, inside_of, NamesTo, Book, bare_books, Listed, added, book_told}
use Rattle.book_office.specs.Resources.{listed_books}
use Rattle.book_tables.proofs.Listings.{books_told}
use Rattle.book_tables.proofs.Readings.{then_tells}
use Rattle.book_tables.proofs.bare_office.read_books.Goals as goal

pub returns-clause-reads : goal.returns-clause-reads
returns-clause-reads g c =
    let old : Inside = inside_of (state g.S.Store c.args.transaction.now.conn.now) c.args.failures.now in
    let new : Inside = inside_of (state g.S.Store c.children.new.transaction.conn.now) c.children.new.failures in
    then_tells old new c.in_ok-listed.listed (λ (o : Office) (listed : List Listed). listed ≡ listed_books (entries o.books)) c.in_ok-listed.ensures.reads
    c.in_ok-books_of.field-0 (λ (o : Office) (books : NamesTo Book). books ≡ bare_books o.books)
    (λ o e. c.in_ok-books_of.ensures ∙ ap (λ (listed : List Listed). added empty (map book_told listed)) e ∙ books_told o.books)
