use Rattle.book_office_adopting.proofs.Common.{◌≡◌, rules, ap, ◌∙◌, empty, entries, fresh_book, bare_book, all_inserted}
use Rattle.book_office_adopting.proofs.TakenOver.{books_made}
use Rattle.book_office_adopting.proofs.adopting.books_under.Goals as goal

pub returns : goal.returns
returns c =
    let t = c.args.policy.now in
    let new : c.in_ok-books.books ≡ all_inserted (fresh_book t) empty (entries t.books) = search rules in
    let old : c.put_books.new.books ≡ all_inserted (bare_book t) c.in_ok-books.books (entries c.args.office.now.books) = search rules in
    old ∙ ap (λ m. all_inserted (bare_book t) m (entries c.args.office.now.books)) new ∙ books_made t c.args.office.now
