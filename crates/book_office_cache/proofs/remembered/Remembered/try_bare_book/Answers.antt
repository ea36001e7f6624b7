use Rattle.book_office_cache.proofs.Common.{◌≡◌, rules, AreAllBare}
use Rattle.book_office_cache.proofs.Kept.{bare_book_remembered}
use Rattle.book_office_cache.proofs.remembered.Remembered.try_bare_book.Goals as goal

pub returns : goal.returns
returns c = λ o remembers are.
    let name : c.in_ok-name.name ≡ c.args.book.now = search rules in
    let there : AreAllBare o c.in_ok-name.name = rw name are in
    rw c.in_ok-insert.ensures.ok (bare_book_remembered c.args.self.now o remembers c.in_ok-name.name tt there)
