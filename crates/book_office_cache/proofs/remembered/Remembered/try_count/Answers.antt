use Rattle.book_office_cache.proofs.Common.{◌≡◌, rules, count_at}
use Rattle.book_office_values.specs.declared.paths.Path.TheVariants as path
use Rattle.book_office_cache.proofs.Kept.{counted}
use Rattle.book_office_cache.proofs.remembered.Remembered.try_count.Goals as goal

pub returns : goal.returns
returns c = λ o remembers is.
    let name : c.in_ok-name.name ≡ c.args.book.now = search rules in
    let there : c.args.count ≡ count_at o (path.Book c.in_ok-name.name) = rw name is in
    rw c.in_ok-insert.ensures.ok (counted c.args.self.now o remembers c.in_ok-name.name c.args.count there)
