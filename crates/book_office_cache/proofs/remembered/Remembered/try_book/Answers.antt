use Rattle.book_office_cache.proofs.Common.{◌≡◌, rules, ◌∙◌, level_at}
use Rattle.book_office_values.specs.declared.paths.Path.TheVariants as path
use Rattle.book_office_cache.proofs.Kept.{book_remembered}
use Rattle.book_office_cache.proofs.remembered.Remembered.try_book.Goals as goal

pub returns : goal.returns
returns c = λ o remembers is.
    let name : c.in_ok-name.name ≡ c.args.name.now = search rules in
    let level : c.in_ok-level.level ≡ level_at o (path.Book c.in_ok-name.name) = rw name (c.in_ok-level.ensures ∙ is) in
    rw c.in_ok-insert.ensures.ok (book_remembered c.args.self.now o remembers c.in_ok-name.name c.in_ok-level.level level)
