use Rattle.book_office_cache.proofs.Common.{◌≡◌, rules}
use Rattle.book_lists.specs.Callers.{IsCircle}
use Rattle.book_lists.specs.Principals.{person_path}
use Rattle.book_lists.specs.declared.circles.Caller.TheVariants.{Known}
use Rattle.book_office_cache.proofs.Kept.{circle_remembered}
use Rattle.book_office_cache.proofs.remembered.Remembered.try_circle.Goals as goal

pub returns : goal.returns
returns c = λ o remembers is.
    let name : c.in_ok-name.name ≡ c.args.name.now = search rules in
    let circle : c.in_ok-circle.circle ≡ c.args.circle.now = search rules in
    let there : IsCircle o.pairs (Known (person_path c.in_ok-name.name)) c.in_ok-circle.circle = rw (name, circle) is in
    rw c.in_ok-insert.ensures.ok (circle_remembered c.args.self.now o remembers c.in_ok-name.name c.in_ok-circle.circle there)
