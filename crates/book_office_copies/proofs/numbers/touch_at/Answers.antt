use Rattle.std.proofs.Common.{◌≡◌, ◌+◌, ◌-◌, max, ap, ◌∙◌, arith}
use Rattle.std.proofs.lemmas.Result.{on_ok_weaker}
use Rattle.std.specs.FinMap.{insert}
use Rattle.book_office_values.specs.Changes.{touched}
use Rattle.book_office_copies.specs.Copies.{numbered}
use Rattle.book_office_copies.proofs.numbers.touch_at.Goals as goal

pub returns : goal.returns
returns c =
    let last = c.args.numbers.now.last in
    let first = c.args.numbers.now.number in
    let n = c.args.number in
    let name = c.args.name.now in
    let next : max first (n - 1) + 1 ≡ n = omega (arith, c.requires) in
    on_ok_weaker c.touch.result (λ touched_so. touched_so ∙ ap (λ m. touched m name) c.raise.ensures ∙ ap (λ k. numbered k (insert last name k)) next) c.touch.ensures.ok
