use Rattle.book_office_sync.proofs.Common.{rules, ◌≡◌, ◌∙◌, ap, subst}
use Rattle.book_office.specs.Levels.{lists_at}
use Rattle.book_office_values.specs.declared.paths.Path.TheVariants as path
use Rattle.book_office_sync.specs.Sifting.{IsAboveOf}
use Rattle.book_office_sync.proofs.reports.above_cards.Goals as goal

pub returns : goal.returns
returns g c =
    let read = c.in_ok-lists.ensures in
    let same : c.in_ok-clone.field-0 ≡ c.args.book.now = search rules in
    record {
      was_honest = read.was_honest;
      falls = read.falls;
      value = λ h o stands.
          let lists = read.value h o stands ∙ ap (λ b. lists_at o (path.Book b)) same in
          subst (λ l. IsAboveOf c.args.circle.now l c.in_ok-join_levels.field-0) (λ i. (lists i).levels) c.in_ok-join_levels.ensures;
      kept = read.kept;
      left = read.left;
      counted = read.counted;
    }
