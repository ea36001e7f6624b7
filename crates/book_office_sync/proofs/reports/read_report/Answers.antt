use Rattle.book_office_sync.proofs.Common.{◌≡◌, ◌∙◌, sym, ap, Some, option_copied}
use Rattle.book_office_sync.specs.Limits.{told_report}
use Rattle.book_office_sync.proofs.ReadReports.{report_read}
use Rattle.book_office.proofs.Fallbacks.{then_falls}
use Rattle.book_office_sync.proofs.reports.read_report.Goals as goal

pub returns : goal.returns
returns g c =
    let first = c.in_ok-epoch.ensures in
    let second = c.in_ok-number.ensures in
    let third = c.in_ok-items.ensures in
    let same : c.in_ok-name.name ≡ c.args.book.now = c.in_ok-name.ensures.cases in
    record {
      was_honest = λ h. first.was_honest (second.was_honest (third.was_honest h));
      falls = then_falls first.falls (then_falls second.falls third.falls);
      value = λ h o stands.
          let h2 = third.was_honest h in
          let h1 = second.was_honest h2 in
          let o1 = first.kept h1 o stands in
          let o2 = second.kept h2 o o1 in
          let told = third.value h o o2 in
          ap Some c.cut_report.ensures
          ∙ ap (λ start. Some (told_report start c.args.limit c.in_ok-items.items (record { book = c.in_ok-name.name; epoch = c.in_ok-epoch.epoch; number = c.in-Some.number }))) c.start_of.ensures
          ∙ report_read o c.args.circle.now c.args.book.now (option_copied c.args.token) c.args.limit c.in_ok-name.name c.in_ok-epoch.epoch c.in-Some.number c.in_ok-items.items c.in_ok-number.field-0
          same (first.value h1 o stands) (second.value h2 o o1) c.in-Some.is (sym c.is_valid.ensures ∙ c.if-not-is_valid.false) (λ x at. told x at);
      kept = λ h o stands. third.kept h o (second.kept (third.was_honest h) o (first.kept (second.was_honest (third.was_honest h)) o stands));
      left = λ h x l. first.left (second.was_honest (third.was_honest h)) x (second.left (third.was_honest h) x (third.left h x l));
      counted = third.counted ∙ second.counted ∙ first.counted;
    }
