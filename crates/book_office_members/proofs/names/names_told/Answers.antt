use Rattle.book_office_members.proofs.NamedEntries.{names_of_entries}
use Rattle.book_office_members.proofs.names.names_told.Goals as goal

pub returns : goal.returns
returns g c =
    let read = c.in_ok-names.ensures in
    record {
      was_honest = read.was_honest;
      falls = read.falls;
      value = λ h o stands. names_of_entries o c.args.circle.now c.args.book.now c.in_ok-names.names c.in_ok-named.field-0 (read.value h o stands) c.in_ok-named.ensures;
      kept = read.kept;
      left = read.left;
      counted = read.counted;
    }
