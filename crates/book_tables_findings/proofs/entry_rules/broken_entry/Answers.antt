use Rattle.book_tables_findings.proofs.Common.{◌≡◌, rules}
use Rattle.book_tables_opening.specs.Opening.{IsEntryRow}
use Rattle.book_tables_findings.specs.Findings.{BreaksEntry}
use Rattle.book_tables_findings.specs.Names.{entry_name}
use Rattle.book_tables_findings.proofs.FirstRows.{first_at}
use Rattle.book_tables_findings.proofs.entry_rules.broken_entry.Goals as goal

pub returns-in-Some-clause-found : goal.returns-in-Some-clause-found
returns-in-Some-clause-found c =
    let nodes = c.args.directory.now in
    let row = c.row-item.result in
    let broken : BreaksEntry nodes row c.in-Some.rule = search rules in
    let named : c.in_ok-name.name ≡ entry_name row = search rules in
    first_at entry_name (IsEntryRow nodes) (λ row. BreaksEntry nodes row c.in-Some.rule) c.args.entries.now c.in_ok-name.name c.loop-row.row-index row c.loop-row-test.true c.row-item.is c.loop-row.invariant named broken
