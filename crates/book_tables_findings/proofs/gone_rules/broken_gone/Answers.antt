use Rattle.book_tables_findings.proofs.Common.{◌≡◌, rules}
use Rattle.book_tables_opening.specs.Opening.{IsGoneRow}
use Rattle.book_tables_findings.specs.Findings.{BreaksGone}
use Rattle.book_tables_findings.specs.Names.{gone_row_name}
use Rattle.book_tables_findings.proofs.FirstRows.{first_at}
use Rattle.book_tables_findings.proofs.gone_rules.broken_gone.Goals as goal

pub returns-in-Some-clause-found : goal.returns-in-Some-clause-found
returns-in-Some-clause-found c =
    let nodes = c.args.directory.now in
    let row = c.row-item.result in
    let broken : BreaksGone nodes row c.in-Some.rule = search rules in
    let named : c.in_ok-name.name ≡ gone_row_name row = search rules in
    first_at gone_row_name (IsGoneRow nodes) (λ row. BreaksGone nodes row c.in-Some.rule) c.args.gone.now c.in_ok-name.name c.loop-row.row-index row c.loop-row-test.true c.row-item.is c.loop-row.invariant named broken
