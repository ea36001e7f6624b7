use Rattle.book_tables_findings.proofs.Common.{List, IfSome, Row, subst}
use Rattle.book_tables_findings.specs.Findings.{BreaksRows}
use Rattle.book_tables_findings.proofs.finding.broken_rows.Goals as goal

pub returns-in-Some-clause-found : goal.returns-in-Some-clause-found
returns-in-Some-clause-found c =
    let nodes = c.args.directory.now in
    let entries = c.args.entries.now in
    let members = c.args.members.now in
    let gone = c.args.gone.now in
    subst (λ o. IfSome o (λ f. (meta : List Row) → BreaksRows nodes entries members gone meta f)) c.in-Some.is c.in_ok-finding.ensures.found c.args.meta.now
