use Rattle.book_tables_findings.proofs.Common.{◌≡◌, rules}
use Rattle.book_tables_opening.specs.Opening.{IsMemberRow}
use Rattle.book_tables_findings.specs.Findings.{BreaksMember}
use Rattle.book_tables_findings.specs.Names.{member_name}
use Rattle.book_tables_findings.proofs.FirstRows.{first_at}
use Rattle.book_tables_findings.proofs.member_rules.broken_member.Goals as goal

pub returns-in-Some-clause-found : goal.returns-in-Some-clause-found
returns-in-Some-clause-found c =
    let nodes = c.args.directory.now in
    let row = c.row-item.result in
    let broken : BreaksMember nodes row c.in-Some.rule = search rules in
    let named : c.in_ok-name.name ≡ member_name row = search rules in
    first_at member_name (IsMemberRow nodes) (λ row. BreaksMember nodes row c.in-Some.rule) c.args.members.now c.in_ok-name.name c.loop-row.row-index row c.loop-row-test.true c.row-item.is c.loop-row.invariant named broken
