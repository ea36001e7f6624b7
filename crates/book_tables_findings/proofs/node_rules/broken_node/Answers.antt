use Rattle.book_tables_findings.proofs.Common.{◌≡◌, rules, subst}
use Rattle.book_tables_opening.specs.Opening.{IsTextlessRow}
use Rattle.book_tables_findings.specs.Findings.{BreaksNode, IsFirst}
use Rattle.book_tables_findings.specs.Names.{node_name}
use Rattle.book_tables_findings.proofs.FirstRows.{first_at}
use Rattle.book_tables_findings.proofs.node_rules.broken_node.Goals as goal

pub returns-in-Some-clause-found : goal.returns-in-Some-clause-found
returns-in-Some-clause-found c =
    let nodes = c.args.directory.now in
    let row = c.row-item.result in
    let broken : BreaksNode nodes row c.in-Some.rule = search rules in
    let named : c.in_ok-name.name ≡ node_name row = search rules in
    subst (λ rows. IsFirst node_name (IsTextlessRow nodes) (λ row. BreaksNode nodes row c.in-Some.rule) rows c.in_ok-name.name) c.rows-rows.ensures
    (first_at node_name (IsTextlessRow nodes) (λ row. BreaksNode nodes row c.in-Some.rule) c.rows-rows.result.now c.in_ok-name.name c.loop-row.row-index row c.loop-row-test.true c.row-item.is c.loop-row.invariant named broken)
