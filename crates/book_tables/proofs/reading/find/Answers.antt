use Rattle.book_tables.proofs.Common.{rules, ◌≡◌, Option, state, HasCleanDisk, Office, path_text, Node, node_at}
use Rattle.book_tables.specs.Reading.{ShowsNode}
use Rattle.book_tables.proofs.Told.{read_made, read_failed, node_is}
use Rattle.book_tables.proofs.reading.find.Goals as goal

pub returns-in-Ok-clause-reads : goal.returns-in-Ok-clause-reads
returns-in-Ok-clause-reads g c =
    let old = state g.S.Store c.args.transaction.now.conn.now in
    let new = state g.S.Store c.shown_node.new.transaction.conn.now in
    let p = c.args.path.now in
    let text : c.as_str.result.now ≡ path_text p = search rules in
    let shows : HasCleanDisk new → ShowsNode old (path_text p) c.in-Ok.node = rw text at c.in-Ok.ensures.found in
    read_made old new c.shown_node.ensures.survives c.shown_node.ensures.kept c.args.failures.now c.in-Ok.node (λ (o : Office) (node : Option Node). node ≡ node_at o p) c.in-Ok.ensures.stays (λ h o stands. node_is old p c.known.ensures c.in-Ok.node (shows h) o stands)

pub returns-clause-reads : goal.returns-clause-reads
returns-clause-reads g c = read_failed _ _ c.shown_node.ensures.survives c.shown_node.ensures.kept c.args.failures.now _ _ c.fault_of.ensures _
