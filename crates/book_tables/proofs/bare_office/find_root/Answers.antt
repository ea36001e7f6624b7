use Rattle.book_tables.proofs.Common.{◌≡◌, Option, state, Inside, Office, Lists, Node, lists_at, node_at, inside_of}
use Rattle.book_office_values.specs.declared.paths.Path.TheVariants as path
use Rattle.book_tables.proofs.Readings.{then_tells, then_reads, then_fails}
use Rattle.book_tables.proofs.bare_office.find_root.Goals as goal

pub returns-in-Err-clause-reads : goal.returns-in-Err-clause-reads
returns-in-Err-clause-reads g c =
    let old : Inside = inside_of (state g.S.Store c.args.transaction.now.conn.now) c.args.failures.now in
    let mid : Inside = inside_of (state g.S.Store c.find.new.transaction.conn.now) c.find.new.failures in
    let new : Inside = inside_of (state g.S.Store c.lists.new.transaction.conn.now) c.lists.new.failures in
    then_fails old mid c.in_ok-node.node (λ (o : Office) (node : Option Node). node ≡ node_at o path.Root) c.in_ok-node.ensures.reads
    new c.in-Err.fault (λ (o : Office) (lists : Lists). lists ≡ lists_at o path.Root)
    (λ (o : Office) (found : Option Node × Lists). found ≡ (node_at o path.Root, lists_at o path.Root)) c.in-Err.ensures.reads

pub returns-clause-reads : goal.returns-clause-reads
returns-clause-reads g c =
    let old : Inside = inside_of (state g.S.Store c.args.transaction.now.conn.now) c.args.failures.now in
    let mid : Inside = inside_of (state g.S.Store c.find.new.transaction.conn.now) c.find.new.failures in
    let new : Inside = inside_of (state g.S.Store c.lists.new.transaction.conn.now) c.lists.new.failures in
    let T : Office → Option Node → Type 0 = λ o node. node ≡ node_at o path.Root in
    let U : Office → Lists → Type 0 = λ o lists. lists ≡ lists_at o path.Root in
    then_tells old new (c.in_ok-node.node, c.in-Ok.lists) (λ o both. T o both.0 × U o both.1)
    (then_reads old mid c.in_ok-node.node T c.in_ok-node.ensures.reads new c.in-Ok.lists U c.in-Ok.ensures.reads)
    (c.in_ok-node.node, c.in-Ok.lists) (λ (o : Office) (found : Option Node × Lists). found ≡ (node_at o path.Root, lists_at o path.Root))
    (λ o both. λ i. (both.0 i, both.1 i))
