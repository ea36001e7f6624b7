use Rattle.book_tables.proofs.Common.{◌≡◌, Option, ap, state, Inside, Office, inside_of, Properties, Lists, Node, lists_at, node_at}
use Rattle.book_office_values.specs.declared.paths.Path.TheVariants as path
use Rattle.book_tables.proofs.Readings.{then_tells}
use Rattle.book_tables.proofs.bare_office.read_root.Goals as goal

pub returns-clause-reads : goal.returns-clause-reads
returns-clause-reads g c =
    let old : Inside = inside_of (state g.S.Store c.args.transaction.now.conn.now) c.args.failures.now in
    let new : Inside = inside_of (state g.S.Store c.find_root.new.transaction.conn.now) c.find_root.new.failures in
    then_tells old new c.in_ok-found.found (λ (o : Office) (found : Option Node × Lists). found ≡ (node_at o path.Root, lists_at o path.Root)) c.in_ok-found.ensures.reads
    c.in-Some.root (λ (o : Office) (root : Properties). root ≡ o.root)
    (λ o e. c.in-Some.ensures o (ap (λ (found : Option Node × Lists). found.0) e) (ap (λ (found : Option Node × Lists). found.1) e))
