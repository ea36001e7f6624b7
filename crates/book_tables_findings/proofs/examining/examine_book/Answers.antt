use Rattle.book_tables_findings.proofs.Common.{◌≡◌, rules, ap, arith, subst, sym, state, HasCleanDisk}
use Rattle.std.proofs.Common.{◌≤◌}
use Rattle.sqlite_trees.specs.View.{doubt}
use Rattle.book_tables_findings.proofs.Examined.{book_told}
use Rattle.book_tables_findings.proofs.examining.examine_book.Goals as goal

pub returns-clause-told : goal.returns-clause-told
returns-clause-told g c clean =
    let survived : doubt (state g.S.Store c.find_fault.new.transaction.conn.now).is_clean ≤ doubt (state g.S.Store c.drop-transaction.new.self.0).is_clean = c.drop-transaction.ensures.survives.clean in
    let same : c.drop-transaction.new.self.0 ≡ c.connection-1.given.0 = search rules in
    let dropped : HasCleanDisk (state g.S.Store c.drop-transaction.new.self.0) = subst (λ s. HasCleanDisk (state g.S.Store s)) (sym same) clean in
    let read : HasCleanDisk (state g.S.Store c.find_fault.new.transaction.conn.now) = omega (arith, survived, dropped) in
    book_told (state g.S.Store c.args.connection.now) (state g.S.Store c.transaction-transaction.result.conn.now)
    (ap (state g.S.Store) c.transaction-transaction.ensures.begun) c.requires c.find_fault.result (c.find_fault.ensures.told read)
