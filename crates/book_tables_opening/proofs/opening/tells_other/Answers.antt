use Rattle.book_tables_opening.proofs.Common.{rules, ◌≡◌, ◌≤◌, ap, sym, subst, arith, state, HasCleanDisk}
use Rattle.sqlite_trees.specs.View.{doubt}
use Rattle.book_tables_opening.proofs.SaidVersions.{version_told}
use Rattle.book_tables_opening.proofs.opening.tells_other.Goals as goal

pub returns-clause-told : goal.returns-clause-told
returns-clause-told g c clean =
    let survived : doubt (state g.S.Store c.says_other_version.new.transaction.conn.now).is_clean ≤ doubt (state g.S.Store c.drop-transaction.new.self.0).is_clean = c.drop-transaction.ensures.survives.clean in
    let same : c.drop-transaction.new.self.0 ≡ c.connection-1.given.0 = search rules in
    let dropped : HasCleanDisk (state g.S.Store c.drop-transaction.new.self.0) = subst (λ s. HasCleanDisk (state g.S.Store s)) (sym same) clean in
    let read : HasCleanDisk (state g.S.Store c.says_other_version.new.transaction.conn.now) = omega (arith, survived, dropped) in
    version_told c.args.version (state g.S.Store c.args.connection.now) (state g.S.Store c.transaction-transaction.result.conn.now) (state g.S.Store c.says_other_version.new.transaction.conn.now)
    (ap (state g.S.Store) c.transaction-transaction.ensures.begun) c.says_other_version.result (c.says_other_version.ensures.told read)
