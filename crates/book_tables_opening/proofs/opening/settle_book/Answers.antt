use Rattle.book_tables_opening.proofs.Common.{◌≡◌, ◌≤◌, true, Some, None, IsTrue, rules, arith, sym, ap, subst, State, state, HasCleanDisk}
use Rattle.sqlite_trees.specs.View.{doubt}
use Rattle.book_tables_rows.specs.Steps.{Stays}
use Rattle.book_tables_opening.specs.Reading.{Commits, RowsRise, Settled, TellsOffice}
use Rattle.book_tables_opening.proofs.SettledStores.{book_none, book_settled, committed_by, leaves_settled}
use Rattle.book_tables_opening.proofs.opening.settle_book.Goals as goal

pub returns-clause-told : goal.returns-clause-told
returns-clause-told g c clean =
    let old = state g.S.Store c.args.connection.now in
    let begun = state g.S.Store c.transaction-transaction.result.conn.now in
    let inner = state g.S.Store c.settle_office.new.transaction.conn.now in
    let new = state g.S.Store c.commit.new.self.0 in
    let is : begun ≡ record old { in_transaction = true } = ap (state g.S.Store) c.transaction-transaction.ensures.begun in
    let same : c.commit.new.self.0 ≡ c.connection-2-1.given.0 = search rules in
    let clean_new : HasCleanDisk new = subst (λ s. HasCleanDisk (state g.S.Store s)) (sym same) clean in
    let survived : doubt inner.is_clean ≤ doubt new.is_clean = c.commit.ensures.survives.clean in
    let clean_inner : HasCleanDisk inner = omega (arith, survived, clean_new) in
    let inside : IsTrue begun.in_transaction = ap (λ (s : State). s.in_transaction) is in
    subst (λ s. Commits old (state g.S.Store s)) same
    (committed_by old inner new (book_settled old begun is c.requires inner c.in-Some._written (subst (TellsOffice begun inner) c.in-Some.is (c.in_ok-_written.ensures.told clean_inner inside))) (c.in_ok-commit.ensures.ok clean_new).1)

pub returns-in_err-commit-clause-left : goal.returns-in_err-commit-clause-left
returns-in_err-commit-clause-left g c =
    let old = state g.S.Store c.args.connection.now in
    let begun = state g.S.Store c.transaction-transaction.result.conn.now in
    let inner = state g.S.Store c.settle_office.new.transaction.conn.now in
    let is : begun ≡ record old { in_transaction = true } = ap (state g.S.Store) c.transaction-transaction.ensures.begun in
    let made : HasCleanDisk inner → IsTrue begun.in_transaction → RowsRise old.now → Settled old.now inner.now = λ clean inside.
    book_settled old begun is c.requires inner c.in-Some._written (subst (TellsOffice begun inner) c.in-Some.is (c.in_ok-_written.ensures.told clean inside)) in
    let left = leaves_settled old begun inner _ is c.settle_office.ensures.survives made c.commit.ensures.survives in
    search (rules, left)

pub returns-clause-left : goal.returns-clause-left
returns-clause-left g c =
    let old = state g.S.Store c.args.connection.now in
    let begun = state g.S.Store c.transaction-transaction.result.conn.now in
    let inner = state g.S.Store c.settle_office.new.transaction.conn.now in
    let is : begun ≡ record old { in_transaction = true } = ap (state g.S.Store) c.transaction-transaction.ensures.begun in
    let made : HasCleanDisk inner → IsTrue begun.in_transaction → RowsRise old.now → Settled old.now inner.now = λ clean inside.
    book_settled old begun is c.requires inner c.in-Some._written (subst (TellsOffice begun inner) c.in-Some.is (c.in_ok-_written.ensures.told clean inside)) in
    let left = leaves_settled old begun inner _ is c.settle_office.ensures.survives made c.commit.ensures.survives in
    search (rules, left)

pub returns-in_default-clause-told : goal.returns-in_default-clause-told
returns-in_default-clause-told g c clean =
    let old = state g.S.Store c.args.connection.now in
    let begun = state g.S.Store c.transaction-transaction.result.conn.now in
    let inner = state g.S.Store c.settle_office.new.transaction.conn.now in
    let is : begun ≡ record old { in_transaction = true } = ap (state g.S.Store) c.transaction-transaction.ensures.begun in
    let survived : doubt inner.is_clean ≤ doubt (state g.S.Store c.drop-transaction-in_default.new.self.0).is_clean = c.drop-transaction-in_default.ensures.survives.clean in
    let same : c.drop-transaction-in_default.new.self.0 ≡ c.connection-in_default-1.given.0 = search rules in
    let dropped : HasCleanDisk (state g.S.Store c.drop-transaction-in_default.new.self.0) = subst (λ s. HasCleanDisk (state g.S.Store s)) (sym same) clean in
    let clean_inner : HasCleanDisk inner = omega (arith, survived, dropped) in
    let inside : IsTrue begun.in_transaction = ap (λ (s : State). s.in_transaction) is in
    let stays : Stays old (state g.S.Store c.connection-in_default-1.given.0) = search rules in
    let none : c.in_ok-_written.field-0 ≡ None = search rules in
    (stays, book_none old begun is c.requires inner (subst (TellsOffice begun inner) none (c.in_ok-_written.ensures.told clean_inner inside)))
