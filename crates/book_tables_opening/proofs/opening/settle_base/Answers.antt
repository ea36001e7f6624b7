use Rattle.book_tables_opening.proofs.Common.{◌≡◌, ◌≤◌, true, Some, None, IsTrue, rules, arith, sym, ap, subst, State, state, HasCleanDisk}
use Rattle.sqlite.specs.State.{Survives}
use Rattle.sqlite_trees.specs.View.{doubt}
use Rattle.book_tables_rows.proofs.Keeping.{unseen_then}
use Rattle.book_tables_rows.specs.Steps.{Stays}
use Rattle.book_tables_opening.specs.Reading.{Commits, MakesAnew, RowsRise, Settled, TellsOffice}
use Rattle.book_tables_opening.proofs.SettledStores.{base_none, base_settled, committed_by, leaves_settled}
use Rattle.book_tables_opening.proofs.opening.settle_base.Goals as goal

pub returns-clause-told : goal.returns-clause-told
returns-clause-told g c clean =
    let old = state g.S.Store c.args.connection.now in
    let begun = state g.S.Store c.transaction-transaction.result.conn.now in
    let mid = state g.S.Store c.make_anew.new.transaction.conn.now in
    let inner = state g.S.Store c.settle_office.new.transaction.conn.now in
    let new = state g.S.Store c.commit.new.self.0 in
    let is : begun ≡ record old { in_transaction = true } = ap (state g.S.Store) c.transaction-transaction.ensures.begun in
    let same : c.commit.new.self.0 ≡ c.connection-2-1.given.0 = search rules in
    let clean_new : HasCleanDisk new = subst (λ s. HasCleanDisk (state g.S.Store s)) (sym same) clean in
    let survived : doubt inner.is_clean ≤ doubt new.is_clean = c.commit.ensures.survives.clean in
    let clean_inner : HasCleanDisk inner = omega (arith, survived, clean_new) in
    let clean_mid : HasCleanDisk mid = omega (arith, c.settle_office.ensures.survives.clean, clean_inner) in
    let inside : IsTrue begun.in_transaction = ap (λ (s : State). s.in_transaction) is in
    let gets : MakesAnew begun mid = c.in_ok-make_anew.ensures.made clean_mid inside in
    let told : TellsOffice mid inner (Some c.in-Some._written) = subst (TellsOffice mid inner) c.in-Some.is (c.in_ok-_written.ensures.told clean_inner gets.inside) in
    subst (λ s. Commits old (state g.S.Store s)) same
    (committed_by old inner new (base_settled old begun is c.requires mid gets inner c.in-Some._written told) (c.in_ok-commit.ensures.ok clean_new).1)

pub returns-in_err-commit-clause-left : goal.returns-in_err-commit-clause-left
returns-in_err-commit-clause-left g c =
    let old = state g.S.Store c.args.connection.now in
    let begun = state g.S.Store c.transaction-transaction.result.conn.now in
    let mid = state g.S.Store c.make_anew.new.transaction.conn.now in
    let inner = state g.S.Store c.settle_office.new.transaction.conn.now in
    let is : begun ≡ record old { in_transaction = true } = ap (state g.S.Store) c.transaction-transaction.ensures.begun in
    let made : HasCleanDisk inner → IsTrue begun.in_transaction → RowsRise old.now → Settled old.now inner.now = λ clean inside.
    let clean_mid : HasCleanDisk mid = omega (arith, c.settle_office.ensures.survives.clean, clean) in
    let gets : MakesAnew begun mid = c.in_ok-make_anew.ensures.made clean_mid inside in
    base_settled old begun is c.requires mid gets inner c.in-Some._written (subst (TellsOffice mid inner) c.in-Some.is (c.in_ok-_written.ensures.told clean gets.inside)) in
    let first : Survives begun inner (λ _. ⊥) = unseen_then begun mid inner c.make_anew.ensures.survives c.settle_office.ensures.survives in
    let left = leaves_settled old begun inner _ is first made c.commit.ensures.survives in
    search (rules, left)

pub returns-clause-left : goal.returns-clause-left
returns-clause-left g c =
    let old = state g.S.Store c.args.connection.now in
    let begun = state g.S.Store c.transaction-transaction.result.conn.now in
    let mid = state g.S.Store c.make_anew.new.transaction.conn.now in
    let inner = state g.S.Store c.settle_office.new.transaction.conn.now in
    let is : begun ≡ record old { in_transaction = true } = ap (state g.S.Store) c.transaction-transaction.ensures.begun in
    let made : HasCleanDisk inner → IsTrue begun.in_transaction → RowsRise old.now → Settled old.now inner.now = λ clean inside.
    let clean_mid : HasCleanDisk mid = omega (arith, c.settle_office.ensures.survives.clean, clean) in
    let gets : MakesAnew begun mid = c.in_ok-make_anew.ensures.made clean_mid inside in
    base_settled old begun is c.requires mid gets inner c.in-Some._written (subst (TellsOffice mid inner) c.in-Some.is (c.in_ok-_written.ensures.told clean gets.inside)) in
    let first : Survives begun inner (λ _. ⊥) = unseen_then begun mid inner c.make_anew.ensures.survives c.settle_office.ensures.survives in
    let left = leaves_settled old begun inner _ is first made c.commit.ensures.survives in
    search (rules, left)

pub returns-in_default-clause-told : goal.returns-in_default-clause-told
returns-in_default-clause-told g c clean =
    let old = state g.S.Store c.args.connection.now in
    let begun = state g.S.Store c.transaction-transaction.result.conn.now in
    let mid = state g.S.Store c.make_anew.new.transaction.conn.now in
    let inner = state g.S.Store c.settle_office.new.transaction.conn.now in
    let is : begun ≡ record old { in_transaction = true } = ap (state g.S.Store) c.transaction-transaction.ensures.begun in
    let survived : doubt inner.is_clean ≤ doubt (state g.S.Store c.drop-transaction-in_default.new.self.0).is_clean = c.drop-transaction-in_default.ensures.survives.clean in
    let same : c.drop-transaction-in_default.new.self.0 ≡ c.connection-in_default-1.given.0 = search rules in
    let dropped : HasCleanDisk (state g.S.Store c.drop-transaction-in_default.new.self.0) = subst (λ s. HasCleanDisk (state g.S.Store s)) (sym same) clean in
    let clean_inner : HasCleanDisk inner = omega (arith, survived, dropped) in
    let inside : IsTrue begun.in_transaction = ap (λ (s : State). s.in_transaction) is in
    let stays : Stays old (state g.S.Store c.connection-in_default-1.given.0) = search rules in
    let clean_mid : HasCleanDisk mid = omega (arith, c.settle_office.ensures.survives.clean, clean_inner) in
    let gets : MakesAnew begun mid = c.in_ok-make_anew.ensures.made clean_mid inside in
    let none : c.in_ok-_written.field-0 ≡ None = search rules in
    (stays, base_none old begun is c.requires mid gets (subst (TellsOffice mid inner) none (c.in_ok-_written.ensures.told clean_inner gets.inside)))
