use Rattle.book_tables_findings.proofs.Common.{◌≡◌, true, IsTrue, rules, ap, arith, subst, sym, state, HasCleanDisk, State}
use Rattle.std.proofs.Common.{◌≤◌}
use Rattle.sqlite_trees.specs.View.{doubt}
use Rattle.book_tables_opening.specs.Reading.{MakesAnew}
use Rattle.book_tables_findings.proofs.Examined.{base_told}
use Rattle.book_tables_findings.proofs.examining.examine_base.Goals as goal

pub returns-clause-told : goal.returns-clause-told
returns-clause-told g c clean =
    let old = state g.S.Store c.args.connection.now in
    let begun = state g.S.Store c.transaction-transaction.result.conn.now in
    let mid = state g.S.Store c.make_anew.new.transaction.conn.now in
    let inner = state g.S.Store c.find_fault.new.transaction.conn.now in
    let is : begun ≡ record old { in_transaction = true } = ap (state g.S.Store) c.transaction-transaction.ensures.begun in
    let survived : doubt inner.is_clean ≤ doubt (state g.S.Store c.drop-transaction-2.new.self.0).is_clean = c.drop-transaction-2.ensures.survives.clean in
    let same : c.drop-transaction-2.new.self.0 ≡ c.connection-2-1.given.0 = search rules in
    let dropped : HasCleanDisk (state g.S.Store c.drop-transaction-2.new.self.0) = subst (λ s. HasCleanDisk (state g.S.Store s)) (sym same) clean in
    let clean_inner : HasCleanDisk inner = omega (arith, survived, dropped) in
    let clean_mid : HasCleanDisk mid = omega (arith, c.find_fault.ensures.survives.clean, clean_inner) in
    let inside : IsTrue begun.in_transaction = ap (λ (s : State). s.in_transaction) is in
    let gets : MakesAnew begun mid = c.in_ok-make_anew.ensures.made clean_mid inside in
    base_told old begun is c.requires mid gets c.find_fault.result (c.find_fault.ensures.told clean_inner)
