use Rattle.book_tables_rows.proofs.Common.{◌≡◌, get_or, rules, state}
use Rattle.book_tables_rows.proofs.InScript.{no_statement, next_run, step_on}
use Rattle.book_tables_rows.proofs.script.run_all.Goals as goal

pub statements-preserved : goal.statements-preserved
statements-preserved g c =
    let old = state g.S.Store c.args.transaction.now.conn.now in
    let now = state g.S.Store c.statements.transaction.conn.now in
    let new = state g.S.Store c.run.new.transaction.conn.now in
    let item = c.statement-item.result in
    let is : get_or c.args.statements.now c.statements.statement-index item ≡ item = search rules in (
      search rules,
      step_on old now new _ _ _ c.statements.invariant.1 c.run.ensures.survives c.run.ensures.kept
          (λ clean inside. next_run now new c.args.statements.now c.statements.statement-index item c.statements-test.true is (c.in_ok-run.ensures.done clean inside)),
    )

pub returns-clause-done : goal.returns-clause-done
returns-clause-done g c clean inside =
    no_statement (state g.S.Store c.args.transaction.now.conn.now) (state g.S.Store c.statements.transaction.conn.now) _ c.args.statements.now c.statements.statement-index c.statements-test.false (c.statements.invariant.1.done clean inside)
