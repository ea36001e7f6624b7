use Rattle.book_tables_rows.proofs.Common.{arith, rules, state, HasCleanDisk}
use Rattle.std.proofs.Common.{◌≤◌}
use Rattle.book_tables_rows.specs.Items.{item_count}
use Rattle.book_tables_rows.proofs.InScript.{ends, no_item, step_on}
use Rattle.book_tables_rows.proofs.items.write_items.Goals as goal

pub items-preserved : goal.items-preserved
items-preserved g c =
    let old = state g.S.Store c.args.transaction.now.conn.now in
    let now = state g.S.Store c.items.transaction.conn.now in
    let new = state g.S.Store c.write_at.new.transaction.conn.now in
    let before : HasCleanDisk new → HasCleanDisk now = λ clean. omega (arith, c.write_at.ensures.survives.clean, clean) in (
      search rules,
      step_on old now new _ _ _ c.items.invariant.1 c.write_at.ensures.survives c.write_at.ensures.kept c.in_ok-write_at.ensures.done,
      λ clean inside was. c.in_ok-write_at.ensures.open clean (c.items.invariant.1.done (before clean) inside).inside (c.items.invariant.2 (before clean) inside was),
    )

pub returns-clause-done : goal.returns-clause-done
returns-clause-done g c clean inside =
    let all : item_count c.args.items.now ≤ c.items.place = omega arith in
    ends (state g.S.Store c.args.transaction.now.conn.now) (state g.S.Store c.items.transaction.conn.now) _ _ (λ rows. tt) (no_item c.args.items.now c.items.place all) (c.items.invariant.1.done clean inside)
