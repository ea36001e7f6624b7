use Rattle.book_tables_rows.proofs.Common.{arith, rules, state}
use Rattle.std.proofs.Common.{◌≤◌}
use Rattle.book_tables_rows.specs.Parts.{part_count}
use Rattle.book_tables_rows.proofs.InScript.{ends, step_on}
use Rattle.book_tables_rows.proofs.PolicyWrites.{none_left}
use Rattle.book_tables_rows.proofs.adopting.write_part.Goals as goal

pub part-preserved : goal.part-preserved
part-preserved g c =
    let old = state g.S.Store c.args.transaction.now.conn.now in
    let now = state g.S.Store c.part.transaction.conn.now in
    let new = state g.S.Store c.write_at.new.transaction.conn.now in
    (search rules, step_on old now new _ _ _ c.part.invariant.1 c.write_at.ensures.survives c.write_at.ensures.kept c.in_ok-write_at.ensures.done)

pub returns-clause-done : goal.returns-clause-done
returns-clause-done g c clean inside =
    let all : part_count c.args.part.now ≤ c.part.place = omega arith in
    let none = none_left c.args.part.now c.part.place all in
    ends (state g.S.Store c.args.transaction.now.conn.now) (state g.S.Store c.part.transaction.conn.now) _ _ none.0 none.1 (c.part.invariant.1.done clean inside)
