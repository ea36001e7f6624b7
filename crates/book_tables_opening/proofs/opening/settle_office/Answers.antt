use Rattle.book_tables_opening.proofs.Common.{IsTrue, sym, subst, ◌∙◌, arith, state, HasCleanDisk}
use Rattle.book_tables_opening.specs.Reading.{TellsStanding}
use Rattle.book_tables_opening.proofs.OpenedTables as tables
use Rattle.book_tables_opening.proofs.opening.settle_office.Goals as goal

pub returns-then-not-branch-clause-told : goal.returns-then-not-branch-clause-told
returns-then-not-branch-clause-told g c clean inside =
    let old = state g.S.Store c.args.transaction.now.conn.now in
    let first = state g.S.Store c.has_no_former.new.transaction.conn.now in
    tables.former_told old first c.in_ok-has_no_former.field-0 (c.in_ok-has_no_former.ensures.told clean) c.if-not-branch.true

pub returns-then-not-branch-2-clause-told : goal.returns-then-not-branch-2-clause-told
returns-then-not-branch-2-clause-told g c clean inside =
    let old = state g.S.Store c.args.transaction.now.conn.now in
    let first = state g.S.Store c.has_no_former.new.transaction.conn.now in
    let second = state g.S.Store c.is_office.new.transaction.conn.now in
    let clean_first : HasCleanDisk first = omega (arith, c.is_office.ensures.survives.clean, clean) in
    tables.office_none old first second (c.in_ok-has_no_former.ensures.stays clean_first) (c.in_ok-is_office.ensures.stays clean) c.in_ok-has_no_former.field-0 (c.in_ok-has_no_former.ensures.told clean_first) c.if-not-branch.false
    (subst (TellsStanding first) c.if-not-branch-2.true (c.in_ok-is_office.ensures.told clean))

pub returns-clause-told : goal.returns-clause-told
returns-clause-told g c clean inside =
    let old = state g.S.Store c.args.transaction.now.conn.now in
    let first = state g.S.Store c.has_no_former.new.transaction.conn.now in
    let second = state g.S.Store c.is_office.new.transaction.conn.now in
    let third = state g.S.Store c.settle_reach.new.transaction.conn.now in
    let clean_second : HasCleanDisk second = omega (arith, c.settle_reach.ensures.survives.clean, clean) in
    let clean_first : HasCleanDisk first = omega (arith, c.is_office.ensures.survives.clean, clean_second) in
    let looks = c.in_ok-has_no_former.ensures.stays clean_first in
    let again = c.in_ok-is_office.ensures.stays clean_second in
    let inside_second : IsTrue second.in_transaction = subst IsTrue (sym (again.mode ∙ looks.mode)) inside in
    tables.office_settled old first second third looks again c.in_ok-has_no_former.field-0 (c.in_ok-has_no_former.ensures.told clean_first) c.if-not-branch.false
    (subst (TellsStanding first) c.if-not-branch-2.false (c.in_ok-is_office.ensures.told clean_second)) inside c.in_ok-written.written (c.in_ok-written.ensures.told clean inside_second)
