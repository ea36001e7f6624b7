use Rattle.book_tables_opening.proofs.Common.{true, false, subst, arith, state, HasCleanDisk}
use Rattle.book_tables_opening.specs.Reading.{TellsSettled}
use Rattle.book_tables_opening.proofs.OpenedTables as tables
use Rattle.book_tables_opening.proofs.SaidVersions.{told_before}
use Rattle.book_tables_opening.proofs.opening.standing_of.Goals as goal

pub returns-then-branch-clause-told : goal.returns-then-branch-clause-told
returns-then-branch-clause-told g c clean =
    subst (TellsSettled (state g.S.Store c.args.connection.now) (state g.S.Store c.is_whole.new.connection)) c.if-branch.true (c.in_ok-is_whole.ensures.told clean)

pub returns-then-branch-2-clause-told : goal.returns-then-branch-2-clause-told
returns-then-branch-2-clause-told g c clean =
    let old = state g.S.Store c.args.connection.now in
    let mid = state g.S.Store c.is_whole.new.connection in
    let new = state g.S.Store c.tells_other.new.connection in
    let clean_mid : HasCleanDisk mid = omega (arith, c.tells_other.ensures.survives.clean, clean) in
    tables.still_none old mid new (subst (TellsSettled old mid) c.if-branch.false (c.in_ok-is_whole.ensures.told clean_mid)) (c.tells_other.ensures.stays clean)

pub returns-clause-told : goal.returns-clause-told
returns-clause-told g c clean =
    let old = state g.S.Store c.args.connection.now in
    let mid = state g.S.Store c.is_whole.new.connection in
    let new = state g.S.Store c.tells_other.new.connection in
    let clean_mid : HasCleanDisk mid = omega (arith, c.tells_other.ensures.survives.clean, clean) in
    tables.still_none old mid new (subst (TellsSettled old mid) c.if-branch.false (c.in_ok-is_whole.ensures.told clean_mid)) (c.tells_other.ensures.stays clean)

pub returns-then-branch-2-clause-other : goal.returns-then-branch-2-clause-other
returns-then-branch-2-clause-other g c clean =
    let old = state g.S.Store c.args.connection.now in
    let mid = state g.S.Store c.is_whole.new.connection in
    let clean_mid : HasCleanDisk mid = omega (arith, c.tells_other.ensures.survives.clean, clean) in
    let none : TellsSettled old mid false = subst (TellsSettled old mid) c.if-branch.false (c.in_ok-is_whole.ensures.told clean_mid) in
    told_before 2 old mid none.0 c.in_ok-tells_other.field-0 true c.if-branch-2.true (c.in_ok-tells_other.ensures.told clean)

pub returns-clause-other : goal.returns-clause-other
returns-clause-other g c clean =
    let old = state g.S.Store c.args.connection.now in
    let mid = state g.S.Store c.is_whole.new.connection in
    let clean_mid : HasCleanDisk mid = omega (arith, c.tells_other.ensures.survives.clean, clean) in
    let none : TellsSettled old mid false = subst (TellsSettled old mid) c.if-branch.false (c.in_ok-is_whole.ensures.told clean_mid) in
    told_before 2 old mid none.0 c.in_ok-tells_other.field-0 false c.if-branch-2.false (c.in_ok-tells_other.ensures.told clean)

pub returns-then-branch-2-clause-left : goal.returns-then-branch-2-clause-left
returns-then-branch-2-clause-left g c =
    tables.left_then (state g.S.Store c.args.connection.now) (state g.S.Store c.is_whole.new.connection) (state g.S.Store c.tells_other.new.connection) c.is_whole.ensures.left c.tells_other.ensures.survives

pub returns-clause-left : goal.returns-clause-left
returns-clause-left g c =
    tables.left_then (state g.S.Store c.args.connection.now) (state g.S.Store c.is_whole.new.connection) (state g.S.Store c.tells_other.new.connection) c.is_whole.ensures.left c.tells_other.ensures.survives
