use Rattle.book_tables_findings.proofs.Common.{IfSome, IsTrue, arith, rules, subst, state, HasCleanDisk}
use Rattle.std.specs.Prelude.{is_none}
use Rattle.book_tables_rows.specs.Rows.{rows_of}
use Rattle.book_tables_opening.specs.Reading.{TellsStanding}
use Rattle.book_tables_findings.specs.Findings.{BreaksIn}
use Rattle.book_tables_findings.proofs.Examined.{former_found, none_found, some_found}
use Rattle.book_tables_findings.proofs.examining.find_fault.Goals as goal

pub returns-then-not-branch-clause-told : goal.returns-then-not-branch-clause-told
returns-then-not-branch-clause-told g c clean tabled =
    let old = state g.S.Store c.args.transaction.now.conn.now in
    let mid = state g.S.Store c.has_no_former.new.transaction.conn.now in
    former_found old mid (c.in_ok-has_no_former.ensures.stays clean) c.in_ok-has_no_former.field-0 (c.in_ok-has_no_former.ensures.told clean) c.if-not-branch.true tabled

pub returns-in-Some-clause-told : goal.returns-in-Some-clause-told
returns-in-Some-clause-told g c clean tabled =
    let old = state g.S.Store c.args.transaction.now.conn.now in
    let mid = state g.S.Store c.has_no_former.new.transaction.conn.now in
    let clean_mid : HasCleanDisk mid = omega (arith, c.find_broken.ensures.survives.clean, clean) in
    let there : IsTrue c.in_ok-has_no_former.field-0 = search rules in
    let standing = subst (λ o. TellsStanding mid (is_none o)) c.in-Some.is (c.in_ok-found.ensures.told clean) in
    some_found old mid (c.in_ok-has_no_former.ensures.stays clean_mid) c.in_ok-has_no_former.field-0 (c.in_ok-has_no_former.ensures.told clean_mid) there tabled
    c.in-Some.finding standing (λ book. subst (λ o. IfSome o (BreaksIn (rows_of mid.now.trees))) c.in-Some.is (c.in_ok-found.ensures.broken clean book))

pub returns-in-None-clause-told : goal.returns-in-None-clause-told
returns-in-None-clause-told g c clean tabled =
    let old = state g.S.Store c.args.transaction.now.conn.now in
    let mid = state g.S.Store c.has_no_former.new.transaction.conn.now in
    let clean_mid : HasCleanDisk mid = omega (arith, c.find_broken.ensures.survives.clean, clean) in
    let there : IsTrue c.in_ok-has_no_former.field-0 = search rules in
    let standing = subst (λ o. TellsStanding mid (is_none o)) c.in-None.is (c.in_ok-found.ensures.told clean) in
    none_found old mid (c.in_ok-has_no_former.ensures.stays clean_mid) c.in_ok-has_no_former.field-0 (c.in_ok-has_no_former.ensures.told clean_mid) there tabled standing
