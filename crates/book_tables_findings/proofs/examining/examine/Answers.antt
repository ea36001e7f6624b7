use Rattle.book_tables_findings.proofs.Common.{arith, state, HasCleanDisk}
use Rattle.book_tables_findings.proofs.Examined.{store_told}
use Rattle.book_tables_findings.proofs.examining.examine.Goals as goal

pub returns : goal.returns
returns g c clean =
    let old = state g.S.Store c.args.connection in
    let first = state g.S.Store c.in_ok-opened.opened in
    let clean_first : HasCleanDisk first = omega (arith, c.examine_tables.ensures.survives.clean, clean) in
    let again = c.in_ok-opened.ensures clean_first in
    store_told old first (c.is_autocommit.ensures.settled c.if-not-is_autocommit.false) again c.in_ok-found.found (c.in_ok-found.ensures.told clean)
