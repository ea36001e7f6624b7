use Rattle.book_tables.proofs.Common.{w64, ◌∙◌, arith, to_z-of_z, IfOk-weaker, state, HasCleanDisk, rows_of}
use Rattle.book_tables.proofs.BareSpans.{bare_children, children_before}
use Rattle.book_tables.proofs.listing_rows.children_told.Goals as goal

pub returns-then-branch-clause-shown : goal.returns-then-branch-clause-shown
returns-then-branch-clause-shown g c clean =
    let old = state g.S.Store c.args.transaction.now.conn.now in
    IfOk-weaker c.children_listed.result _ _
    (λ children joined book rows_are. joined tt ∙ bare_children (rows_of old.now.trees) c.args.front.now c.args.rows.now (c.in_ok-have_no_entries.ensures.told clean book c.if-branch.true)) c.children_listed.ensures

pub returns-clause-shown : goal.returns-clause-shown
returns-clause-shown g c clean =
    let old = state g.S.Store c.args.transaction.now.conn.now in
    let mid = state g.S.Store c.have_no_entries.new.transaction.conn.now in
    let clean_mid : HasCleanDisk mid = omega (arith, c.children_joined.ensures.survives.clean, clean) in
    let shown = rw (to_z-of_z w64 c.args.node c.ranges.node) at (c.children_joined.ensures.shown clean) in
    IfOk-weaker c.children_joined.result _ _
    (λ children shows. children_before old mid (c.in_ok-have_no_entries.ensures.stays clean_mid) c.args.node c.args.front.now c.args.rows.now children.items shows) shown
