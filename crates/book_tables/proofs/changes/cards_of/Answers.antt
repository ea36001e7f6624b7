use Rattle.book_tables.proofs.Common.{w64, ◌∙◌, arith, to_z-of_z, IfOk-weaker, state, HasCleanDisk, rows_of}
use Rattle.book_tables.proofs.BareSpans.{bare_cards, cards_before}
use Rattle.book_tables.proofs.changes.cards_of.Goals as goal

pub returns-then-branch-clause-shown : goal.returns-then-branch-clause-shown
returns-then-branch-clause-shown g c clean =
    let old = state g.S.Store c.args.transaction.now.conn.now in
    IfOk-weaker c.cards_joined.result _ _
    (λ changes joined book most are. joined tt ∙ bare_cards (rows_of old.now.trees) c.args.front.now c.args.rows.now (c.in_ok-have_no_entries.ensures.told clean book c.if-branch.true)) c.cards_joined.ensures

pub returns-clause-shown : goal.returns-clause-shown
returns-clause-shown g c clean =
    let old = state g.S.Store c.args.transaction.now.conn.now in
    let mid = state g.S.Store c.have_no_entries.new.transaction.conn.now in
    let clean_mid : HasCleanDisk mid = omega (arith, c.cards_with_lists.ensures.survives.clean, clean) in
    let shown = rw (to_z-of_z w64 c.args.book c.ranges.book) at (c.cards_with_lists.ensures.shown clean) in
    IfOk-weaker c.cards_with_lists.result _ _
    (λ changes shows. cards_before old mid (c.in_ok-have_no_entries.ensures.stays clean_mid) c.args.book c.args.number c.args.front.now c.args.rows.now changes.items shows) shown
