use Rattle.book_tables.proofs.Common.{w64, ◌∙◌, sym, ap, subst, map, to_z-of_z, IfOk-weaker, state, DoNotFall, child_among}
use Rattle.book_tables_rows.specs.Lists.{ShowsChildEntries}
use Rattle.book_tables.proofs.ToldRows.{children_joined}
use Rattle.book_tables.proofs.listing_rows.children_joined.Goals as goal

pub returns-clause-shown : goal.returns-clause-shown
returns-clause-shown g c clean =
    let old = state g.S.Store c.args.transaction.now.conn.now in
    let shows : ShowsChildEntries old c.args.node c.in_ok-entries.entries.items = rw (to_z-of_z w64 c.args.node c.ranges.node) at (c.in_ok-entries.ensures.shown clean) in
    IfOk-weaker c.children_listed.result _ _ (λ children joined. children_joined old c.args.node c.args.front.now c.args.rows.now c.in_ok-entries.entries.items children.items shows
    (λ falls. joined (subst DoNotFall (sym c.deref.ensures.value) falls) ∙ ap (λ es. map (child_among es c.args.front.now) c.args.rows.now) c.deref.ensures.value)) c.children_listed.ensures
