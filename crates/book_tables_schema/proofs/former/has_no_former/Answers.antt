use Rattle.book_tables_schema.proofs.Common.{sym, ◌∙◌, state}
use Rattle.book_tables_schema.proofs.WholeTables.{shows_former}
use Rattle.book_tables_schema.proofs.former.has_no_former.Goals as goal

pub returns-clause-told : goal.returns-clause-told
returns-clause-told g c clean has =
    let old = state g.S.Store c.args.transaction.now.conn.now in
    let new = state g.S.Store c.former_rows.new.transaction.conn.now in
    let shown = shows_former old new c.in_ok-rows.rows.items (c.in_ok-rows.ensures.shown clean) has in (
      λ yes. shown.0 (sym c.deref.ensures.value ∙ c.are_none.ensures.0 yes),
      λ empty. c.are_none.ensures.1 (c.deref.ensures.value ∙ shown.1 empty),
    )
