use Rattle.book_tables.proofs.Common.{w64, ◌≡◌, [], Some, None, Int, pos, map, rules, sym, ap, subst, ◌∙◌, to_z-of_z, IfOk-weaker, state, rows_of, card_shown, DoNotFall, card_among}
use Rattle.book_tables_rows.specs.Lists.{ShowsChangedEntries}
use Rattle.book_tables.specs.LastChanges.{last_number}
use Rattle.book_tables.proofs.PageShares.{none_last, page_told}
use Rattle.book_tables.proofs.changes.cards_with_lists.Goals as goal

pub returns-clause-shown : goal.returns-clause-shown
returns-clause-shown g c clean =
    let old = state g.S.Store c.args.transaction.now.conn.now in
    let shows : ShowsChangedEntries old c.args.book c.args.number c.in-Some.last c.in_ok-entries.entries.items = rw (to_z-of_z w64 c.args.book c.ranges.book) at (c.in_ok-entries.ensures.shown clean) in
    let last_is : Some (Int (pos c.in-Some.last)) ≡ last_number c.args.rows.now = rw c.in-Some.is at c.in_ok-last.ensures.told in
    IfOk-weaker c.cards_joined.result _ _ (λ changes joined. page_told old c.args.book c.args.number c.in-Some.last c.args.front.now c.args.rows.now c.in_ok-entries.entries.items changes.items last_is shows
    (λ falls. joined (subst DoNotFall (sym c.deref.ensures.value) falls) ∙ ap (λ es. map (card_among es c.args.front.now) c.args.rows.now) c.deref.ensures.value)) c.cards_joined.ensures

pub returns-in_default-clause-shown : goal.returns-in_default-clause-shown
returns-in_default-clause-shown g c clean book at_most are =
    let old = state g.S.Store c.args.transaction.now.conn.now in
    let empty : c.new.result.items ≡ [] = search rules in
    let none : c.in_ok-last.field-0 ≡ None = search rules in
    let no_rows : c.args.rows.now ≡ [] = none_last c.args.rows.now (rw none at c.in_ok-last.ensures.told) in
    empty ∙ sym (ap (map (card_shown (rows_of old.now.trees) c.args.front.now)) no_rows)
