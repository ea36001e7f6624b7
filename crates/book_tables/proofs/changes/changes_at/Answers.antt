use Rattle.book_tables.proofs.Common.{w64, ◌≡◌, ◌++◌, [], None, map, codes, arith, rules, sym, ap, subst, ◌∙◌, to_z-of_z, state, HasCleanDisk, unseen_then, ShowsChanges, removed_shown}
use Rattle.std.proofs.Common.{FitsSigned}
use Rattle.book_tables.specs.LastChanges.{ShowsCards}
use Rattle.book_tables.proofs.ToldRows.{none_changed, all_changed}
use Rattle.book_tables.proofs.changes.changes_at.Goals as goal

pub returns-in_default-clause-shown : goal.returns-in_default-clause-shown
returns-in_default-clause-shown g c clean =
    let old = state g.S.Store c.args.transaction.now.conn.now in
    let empty : c.new.result.items ≡ [] = search rules in
    let none : c.in_ok-book.field-0 ≡ None = search rules in
    subst (ShowsChanges old c.args.path.now c.args.number c.args.at_most) (sym empty) (none_changed old c.args.path.now c.args.number c.args.at_most c.in_ok-book.field-0 none (c.in_ok-book.ensures.found clean))

pub returns-clause-shown : goal.returns-clause-shown
returns-clause-shown g c clean =
    let old = state g.S.Store c.args.transaction.now.conn.now in
    let first = state g.S.Store c.look_up.new.transaction.conn.now in
    let second = state g.S.Store c.changed_rows.new.transaction.conn.now in
    let third = state g.S.Store c.gone_rows.new.transaction.conn.now in
    let clean_third : HasCleanDisk third = omega (arith, c.cards_of.ensures.survives.clean, clean) in
    let clean_second : HasCleanDisk second = omega (arith, c.gone_rows.ensures.survives.clean, clean_third) in
    let clean_first : HasCleanDisk first = omega (arith, c.changed_rows.ensures.survives.clean, clean_second) in
    let range : FitsSigned w64 c.in-Some.book.id = search rules in
    let id = to_z-of_z w64 c.in-Some.book.id range in
    let front_is : c.as_str.result.now ≡ c.args.path.now ++ codes "/" = search rules in
    all_changed old first second third c.args.path.now c.as_str.result.now c.args.number c.args.at_most c.in-Some.book c.in_ok-book.field-0 c.in-Some.is (c.in_ok-book.ensures.found clean_first)
    (c.in_ok-book.ensures.stays clean_first) (c.in_ok-cards.ensures.stays clean_second) (c.in_ok-names.ensures.stays clean_third) c.in_ok-cards.cards.items c.in_ok-names.names.items
    (rw id at (c.in_ok-cards.ensures.shown clean_second)) (rw id at (c.in_ok-names.ensures.shown clean_third)) front_is c.in_ok-changes.changes.items c.push_removed.new.changes.items
    (subst (λ l. ShowsCards third c.in-Some.book.id c.args.number c.as_str.result.now l c.in_ok-changes.changes.items) c.deref.ensures.value (rw id at (c.in_ok-changes.ensures.shown clean)))
    (c.in_ok-push_removed.ensures ∙ ap (λ l. c.in_ok-changes.changes.items ++ map removed_shown l) c.deref-2.ensures.value)

pub returns-clause-survives : goal.returns-clause-survives
returns-clause-survives g c =
    let old = state g.S.Store c.args.transaction.now.conn.now in
    let first = state g.S.Store c.look_up.new.transaction.conn.now in
    let second = state g.S.Store c.changed_rows.new.transaction.conn.now in
    let third = state g.S.Store c.gone_rows.new.transaction.conn.now in
    let new = state g.S.Store c.cards_of.new.transaction.conn.now in
    unseen_then old first new c.look_up.ensures.survives (unseen_then first second new c.changed_rows.ensures.survives (unseen_then second third new c.gone_rows.ensures.survives c.cards_of.ensures.survives))

pub returns-in_err-push_removed-clause-survives : goal.returns-in_err-push_removed-clause-survives
returns-in_err-push_removed-clause-survives g c =
    let old = state g.S.Store c.args.transaction.now.conn.now in
    let first = state g.S.Store c.look_up.new.transaction.conn.now in
    let second = state g.S.Store c.changed_rows.new.transaction.conn.now in
    let third = state g.S.Store c.gone_rows.new.transaction.conn.now in
    let new = state g.S.Store c.cards_of.new.transaction.conn.now in
    unseen_then old first new c.look_up.ensures.survives (unseen_then first second new c.changed_rows.ensures.survives (unseen_then second third new c.gone_rows.ensures.survives c.cards_of.ensures.survives))
