use Rattle.book_tables.proofs.Common.{w64, ◌≡◌, ◌++◌, [], None, codes, arith, rules, sym, subst, to_z-of_z, state, HasCleanDisk, unseen_then, IfOk-weaker}
use Rattle.std.proofs.Common.{FitsSigned}
use Rattle.book_tables.specs.LastChanges.{ShowsCards, ShowsCardChanges}
use Rattle.book_tables.proofs.ToldRows.{no_cards_changed, all_cards_changed}
use Rattle.book_tables.proofs.card_changes.cards_at.Goals as goal

pub returns-in_default-clause-shown : goal.returns-in_default-clause-shown
returns-in_default-clause-shown g c clean =
    let old = state g.S.Store c.args.transaction.now.conn.now in
    let empty : c.new.result.items ≡ [] = search rules in
    let none : c.in_ok-book.field-0 ≡ None = search rules in
    subst (ShowsCardChanges old c.args.path.now c.args.number c.args.at_most) (sym empty) (no_cards_changed old c.args.path.now c.args.number c.args.at_most c.in_ok-book.field-0 none (c.in_ok-book.ensures.found clean))

pub returns-clause-shown : goal.returns-clause-shown
returns-clause-shown g c clean =
    let old = state g.S.Store c.args.transaction.now.conn.now in
    let first = state g.S.Store c.look_up.new.transaction.conn.now in
    let second = state g.S.Store c.changed_rows.new.transaction.conn.now in
    let clean_second : HasCleanDisk second = omega (arith, c.cards_of.ensures.survives.clean, clean) in
    let clean_first : HasCleanDisk first = omega (arith, c.changed_rows.ensures.survives.clean, clean_second) in
    let range : FitsSigned w64 c.in-Some.book.id = search rules in
    let id = to_z-of_z w64 c.in-Some.book.id range in
    let front_is : c.as_str.result.now ≡ c.args.path.now ++ codes "/" = search rules in
    IfOk-weaker c.cards_of.result _ _ (λ changes shown. all_cards_changed old first second c.args.path.now c.as_str.result.now c.args.number c.args.at_most c.in-Some.book c.in_ok-book.field-0 c.in-Some.is (c.in_ok-book.ensures.found clean_first)
    (c.in_ok-book.ensures.stays clean_first) (c.in_ok-cards.ensures.stays clean_second) c.in_ok-cards.cards.items (rw id at (c.in_ok-cards.ensures.shown clean_second)) front_is changes.items
    (subst (λ l. ShowsCards second c.in-Some.book.id c.args.number c.as_str.result.now l changes.items) c.deref.ensures.value shown)) (rw id at (c.cards_of.ensures.shown clean))

pub returns-clause-survives : goal.returns-clause-survives
returns-clause-survives g c =
    let old = state g.S.Store c.args.transaction.now.conn.now in
    let first = state g.S.Store c.look_up.new.transaction.conn.now in
    let second = state g.S.Store c.changed_rows.new.transaction.conn.now in
    let new = state g.S.Store c.cards_of.new.transaction.conn.now in
    unseen_then old first new c.look_up.ensures.survives (unseen_then first second new c.changed_rows.ensures.survives c.cards_of.ensures.survives)
