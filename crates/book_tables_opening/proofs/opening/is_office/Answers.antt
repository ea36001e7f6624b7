use Rattle.book_tables_opening.proofs.Common.{◌≡◌, ◌↔◌, ◌∙◌, IsTrue, rules, arith, sym, subst, true≢false, AllByRecursion, Database, state, HasCleanDisk, looks_then, rows_of, IsBook}
use Rattle.std.proofs.lemmas.Result.{IfOk-weaker}
use Rattle.book_tables_rows.proofs.Keeping.{unseen_then}
use Rattle.book_tables_opening.specs.Opening.{AreTextlessRows, HasTextIn}
use Rattle.book_tables_opening.proofs.OpenedTables.{none_told, office_told}
use Rattle.book_tables_opening.proofs.opening.is_office.Goals as goal

pub returns-then-not-told-clause-told : goal.returns-then-not-told-clause-told
returns-then-not-told-clause-told g c clean =
    let old = state g.S.Store c.args.transaction.now.conn.now in
    let rows = c.in_ok-rows.rows in
    let found : AreTextlessRows rows.nodes.items rows.lists.0.items rows.lists.1.items rows.rest.0.items rows.rest.1.items → IsTrue c.in_ok-told.told = search rules in
    none_told old rows.nodes.items rows.lists.0.items rows.lists.1.items rows.rest.0.items rows.rest.1.items (c.in_ok-rows.ensures.shown clean) (λ are. true≢false (sym (found are) ∙ c.if-not-told.true))

pub returns-clause-survives : goal.returns-clause-survives
returns-clause-survives g c =
    let old = state g.S.Store c.args.transaction.now.conn.now in
    let mid = state g.S.Store c.read_tables.new.transaction.conn.now in
    let new = state g.S.Store c.have_own_texts.new.transaction.conn.now in
    unseen_then old mid new c.read_tables.ensures.survives c.have_own_texts.ensures.survives

pub returns-clause-stays : goal.returns-clause-stays
returns-clause-stays g c clean =
    let old = state g.S.Store c.args.transaction.now.conn.now in
    let mid = state g.S.Store c.read_tables.new.transaction.conn.now in
    let new = state g.S.Store c.have_own_texts.new.transaction.conn.now in
    let clean_mid : HasCleanDisk mid = omega (arith, c.have_own_texts.ensures.survives.clean, clean) in
    IfOk-weaker c.have_own_texts.result _ _ (λ _ looks. looks_then old mid new (c.in_ok-rows.ensures.stays clean_mid) looks) (c.have_own_texts.ensures.stays clean)

pub returns-clause-told : goal.returns-clause-told
returns-clause-told g c clean =
    let old = state g.S.Store c.args.transaction.now.conn.now in
    let mid = state g.S.Store c.read_tables.new.transaction.conn.now in
    let rows = c.in_ok-rows.rows in
    let clean_mid : HasCleanDisk mid = omega (arith, c.have_own_texts.ensures.survives.clean, clean) in
    let are : AreTextlessRows rows.nodes.items rows.lists.0.items rows.lists.1.items rows.rest.0.items rows.rest.1.items = search rules in
    let nodes : c.rows.result.now ≡ rows.nodes.items = search rules in
    IfOk-weaker c.have_own_texts.result _ _ (λ is told.
    office_told old rows.nodes.items rows.lists.0.items rows.lists.1.items rows.rest.0.items rows.rest.1.items (c.in_ok-rows.ensures.shown clean_mid) are is
    (λ book.
    let same : mid.now ≡ old.now = (c.in_ok-rows.ensures.stays clean_mid).same book in
    subst (λ xs. IsTrue is ↔ AllByRecursion (HasTextIn (rows_of old.now.trees)) xs) nodes
    (subst (λ (db : Database). IsTrue is ↔ AllByRecursion (HasTextIn (rows_of db.trees)) c.rows.result.now) same (told (subst IsBook (sym same) book)))))
    (c.have_own_texts.ensures.told clean)
