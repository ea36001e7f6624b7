use Rattle.book_tables_findings.proofs.Common.{◌≡◌, rules, arith, subst, sym, AllByRecursion, state, HasCleanDisk}
use Rattle.sqlite.specs.Effect.{Database}
use Rattle.book_tables_rows.proofs.Keeping.{looks_then, unseen_then}
use Rattle.book_tables_rows.specs.Rows.{IsBook, rows_of}
use Rattle.book_tables_opening.specs.Opening.{AreTextlessRows, HasTextIn}
use Rattle.book_tables_findings.specs.Findings.{BreaksRows, BreaksText, TellsTexts}
use Rattle.book_tables_findings.proofs.Found.{none_standing, rows_broken, rows_standing, text_broken, text_standing}
use Rattle.book_tables_findings.proofs.finding.find_broken.Goals as goal

pub returns-in-Some-clause-told : goal.returns-in-Some-clause-told
returns-in-Some-clause-told g c clean =
    let old = state g.S.Store c.args.transaction.now.conn.now in
    let rows = c.in_ok-rows.rows in
    let broken : BreaksRows rows.nodes.items rows.lists.0.items rows.lists.1.items rows.rest.0.items rows.rest.1.items c.in-Some.finding = search rules in
    rows_standing old rows.nodes.items rows.lists.0.items rows.lists.1.items rows.rest.0.items rows.rest.1.items (c.in_ok-rows.ensures.shown clean) c.in-Some.finding broken

pub returns-in-Some-clause-broken : goal.returns-in-Some-clause-broken
returns-in-Some-clause-broken g c clean =
    let old = state g.S.Store c.args.transaction.now.conn.now in
    let rows = c.in_ok-rows.rows in
    let broken : BreaksRows rows.nodes.items rows.lists.0.items rows.lists.1.items rows.rest.0.items rows.rest.1.items c.in-Some.finding = search rules in
    rows_broken old rows.nodes.items rows.lists.0.items rows.lists.1.items rows.rest.0.items rows.rest.1.items (c.in_ok-rows.ensures.shown clean) c.in-Some.finding broken

pub returns-in-Some-2-clause-survives : goal.returns-in-Some-2-clause-survives
returns-in-Some-2-clause-survives g c =
    let old = state g.S.Store c.args.transaction.now.conn.now in
    let mid = state g.S.Store c.read_tables.new.transaction.conn.now in
    let new = state g.S.Store c.broken_text.new.transaction.conn.now in
    unseen_then old mid new c.read_tables.ensures.survives c.broken_text.ensures.survives

pub returns-in-Some-2-clause-stays : goal.returns-in-Some-2-clause-stays
returns-in-Some-2-clause-stays g c clean =
    let old = state g.S.Store c.args.transaction.now.conn.now in
    let mid = state g.S.Store c.read_tables.new.transaction.conn.now in
    let new = state g.S.Store c.broken_text.new.transaction.conn.now in
    let clean_mid : HasCleanDisk mid = omega (arith, c.broken_text.ensures.survives.clean, clean) in
    looks_then old mid new (c.in_ok-rows.ensures.stays clean_mid) (c.in_ok-name.ensures.stays clean)

pub returns-in-Some-2-clause-told : goal.returns-in-Some-2-clause-told
returns-in-Some-2-clause-told g c clean =
    let old = state g.S.Store c.args.transaction.now.conn.now in
    let mid = state g.S.Store c.read_tables.new.transaction.conn.now in
    let new = state g.S.Store c.broken_text.new.transaction.conn.now in
    let clean_mid : HasCleanDisk mid = omega (arith, c.broken_text.ensures.survives.clean, clean) in
    let rows = c.in_ok-rows.rows in
    let are : AreTextlessRows rows.nodes.items rows.lists.0.items rows.lists.1.items rows.rest.0.items rows.rest.1.items = search rules in
    let nodes : c.rows.result.now ≡ rows.nodes.items = search rules in
    let told : IsBook old.now → BreaksText (rows_of old.now.trees) rows.nodes.items c.in-Some-2.name = λ book.
    let same : mid.now ≡ old.now = (c.in_ok-rows.ensures.stays clean_mid).same book in
    let tells = subst (TellsTexts (rows_of mid.now.trees) c.rows.result.now) c.in-Some-2.is (c.in_ok-name.ensures.told clean (subst IsBook (sym same) book)) in
    subst (λ (db : Database). BreaksText (rows_of db.trees) rows.nodes.items c.in-Some-2.name) same (subst (λ xs. BreaksText (rows_of mid.now.trees) xs c.in-Some-2.name) nodes tells) in
    text_standing old rows.nodes.items rows.lists.0.items rows.lists.1.items rows.rest.0.items rows.rest.1.items (c.in_ok-rows.ensures.shown clean_mid) c.in-Some-2.name are told

pub returns-in-Some-2-clause-broken : goal.returns-in-Some-2-clause-broken
returns-in-Some-2-clause-broken g c clean =
    let old = state g.S.Store c.args.transaction.now.conn.now in
    let mid = state g.S.Store c.read_tables.new.transaction.conn.now in
    let new = state g.S.Store c.broken_text.new.transaction.conn.now in
    let clean_mid : HasCleanDisk mid = omega (arith, c.broken_text.ensures.survives.clean, clean) in
    let rows = c.in_ok-rows.rows in
    let nodes : c.rows.result.now ≡ rows.nodes.items = search rules in
    let told : IsBook old.now → BreaksText (rows_of old.now.trees) rows.nodes.items c.in-Some-2.name = λ book.
    let same : mid.now ≡ old.now = (c.in_ok-rows.ensures.stays clean_mid).same book in
    let tells = subst (TellsTexts (rows_of mid.now.trees) c.rows.result.now) c.in-Some-2.is (c.in_ok-name.ensures.told clean (subst IsBook (sym same) book)) in
    subst (λ (db : Database). BreaksText (rows_of db.trees) rows.nodes.items c.in-Some-2.name) same (subst (λ xs. BreaksText (rows_of mid.now.trees) xs c.in-Some-2.name) nodes tells) in
    text_broken old rows.nodes.items rows.lists.0.items rows.lists.1.items rows.rest.0.items rows.rest.1.items (c.in_ok-rows.ensures.shown clean_mid) c.in-Some-2.name told

pub returns-clause-survives : goal.returns-clause-survives
returns-clause-survives g c =
    let old = state g.S.Store c.args.transaction.now.conn.now in
    let mid = state g.S.Store c.read_tables.new.transaction.conn.now in
    let new = state g.S.Store c.broken_text.new.transaction.conn.now in
    unseen_then old mid new c.read_tables.ensures.survives c.broken_text.ensures.survives

pub returns-clause-stays : goal.returns-clause-stays
returns-clause-stays g c clean =
    let old = state g.S.Store c.args.transaction.now.conn.now in
    let mid = state g.S.Store c.read_tables.new.transaction.conn.now in
    let new = state g.S.Store c.broken_text.new.transaction.conn.now in
    let clean_mid : HasCleanDisk mid = omega (arith, c.broken_text.ensures.survives.clean, clean) in
    looks_then old mid new (c.in_ok-rows.ensures.stays clean_mid) (c.in_ok-name.ensures.stays clean)

pub returns-clause-told : goal.returns-clause-told
returns-clause-told g c clean =
    let old = state g.S.Store c.args.transaction.now.conn.now in
    let mid = state g.S.Store c.read_tables.new.transaction.conn.now in
    let new = state g.S.Store c.broken_text.new.transaction.conn.now in
    let clean_mid : HasCleanDisk mid = omega (arith, c.broken_text.ensures.survives.clean, clean) in
    let rows = c.in_ok-rows.rows in
    let are : AreTextlessRows rows.nodes.items rows.lists.0.items rows.lists.1.items rows.rest.0.items rows.rest.1.items = search rules in
    let nodes : c.rows.result.now ≡ rows.nodes.items = search rules in
    let told : IsBook old.now → AllByRecursion (HasTextIn (rows_of old.now.trees)) rows.nodes.items = λ book.
    let same : mid.now ≡ old.now = (c.in_ok-rows.ensures.stays clean_mid).same book in
    let tells = subst (TellsTexts (rows_of mid.now.trees) c.rows.result.now) c.in_default-2.is (c.in_ok-name.ensures.told clean (subst IsBook (sym same) book)) in
    subst (λ (db : Database). AllByRecursion (HasTextIn (rows_of db.trees)) rows.nodes.items) same (subst (AllByRecursion (HasTextIn (rows_of mid.now.trees))) nodes tells) in
    none_standing old rows.nodes.items rows.lists.0.items rows.lists.1.items rows.rest.0.items rows.rest.1.items (c.in_ok-rows.ensures.shown clean_mid) are told
