use Rattle.book_tables_findings.proofs.Common.{◌≡◌, ◌∙◌, IsTrue, rules, arith, sym, subst, AllByRecursion, Row, state, HasCleanDisk, all_more}
use Rattle.std.proofs.lemmas.List.{take_all}
use Rattle.sqlite.specs.Effect.{Database}
use Rattle.book_tables_rows.proofs.Keeping.{looks_then, unseen_then}
use Rattle.book_tables_rows.proofs.ListSettings.{commit_stays}
use Rattle.book_tables_rows.specs.Rows.{IsBook, rows_of}
use Rattle.book_tables_opening.specs.Opening.{HasTextIn}
use Rattle.book_tables_findings.proofs.FirstRows.{first_at}
use Rattle.book_tables_findings.specs.Names.{node_name}
use Rattle.book_tables_findings.proofs.texts.broken_text.Goals as goal

pub loop-node-preserved : goal.loop-node-preserved
loop-node-preserved g c =
    let old = state g.S.Store c.args.transaction.now.conn.now in
    let now = state g.S.Store c.loop-node.transaction.conn.now in
    let new = state g.S.Store c.has_own_text.new.transaction.conn.now in
    let xs = c.args.nodes.now in
    let i = c.loop-node.node-index in
    let node = c.node-item.result in
    let there : IsTrue c.in_ok-has_own_text.field-0 = search rules in
    let clean_before : HasCleanDisk new → HasCleanDisk now = λ clean. omega (arith, c.has_own_text.ensures.survives.clean, clean) in
    record {
      same = search rules;
      survives = unseen_then old now new c.loop-node.invariant.survives c.has_own_text.ensures.survives;
      kept = λ clean inside.
          let inside_now : IsTrue now.in_transaction = (c.loop-node.invariant.looks (clean_before clean)).mode ∙ inside in
          commit_stays old now new (c.loop-node.invariant.kept (clean_before clean) inside) (c.has_own_text.ensures.kept clean inside_now);
      looks = λ clean. looks_then old now new (c.loop-node.invariant.looks (clean_before clean)) (c.in_ok-has_own_text.ensures.stays clean);
      have = λ clean book.
          let same : now.now ≡ old.now = (c.loop-node.invariant.looks (clean_before clean)).same book in
          let told = c.in_ok-has_own_text.ensures.told clean (subst IsBook (sym same) book) in
          let its : HasTextIn (rows_of old.now.trees) node = subst (λ (db : Database). HasTextIn (rows_of db.trees) node) same (told.0 there) in
          all_more (HasTextIn (rows_of old.now.trees)) xs i node c.loop-node-test.true c.node-item.is (c.loop-node.invariant.have (clean_before clean) book) its;
    }

pub returns-then-not-branch-clause-survives : goal.returns-then-not-branch-clause-survives
returns-then-not-branch-clause-survives g c =
    let old = state g.S.Store c.args.transaction.now.conn.now in
    let now = state g.S.Store c.loop-node.transaction.conn.now in
    let new = state g.S.Store c.has_own_text.new.transaction.conn.now in
    unseen_then old now new c.loop-node.invariant.survives c.has_own_text.ensures.survives

pub returns-then-not-branch-clause-kept : goal.returns-then-not-branch-clause-kept
returns-then-not-branch-clause-kept g c clean inside =
    let old = state g.S.Store c.args.transaction.now.conn.now in
    let now = state g.S.Store c.loop-node.transaction.conn.now in
    let new = state g.S.Store c.has_own_text.new.transaction.conn.now in
    let clean_now : HasCleanDisk now = omega (arith, c.has_own_text.ensures.survives.clean, clean) in
    let inside_now : IsTrue now.in_transaction = (c.loop-node.invariant.looks clean_now).mode ∙ inside in
    commit_stays old now new (c.loop-node.invariant.kept clean_now inside) (c.has_own_text.ensures.kept clean inside_now)

pub returns-then-not-branch-clause-stays : goal.returns-then-not-branch-clause-stays
returns-then-not-branch-clause-stays g c clean =
    let old = state g.S.Store c.args.transaction.now.conn.now in
    let now = state g.S.Store c.loop-node.transaction.conn.now in
    let new = state g.S.Store c.has_own_text.new.transaction.conn.now in
    let clean_now : HasCleanDisk now = omega (arith, c.has_own_text.ensures.survives.clean, clean) in
    looks_then old now new (c.loop-node.invariant.looks clean_now) (c.in_ok-has_own_text.ensures.stays clean)

pub returns-then-not-branch-clause-told : goal.returns-then-not-branch-clause-told
returns-then-not-branch-clause-told g c clean book =
    let old = state g.S.Store c.args.transaction.now.conn.now in
    let now = state g.S.Store c.loop-node.transaction.conn.now in
    let xs = c.args.nodes.now in
    let i = c.loop-node.node-index in
    let node = c.node-item.result in
    let P : Row → Type 0 = HasTextIn (rows_of old.now.trees) in
    let clean_now : HasCleanDisk now = omega (arith, c.has_own_text.ensures.survives.clean, clean) in
    let same : now.now ≡ old.now = (c.loop-node.invariant.looks clean_now).same book in
    let told = c.in_ok-has_own_text.ensures.told clean (subst IsBook (sym same) book) in
    let none : ¬ (P node) = λ its.
    let there : IsTrue c.in_ok-has_own_text.field-0 = told.1 (subst (λ (db : Database). HasTextIn (rows_of db.trees) node) (sym same) its) in
    absurd (cc (there, c.if-not-branch.true)) in
    first_at node_name P (λ row. ¬ (P row)) xs c.in_ok-name.name i node c.loop-node-test.true c.node-item.is (c.loop-node.invariant.have clean_now book) c.in_ok-name.ensures none

pub returns-clause-told : goal.returns-clause-told
returns-clause-told g c clean book =
    let old = state g.S.Store c.args.transaction.now.conn.now in
    subst (AllByRecursion (HasTextIn (rows_of old.now.trees))) (take_all c.loop-node.node-index c.args.nodes.now c.loop-node-test.false) (c.loop-node.invariant.have clean book)
