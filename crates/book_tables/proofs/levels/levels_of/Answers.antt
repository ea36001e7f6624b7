use Rattle.book_tables.proofs.Common.{◌≡◌, ◌∷◌, ◌++◌, map, rules, arith, inl, inr, IsTrue, sym, ap, subst, ◌∙◌, into_iter_items, Database, state, HasCleanDisk, levels, rows_of, IsBook, unseen_then, level_told}
use Rattle.book_tables_rows.proofs.Keeping.{looks_then}
use Rattle.book_tables_rows.proofs.ListSettings.{commit_stays}
use Rattle.book_tables.specs.Levels.{ShowsLevel}
use Rattle.book_tables.proofs.LevelsTold.{one_more_level}
use Rattle.book_tables.proofs.levels.levels_of.Goals as goal

pub loop-path-preserved : goal.loop-path-preserved
loop-path-preserved g c =
    let old = state g.S.Store c.args.transaction.now.conn.now in
    let now = state g.S.Store c.loop-path.transaction.conn.now in
    let new = state g.S.Store c.push_level.new.transaction.conn.now in
    let path = c.in-Some.path in
    let rest = into_iter_items c.next.new.self in
    let next : into_iter_items c.loop-path.path-iterator ≡ path ∷ rest = search rules in
    let clean_before : HasCleanDisk new → HasCleanDisk now = λ clean. omega (arith, c.push_level.ensures.survives.clean, clean) in
    record {
      same = search rules;
      survives = unseen_then old now new c.loop-path.invariant.survives c.push_level.ensures.survives;
      kept = λ clean inside.
          let inside_now : IsTrue now.in_transaction = (c.loop-path.invariant.looks (clean_before clean)).mode ∙ inside in
          commit_stays old now new (c.loop-path.invariant.kept (clean_before clean) inside) (c.push_level.ensures.kept clean inside_now);
      looks = λ clean. looks_then old now new (c.loop-path.invariant.looks (clean_before clean)) (c.in_ok-push_level.ensures.stays clean);
      begun = λ clean.
          let open_now = (c.in_ok-push_level.ensures.shown clean).2.0 in
          inr (elim (c.loop-path.invariant.begun (clean_before clean)) [ inl first ↦ rw first.0 at open_now | inr was_open ↦ was_open ]);
      parts = λ clean book.
          let told = c.in_ok-push_level.ensures.shown clean in
          let level = told.0 in
          let shown : ShowsLevel now path level = told.2 in
          let same : now.now ≡ old.now = (c.loop-path.invariant.looks (clean_before clean)).same book in
          let so_far : c.loop-path.levels.items ++ map (level_told (rows_of old.now.trees)) (path ∷ rest) ≡ map (level_told (rows_of old.now.trees)) (levels c.args.path.now) =
          rw next at (c.loop-path.invariant.parts (clean_before clean) book) in
          let is : level ≡ level_told (rows_of old.now.trees) path = shown.1 (subst IsBook (sym same) book) ∙ ap (λ (db : Database). level_told (rows_of db.trees) path) same in
          rw told.1 (one_more_level (level_told (rows_of old.now.trees)) c.loop-path.levels.items level path rest _ so_far is);
      count = search rules;
    }

pub returns-in_err-push_level-clause-survives : goal.returns-in_err-push_level-clause-survives
returns-in_err-push_level-clause-survives g c =
    unseen_then (state g.S.Store c.args.transaction.now.conn.now) (state g.S.Store c.loop-path.transaction.conn.now) (state g.S.Store c.push_level.new.transaction.conn.now) c.loop-path.invariant.survives c.push_level.ensures.survives

pub returns-in_err-push_level-clause-kept : goal.returns-in_err-push_level-clause-kept
returns-in_err-push_level-clause-kept g c clean inside =
    let old = state g.S.Store c.args.transaction.now.conn.now in
    let now = state g.S.Store c.loop-path.transaction.conn.now in
    let new = state g.S.Store c.push_level.new.transaction.conn.now in
    let clean_now : HasCleanDisk now = omega (arith, c.push_level.ensures.survives.clean, clean) in
    let inside_now : IsTrue now.in_transaction = (c.loop-path.invariant.looks clean_now).mode ∙ inside in
    commit_stays old now new (c.loop-path.invariant.kept clean_now inside) (c.push_level.ensures.kept clean inside_now)
