use Rattle.book_dumps.proofs.Common.{◌≡◌, ◌++◌, ◌∷◌, [], take, drop, Ok, Err, sym, ap, ◌∙◌, arith, Office}
use Rattle.std.proofs.Common.{◌+◌}
use Rattle.std.proofs.lemmas.List.{take_more, take_all, take-append-drop}
use Rattle.book_dumps.specs.Dumps.{lines_at}
use Rattle.book_dumps.specs.Told.{texts_at}
use Rattle.book_dumps.proofs.LinesInTurn.{lines_more, lines_more_all}
use Rattle.book_dumps.proofs.Turns.{writes_failed, writes_nothing, writes_same, writes_then}
use Rattle.book_dumps.proofs.dumps.write_each.Goals as goal

pub loop-path-init : goal.loop-path-init
loop-path-init g c = writes_nothing (g.K.Keeper.standing c.args.keeper.now) (g.W.Write.contents c.args.writer.now) c.args.count.now tt _ (λ o stands. λ i. [])

pub loop-path-preserved : goal.loop-path-preserved
loop-path-preserved g c =
    let i = c.loop-path.path-index in
    let xs = c.args.paths.now in
    let x = c.path-item.result in
    let next : take (i + 1) xs ≡ take i xs ++ x ∷ [] = take_more xs i x (omega arith) ∙ ap (λ y. take i xs ++ y ∷ []) (sym c.path-item.is) in
    writes_then (g.K.Keeper.standing c.args.keeper.now) (g.K.Keeper.standing c.loop-path.keeper) (g.K.Keeper.standing c.write_at.new.keeper) _ _ _ _ _ _ tt (Ok tt)
    (λ (o : Office). lines_at o (take i xs)) (λ (o : Office). texts_at o x) (λ (o : Office). lines_at o (take (i + 1) xs))
    c.loop-path.invariant c.in-Ok.ensures (λ o stands. lines_more o (take i xs) x ∙ ap (λ l. lines_at o l) (sym next))

pub returns-in-Err : goal.returns-in-Err
returns-in-Err g c =
    let i = c.loop-path.path-index in
    let xs = c.args.paths.now in
    let x = c.path-item.result in
    let next : take (i + 1) xs ≡ take i xs ++ x ∷ [] = take_more xs i x (omega arith) ∙ ap (λ y. take i xs ++ y ∷ []) (sym c.path-item.is) in
    let whole : (take i xs ++ x ∷ []) ++ drop (i + 1) xs ≡ xs = ap (λ l. l ++ drop (i + 1) xs) (sym next) ∙ take-append-drop (i + 1) xs in
    writes_failed (g.K.Keeper.standing c.args.keeper.now) (g.K.Keeper.standing c.write_at.new.keeper) _ _ _ _ c.in-Err.fault
    (λ (o : Office). lines_at o (take i xs ++ x ∷ [])) (λ (o : Office). lines_at o (drop (i + 1) xs)) (λ (o : Office). lines_at o xs)
    (writes_then (g.K.Keeper.standing c.args.keeper.now) (g.K.Keeper.standing c.loop-path.keeper) (g.K.Keeper.standing c.write_at.new.keeper) _ _ _ _ _ _ tt (Err c.in-Err.fault)
    (λ (o : Office). lines_at o (take i xs)) (λ (o : Office). texts_at o x) (λ (o : Office). lines_at o (take i xs ++ x ∷ []))
    c.loop-path.invariant c.in-Err.ensures (λ o stands. lines_more o (take i xs) x))
    (λ o stands. lines_more_all o (take i xs ++ x ∷ []) (drop (i + 1) xs) ∙ ap (λ l. lines_at o l) whole)

pub returns : goal.returns
returns g c =
    let xs = c.args.paths.now in
    writes_same (g.K.Keeper.standing c.args.keeper.now) (g.K.Keeper.standing c.loop-path.keeper) _ _ _ _ _
    (λ (o : Office). lines_at o (take c.loop-path.path-index xs)) (λ (o : Office). lines_at o xs)
    c.loop-path.invariant (λ o stands. ap (λ l. lines_at o l) (take_all c.loop-path.path-index xs c.loop-path-test.false))
