use Rattle.book_dumps.proofs.Common.{◌≡◌, ◌++◌, ◌∷◌, [], take, drop, Ok, Err, sym, ap, ◌∙◌, arith, Office}
use Rattle.std.proofs.Common.{◌+◌}
use Rattle.std.specs.List.{flat_map}
use Rattle.std.proofs.lemmas.List.{take_more, take_all, take-append-drop}
use Rattle.book_dumps.specs.Dumps.{lines_at, paths_in}
use Rattle.book_dumps.proofs.LinesInTurn.{places_more, places_more_all}
use Rattle.book_dumps.proofs.Turns.{writes_failed, writes_nothing, writes_same, writes_then}
use Rattle.book_dumps.proofs.dumps.write_places.Goals as goal

pub loop-place-init : goal.loop-place-init
loop-place-init g c = writes_nothing (g.K.Keeper.standing c.args.keeper.now) (g.W.Write.contents c.args.writer.now) c.args.count.now tt _ (λ o stands. λ i. [])

pub loop-place-preserved : goal.loop-place-preserved
loop-place-preserved g c =
    let i = c.loop-place.place-index in
    let xs = c.args.places.now in
    let x = c.place-item.result in
    let next : take (i + 1) xs ≡ take i xs ++ x ∷ [] = take_more xs i x (omega arith) ∙ ap (λ y. take i xs ++ y ∷ []) (sym c.place-item.is) in
    writes_then (g.K.Keeper.standing c.args.keeper.now) (g.K.Keeper.standing c.loop-place.keeper) (g.K.Keeper.standing c.write_place.new.keeper) _ _ _ _ _ _ tt (Ok tt)
    (λ (o : Office). lines_at o (flat_map (paths_in o) (take i xs))) (λ (o : Office). lines_at o (paths_in o x)) (λ (o : Office). lines_at o (flat_map (paths_in o) (take (i + 1) xs)))
    c.loop-place.invariant c.in-Ok.ensures (λ o stands. places_more o (take i xs) x ∙ ap (λ l. lines_at o (flat_map (paths_in o) l)) (sym next))

pub returns-in-Err : goal.returns-in-Err
returns-in-Err g c =
    let i = c.loop-place.place-index in
    let xs = c.args.places.now in
    let x = c.place-item.result in
    let next : take (i + 1) xs ≡ take i xs ++ x ∷ [] = take_more xs i x (omega arith) ∙ ap (λ y. take i xs ++ y ∷ []) (sym c.place-item.is) in
    let whole : (take i xs ++ x ∷ []) ++ drop (i + 1) xs ≡ xs = ap (λ l. l ++ drop (i + 1) xs) (sym next) ∙ take-append-drop (i + 1) xs in
    writes_failed (g.K.Keeper.standing c.args.keeper.now) (g.K.Keeper.standing c.write_place.new.keeper) _ _ _ _ c.in-Err.fault
    (λ (o : Office). lines_at o (flat_map (paths_in o) (take i xs ++ x ∷ []))) (λ (o : Office). lines_at o (flat_map (paths_in o) (drop (i + 1) xs))) (λ (o : Office). lines_at o (flat_map (paths_in o) xs))
    (writes_then (g.K.Keeper.standing c.args.keeper.now) (g.K.Keeper.standing c.loop-place.keeper) (g.K.Keeper.standing c.write_place.new.keeper) _ _ _ _ _ _ tt (Err c.in-Err.fault)
    (λ (o : Office). lines_at o (flat_map (paths_in o) (take i xs))) (λ (o : Office). lines_at o (paths_in o x)) (λ (o : Office). lines_at o (flat_map (paths_in o) (take i xs ++ x ∷ [])))
    c.loop-place.invariant c.in-Err.ensures (λ o stands. places_more o (take i xs) x))
    (λ o stands. places_more_all o (take i xs ++ x ∷ []) (drop (i + 1) xs) ∙ ap (λ l. lines_at o (flat_map (paths_in o) l)) whole)

pub returns : goal.returns
returns g c =
    let xs = c.args.places.now in
    writes_same (g.K.Keeper.standing c.args.keeper.now) (g.K.Keeper.standing c.loop-place.keeper) _ _ _ _ _
    (λ (o : Office). lines_at o (flat_map (paths_in o) (take c.loop-place.place-index xs))) (λ (o : Office). lines_at o (flat_map (paths_in o) xs))
    c.loop-place.invariant (λ o stands. ap (λ l. lines_at o (flat_map (paths_in o) l)) (take_all c.loop-place.place-index xs c.loop-place-test.false))
