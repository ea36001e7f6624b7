use Rattle.book_questions_stays.proofs.Common.{◌≡◌, ◌++◌, ◌∷◌, ◌∙◌, ◌+◌, [], Ok, refl, sym, ap, arith, take, flat_map, gathered, Office, Standing}
use Rattle.std.proofs.lemmas.List.{flat_map_more, take_all, take_more}
use Rattle.book_office_audit.proofs.Gathering.{gathered_both}
use Rattle.book_office_audit.proofs.ReadsInTurn.{reads_failed, reads_nothing, reads_then, reads_weaker}
use Rattle.book_questions_stays.specs.Stays.{blocks_at}
use Rattle.book_questions_stays.proofs.answers.add_each.Goals as goal

pub loop-path-init : goal.loop-path-init
loop-path-init g c = reads_nothing (g.K.Keeper.standing c.args.keeper.now) tt
    (λ (o : Office) (done : Unit {0}). c.args.blocks.now ≡ gathered c.args.blocks.now (flat_map (blocks_at c.args.policy.now o) [])) (λ h o s. refl)

pub loop-path-preserved : goal.loop-path-preserved
loop-path-preserved g c =
    let S0 : Standing = g.K.Keeper.standing c.args.keeper.now in
    let S1 : Standing = g.K.Keeper.standing c.loop-path.keeper in
    let S2 : Standing = g.K.Keeper.standing c.add_at.new.keeper in
    let i = c.loop-path.path-index in
    let xs = c.args.paths.now in
    let path = c.path-item.result in
    let m = c.args.blocks.now in
    let t = c.args.policy.now in
    let more : take (i + 1) xs ≡ take i xs ++ path ∷ [] = take_more xs i path (omega arith) ∙ ap (λ x. take i xs ++ x ∷ []) (sym c.path-item.is) in
    let T : Office → Unit {0} → Type 0 = λ o done. c.loop-path.blocks ≡ gathered m (flat_map (blocks_at t o) (take i xs)) in
    let U : Office → Unit {0} → Type 0 = λ o done. c.add_at.new.blocks ≡ gathered c.loop-path.blocks (blocks_at t o path) in
    let V : Office → Unit {0} → Type 0 = λ o done. c.add_at.new.blocks ≡ gathered m (flat_map (blocks_at t o) (take (i + 1) xs)) in
    reads_then S0 S1 S2 tt (Ok tt) T U V c.loop-path.invariant c.in-Ok.ensures
    (λ o stands told y u. u ∙ ap (λ b. gathered b (blocks_at t o path)) told
    ∙ gathered_both m (flat_map (blocks_at t o) (take i xs)) (blocks_at t o path)
    ∙ ap (gathered m) (flat_map_more (blocks_at t o) [] (take i xs) path ∙ ap (flat_map (blocks_at t o)) (sym more)))

pub returns-in-Err : goal.returns-in-Err
returns-in-Err g c =
    reads_failed (g.K.Keeper.standing c.args.keeper.now) (g.K.Keeper.standing c.loop-path.keeper) (g.K.Keeper.standing c.add_at.new.keeper)
    (tt {0}) c.in-Err.fault _ _ _ c.loop-path.invariant c.in-Err.ensures

pub returns : goal.returns
returns g c =
    let n = c.loop-path.path-index in
    let xs = c.args.paths.now in
    let m = c.args.blocks.now in
    let t = c.args.policy.now in
    let whole : take n xs ≡ xs = take_all n xs c.loop-path-test.false in
    reads_weaker (g.K.Keeper.standing c.args.keeper.now) (g.K.Keeper.standing c.loop-path.keeper) (tt {0}) (tt {0})
    (λ (o : Office) (done : Unit {0}). c.loop-path.blocks ≡ gathered m (flat_map (blocks_at t o) (take n xs)))
    (λ (o : Office) (done : Unit {0}). c.loop-path.blocks ≡ gathered m (flat_map (blocks_at t o) xs))
    c.loop-path.invariant (λ o stands told. told ∙ ap (λ zs. gathered m (flat_map (blocks_at t o) zs)) whole)
