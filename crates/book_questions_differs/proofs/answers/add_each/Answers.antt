use Rattle.book_questions_differs.proofs.Common.{◌≡◌, ◌++◌, ◌∷◌, [], take, Ok, refl, sym, ap, ◌∙◌, flat_map, gathered, Standing, Office}
use Rattle.std.proofs.Common.{◌+◌, arith}
use Rattle.std.proofs.lemmas.List.{take_more, take_all, flat_map_more}
use Rattle.book_office_audit.proofs.Gathering.{gathered_both}
use Rattle.book_questions_differs.specs.Differences.{blocks_at, blocks_of}
use Rattle.book_questions_differs.proofs.ReadsOfTwo.{nothing_read, compared_then, compared_as, compared_failed}
use Rattle.book_questions_differs.proofs.answers.add_each.Goals as goal

pub loop-path-init : goal.loop-path-init
loop-path-init g c = nothing_read (g.K.Keeper.standing c.args.before.now) (g.L.Keeper.standing c.args.after.now) tt
    (λ (o p : Office) (done : Unit {0}). c.args.blocks.now ≡ gathered c.args.blocks.now (blocks_of o p c.args.parties.now [])) (λ h k o p so tp. refl)

pub loop-path-preserved : goal.loop-path-preserved
loop-path-preserved g c =
    let Before0 : Standing = g.K.Keeper.standing c.args.before.now in
    let Before1 : Standing = g.K.Keeper.standing c.loop-path.before in
    let Before2 : Standing = g.K.Keeper.standing c.add_at.new.before in
    let After0 : Standing = g.L.Keeper.standing c.args.after.now in
    let After1 : Standing = g.L.Keeper.standing c.loop-path.after in
    let After2 : Standing = g.L.Keeper.standing c.add_at.new.after in
    let i = c.loop-path.path-index in
    let xs = c.args.paths.now in
    let path = c.path-item.result in
    let parties = c.args.parties.now in
    let m = c.args.blocks.now in
    let more : take (i + 1) xs ≡ take i xs ++ path ∷ [] = take_more xs i path (omega arith) ∙ ap (λ x. take i xs ++ x ∷ []) (sym c.path-item.is) in
    let T : Office → Office → Unit {0} → Type 0 = λ o p done. c.loop-path.blocks ≡ gathered m (blocks_of o p parties (take i xs)) in
    let U : Office → Office → Unit {0} → Type 0 = λ o p done. c.add_at.new.blocks ≡ gathered c.loop-path.blocks (blocks_at o p parties path) in
    let V : Office → Office → Unit {0} → Type 0 = λ o p done. c.add_at.new.blocks ≡ gathered m (blocks_of o p parties (take (i + 1) xs)) in
    compared_then Before0 Before1 Before2 After0 After1 After2 tt (Ok tt) T U V c.loop-path.invariant c.in-Ok.ensures
    (λ o p so tp t y u. u ∙ ap (λ b. gathered b (blocks_at o p parties path)) t
    ∙ gathered_both m (blocks_of o p parties (take i xs)) (blocks_at o p parties path)
    ∙ ap (gathered m) (flat_map_more (blocks_at o p parties) [] (take i xs) path ∙ ap (flat_map (blocks_at o p parties)) (sym more)))

pub returns-in-Err : goal.returns-in-Err
returns-in-Err g c =
    compared_failed (g.K.Keeper.standing c.args.before.now) (g.K.Keeper.standing c.loop-path.before) (g.K.Keeper.standing c.add_at.new.before)
    (g.L.Keeper.standing c.args.after.now) (g.L.Keeper.standing c.loop-path.after) (g.L.Keeper.standing c.add_at.new.after)
    (tt {0}) c.in-Err.fault _ _ _ _ refl c.loop-path.invariant c.in-Err.ensures

pub returns : goal.returns
returns g c =
    let n = c.loop-path.path-index in
    let xs = c.args.paths.now in
    let parties = c.args.parties.now in
    let m = c.args.blocks.now in
    let whole : take n xs ≡ xs = take_all n xs c.loop-path-test.false in
    compared_as (g.K.Keeper.standing c.args.before.now) (g.K.Keeper.standing c.loop-path.before) (g.L.Keeper.standing c.args.after.now) (g.L.Keeper.standing c.loop-path.after)
    (tt {0}) (tt {0})
    (λ (o p : Office) (done : Unit {0}). c.loop-path.blocks ≡ gathered m (blocks_of o p parties (take n xs)))
    (λ (o p : Office) (done : Unit {0}). c.loop-path.blocks ≡ gathered m (blocks_of o p parties xs))
    c.loop-path.invariant (λ o p so tp t. t ∙ ap (λ zs. gathered m (blocks_of o p parties zs)) whole)
