use Rattle.book_questions_differs.proofs.Common.{◌≡◌, ◌++◌, ◌∷◌, [], take, Ok, sym, ap, ◌∙◌, Standing, Office}
use Rattle.std.proofs.Common.{◌+◌, arith, filter, Vec, Global}
use Rattle.std.proofs.lemmas.List.{take_more, take_all}
use Rattle.std.proofs.lemmas.List.Elements.{filter-append}
use Rattle.book_office_audit.proofs.ReadsInTurn.{reads_nothing, reads_then, reads_weaker, reads_failed}
use Rattle.book_office_values.specs.declared.paths.Path.{Path}
use Rattle.book_questions_differs.specs.Places.{is_missing}
use Rattle.book_questions_differs.proofs.places.read_missing.Goals as goal

pub loop-path-init : goal.loop-path-init
loop-path-init g c = reads_nothing (g.K.Keeper.standing c.args.keeper.now) tt (λ (o : Office) (done : Unit {0}). c.new-missing.result.items ≡ filter (is_missing o) []) (λ h o s. c.new-missing.ensures.items)

pub loop-path-preserved : goal.loop-path-preserved
loop-path-preserved g c =
    let S0 : Standing = g.K.Keeper.standing c.args.keeper.now in
    let S1 : Standing = g.K.Keeper.standing c.loop-path.keeper in
    let S2 : Standing = g.K.Keeper.standing c.add_missing.new.keeper in
    let i = c.loop-path.path-index in
    let xs = c.args.paths.now in
    let path = c.path-item.result in
    let more : take (i + 1) xs ≡ take i xs ++ path ∷ [] = take_more xs i path (omega arith) ∙ ap (λ x. take i xs ++ x ∷ []) (sym c.path-item.is) in
    let T : Office → Unit {0} → Type 0 = λ o done. c.loop-path.missing.items ≡ filter (is_missing o) (take i xs) in
    let U : Office → Unit {0} → Type 0 = λ o done. c.add_missing.new.missing.items ≡ c.loop-path.missing.items ++ filter (is_missing o) (path ∷ []) in
    let V : Office → Unit {0} → Type 0 = λ o done. c.add_missing.new.missing.items ≡ filter (is_missing o) (take (i + 1) xs) in
    reads_then S0 S1 S2 tt (Ok tt) T U V c.loop-path.invariant c.in-Ok.ensures
    (λ o stands t y u. u ∙ ap (λ zs. zs ++ filter (is_missing o) (path ∷ [])) t ∙ sym (filter-append (is_missing o) (take i xs) (path ∷ [])) ∙ ap (filter (is_missing o)) (sym more))

pub returns-in-Err : goal.returns-in-Err
returns-in-Err g c =
    reads_failed (g.K.Keeper.standing c.args.keeper.now) (g.K.Keeper.standing c.loop-path.keeper) (g.K.Keeper.standing c.add_missing.new.keeper)
    (tt {0}) c.in-Err.fault _ _ _ c.loop-path.invariant c.in-Err.ensures

pub returns : goal.returns
returns g c =
    let n = c.loop-path.path-index in
    let xs = c.args.paths.now in
    let whole : take n xs ≡ xs = take_all n xs c.loop-path-test.false in
    reads_weaker (g.K.Keeper.standing c.args.keeper.now) (g.K.Keeper.standing c.loop-path.keeper) (tt {0}) c.loop-path.missing
    (λ (o : Office) (done : Unit {0}). c.loop-path.missing.items ≡ filter (is_missing o) (take n xs)) (λ (o : Office) (missing : Vec Path Global). missing.items ≡ filter (is_missing o) xs)
    c.loop-path.invariant (λ o stands t. t ∙ ap (filter (is_missing o)) whole)
