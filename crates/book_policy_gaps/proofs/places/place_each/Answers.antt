use Rattle.book_policy_gaps.proofs.Common.{◌≡◌, ◌++◌, ◌∷◌, ◌∙◌, ◌+◌, [], List, map, take, Ok, sym, ap, true, arith, Vec, Global, Reads, Standing, Office, if◌then◌else◌, is_ok, take_more, take_all, reads_nothing, reads_then, reads_weaker, reads_refused, reads_failed}
use Rattle.book_policy_gaps.specs.Places.{place_at}
use Rattle.book_policy_gaps.specs.declared.places.Place.{Place}
use Rattle.book_policy_gaps.proofs.InTurn.{map_more}
use Rattle.book_policy_gaps.proofs.places.place_each.Goals as goal

pub loop-path-init : goal.loop-path-init
loop-path-init g c = reads_nothing (g.K.Keeper.standing c.args.keeper.now) c.new-places.result.items (λ (o : Office) (told : List Place). told ≡ [])
    (λ h o s. c.new-places.ensures.items)

pub loop-path-preserved : goal.loop-path-preserved
loop-path-preserved g c =
    let S0 : Standing = g.K.Keeper.standing c.args.keeper.now in
    let S1 : Standing = g.K.Keeper.standing c.loop-path.keeper in
    let S2 : Standing = g.K.Keeper.standing c.place_at.new.keeper in
    let i = c.loop-path.path-index in
    let xs = c.args.paths.now in
    let path = c.path-item.result in
    let old = c.loop-path.places.items in
    let more : take (i + 1) xs ≡ take i xs ++ path ∷ [] = take_more xs i path (omega arith) ∙ ap (λ x. take i xs ++ x ∷ []) (sym c.path-item.is) in
    let T : Office → List Place → Type 0 = λ o told. told ≡ map (place_at o) (take i xs) in
    let U : Office → Place → Type 0 = λ o one. one ≡ place_at o path in
    let V : Office → Place → Type 0 = λ o one. old ++ one ∷ [] ≡ map (place_at o) (take (i + 1) xs) in
    let W : Office → List Place → Type 0 = λ o told. told ≡ map (place_at o) (take (i + 1) xs) in
    let both : Reads S0 S2 (Ok c.in-Ok.place) V = reads_then S0 S1 S2 old (Ok c.in-Ok.place) T U V c.loop-path.invariant c.in-Ok.ensures
    (λ o stands t y u. map_more (place_at o) (take i xs) (take (i + 1) xs) old path y more t u) in
    let ok : is_ok c.push.result ≡ true = c.if-is_err.ensures.negation in
    let pushed : c.push.new.self.items ≡ old ++ c.in-Ok.place ∷ [] = c.push.ensures.items ∙ ap (λ b. if b then old ++ c.in-Ok.place ∷ [] else old) ok in
    reads_weaker S0 S2 c.in-Ok.place c.push.new.self.items V W both (λ o stands v. pushed ∙ v)

pub returns-in-Err : goal.returns-in-Err
returns-in-Err g c =
    reads_failed (g.K.Keeper.standing c.args.keeper.now) (g.K.Keeper.standing c.loop-path.keeper) (g.K.Keeper.standing c.place_at.new.keeper)
    c.loop-path.places.items c.in-Err.fault _ _ _ c.loop-path.invariant c.in-Err.ensures

pub returns-then-is_err : goal.returns-then-is_err
returns-then-is_err g c =
    let S0 : Standing = g.K.Keeper.standing c.args.keeper.now in
    let S1 : Standing = g.K.Keeper.standing c.loop-path.keeper in
    let S2 : Standing = g.K.Keeper.standing c.place_at.new.keeper in
    let V : Office → Place → Type 0 = λ o one. Unit {0} in
    let both : Reads S0 S2 (Ok c.in-Ok.place) V = reads_then S0 S1 S2 c.loop-path.places.items (Ok c.in-Ok.place) _ _ V c.loop-path.invariant c.in-Ok.ensures (λ o stands t y u. tt) in
    reads_refused S0 S2 c.in-Ok.place V _ both

pub returns : goal.returns
returns g c =
    let n = c.loop-path.path-index in
    let xs = c.args.paths.now in
    let whole : take n xs ≡ xs = take_all n xs c.loop-path-test.false in
    reads_weaker (g.K.Keeper.standing c.args.keeper.now) (g.K.Keeper.standing c.loop-path.keeper) c.loop-path.places.items c.loop-path.places
    (λ (o : Office) (told : List Place). told ≡ map (place_at o) (take n xs)) (λ (o : Office) (told : Vec Place Global). told.items ≡ map (place_at o) xs)
    c.loop-path.invariant (λ o stands t. t ∙ ap (map (place_at o)) whole)
