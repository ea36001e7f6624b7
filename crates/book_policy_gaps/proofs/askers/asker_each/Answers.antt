use Rattle.book_policy_gaps.proofs.Common.{◌≡◌, ◌++◌, ◌∷◌, ◌∙◌, ◌+◌, [], List, take, Ok, sym, ap, subst, true, arith, Vec, Global, Reads, Standing, Office, if◌then◌else◌, is_ok, take_more, take_all, reads_nothing, reads_then, reads_weaker, reads_refused, reads_failed}
use Rattle.book_policy_gaps.specs.Askers.{AreAskers, IsAsker}
use Rattle.book_policy_gaps.specs.declared.askers.Asker.{Asker}
use Rattle.book_policy_gaps.proofs.InTurn.{zip_more}
use Rattle.book_policy_gaps.proofs.askers.asker_each.Goals as goal

pub loop-person-init : goal.loop-person-init
loop-person-init g c = reads_nothing (g.K.Keeper.standing c.args.keeper.now) c.new-askers.result.items (λ (o : Office) (askers : List Asker). AreAskers o.pairs [] askers)
    (λ h o s. subst (AreAskers o.pairs []) (sym c.new-askers.ensures.items) tt)

pub loop-person-preserved : goal.loop-person-preserved
loop-person-preserved g c =
    let S0 : Standing = g.K.Keeper.standing c.args.keeper.now in
    let S1 : Standing = g.K.Keeper.standing c.loop-person.keeper in
    let S2 : Standing = g.K.Keeper.standing c.asker_of.new.keeper in
    let i = c.loop-person.person-index in
    let xs = c.args.persons.now in
    let person = c.person-item.result in
    let old = c.loop-person.askers.items in
    let more : take (i + 1) xs ≡ take i xs ++ person ∷ [] = take_more xs i person (omega arith) ∙ ap (λ x. take i xs ++ x ∷ []) (sym c.person-item.is) in
    let T : Office → List Asker → Type 0 = λ o askers. AreAskers o.pairs (take i xs) askers in
    let U : Office → Asker → Type 0 = λ o asker. IsAsker o.pairs person asker in
    let V : Office → Asker → Type 0 = λ o asker. AreAskers o.pairs (take (i + 1) xs) (old ++ asker ∷ []) in
    let W : Office → List Asker → Type 0 = λ o askers. AreAskers o.pairs (take (i + 1) xs) askers in
    let both : Reads S0 S2 (Ok c.in-Ok.asker) V = reads_then S0 S1 S2 old (Ok c.in-Ok.asker) T U V c.loop-person.invariant c.in-Ok.ensures
    (λ o stands t y u. subst (λ zs. AreAskers o.pairs zs (old ++ y ∷ [])) (sym more) (zip_more (IsAsker o.pairs) (take i xs) old person y t u)) in
    let ok : is_ok c.push.result ≡ true = c.if-is_err.ensures.negation in
    let pushed : c.push.new.self.items ≡ old ++ c.in-Ok.asker ∷ [] = c.push.ensures.items ∙ ap (λ b. if b then old ++ c.in-Ok.asker ∷ [] else old) ok in
    reads_weaker S0 S2 c.in-Ok.asker c.push.new.self.items V W both (λ o stands v. subst (AreAskers o.pairs (take (i + 1) xs)) (sym pushed) v)

pub returns-in-Err : goal.returns-in-Err
returns-in-Err g c =
    reads_failed (g.K.Keeper.standing c.args.keeper.now) (g.K.Keeper.standing c.loop-person.keeper) (g.K.Keeper.standing c.asker_of.new.keeper)
    c.loop-person.askers.items c.in-Err.fault _ _ _ c.loop-person.invariant c.in-Err.ensures

pub returns-then-is_err : goal.returns-then-is_err
returns-then-is_err g c =
    let S0 : Standing = g.K.Keeper.standing c.args.keeper.now in
    let S1 : Standing = g.K.Keeper.standing c.loop-person.keeper in
    let S2 : Standing = g.K.Keeper.standing c.asker_of.new.keeper in
    let V : Office → Asker → Type 0 = λ o asker. Unit {0} in
    let both : Reads S0 S2 (Ok c.in-Ok.asker) V = reads_then S0 S1 S2 c.loop-person.askers.items (Ok c.in-Ok.asker) _ _ V c.loop-person.invariant c.in-Ok.ensures (λ o stands t y u. tt) in
    reads_refused S0 S2 c.in-Ok.asker V _ both

pub returns : goal.returns
returns g c =
    let n = c.loop-person.person-index in
    let xs = c.args.persons.now in
    let whole : take n xs ≡ xs = take_all n xs c.loop-person-test.false in
    reads_weaker (g.K.Keeper.standing c.args.keeper.now) (g.K.Keeper.standing c.loop-person.keeper) c.loop-person.askers.items c.loop-person.askers
    (λ (o : Office) (askers : List Asker). AreAskers o.pairs (take n xs) askers) (λ (o : Office) (askers : Vec Asker Global). AreAskers o.pairs xs askers.items)
    c.loop-person.invariant (λ o stands t. subst (λ zs. AreAskers o.pairs zs c.loop-person.askers.items) whole t)
