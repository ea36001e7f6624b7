use Rattle.book_questions_rights.proofs.Common.{◌≡◌, ◌++◌, ◌∷◌, [], List, take, Ok, sym, ap, ◌∙◌, subst, Reads, Standing, Office}
use Rattle.std.proofs.Common.{◌+◌, true, arith, Vec, Global}
use Rattle.std.specs.Prelude.{if◌then◌else◌}
use Rattle.std.specs.Result.{is_ok}
use Rattle.std.proofs.lemmas.List.{take_more, take_all}
use Rattle.book_office_audit.proofs.ReadsInTurn.{reads_nothing, reads_then, reads_weaker, reads_refused, reads_failed}
use Rattle.book_questions_rights.specs.Askers.{AreAskers, IsAsker}
use Rattle.book_questions_rights.specs.declared.askers.Asker.{Asker}
use Rattle.book_questions_rights.proofs.Zips.{zip_more}
use Rattle.book_questions_rights.proofs.askers.askers_of.Goals as goal

pub loop-caller-init : goal.loop-caller-init
loop-caller-init g c = reads_nothing (g.K.Keeper.standing c.args.keeper.now) c.new-askers.result.items (λ (o : Office) (askers : List Asker). AreAskers o.pairs [] askers)
    (λ h o s. subst (AreAskers o.pairs []) (sym c.new-askers.ensures.items) tt)

pub loop-caller-preserved : goal.loop-caller-preserved
loop-caller-preserved g c =
    let S0 : Standing = g.K.Keeper.standing c.args.keeper.now in
    let S1 : Standing = g.K.Keeper.standing c.loop-caller.keeper in
    let S2 : Standing = g.K.Keeper.standing c.asker_of.new.keeper in
    let i = c.loop-caller.caller-index in
    let xs = c.args.callers.now in
    let caller = c.caller-item.result in
    let old = c.loop-caller.askers.items in
    let more : take (i + 1) xs ≡ take i xs ++ caller ∷ [] = take_more xs i caller (omega arith) ∙ ap (λ x. take i xs ++ x ∷ []) (sym c.caller-item.is) in
    let T : Office → List Asker → Type 0 = λ o askers. AreAskers o.pairs (take i xs) askers in
    let U : Office → Asker → Type 0 = λ o asker. IsAsker o.pairs caller asker in
    let V : Office → Asker → Type 0 = λ o asker. AreAskers o.pairs (take (i + 1) xs) (old ++ asker ∷ []) in
    let W : Office → List Asker → Type 0 = λ o askers. AreAskers o.pairs (take (i + 1) xs) askers in
    let both : Reads S0 S2 (Ok c.in-Ok.asker) V = reads_then S0 S1 S2 old (Ok c.in-Ok.asker) T U V c.loop-caller.invariant c.in-Ok.ensures
    (λ o stands t y u. subst (λ zs. AreAskers o.pairs zs (old ++ y ∷ [])) (sym more) (zip_more (IsAsker o.pairs) (take i xs) old caller y t u)) in
    let ok : is_ok c.push.result ≡ true = c.if-is_err.ensures.negation in
    let pushed : c.push.new.self.items ≡ old ++ c.in-Ok.asker ∷ [] = c.push.ensures.items ∙ ap (λ b. if b then old ++ c.in-Ok.asker ∷ [] else old) ok in
    reads_weaker S0 S2 c.in-Ok.asker c.push.new.self.items V W both (λ o stands v. subst (AreAskers o.pairs (take (i + 1) xs)) (sym pushed) v)

pub returns-in-Err : goal.returns-in-Err
returns-in-Err g c =
    reads_failed (g.K.Keeper.standing c.args.keeper.now) (g.K.Keeper.standing c.loop-caller.keeper) (g.K.Keeper.standing c.asker_of.new.keeper)
    c.loop-caller.askers.items c.in-Err.fault _ _ _ c.loop-caller.invariant c.in-Err.ensures

pub returns-then-is_err : goal.returns-then-is_err
returns-then-is_err g c =
    let S0 : Standing = g.K.Keeper.standing c.args.keeper.now in
    let S1 : Standing = g.K.Keeper.standing c.loop-caller.keeper in
    let S2 : Standing = g.K.Keeper.standing c.asker_of.new.keeper in
    let V : Office → Asker → Type 0 = λ o asker. Unit {0} in
    let both : Reads S0 S2 (Ok c.in-Ok.asker) V = reads_then S0 S1 S2 c.loop-caller.askers.items (Ok c.in-Ok.asker) _ _ V c.loop-caller.invariant c.in-Ok.ensures (λ o stands t y u. tt) in
    reads_refused S0 S2 c.in-Ok.asker V _ both

pub returns : goal.returns
returns g c =
    let n = c.loop-caller.caller-index in
    let xs = c.args.callers.now in
    let whole : take n xs ≡ xs = take_all n xs c.loop-caller-test.false in
    reads_weaker (g.K.Keeper.standing c.args.keeper.now) (g.K.Keeper.standing c.loop-caller.keeper) c.loop-caller.askers.items c.loop-caller.askers
    (λ (o : Office) (askers : List Asker). AreAskers o.pairs (take n xs) askers) (λ (o : Office) (askers : Vec Asker Global). AreAskers o.pairs xs askers.items)
    c.loop-caller.invariant (λ o stands t. subst (λ zs. AreAskers o.pairs zs c.loop-caller.askers.items) whole t)
