use Rattle.book_questions.proofs.Common.{◌≡◌, ◌++◌, ◌∷◌, [], List, take, Ok, sym, ap, ◌∙◌, subst, Reads, Standing, Office, AreWhys, IsWhyNeed, WhyNeed}
use Rattle.std.proofs.Common.{◌+◌, true, arith, Vec, Global}
use Rattle.std.specs.Prelude.{if◌then◌else◌}
use Rattle.std.specs.Result.{is_ok}
use Rattle.std.proofs.lemmas.List.{take_more, take_all}
use Rattle.book_office_audit.proofs.ReadsInTurn.{reads_nothing, reads_then, reads_weaker, reads_refused, reads_failed}
use Rattle.book_questions.proofs.InTurn.{zip_more}
use Rattle.book_questions.proofs.rulings.why_each.Goals as goal

pub loop-need-init : goal.loop-need-init
loop-need-init g c = reads_nothing (g.K.Keeper.standing c.args.keeper.now) c.new-whys.result.items (λ (o : Office) (whys : List WhyNeed). AreWhys o c.args.circle.now [] whys)
    (λ h o s. subst (AreWhys o c.args.circle.now []) (sym c.new-whys.ensures.items) tt)

pub loop-need-preserved : goal.loop-need-preserved
loop-need-preserved g c =
    let S0 : Standing = g.K.Keeper.standing c.args.keeper.now in
    let S1 : Standing = g.K.Keeper.standing c.loop-need.keeper in
    let S2 : Standing = g.K.Keeper.standing c.why_need.new.keeper in
    let i = c.loop-need.need-index in
    let xs = c.args.needs.now in
    let need = c.need-item.result in
    let circle = c.args.circle.now in
    let old = c.loop-need.whys.items in
    let more : take (i + 1) xs ≡ take i xs ++ need ∷ [] = take_more xs i need (omega arith) ∙ ap (λ x. take i xs ++ x ∷ []) (sym c.need-item.is) in
    let T : Office → List WhyNeed → Type 0 = λ o whys. AreWhys o circle (take i xs) whys in
    let U : Office → WhyNeed → Type 0 = λ o why. IsWhyNeed o circle need why in
    let V : Office → WhyNeed → Type 0 = λ o why. AreWhys o circle (take (i + 1) xs) (old ++ why ∷ []) in
    let W : Office → List WhyNeed → Type 0 = λ o whys. AreWhys o circle (take (i + 1) xs) whys in
    let both : Reads S0 S2 (Ok c.in-Ok.why) V = reads_then S0 S1 S2 old (Ok c.in-Ok.why) T U V c.loop-need.invariant c.in-Ok.ensures
    (λ o stands t y u. subst (λ zs. AreWhys o circle zs (old ++ y ∷ [])) (sym more) (zip_more (IsWhyNeed o circle) (take i xs) old need y t u)) in
    let ok : is_ok c.push.result ≡ true = c.if-is_err.ensures.negation in
    let pushed : c.push.new.self.items ≡ old ++ c.in-Ok.why ∷ [] = c.push.ensures.items ∙ ap (λ b. if b then old ++ c.in-Ok.why ∷ [] else old) ok in
    reads_weaker S0 S2 c.in-Ok.why c.push.new.self.items V W both (λ o stands v. subst (AreWhys o circle (take (i + 1) xs)) (sym pushed) v)

pub returns-in-Err : goal.returns-in-Err
returns-in-Err g c =
    reads_failed (g.K.Keeper.standing c.args.keeper.now) (g.K.Keeper.standing c.loop-need.keeper) (g.K.Keeper.standing c.why_need.new.keeper)
    c.loop-need.whys.items c.in-Err.fault _ _ _ c.loop-need.invariant c.in-Err.ensures

pub returns-then-is_err : goal.returns-then-is_err
returns-then-is_err g c =
    let S0 : Standing = g.K.Keeper.standing c.args.keeper.now in
    let S1 : Standing = g.K.Keeper.standing c.loop-need.keeper in
    let S2 : Standing = g.K.Keeper.standing c.why_need.new.keeper in
    let V : Office → WhyNeed → Type 0 = λ o why. Unit {0} in
    let both : Reads S0 S2 (Ok c.in-Ok.why) V = reads_then S0 S1 S2 c.loop-need.whys.items (Ok c.in-Ok.why) _ _ V c.loop-need.invariant c.in-Ok.ensures (λ o stands t y u. tt) in
    reads_refused S0 S2 c.in-Ok.why V _ both

pub returns : goal.returns
returns g c =
    let n = c.loop-need.need-index in
    let xs = c.args.needs.now in
    let whole : take n xs ≡ xs = take_all n xs c.loop-need-test.false in
    reads_weaker (g.K.Keeper.standing c.args.keeper.now) (g.K.Keeper.standing c.loop-need.keeper) c.loop-need.whys.items c.loop-need.whys
    (λ (o : Office) (whys : List WhyNeed). AreWhys o c.args.circle.now (take n xs) whys) (λ (o : Office) (whys : Vec WhyNeed Global). AreWhys o c.args.circle.now xs whys.items)
    c.loop-need.invariant (λ o stands t. subst (λ zs. AreWhys o c.args.circle.now zs c.loop-need.whys.items) whole t)
