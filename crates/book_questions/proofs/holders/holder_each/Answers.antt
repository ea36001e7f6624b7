use Rattle.book_questions.proofs.Common.{◌≡◌, ◌++◌, ◌∷◌, [], List, take, Ok, sym, ap, ◌∙◌, subst, Reads, Standing, Office}
use Rattle.std.proofs.Common.{◌+◌, true, arith, Vec, Global}
use Rattle.std.specs.Prelude.{if◌then◌else◌}
use Rattle.std.specs.Result.{is_ok}
use Rattle.std.proofs.lemmas.List.{take_more, take_all}
use Rattle.book_office_audit.proofs.ReadsInTurn.{reads_nothing, reads_then, reads_weaker, reads_refused, reads_failed}
use Rattle.book_lists.specs.Memberships.{set_of}
use Rattle.book_office.specs.Levels.{effective_of}
use Rattle.book_questions.specs.Who.{AreHolders, IsHolder}
use Rattle.book_questions.specs.declared.holders.Holder.{Holder}
use Rattle.book_questions.proofs.InTurn.{zip_more}
use Rattle.book_questions.proofs.holders.holder_each.Goals as goal

pub loop-caller-init : goal.loop-caller-init
loop-caller-init g c = reads_nothing (g.K.Keeper.standing c.args.keeper.now) c.new-holders.result.items (λ (o : Office) (holders : List Holder). AreHolders o.pairs (set_of c.args.pairs.now) (effective_of c.args.levels.now) c.args.here.now [] holders)
    (λ h o s. subst (AreHolders o.pairs (set_of c.args.pairs.now) (effective_of c.args.levels.now) c.args.here.now []) (sym c.new-holders.ensures.items) tt)

pub loop-caller-preserved : goal.loop-caller-preserved
loop-caller-preserved g c =
    let S0 : Standing = g.K.Keeper.standing c.args.keeper.now in
    let S1 : Standing = g.K.Keeper.standing c.loop-caller.keeper in
    let S2 : Standing = g.K.Keeper.standing c.holder_of.new.keeper in
    let i = c.loop-caller.caller-index in
    let xs = c.args.callers.now in
    let caller = c.caller-item.result in
    let list = effective_of c.args.levels.now in
    let here = c.args.here.now in
    let old = c.loop-caller.holders.items in
    let more : take (i + 1) xs ≡ take i xs ++ caller ∷ [] = take_more xs i caller (omega arith) ∙ ap (λ x. take i xs ++ x ∷ []) (sym c.caller-item.is) in
    let T : Office → List Holder → Type 0 = λ o holders. AreHolders o.pairs (set_of c.args.pairs.now) list here (take i xs) holders in
    let U : Office → Holder → Type 0 = λ o holder. IsHolder o.pairs (set_of c.args.pairs.now) list here caller holder in
    let V : Office → Holder → Type 0 = λ o holder. AreHolders o.pairs (set_of c.args.pairs.now) list here (take (i + 1) xs) (old ++ holder ∷ []) in
    let W : Office → List Holder → Type 0 = λ o holders. AreHolders o.pairs (set_of c.args.pairs.now) list here (take (i + 1) xs) holders in
    let both : Reads S0 S2 (Ok c.in-Ok.holder) V = reads_then S0 S1 S2 old (Ok c.in-Ok.holder) T U V c.loop-caller.invariant c.in-Ok.ensures
    (λ o stands t y u. subst (λ zs. AreHolders o.pairs (set_of c.args.pairs.now) list here zs (old ++ y ∷ [])) (sym more) (zip_more (IsHolder o.pairs (set_of c.args.pairs.now) list here) (take i xs) old caller y t u)) in
    let ok : is_ok c.push.result ≡ true = c.if-is_err.ensures.negation in
    let pushed : c.push.new.self.items ≡ old ++ c.in-Ok.holder ∷ [] = c.push.ensures.items ∙ ap (λ b. if b then old ++ c.in-Ok.holder ∷ [] else old) ok in
    reads_weaker S0 S2 c.in-Ok.holder c.push.new.self.items V W both (λ o stands v. subst (AreHolders o.pairs (set_of c.args.pairs.now) list here (take (i + 1) xs)) (sym pushed) v)

pub returns-in-Err : goal.returns-in-Err
returns-in-Err g c =
    reads_failed (g.K.Keeper.standing c.args.keeper.now) (g.K.Keeper.standing c.loop-caller.keeper) (g.K.Keeper.standing c.holder_of.new.keeper)
    c.loop-caller.holders.items c.in-Err.fault _ _ _ c.loop-caller.invariant c.in-Err.ensures

pub returns-then-is_err : goal.returns-then-is_err
returns-then-is_err g c =
    let S0 : Standing = g.K.Keeper.standing c.args.keeper.now in
    let S1 : Standing = g.K.Keeper.standing c.loop-caller.keeper in
    let S2 : Standing = g.K.Keeper.standing c.holder_of.new.keeper in
    let V : Office → Holder → Type 0 = λ o holder. Unit {0} in
    let both : Reads S0 S2 (Ok c.in-Ok.holder) V = reads_then S0 S1 S2 c.loop-caller.holders.items (Ok c.in-Ok.holder) _ _ V c.loop-caller.invariant c.in-Ok.ensures (λ o stands t y u. tt) in
    reads_refused S0 S2 c.in-Ok.holder V _ both

pub returns : goal.returns
returns g c =
    let n = c.loop-caller.caller-index in
    let xs = c.args.callers.now in
    let whole : take n xs ≡ xs = take_all n xs c.loop-caller-test.false in
    reads_weaker (g.K.Keeper.standing c.args.keeper.now) (g.K.Keeper.standing c.loop-caller.keeper) c.loop-caller.holders.items c.loop-caller.holders
    (λ (o : Office) (holders : List Holder). AreHolders o.pairs (set_of c.args.pairs.now) (effective_of c.args.levels.now) c.args.here.now (take n xs) holders) (λ (o : Office) (holders : Vec Holder Global). AreHolders o.pairs (set_of c.args.pairs.now) (effective_of c.args.levels.now) c.args.here.now xs holders.items)
    c.loop-caller.invariant (λ o stands t. subst (λ zs. AreHolders o.pairs (set_of c.args.pairs.now) (effective_of c.args.levels.now) c.args.here.now zs c.loop-caller.holders.items) whole t)
