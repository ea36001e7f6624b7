use Rattle.book_questions_differs.proofs.Common.{◌≡◌, ◌++◌, ◌∷◌, [], List, take, Ok, refl, sym, ap, ◌∙◌, subst, Compares, Standing, Office}
use Rattle.std.proofs.Common.{◌+◌, true, arith, Vec, Global}
use Rattle.std.specs.Prelude.{if◌then◌else◌}
use Rattle.std.specs.Result.{is_ok}
use Rattle.std.proofs.lemmas.List.{take_more, take_all}
use Rattle.book_questions_rights.proofs.Zips.{zip_more}
use Rattle.book_questions_differs.specs.Parties.{AreParties, IsParty}
use Rattle.book_questions_differs.specs.declared.parties.Party.{Party}
use Rattle.book_questions_differs.proofs.ReadsOfTwo.{nothing_read, compared_then, compared_as, compared_refused, compared_failed}
use Rattle.book_questions_differs.proofs.parties.parties_of.Goals as goal

pub loop-name-init : goal.loop-name-init
loop-name-init g c = nothing_read (g.K.Keeper.standing c.args.before.now) (g.L.Keeper.standing c.args.after.now) c.new-parties.result.items
    (λ (o p : Office) (parties : List Party). AreParties o p [] parties) (λ h k o p so tp. subst (AreParties o p []) (sym c.new-parties.ensures.items) tt)

pub loop-name-preserved : goal.loop-name-preserved
loop-name-preserved g c =
    let Before0 : Standing = g.K.Keeper.standing c.args.before.now in
    let Before1 : Standing = g.K.Keeper.standing c.loop-name.before in
    let Before2 : Standing = g.K.Keeper.standing c.party_of.new.before in
    let After0 : Standing = g.L.Keeper.standing c.args.after.now in
    let After1 : Standing = g.L.Keeper.standing c.loop-name.after in
    let After2 : Standing = g.L.Keeper.standing c.party_of.new.after in
    let i = c.loop-name.name-index in
    let xs = c.args.names.now in
    let name = c.name-item.result in
    let old = c.loop-name.parties.items in
    let more : take (i + 1) xs ≡ take i xs ++ name ∷ [] = take_more xs i name (omega arith) ∙ ap (λ x. take i xs ++ x ∷ []) (sym c.name-item.is) in
    let T : Office → Office → List Party → Type 0 = λ o p parties. AreParties o p (take i xs) parties in
    let U : Office → Office → Party → Type 0 = λ o p party. IsParty o p name party in
    let V : Office → Office → Party → Type 0 = λ o p party. AreParties o p (take (i + 1) xs) (old ++ party ∷ []) in
    let W : Office → Office → List Party → Type 0 = λ o p parties. AreParties o p (take (i + 1) xs) parties in
    let both : Compares Before0 Before2 After0 After2 (Ok c.in-Ok.party) V = compared_then Before0 Before1 Before2 After0 After1 After2 old (Ok c.in-Ok.party) T U V c.loop-name.invariant c.in-Ok.ensures
    (λ o p so tp t y u. subst (λ zs. AreParties o p zs (old ++ y ∷ [])) (sym more) (zip_more (IsParty o p) (take i xs) old name y t u)) in
    let ok : is_ok c.push.result ≡ true = c.if-is_err.ensures.negation in
    let pushed : c.push.new.self.items ≡ old ++ c.in-Ok.party ∷ [] = c.push.ensures.items ∙ ap (λ b. if b then old ++ c.in-Ok.party ∷ [] else old) ok in
    compared_as Before0 Before2 After0 After2 c.in-Ok.party c.push.new.self.items V W both (λ o p so tp v. subst (AreParties o p (take (i + 1) xs)) (sym pushed) v)

pub returns-in-Err : goal.returns-in-Err
returns-in-Err g c =
    compared_failed (g.K.Keeper.standing c.args.before.now) (g.K.Keeper.standing c.loop-name.before) (g.K.Keeper.standing c.party_of.new.before)
    (g.L.Keeper.standing c.args.after.now) (g.L.Keeper.standing c.loop-name.after) (g.L.Keeper.standing c.party_of.new.after)
    c.loop-name.parties.items c.in-Err.fault _ _ _ _ refl c.loop-name.invariant c.in-Err.ensures

pub returns-then-is_err : goal.returns-then-is_err
returns-then-is_err g c =
    let Before0 : Standing = g.K.Keeper.standing c.args.before.now in
    let Before1 : Standing = g.K.Keeper.standing c.loop-name.before in
    let Before2 : Standing = g.K.Keeper.standing c.party_of.new.before in
    let After0 : Standing = g.L.Keeper.standing c.args.after.now in
    let After1 : Standing = g.L.Keeper.standing c.loop-name.after in
    let After2 : Standing = g.L.Keeper.standing c.party_of.new.after in
    let V : Office → Office → Party → Type 0 = λ o p party. Unit {0} in
    let both : Compares Before0 Before2 After0 After2 (Ok c.in-Ok.party) V = compared_then Before0 Before1 Before2 After0 After1 After2 c.loop-name.parties.items (Ok c.in-Ok.party) _ _ V c.loop-name.invariant c.in-Ok.ensures (λ o p so tp t y u. tt) in
    compared_refused Before0 Before2 After0 After2 c.in-Ok.party _ V _ refl both

pub returns : goal.returns
returns g c =
    let n = c.loop-name.name-index in
    let xs = c.args.names.now in
    let whole : take n xs ≡ xs = take_all n xs c.loop-name-test.false in
    compared_as (g.K.Keeper.standing c.args.before.now) (g.K.Keeper.standing c.loop-name.before) (g.L.Keeper.standing c.args.after.now) (g.L.Keeper.standing c.loop-name.after)
    c.loop-name.parties.items c.loop-name.parties
    (λ (o p : Office) (parties : List Party). AreParties o p (take n xs) parties) (λ (o p : Office) (parties : Vec Party Global). AreParties o p xs parties.items)
    c.loop-name.invariant (λ o p so tp t. subst (λ zs. AreParties o p zs c.loop-name.parties.items) whole t)
