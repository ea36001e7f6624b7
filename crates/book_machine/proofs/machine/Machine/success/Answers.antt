use Rattle.book_machine.proofs.Common.{◌≡◌, sym, subst, Asks, MeetsAny, IsListed, IsReportOf, IsSuccessOf, IsTarget, ready_seen}
use Rattle.book_machine.proofs.Planning.{listed_at_target, meets_any}
use Rattle.book_machine.proofs.StagesInTurn.{asks_nothing}
use Rattle.book_machine.specs.Stages.{allow_plan, delete_plan, mkcol_plan}
use Rattle.book_machine.proofs.machine.Machine.success.Goals as goal

pub returns-in-Propfind : goal.returns-in-Propfind
returns-in-Propfind g c =
    let old = g.K.Keeper.standing c.args.self.now.keeper in
    let new = g.K.Keeper.standing c.listed.new.self.keeper in
    let ready = ready_seen c.args.ready in
    let circle = c.args.circle.now in
    let find = c.in-Propfind.find in
    let r = c.listed.result in
    let asked = c.listed.ensures in
    let row : Asks old new r (λ o x. IsTarget o ready.target → MeetsAny (IsListed o circle find ready.target.path ready.target.node) x) =
    record {
      was_honest = asked.was_honest;
      falls = asked.falls;
      tells = λ h o stands there. listed_at_target o circle find ready.target r there (asked.tells h o stands);
      kept = asked.kept;
      left = asked.left;
      counted = asked.counted;
    } in
    subst (λ what. Asks old new r (λ o x. IsTarget o ready.target → MeetsAny (λ y. IsSuccessOf o circle what ready.caller ready.target y) x)) (sym c.in-Propfind.is) row

pub returns-in-Options : goal.returns-in-Options
returns-in-Options g c =
    let old = g.K.Keeper.standing c.args.self.now.keeper in
    let ready = ready_seen c.args.ready in
    let circle = c.args.circle.now in
    let r = c.allow_plan.result in
    let row : Asks old old r (λ o x. IsTarget o ready.target → MeetsAny (λ y. allow_plan ready.target.path ≡ y) x) =
    asks_nothing old r _ (λ h o stands there. meets_any (allow_plan ready.target.path) r c.allow_plan.ensures) in
    subst (λ what. Asks old old r (λ o x. IsTarget o ready.target → MeetsAny (λ y. IsSuccessOf o circle what ready.caller ready.target y) x)) (sym c.in-Options.is) row

pub returns-in-Delete : goal.returns-in-Delete
returns-in-Delete g c =
    let old = g.K.Keeper.standing c.args.self.now.keeper in
    let ready = ready_seen c.args.ready in
    let circle = c.args.circle.now in
    let r = c.delete_plan.result in
    let row : Asks old old r (λ o x. IsTarget o ready.target → MeetsAny (λ y. delete_plan ready.target.path ≡ y) x) =
    asks_nothing old r _ (λ h o stands there. meets_any (delete_plan ready.target.path) r c.delete_plan.ensures) in
    subst (λ what. Asks old old r (λ o x. IsTarget o ready.target → MeetsAny (λ y. IsSuccessOf o circle what ready.caller ready.target y) x)) (sym c.in-Delete.is) row

pub returns-in-Mkcol : goal.returns-in-Mkcol
returns-in-Mkcol g c =
    let old = g.K.Keeper.standing c.args.self.now.keeper in
    let ready = ready_seen c.args.ready in
    let circle = c.args.circle.now in
    let r = c.mkcol_plan.result in
    let row : Asks old old r (λ o x. IsTarget o ready.target → MeetsAny (λ y. mkcol_plan ready.caller ready.target.path ≡ y) x) =
    asks_nothing old r _ (λ h o stands there. meets_any (mkcol_plan ready.caller ready.target.path) r c.mkcol_plan.ensures) in
    subst (λ what. Asks old old r (λ o x. IsTarget o ready.target → MeetsAny (λ y. IsSuccessOf o circle what ready.caller ready.target y) x)) (sym c.in-Mkcol.is) row

pub returns-in-Report : goal.returns-in-Report
returns-in-Report g c =
    let old = g.K.Keeper.standing c.args.self.now.keeper in
    let new = g.K.Keeper.standing c.reported.new.self.keeper in
    let ready = ready_seen c.args.ready in
    let circle = c.args.circle.now in
    let r = c.reported.result in
    let asked = c.reported.ensures in
    let row : Asks old new r (λ o x. IsTarget o ready.target → MeetsAny (IsReportOf o circle c.in-Report.kind ready.target.path) x) =
    record {
      was_honest = asked.was_honest;
      falls = asked.falls;
      tells = λ h o stands there. asked.tells h o stands;
      kept = asked.kept;
      left = asked.left;
      counted = asked.counted;
    } in
    subst (λ what. Asks old new r (λ o x. IsTarget o ready.target → MeetsAny (λ y. IsSuccessOf o circle what ready.caller ready.target y) x)) (sym c.in-Report.is) row
