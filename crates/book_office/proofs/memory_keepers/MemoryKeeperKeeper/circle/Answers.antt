use Rattle.book_office.proofs.Common.{◌∙◌, sym, subst, refl}
use Rattle.std.specs.Prelude.{IfSome}
use Rattle.book_lists.specs.Callers.{IsCircle}
use Rattle.book_lists.specs.Memberships.{IsReachOf}
use Rattle.book_office_values.specs.declared.offices.Office.{Office}
use Rattle.book_office.proofs.Fallbacks.{still_falls}
use Rattle.book_office.proofs.memory_keepers.MemoryKeeperKeeper.circle.Goals as goal

pub returns-in-Some : goal.returns-in-Some
returns-in-Some c =
    let reach = subst (λ r. IfSome r (IsReachOf c.self.inside.office.pairs)) c.in-Some.is c.self.invariant in
    record {
      was_honest = λ h. h;
      falls = still_falls;
      value = λ h o stands. subst (λ (k : Office). IsCircle k.pairs c.args.caller.now c.in_ok-reached_in.field-0) (sym (stands.0 ∙ sym c.self.view_is))
          (c.in_ok-reached_in.ensures c.self.inside.office.pairs reach);
      kept = λ h o stands. stands;
      left = λ h x left. left;
      counted = refl;
    }

pub returns : goal.returns
returns c =
    record {
      was_honest = λ h. h;
      falls = still_falls;
      value = λ h o stands. subst (λ (k : Office). IsCircle k.pairs c.args.caller.now c.in_ok-circle.circle) (sym (stands.0 ∙ sym c.self.view_is))
          (c.in_ok-circle.ensures c.self.inside.office.pairs c.in_ok-reach.ensures);
      kept = λ h o stands. (stands.0 ∙ sym c.self.view_is, stands.1);
      left = λ h x left. left;
      counted = refl;
    }
