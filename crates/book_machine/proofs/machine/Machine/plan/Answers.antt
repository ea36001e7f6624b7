use Rattle.book_machine.proofs.Common.{◌∙◌, Err, inl, inr, refl, ap, subst, MeetsAny, MeetsPlan, Counted, IsGrantedPlan, IsTarget, Plan, Ready, ready_seen, Unavailable, one_more}
use Rattle.std.proofs.Common.{option_copied}
use Rattle.book_machine.proofs.Answering.{failed_once}
use Rattle.book_machine.proofs.StagesInTurn.{counted_after, refused_on}
use Rattle.book_machine.proofs.Planning.{refused_by_needs, planned, target_of_ready}
use Rattle.book_office.proofs.Fallbacks.{then_falls}
use Rattle.book_machine.proofs.machine.Machine.plan.Goals as goal

pub returns-in_default : goal.returns-in_default
returns-in_default g c =
    let is = c.refuse.ensures in
    let r = c.refuse.result in
    record {
      was_honest = λ h. c.in_ok-ready.ensures.was_honest (c.in_default.ensures.was_honest h);
      falls = then_falls c.in_ok-ready.ensures.falls c.in_default.ensures.falls;
      tells = λ h o stands. refused_on r Unavailable (λ x. MeetsPlan o (option_copied c.args.name) c.args.request.now x) is (inl refl);
      kept = λ h o stands. c.in_default.ensures.kept h o (c.in_ok-ready.ensures.kept (c.in_default.ensures.was_honest h) o stands);
      left = λ h x left. c.in_ok-ready.ensures.left (c.in_default.ensures.was_honest h) x (c.in_default.ensures.left h x left);
      counted = refused_on r Unavailable (λ x. Counted {A = Plan} x (g.K.Keeper.standing c.args.self.now.keeper).failures (g.K.Keeper.standing c.circle.new.self).failures) is
          (elim (failed_once c.in_default.field-0 _ _ c.in_default.ensures.counted) [
            | inl same ↦ inl (same ∙ c.in_ok-ready.ensures.counted)
            | inr failed ↦ inr (refl, failed ∙ ap one_more c.in_ok-ready.ensures.counted)
          ]);
    }

pub returns-in-Err : goal.returns-in-Err
returns-in-Err g c =
    let e = c.in-Err.refusal in
    let is = c.refuse-in-Err.ensures in
    let r = c.refuse-in-Err.result in
    record {
      was_honest = λ h. c.in_ok-ready.ensures.was_honest (c.in-Ok.ensures.was_honest (c.in-Err.ensures.judges.was_honest h));
      falls = then_falls c.in_ok-ready.ensures.falls (then_falls c.in-Ok.ensures.falls c.in-Err.ensures.judges.falls);
      tells = λ h o stands.
          let h2 = c.in-Err.ensures.judges.was_honest h in
          let h1 = c.in-Ok.ensures.was_honest h2 in
          let s1 = c.in_ok-ready.ensures.kept h1 o stands in
          let s2 = c.in-Ok.ensures.kept h2 o s1 in
          let ready_is = c.in_ok-ready.ensures.tells h1 o stands in
          refused_on r e (λ x. MeetsPlan o (option_copied c.args.name) c.args.request.now x) is
          (refused_by_needs o (option_copied c.args.name) c.args.request.now (ready_seen c.in_ok-ready.ready) ready_is _ (c.in-Ok.ensures.value h2 o s1) e
          (c.in-Err.ensures.judges.tells h o s2 (target_of_ready o (option_copied c.args.name) c.args.request.now (ready_seen c.in_ok-ready.ready) ready_is)));
      kept = λ h o stands.
          let h2 = c.in-Err.ensures.judges.was_honest h in
          let h1 = c.in-Ok.ensures.was_honest h2 in
          c.in-Err.ensures.judges.kept h o (c.in-Ok.ensures.kept h2 o (c.in_ok-ready.ensures.kept h1 o stands));
      left = λ h x left.
          let h2 = c.in-Err.ensures.judges.was_honest h in
          let h1 = c.in-Ok.ensures.was_honest h2 in
          c.in_ok-ready.ensures.left h1 x (c.in-Ok.ensures.left h2 x (c.in-Err.ensures.judges.left h x left));
      counted = refused_on r e (λ x. Counted {A = Plan} x (g.K.Keeper.standing c.args.self.now.keeper).failures (g.K.Keeper.standing c.check_needs.new.self.keeper).failures) is
          (counted_after {A = Plan} (Err e) _ _ _ c.in-Err.ensures.judges.counted (c.in-Ok.ensures.counted ∙ c.in_ok-ready.ensures.counted));
    }

pub returns : goal.returns
returns g c = record {
  was_honest = λ h. c.in_ok-ready.ensures.was_honest (c.in-Ok.ensures.was_honest (c.in_default-check_needs.ensures.judges.was_honest (c.granted.ensures.was_honest h)));
  falls = then_falls c.in_ok-ready.ensures.falls (then_falls c.in-Ok.ensures.falls (then_falls c.in_default-check_needs.ensures.judges.falls c.granted.ensures.falls));
  tells = λ h o stands.
      let h3 = c.granted.ensures.was_honest h in
      let h2 = c.in_default-check_needs.ensures.judges.was_honest h3 in
      let h1 = c.in-Ok.ensures.was_honest h2 in
      let s1 = c.in_ok-ready.ensures.kept h1 o stands in
      let s2 = c.in-Ok.ensures.kept h2 o s1 in
      let s3 = c.in_default-check_needs.ensures.judges.kept h3 o s2 in
      let ready_is = c.in_ok-ready.ensures.tells h1 o stands in
      planned o (option_copied c.args.name) c.args.request.now (ready_seen c.in_ok-ready.ready) ready_is _ (c.in-Ok.ensures.value h2 o s1) c.in_default-check_needs.field-0 c.granted.result
      (c.in_default-check_needs.ensures.judges.tells h3 o s2 (target_of_ready o (option_copied c.args.name) c.args.request.now (ready_seen c.in_ok-ready.ready) ready_is))
      (subst (λ (ready : Ready). IsTarget o ready.target → MeetsAny (IsGrantedPlan o c.in-Ok.circle ready) c.granted.result) (ap ready_seen c.check_needs.ensures.kept)
      (c.granted.ensures.tells h o s3) (target_of_ready o (option_copied c.args.name) c.args.request.now (ready_seen c.in_ok-ready.ready) ready_is));
  kept = λ h o stands.
      let h3 = c.granted.ensures.was_honest h in
      let h2 = c.in_default-check_needs.ensures.judges.was_honest h3 in
      let h1 = c.in-Ok.ensures.was_honest h2 in
      c.granted.ensures.kept h o (c.in_default-check_needs.ensures.judges.kept h3 o (c.in-Ok.ensures.kept h2 o (c.in_ok-ready.ensures.kept h1 o stands)));
  left = λ h x left.
      let h3 = c.granted.ensures.was_honest h in
      let h2 = c.in_default-check_needs.ensures.judges.was_honest h3 in
      let h1 = c.in-Ok.ensures.was_honest h2 in
      c.in_ok-ready.ensures.left h1 x (c.in-Ok.ensures.left h2 x (c.in_default-check_needs.ensures.judges.left h3 x (c.granted.ensures.left h x left)));
  counted = counted_after _ _ _ _ c.granted.ensures.counted (c.in_default-check_needs.ensures.judges.counted ∙ c.in-Ok.ensures.counted ∙ c.in_ok-ready.ensures.counted);
}
