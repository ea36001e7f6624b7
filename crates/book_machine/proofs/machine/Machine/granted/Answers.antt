use Rattle.book_machine.proofs.Common.{◌≡◌, Ok, Meets, MeetsAny, limits_of, IsBodyAnswer, IsGrantedPlan, IsSuccess, IsTarget, ready_seen}
use Rattle.book_machine.proofs.AskingEach.{asked_first, asked_refused, one_more_asked}
use Rattle.book_machine.proofs.Planning.{refused_by_body, refused_by_limits, granted_after_limits}
use Rattle.book_machine.proofs.StagesInTurn.{asks_refused, asks_then}
use Rattle.book_machine.proofs.machine.Machine.granted.Goals as goal

pub returns-in-Err : goal.returns-in-Err
returns-in-Err g c = asks_refused _ _ c.in-Err.refusal c.refuse.result _ _ c.in-Err.ensures c.refuse.ensures
    (λ o stands told there. refused_by_body o c.args.circle.now (ready_seen c.args.ready) c.in-Err.refusal told)

pub returns-in-Err-check_limits : goal.returns-in-Err-check_limits
returns-in-Err-check_limits g c =
    let ready = ready_seen c.args.ready in
    let e = c.in-Err-check_limits.refusal in
    asked_refused _ _ _ e c.refuse-in-Err-check_limits.result _ (λ o r. Meets r (limits_of o ready.asked ready.target))
    (λ o r. IsTarget o ready.target → MeetsAny (IsGrantedPlan o c.args.circle.now ready) r)
    (asked_first _ _ c.in_default.field-0 (λ o r. MeetsAny (IsBodyAnswer o ready.asked ready.target.path) r) c.in_default.ensures)
    c.in-Err-check_limits.ensures c.refuse-in-Err-check_limits.ensures
    (λ o accepted told there. refused_by_limits o c.args.circle.now ready e accepted told)

pub returns : goal.returns
returns g c =
    let ready = ready_seen c.args.ready in
    let circle = c.args.circle.now in
    let r = c.success.result in
    asks_then _ _ _ tt r (λ o x. IsBodyAnswer o ready.asked ready.target.path (Ok tt) × (limits_of o ready.asked ready.target ≡ Ok tt))
    (λ o x. IsTarget o ready.target → MeetsAny (IsSuccess o circle ready) x) (λ o x. IsTarget o ready.target → MeetsAny (IsGrantedPlan o circle ready) x)
    (one_more_asked _ _ _ c.in_default-check_limits.field-0 _ (λ o. IsBodyAnswer o ready.asked ready.target.path (Ok tt) × (limits_of o ready.asked ready.target ≡ Ok tt)) (λ o x. Meets x (limits_of o ready.asked ready.target))
    (asked_first _ _ c.in_default.field-0 (λ o x. MeetsAny (IsBodyAnswer o ready.asked ready.target.path) x) c.in_default.ensures)
    c.in_default-check_limits.ensures (λ o accepted room. (accepted, room)))
    c.success.ensures
    (λ o stands told meets there. granted_after_limits o circle ready r told.0 told.1 (meets there))
