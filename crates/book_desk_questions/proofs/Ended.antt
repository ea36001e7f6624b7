-- How a question ends: no failure has the status of what was done.
use Rattle.book_desk_questions.proofs.Common.{◌≡◌, arith}
use Rattle.book_machine.specs.declared.refusals.Refusal.{Refusal}
use Rattle.book_machine.specs.declared.refusals.Refusal.TheVariants as refusals
use Rattle.book_desk_questions.specs.Failures.{refused_status, unanswered_status}
use Rattle.book_desk_questions.specs.declared.failures.Unanswered.{Unanswered}
use Rattle.book_desk_questions.specs.declared.failures.Unanswered.TheVariants.{Refused, UnknownPrivilege, TooMany, Output}

refused_not_done : (refusal : Refusal) → refused_status refusal ≡ 0 → ⊥
refused_not_done refusals.Unavailable e = omega (arith, e)
refused_not_done refusals.BadRequest e = omega (arith, e)
refused_not_done refusals.UnknownCaller e = omega (arith, e)
refused_not_done (refusals.BadCard fault) e = omega (arith, e)
refused_not_done (refusals.NeedPrivileges denial) e = omega (arith, e)
refused_not_done refusals.NoProtectedAceConflict e = omega (arith, e)
refused_not_done refusals.NoInheritedAceConflict e = omega (arith, e)
refused_not_done refusals.LimitedNumberOfAces e = omega (arith, e)
refused_not_done refusals.NotSupportedPrivilege e = omega (arith, e)
refused_not_done refusals.RecognizedPrincipal e = omega (arith, e)
refused_not_done refusals.ValidSyncToken e = omega (arith, e)
refused_not_done refusals.NotFound e = omega (arith, e)
refused_not_done (refusals.NotAllowed methods) e = omega (arith, e)
refused_not_done refusals.NoParent e = omega (arith, e)
refused_not_done refusals.Overwrite e = omega (arith, e)
refused_not_done refusals.BodyOnMkcol e = omega (arith, e)
refused_not_done refusals.Full e = omega (arith, e)

pub unanswered_not_done : (failure : Unanswered) → unanswered_status failure ≡ 0 → ⊥
unanswered_not_done (Refused refusal) e = refused_not_done refusal e
unanswered_not_done UnknownPrivilege e = omega (arith, e)
unanswered_not_done TooMany e = omega (arith, e)
unanswered_not_done Output e = omega (arith, e)
