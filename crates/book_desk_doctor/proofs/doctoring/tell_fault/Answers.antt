use Rattle.book_desk_doctor.proofs.Common.{inr, refl, state}
use Rattle.book_desk_doctor.proofs.Doctored.{found_ends, says_nothing}
use Rattle.book_desk_doctor.proofs.doctoring.tell_fault.Goals as goal

pub returns-clause-ends : goal.returns-clause-ends
returns-clause-ends g c = found_ends (state g.S.Store) _ c.args.left c.in-Ok.examined.1 c.in-Ok.examined.0 _ c.tell_found.ensures.told c.in-Ok.ensures refl

pub returns-in-Err-clause-ends : goal.returns-in-Err-clause-ends
returns-in-Err-clause-ends g c =
    let failure = c.error_failure-failure in
    inr (
      failure.result,
      record { front = c.tell_line.ensures.told.front; line = c.tell_line.ensures.told.line },
      λ says. absurd (says_nothing failure.result failure.ensures.either says),
    )
