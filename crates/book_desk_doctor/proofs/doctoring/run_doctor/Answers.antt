use Rattle.book_desk_doctor.proofs.Common.{Some, ap, arith, inl, inr, state, Keeps-refl}
use Rattle.book_desk_doctor.proofs.Doctored.{refused}
use Rattle.book_desk_doctor.proofs.doctoring.run_doctor.Goals as goal

pub returns-in-Ok-clause-runs : goal.returns-in-Ok-clause-runs
returns-in-Ok-clause-runs g c =
    let over = c.count-status in
    inl (
      c.in-Ok.tables,
      over.new.keeper,
      record { counted = c.in-Ok.ensures.counted; stands = c.in-Ok.ensures.stands },
      over.ensures.rests,
      over.ensures.ends,
      ap Some c.release.ensures,
    )

pub returns-in-Err-clause-runs : goal.returns-in-Err-clause-runs
returns-in-Err-clause-runs g c =
    elim (refused (state g.S.Store) _ c.args.store c.in-Err.fault c.in-Err.left c.refuse.result.1 c.in-Err.ensures.refused c.in-Err.ensures.kept c.refuse.ensures.ends) [
      | inl found ↦ inr (inl (c.refuse.ensures.status, Keeps-refl _, found))
      | inr failed ↦ inr (inr (c.refuse.ensures.status, Keeps-refl _, failed))
    ]

pub returns-in-Err-clause-silent : goal.returns-in-Err-clause-silent
returns-in-Err-clause-silent g c = λ done. absurd (omega (arith, done, c.refuse.ensures.status))
