use Rattle.book_desk_keeping.proofs.Common.{◌∙◌, inl, inr, refl, sym}
use Rattle.book_desk_app.proofs.Ending.{not_done}
use Rattle.book_desk_app.specs.declared.failures.Failure.TheVariants.{Store}
use Rattle.book_desk_keeping.proofs.SameOffices.{are_other, are_same}
use Rattle.book_desk_keeping.proofs.Leaving.{fault_not_done}
use Rattle.book_desk_keeping.specs.declared.failures.KeepingFault.TheVariants.{BackupDiffers}
use Rattle.book_desk_keeping.proofs.comparisons.compare.Goals as goal

pub returns-in-Ok-true-clause-ends : goal.returns-in-Ok-true-clause-ends
returns-in-Ok-true-clause-ends g c = inl (
  refl,
  are_same (g.K.Keeper.standing c.args.first.now) (g.K.Keeper.standing c.are_same.new.first) (g.L.Keeper.standing c.args.other.now) (g.L.Keeper.standing c.are_same.new.other)
      c.in-Ok-true.field-0 c.in-Ok-true.field-0-test c.in-Ok-true.ensures.told,
)

pub returns-in-Ok-false-clause-ends : goal.returns-in-Ok-false-clause-ends
returns-in-Ok-false-clause-ends g c =
    inr (inl (
      c.tell_fault.ensures.status,
      are_other (g.K.Keeper.standing c.args.first.now) (g.K.Keeper.standing c.are_same.new.first) (g.L.Keeper.standing c.args.other.now) (g.L.Keeper.standing c.are_same.new.other)
          c.in-Ok-false.field-0 c.in-Ok-false.field-0-test c.in-Ok-false.ensures.told,
      record { front = c.tell_fault.ensures.told.front; line = c.tell_fault.ensures.told.line },
    ))

pub returns-in-Ok-false-clause-silent : goal.returns-in-Ok-false-clause-silent
returns-in-Ok-false-clause-silent g c = λ done. absurd (fault_not_done BackupDiffers (sym c.tell_fault.ensures.status ∙ done))

pub returns-in-Err-clause-ends : goal.returns-in-Err-clause-ends
returns-in-Err-clause-ends g c =
    inr (inr (
      c.from.result,
      c.tell_line.ensures.status,
      record { front = c.tell_line.ensures.told.front; line = c.tell_line.ensures.told.line },
    ))

pub returns-in-Err-clause-silent : goal.returns-in-Err-clause-silent
returns-in-Err-clause-silent g c = λ done. absurd (not_done (Store c.from.result) (sym c.tell_line.ensures.status ∙ done))
