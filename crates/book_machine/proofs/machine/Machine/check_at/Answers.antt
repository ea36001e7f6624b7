use Rattle.book_machine.proofs.Common.{inl, inr}
use Rattle.book_machine.proofs.StagesInTurn.{asks_refused}
use Rattle.book_machine.proofs.machine.Machine.check_at.Goals as goal

pub returns-in_err-owner : goal.returns-in_err-owner
returns-in_err-owner g c = asks_refused _ _ c.in_err-owner.field-0.0 c.from_residual-in_err-owner.result _ _ c.in_err-owner.ensures c.from_residual-in_err-owner.ensures.1
    (λ o stands told. elim told [ inl unavailable ↦ inl unavailable | inr refused ↦ absurd cc ])
