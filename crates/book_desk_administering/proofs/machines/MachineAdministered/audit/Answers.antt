use Rattle.std.proofs.Common.{◌∙◌, inl, inr, refl, sym}
use Rattle.book_desk_app.proofs.Ending.{not_done}
use Rattle.book_desk_administering.proofs.Readings.{audit_reads, unaudited_reads}
use Rattle.book_desk_administering.proofs.machines.MachineAdministered.audit.Goals as goal

pub returns-in-Ok-clause-audits : goal.returns-in-Ok-clause-audits
returns-in-Ok-clause-audits g c = inl (refl, c.in-Ok.ensures.told)

pub returns-in-Ok-clause-reads : goal.returns-in-Ok-clause-reads
returns-in-Ok-clause-reads g c = audit_reads _ _ _ _ c.in-Ok.ensures.told

pub returns-in-Err-clause-audits : goal.returns-in-Err-clause-audits
returns-in-Err-clause-audits g c = inr (c.in-Err.failure, c.tell_line.ensures.status, c.in-Err.ensures.failed, c.tell_line.ensures.told)

pub returns-in-Err-clause-silent : goal.returns-in-Err-clause-silent
returns-in-Err-clause-silent g c = λ done. absurd (not_done c.in-Err.failure (sym c.tell_line.ensures.status ∙ done))

pub returns-in-Err-clause-reads : goal.returns-in-Err-clause-reads
returns-in-Err-clause-reads g c = unaudited_reads _ _ _ _ _ c.in-Err.ensures.failed
