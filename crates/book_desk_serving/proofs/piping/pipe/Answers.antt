use Rattle.book_desk_serving.proofs.Common.{◌≡◌, ◌∙◌, arith, refl, sym, ap, inl, inr, subst, Err, StreamFault, Keeps-refl}
use Rattle.book_desk_serving.proofs.InTurn.{stopped}
use Rattle.book_wire.specs.declared.stream.Ended.{Ended}
use Rattle.book_wire.specs.declared.stream.Ended.TheVariants.{Clean, Cut, Closed}
use Rattle.book_desk_serving.specs.Streams.{ended_status, told_fault}
use Rattle.book_desk_app.specs.Telling.{TellsFailure}
use Rattle.book_desk_app.specs.declared.failures.Failure.TheVariants.{Stream}
use Rattle.std.proofs.Common.{Bool}
use Rattle.book_desk_serving.proofs.piping.pipe.Goals as goal

not_broken : (e : Ended) → ended_status e ≡ 3 → ⊥
not_broken Clean e = omega (arith, e)
not_broken Cut e = omega (arith, e)
not_broken Closed e = omega (arith, e)

pub returns-then-has_failed_log-clause-ended : goal.returns-then-has_failed_log-clause-ended
returns-then-has_failed_log-clause-ended g c = λ other. absurd (other c.tell_line.ensures.status)

pub returns-then-has_failed_log-clause-sound : goal.returns-then-has_failed_log-clause-sound
returns-then-has_failed_log-clause-sound g c = λ other. absurd (other c.tell_line.ensures.status)

pub returns-then-has_failed_log-clause-stopped : goal.returns-then-has_failed_log-clause-stopped
returns-then-has_failed_log-clause-stopped g c = λ _.
    let s = c.in-Ok.ensures.served in
    let failed = sym c.has_failed_log.ensures ∙ c.if-has_failed_log.true in
    inr (ended_status c.in-Ok.served.ended, (c.in-Ok.served, refl, s.0, s.1, s.2, s.3, s.4), failed, c.tell_line.ensures.told)

pub returns-then-has_failed_log-clause-silent : goal.returns-then-has_failed_log-clause-silent
returns-then-has_failed_log-clause-silent g c = λ other. absurd (other c.tell_line.ensures.status)

pub returns-else-has_failed_log-clause-sound : goal.returns-else-has_failed_log-clause-sound
returns-else-has_failed_log-clause-sound g c = λ _. sym c.has_failed_log.ensures ∙ c.if-has_failed_log.false

pub returns-in-Err-clause-sound : goal.returns-in-Err-clause-sound
returns-in-Err-clause-sound g c = λ other. absurd (other c.tell_line-in-Err.ensures.status)

pub returns-else-has_failed_log-clause-ended : goal.returns-else-has_failed_log-clause-ended
returns-else-has_failed_log-clause-ended g c = λ _. let s = c.in-Ok.ensures.served in (c.in-Ok.served, c.ended_status.ensures, s.0, s.1, s.2, s.3, s.4)

pub returns-else-has_failed_log-clause-stopped : goal.returns-else-has_failed_log-clause-stopped
returns-else-has_failed_log-clause-stopped g c = λ broken. absurd (not_broken c.in-Ok.served.ended (sym c.ended_status.ensures ∙ broken))

pub returns-else-has_failed_log-clause-silent : goal.returns-else-has_failed_log-clause-silent
returns-else-has_failed_log-clause-silent g c = λ _. Keeps-refl (g.E.Write.contents c.args.errors.now)

pub returns-in-Err-clause-ended : goal.returns-in-Err-clause-ended
returns-in-Err-clause-ended g c = λ other. absurd (other c.tell_line-in-Err.ensures.status)

pub returns-in-Err-clause-stopped : goal.returns-in-Err-clause-stopped
returns-in-Err-clause-stopped g c = λ _.
    let of = c.in-Err.ensures in
    let s = stopped _ _ _ _ _ _ c.in-Err.fault (λ e. of.memory (ap Err e)) (λ e. of.read (ap Err e)) (λ e. of.write (ap Err e)) (λ e. of.log (ap Err e)) in
    let is = c.told_fault-fault.ensures ∙ ap (λ (b : Bool). told_fault b c.in-Err.fault) c.has_failed_log-in-Err.ensures in
    let P : StreamFault → Type 0 = λ t.
    TellsFailure (g.E.Lines.is_whole c.tell_line-in-Err.new.errors) (g.E.Write.contents c.args.errors.now) (g.E.Write.contents c.tell_line-in-Err.new.errors) (Stream (record { fault = t })) in
    inl (c.in-Err.fault, s.0, s.1, s.2, s.3, s.4, subst P is c.tell_line-in-Err.ensures.told)

pub returns-in-Err-clause-silent : goal.returns-in-Err-clause-silent
returns-in-Err-clause-silent g c = λ other. absurd (other c.tell_line-in-Err.ensures.status)
