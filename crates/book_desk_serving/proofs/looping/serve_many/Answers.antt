use Rattle.book_desk_serving.proofs.Common.{[], inr, refl, ◌∙◌}
use Rattle.book_wire_steps.proofs.Takes.{in_steps_none}
use Rattle.book_desk_serving.proofs.AtOnce.{lines_told, status_told}
use Rattle.book_desk_serving.proofs.InTurn.{tells_then}
use Rattle.book_desk_serving.proofs.looping.serve_many.Goals as goal

pub returns-clause-served : goal.returns-clause-served
returns-clause-served g c =
    let s = c.serve_at_once-service in
    let served = s.ensures.served in inr (
      c.in_default.ensures.said,
      record {
        faults = served.0;
        ended = s.result.1;
        served = served.2;
        status_is = c.status_of-status.ensures.status ∙ status_told (λ t. t.sound) (λ a fault b x. x.0) _ s.new.faults served.0 s.result.1 refl served.1;
        lines = tells_then _ _ _ _ _ _ _ _ (lines_told (λ t. t.lines) (λ t. g.E.Lines.is_whole t.errors) (λ t. g.E.Write.contents t.errors) (λ a fault b x. (x.1, x.2)) _ s.new.faults served.0 served.1) c.status_of-status.ensures.line;
      },
    )

pub returns-clause-steps : goal.returns-clause-steps
returns-clause-steps g c = c.serve_at_once-service.ensures.steps

-- no connection was served
pub returns-in-Err-clause-steps : goal.returns-in-Err-clause-steps
returns-in-Err-clause-steps g c = ([], in_steps_none g.M.Service.serving c.args.limits.is_administered c.args.service c.args.service refl)
