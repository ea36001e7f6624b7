use Rattle.std.proofs.Common.{refl}
use Rattle.book_desk_metrics.specs.declared.counted.Counted.{Counted}
use Rattle.book_wire_steps.proofs.Takes.{only_within}
use Rattle.book_desk.proofs.controls.ControlsControlCounted.take_turn.Goals as goal

-- what is only adopted in the service within is only adopted in the one that counts
pub returns : goal.returns
returns g c =
    let old = c.args.service.now in
    let put : g.row.M.Denot → Counted g.row.M.Denot g.row.C.Denot = λ m. record old { service = m } in
    only_within g.M.Service.serving (λ (s : Counted g.row.M.Denot g.row.C.Denot). s.service) put (λ m. refl) old (put c.take_turn.new.service)
    c.take_turn.ensures
