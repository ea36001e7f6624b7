use Rattle.book_wire_steps.specs.Steps.{OnlyAdopts}
use Rattle.book_desk_visitors.proofs.places.Places.visit_all.Given as goal

abbrev pub invariant-loop-step : goal.invariant-loop-step
invariant-loop-step g l = OnlyAdopts g.M.Service.serving l.initial.service l.service
