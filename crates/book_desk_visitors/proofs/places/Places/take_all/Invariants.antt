use Rattle.book_wire_steps.specs.Steps.{OnlyAdopts}
use Rattle.book_desk_visitors.proofs.places.Places.take_all.Given as goal

abbrev pub invariant-loop : goal.invariant-loop
invariant-loop g l = OnlyAdopts g.M.Service.serving l.initial.service l.service
