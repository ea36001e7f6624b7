use Rattle.std.specs.List.{All}
use Rattle.book_desk_connections.specs.Rounds.{IsHeldIn}
use Rattle.book_desk_connections.specs.declared.rounds.Held.{Held}
use Rattle.book_desk_connections.proofs.rounds.copies_of.Given as goal

abbrev pub invariant-loop-place : goal.invariant-loop-place
invariant-loop-place l = All (λ (h : Held). IsHeldIn l.places h) l.held.items
