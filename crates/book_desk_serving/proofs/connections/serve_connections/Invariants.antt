use Rattle.book_desk_serving.proofs.Common.{◌≡◌, List, length, true}
use Rattle.std.specs.Io.KnownBytes.{Keeps}
use Rattle.book_desk_serving.specs.Connections.{AreConnections, AreLogged, ServedConnection, lines_of_connections, none_had_a_fault, outcomes_of}
use Rattle.book_desk_app.specs.Telling.{Tells}
use Rattle.book_desk_serving.proofs.connections.serve_connections.Given as goal

-- the connections so far, in turn, and what was told of them; and nothing was where none had a fault
abbrev pub invariant-loop-number : goal.invariant-loop-number
invariant-loop-number g l =
    ((connections : List (ServedConnection g.row.S.Denot)) × AreConnections g.S.Read.remaining g.S.Write.contents g.M.Service.serving l.fn.service connections l.service
    × Tells (g.E.Lines.is_whole l.fn.errors) (g.E.Lines.is_whole l.errors) (g.E.Write.contents l.fn.errors) (g.E.Write.contents l.errors) (lines_of_connections (outcomes_of connections))
    × (length connections ≡ l.number) × AreLogged (outcomes_of connections) × (l.sound ≡ none_had_a_fault (outcomes_of connections)))
    × (l.sound ≡ true → Keeps (g.E.Write.contents l.fn.errors) (g.E.Write.contents l.errors))
