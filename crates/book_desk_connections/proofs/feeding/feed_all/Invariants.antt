use Rattle.std.proofs.Common.{None}
use Rattle.book_office.specs.Keeping.{FallsBack}
use Rattle.book_desk_connections.specs.Rounds.{AreFed, OthersAreSame}
use Rattle.book_desk_connections.proofs.feeding.feed_all.Given as goal

-- those so far were fed, and none had a fault
abbrev pub invariant-loop-copy : goal.invariant-loop-copy
invariant-loop-copy g l = record {
  fed : AreFed (g.M.Service.serving l.fn.service) (g.M.Service.serving l.service) l.fn.places.items l.places.items None;
  others : OthersAreSame l.held l.fn.places.items l.places.items;
  falls : FallsBack (g.M.Service.serving l.fn.service).standing.fallback (g.M.Service.serving l.service).standing.fallback;
}
