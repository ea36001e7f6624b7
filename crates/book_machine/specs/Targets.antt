-- What is found out about a request, without where it lies in memory.
use Rattle.std.specs.Prelude.{Bool, Option}
use Rattle.book_lists.specs.declared.circles.Caller.{Caller}
use Rattle.book_office.specs.declared.nodes.Node.{Node}
use Rattle.book_office_values.specs.declared.paths.Path.{Path}
use Rattle.book_machine.specs.declared.asked.Asked.{Asked}
use Rattle.book_machine.specs.declared.plans.Ready.{Ready as ReadyFound}
use Rattle.book_machine.specs.declared.plans.Target.{Target as TargetFound}

-- the resource that a request asks for: where it is, what is mapped there with no number told, and whether something is
-- mapped at the destination
pub record Target : Type 0 where
  pub path : Path
  pub node : Option Node
  pub replaces : Bool

-- a request that has passed the stages before its verdict
pub record Ready : Type 0 where
  pub caller : Caller
  pub asked : Asked
  pub target : Target

-- what contracts see of what was found out
abbrev pub target_seen : TargetFound → Target
target_seen t = record { path = t.path.now; node = t.node; replaces = t.replaces }

abbrev pub ready_seen : ReadyFound → Ready
ready_seen r = record { caller = r.caller; asked = r.asked; target = target_seen r.target }
