-- What a request needs, once it has passed the stages before its verdict.
use Rattle.std.specs.Prelude.{ℕ, Bool, List, [], ◌∷◌, map, is_some, Option, Some, None, Result, Ok, Err}
use Rattle.book_office.specs.Resources.{node_at}
use Rattle.book_office_values.specs.declared.offices.Office.{Office}
use Rattle.book_office_values.specs.declared.paths.Path.{Path}
use Rattle.book_rights.specs.declared.places.Need.{Need}
use Rattle.book_rights.specs.declared.privileges.Leaf.{Leaf}
use Rattle.book_machine.specs.Asked.{destination_in}
use Rattle.book_machine.specs.Stages.{◌>>=◌, caller_of, check, ready_of}
use Rattle.book_machine.specs.Targets.{Ready}
use Rattle.book_machine.specs.Verdicts.{needs_at, place_path}
use Rattle.book_machine.specs.declared.asked.Destination.{Destination}
use Rattle.book_machine.specs.declared.messages.Request.{Request}
use Rattle.book_machine.specs.declared.needing.Needed.{Needed}
use Rattle.book_machine.specs.declared.needing.PlacedNeed.{PlacedNeed}
use Rattle.book_machine.specs.declared.refusals.Refusal.{Refusal}
use Rattle.book_machine.specs.declared.refusals.Refusal.TheVariants.{NotFound}

-- a need with the resource that its place names
abbrev pub placed : Option Destination → Path → Need → PlacedNeed
placed to target need = record { resource = place_path to target need.place; set = need.set }

-- the needs of a method in turn, each with its resource
abbrev pub placed_needs : Ready → List PlacedNeed
placed_needs ready = map (placed (destination_in ready.asked) ready.target.path) (needs_at ready)

abbrev pub needed_of : Ready → Needed
needed_of ready = record { caller = ready.caller; needs = placed_needs ready }

-- what a request needs, or the refusal of the stage that ends it before
abbrev pub needed_by : Office → Option (List ℕ) → Request → Result Needed Refusal
needed_by o name request = ready_of o name request >>= λ ready. Ok (needed_of ready)

-- a path at which something is mapped
abbrev pub mapped_at : Office → Option Path → Result Path Refusal
mapped_at o None = Err NotFound
mapped_at o (Some p) = check (is_some (node_at o p)) NotFound >>= λ _. Ok p

-- these leaves at one resource, which is there
abbrev pub needed_at : Office → Option (List ℕ) → Option Path → (Leaf → Bool) → Result Needed Refusal
needed_at o name p set = caller_of o name >>= λ caller. mapped_at o p >>= λ resource. Ok (record { caller = caller; needs = record { resource = resource; set = set } ∷ [] })
