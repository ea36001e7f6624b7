-- What is in force at a resource of one Office, and what a caller holds there.
use Rattle.std.specs.Prelude.{Bool, true, false, ◌++◌, Option, Some, None, option_map}
use Rattle.book_rights.specs.Leaves.{no_leaf}
use Rattle.book_rights.specs.declared.privileges.Leaf.{Leaf}
use Rattle.book_lists.specs.Circles.{CircleOf}
use Rattle.book_office.specs.InForce.{in_force, lists_in}
use Rattle.book_office.specs.declared.nodes.Listed.{Listed}
use Rattle.book_questions_rights.specs.Lines.{card_here, granted_by}
use Rattle.book_questions_differs.specs.declared.forces.Force.{Force}
use Rattle.book_questions_differs.specs.declared.places.Found.{Found}

-- at a resource that is no card
abbrev pub force_of : Found → Force
force_of found = record { entries = in_force found.lists.levels; here = found.here }

-- at a card of a book: its own list stands before the own lists of the book
abbrev pub card_force : Found → Listed → Force
card_force book card = record {
  entries = lists_in true book.lists.levels ++ (card.own ++ lists_in false book.lists.levels);
  here = card_here card;
}

-- the same where the resource is there
abbrev pub force_in : Option Found → Option Force
force_in found = option_map force_of found

abbrev pub card_force_in : Option Found → Option Listed → Option Force
card_force_in None card = None
card_force_in (Some book) None = None
card_force_in (Some book) (Some card) = Some (card_force book card)

-- what a caller holds: nothing where the resource or the caller is not there
abbrev pub held : Option Force → Option CircleOf → Leaf → Bool
held None circle = no_leaf
held (Some force) None = no_leaf
held (Some force) (Some circle) = granted_by force.entries circle force.here
