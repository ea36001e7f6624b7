-- Lists without the entries that apply to a caller at no resource.
use Rattle.std.specs.Prelude.{◌≡◌, Bool, true, false, ◌||◌, List, None, filter}
use Rattle.book_lists.specs.Circles.{CircleOf}
use Rattle.book_lists.specs.Entries.{applies}
use Rattle.book_lists.specs.declared.entries.Entry.{Entry}
use Rattle.book_lists.specs.declared.entries.Here.{Here}
use Rattle.book_lists.specs.declared.entries.Who.{Who}
use Rattle.book_lists.specs.declared.entries.Who.TheVariants.{Href, Everyone, Authenticated, Unauthenticated, Owner, Own}
use Rattle.book_office.specs.declared.nodes.Level.{Level}
use Rattle.book_office_sync.specs.Reading.{above_of}
use Rattle.book_office_sync.specs.declared.reports.Above.{Above}

-- the form asks of the resource
abbrev pub asks_of_resource : Who → Bool
asks_of_resource (Href p) = false
asks_of_resource Everyone = false
asks_of_resource Authenticated = false
asks_of_resource Unauthenticated = false
asks_of_resource Owner = true
asks_of_resource Own = true

-- a resource without owner that is no principal
abbrev pub anywhere : Here
anywhere = record { owner = None; principal = None }

-- an entry may apply: its form asks of the resource, or it applies at any
abbrev pub may_apply : Entry → CircleOf → Bool
may_apply entry circle = asks_of_resource entry.who || applies entry circle anywhere

module _ (circle : CircleOf) where
  -- the entries that apply at a resource
  abbrev pub applied : Here → List Entry → List Entry
  applied here entries = filter (λ (entry : Entry). applies entry circle here) entries

  -- the same entries of both lists apply, in the same order, whatever the resource
  abbrev pub AppliesAs : List Entry → List Entry → Type 0
  AppliesAs entries kept = (here : Here) → applied here kept ≡ applied here entries

  -- what is kept of the entries of levels applies as they do
  pub record IsAboveOf (levels : List Level) (above : Above) : Type 0 where
    pub protected : AppliesAs (above_of levels).protected above.protected
    pub own : AppliesAs (above_of levels).own above.own
