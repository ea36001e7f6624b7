-- How a listing is read: the levels of the resource once, and its children once, each with its own lists.
use Rattle.std.specs.Prelude.{◌≡◌, true, List, [], ◌∷◌}
use Rattle.std.specs.FinSet.{empty}
use Rattle.std.specs.List.{AllZip}
use Rattle.std.specs.List.Sorted.{IsStrictlySortedBy}
use Rattle.book_lists.specs.Circles.{CircleOf}
use Rattle.book_lists.specs.Memberships.{Memberships, members_of, membership_cmp, set_of}
use Rattle.book_lists.specs.Principals.{group_path}
use Rattle.book_office_values.specs.declared.offices.Office.{Office}
use Rattle.book_office_values.specs.declared.paths.Path.{Path}
use Rattle.book_office_values.specs.declared.paths.Path.TheVariants as path
use Rattle.book_office.specs.Levels.{effective_of}
use Rattle.book_office.specs.Resources.{children_at}
use Rattle.book_office.specs.declared.nodes.Level.{Level}
use Rattle.book_office.specs.declared.nodes.Listed.{Listed}
use Rattle.book_office.specs.declared.nodes.Node.{Node}
use Rattle.book_office_listings.specs.Listings.{IsResponseTo, asks_members, asks_token, child_path}
use Rattle.book_office_listings.specs.Verdicts.{principal_of}
use Rattle.book_office_listings.specs.declared.listings.GroupsTold.{GroupsTold}
use Rattle.book_office_listings.specs.declared.listings.GroupsTold.TheVariants.{NoGroup, OneGroup, AllGroups}
use Rattle.book_office_listings.specs.declared.messages.Extent.{Extent}
use Rattle.book_office_listings.specs.declared.messages.Extent.TheVariants.{Resource as Alone, Children}
use Rattle.book_office_listings.specs.declared.messages.Find.{Find}
use Rattle.book_office_listings.specs.declared.messages.Property.{Property}
use Rattle.book_office_listings.specs.declared.messages.Response.{Response}
use Rattle.book_office_listings.specs.declared.subjects.Subject.{Subject}
use Rattle.book_office_listings.specs.declared.subjects.Whole.{Whole}

-- the children that are read
abbrev pub children_for : Office → Path → Extent → List Listed
children_for o p Alone = []
children_for o p Children = children_at o p

-- of a resource alone a listing tells the members where it is a group; of the children where these are groups
abbrev pub groups_told : Path → Extent → GroupsTold
groups_told path.Root extent = NoGroup
groups_told path.People extent = NoGroup
groups_told path.Groups Alone = NoGroup
groups_told path.Groups Children = AllGroups
groups_told path.Books extent = NoGroup
groups_told (path.Person n) extent = NoGroup
groups_told (path.Group n) extent = OneGroup (group_path n)
groups_told (path.Book b) extent = NoGroup
groups_told (path.Card b c) extent = NoGroup

-- the direct memberships of these groups
abbrev pub pairs_about : Memberships → GroupsTold → Memberships
pairs_about pairs NoGroup = empty
pairs_about pairs (OneGroup group) = members_of pairs group
pairs_about pairs AllGroups = pairs

-- what is read of the whole Office, as far as the properties ask it: the direct memberships of the groups of which the listing
-- tells, and the access epoch
pub record IsWholeRead (o : Office) (p : Path) (extent : Extent) (asked : List Property) (whole : Whole) : Type 0 where
  pub memberships : asks_members asked ≡ true → set_of whole.memberships ≡ pairs_about o.pairs (groups_told p extent)
  pub in_order : asks_members asked ≡ true → IsStrictlySortedBy membership_cmp whole.memberships
  pub epoch : asks_token asked ≡ true → whole.epoch ≡ o.epoch

-- the resource that was asked for
abbrev pub node_subject : Path → Node → Subject
node_subject p node = record { here = record { owner = node.owner; principal = principal_of p }; kind = node.kind; label = node.label; number = node.number }

-- a child: its lists, and what entries and properties ask of it
abbrev pub child_level : Path → Listed → Level
child_level p child = record { path = child_path p child.name; protected = child.protected; own = child.own }

abbrev pub child_subject : Path → Listed → Subject
child_subject p child = record {
  here = record { owner = child.owner; principal = principal_of (child_path p child.name) };
  kind = child.kind;
  label = child.label;
  number = child.number;
}

module _ (find : Find) (circle : CircleOf) (whole : Whole) where
  -- the response for a child below these levels
  abbrev pub IsChildResponse : Path → List Level → Listed → Response → Type 0
  IsChildResponse p levels child response =
      IsResponseTo find circle whole (child_path p child.name) (child_subject p child) (effective_of (child_level p child ∷ levels)) response

  -- the responses for the resource, by its levels, and for its children
  abbrev pub AreRead : List Level → Node → List Listed → List Response → Type 0
  AreRead [] node children responses = Unit {0}
  AreRead (own ∷ above) node children [] = ⊥
  AreRead (own ∷ above) node children (first ∷ rest) =
      IsResponseTo find circle whole own.path (node_subject own.path node) (effective_of (own ∷ above)) first
      × AllZip (IsChildResponse own.path (own ∷ above)) children rest
