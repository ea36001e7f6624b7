-- What PROPFIND tells (RFC 4918, section 9.1): a response for the resource, and at depth 1 for each of its children.
use Rattle.std.specs.Prelude.{◌≡◌, ℕ, Bool, true, List, [], ◌∷◌, map, codes, if◌then◌else◌, Option, Some, option_map}
use Rattle.std.specs.List.{AllZip}
use Rattle.std.specs.List.Sorted.{IsStrictlySortedBy}
use Rattle.std.specs.Str.{bytes_eq}
use Rattle.book_lists.specs.Circles.{CircleOf}
use Rattle.book_lists.specs.Memberships.{membership_cmp, set_of}
use Rattle.book_office_values.specs.declared.offices.Office.{Office}
use Rattle.book_office_values.specs.declared.paths.Path.{Path}
use Rattle.book_office_values.specs.declared.paths.Path.TheVariants as path
use Rattle.book_office.specs.Levels.{effective_at}
use Rattle.book_office.specs.Resources.{Resource, resource_at, children_at}
use Rattle.book_office.specs.declared.nodes.EffectiveEntry.{EffectiveEntry}
use Rattle.book_office.specs.declared.nodes.Listed.{Listed}
use Rattle.book_office_listings.specs.Properties.{is_asked}
use Rattle.book_office_listings.specs.Values.{value_of}
use Rattle.book_office_listings.specs.Verdicts.{IsGrantedBy, IsDeniedBy, here_of}
use Rattle.book_office_listings.specs.declared.messages.Extent.{Extent}
use Rattle.book_office_listings.specs.declared.messages.Extent.TheVariants.{Resource as Alone, Children}
use Rattle.book_office_listings.specs.declared.messages.Find.{Find}
use Rattle.book_office_listings.specs.declared.messages.Property.{Property}
use Rattle.book_office_listings.specs.declared.messages.Property.TheVariants as property
use Rattle.book_office_listings.specs.declared.messages.PropertyValue.{PropertyValue}
use Rattle.book_office_listings.specs.declared.messages.Response.{Response}
use Rattle.book_office_listings.specs.declared.messages.Response.TheVariants.{Told, Denied}
use Rattle.book_office_listings.specs.declared.subjects.Subject.{Subject}
use Rattle.book_office_listings.specs.declared.subjects.Whole.{Whole}

-- the home with a name
abbrev pub home_path : List ℕ → Path
home_path name = if bytes_eq name (codes "books") then path.Books else (if bytes_eq name (codes "groups") then path.Groups else path.People)

-- the path of the child with a name
abbrev pub child_path : Path → List ℕ → Path
child_path path.Root name = home_path name
child_path path.People name = path.Person name
child_path path.Groups name = path.Group name
child_path path.Books name = path.Book name
child_path (path.Person n) name = path.Person n
child_path (path.Group n) name = path.Group n
child_path (path.Book b) name = path.Card b name
child_path (path.Card b c) name = path.Card b c

-- the paths of the children, in byte order of their names
abbrev pub children_paths : Office → Path → List Path
children_paths o p = map (λ (child : Listed). child_path p child.name) (children_at o p)

-- the paths of which a listing tells, in their order
abbrev pub listed_paths : Office → Path → Extent → List Path
listed_paths o p Alone = p ∷ []
listed_paths o p Children = p ∷ children_paths o p

-- a resource, as entries and properties ask of it
abbrev pub subject_of : Office → Path → Resource → Subject
subject_of o p r = record { here = here_of o p; kind = r.kind; label = r.label; number = r.number }

abbrev pub subject_at : Office → Path → Option Subject
subject_at o p = option_map (subject_of o p) (resource_at o p)

-- whether the memberships have to be read, and whether the epoch
abbrev pub asks_members : List Property → Bool
asks_members asked = is_asked property.GroupMemberSet asked

abbrev pub asks_token : List Property → Bool
asks_token asked = is_asked property.SyncToken asked

-- what the properties ask of the whole Office: the direct memberships, each once, ordered by the group and then by the member;
-- and the access epoch
pub record IsWhole (o : Office) (asked : List Property) (whole : Whole) : Type 0 where
  pub memberships : asks_members asked ≡ true → set_of whole.memberships ≡ o.pairs
  pub in_order : asks_members asked ≡ true → IsStrictlySortedBy membership_cmp whole.memberships
  pub epoch : asks_token asked ≡ true → whole.epoch ≡ o.epoch

module _ (find : Find) (circle : CircleOf) where
  -- where the needed leaves are granted the properties are told, in the order in which they are asked
  pub record IsTold (whole : Whole) (p : Path) (s : Subject) (list : List EffectiveEntry) (told : Path) (properties : List PropertyValue) : Type 0 where
    pub path : told ≡ p
    pub granted : IsGrantedBy list circle s.here find.needed
    pub values : properties ≡ map (value_of whole circle p s list) find.properties

  -- the response for a resource at which these entries are in force: its properties, or the denial of the needed leaves
  abbrev pub IsResponseTo : Whole → Path → Subject → List EffectiveEntry → Response → Type 0
  IsResponseTo whole p s list (Told told properties) = IsTold whole p s list told properties
  IsResponseTo whole p s list (Denied denial) = IsDeniedBy list circle s.here p find.needed denial

  module _ (o : Office) where
    -- the response for the resource at a path: it is decided by the entries in force there, with its own owner
    abbrev pub IsResponse : Whole → Path → Response → Type 0
    IsResponse whole p response = (s : Subject) × (subject_at o p ≡ Some s) × IsResponseTo whole p s (effective_at o p) response

    -- one response for each resource of which the listing tells, in order
    abbrev pub AreResponses : Path → List Response → Type 0
    AreResponses p responses = (whole : Whole) × IsWhole o find.properties whole × AllZip (IsResponse whole) (listed_paths o p find.extent) responses
