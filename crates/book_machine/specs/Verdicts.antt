-- The verdict on a request: whether each privilege that its method needs is granted (RFC 3744, section 6).
use Rattle.std.specs.Prelude.{◌≡◌, ◌⊎◌, ℕ, Bool, true, false, List, [], ◌∷◌, Option, Some, None, option_map, option_and_then, unwrap_or, is_some, Result, Ok, Err}
use Rattle.std.specs.Option.{option_map_or}
use Rattle.book_lists.specs.Callers.{IsCircle}
use Rattle.book_lists.specs.Circles.{CircleOf}
use Rattle.book_lists.specs.declared.entries.Here.{Here}
use Rattle.book_office.specs.Levels.{effective_at}
use Rattle.book_office_values.specs.Paths.{parent_of, kind_of, is_kind}
use Rattle.book_office.specs.Resources.{node_at, unnumbered}
use Rattle.book_office.specs.declared.nodes.EffectiveEntry.{EffectiveEntry}
use Rattle.book_office.specs.declared.nodes.Node.{Node}
use Rattle.book_office_values.specs.declared.offices.Office.{Office}
use Rattle.book_office_values.specs.declared.paths.Kind.{Kind}
use Rattle.book_office_values.specs.declared.paths.Kind.TheVariants as kind
use Rattle.book_office_values.specs.declared.paths.Path.{Path}
use Rattle.book_rights.specs.Needs.{needs_of}
use Rattle.book_rights.specs.declared.methods.Shape.{Shape}
use Rattle.book_rights.specs.declared.privileges.Leaf.{Leaf}
use Rattle.book_rights.specs.declared.places.Need.{Need}
use Rattle.book_rights.specs.declared.places.Place.{Place}
use Rattle.book_rights.specs.declared.places.Place.TheVariants as at
use Rattle.book_office_listings.specs.Properties.{is_asked}
use Rattle.book_office_listings.specs.Verdicts.{here_of, IsGrantedBy, IsDeniedBy, IsGrantedAt, IsDeniedAt}
use Rattle.book_office_listings.specs.declared.messages.Denial.{Denial}
use Rattle.book_office_listings.specs.declared.messages.Property.{Property}
use Rattle.book_office_listings.specs.declared.messages.Property.TheVariants.{Acl, CurrentUserPrivilegeSet}
use Rattle.book_machine.specs.Asked.{destination_in, destination_path, method_of, parts_of}
use Rattle.book_machine.specs.declared.asked.Asked.{Asked}
use Rattle.book_machine.specs.declared.asked.Destination.{Destination}
use Rattle.book_machine.specs.declared.messages.ReportKind.{ReportKind}
use Rattle.book_machine.specs.declared.messages.ReportKind.TheVariants as report
use Rattle.book_machine.specs.Targets.{Ready, Target}
use Rattle.book_machine.specs.declared.refusals.Refusal.{Refusal}
use Rattle.book_machine.specs.declared.refusals.Refusal.TheVariants.{NeedPrivileges, Unavailable}

-- the resource that a place of a request names, by its target and where it leads
abbrev pub or_itself : Path → Option Path → Path
or_itself p other = unwrap_or other p

abbrev pub place_path : Option Destination → Path → Place → Path
place_path to target at.Target = target
place_path to target at.Parent = or_itself target (parent_of target)
place_path to target at.Destination = or_itself target (option_map destination_path to)
place_path to target at.DestinationParent = or_itself target (option_and_then (λ d. parent_of (destination_path d)) to)

-- whether a PROPFIND asks for a property
abbrev pub asks_for : Property → Asked → Bool
asks_for p what = is_asked p (parts_of what).properties

-- the report that is asked for
abbrev pub report_in : Asked → Option ReportKind
report_in what = (parts_of what).report

-- whether a REPORT asks which entry decides each leaf
abbrev pub is_effective : ReportKind → Bool
is_effective (report.SyncCollection asks) = false
is_effective report.GroupMembers = false
is_effective (report.Effective caller) = true
is_effective report.Names = false

abbrev pub asks_effective : Asked → Bool
asks_effective a = option_map_or is_effective (report_in a) false

-- whether a REPORT asks for names alone
abbrev pub is_of_names : ReportKind → Bool
is_of_names (report.SyncCollection asks) = false
is_of_names report.GroupMembers = false
is_of_names (report.Effective caller) = false
is_of_names report.Names = true

abbrev pub asks_names : Asked → Bool
asks_names a = option_map_or is_of_names (report_in a) false

-- what decides the row of needs
abbrev pub shape_at : Ready → Shape
shape_at ready = record {
  target_mapped = is_some ready.target.node;
  destination_mapped = ready.target.replaces;
  book = is_kind kind.Book (kind_of ready.target.path);
  acl = asks_for Acl ready.asked;
  privileges = asks_for CurrentUserPrivilegeSet ready.asked;
  effective = asks_effective ready.asked;
  names = asks_names ready.asked;
}

module _ (list : List EffectiveEntry) (circle : CircleOf) (here : Here) where
  -- what the check of a need tells: that it is granted, or its denial, or want of memory or a failed store
  abbrev pub Judges : Path → (Leaf → Bool) → Result (Unit {0}) Refusal → Type 0
  Judges p set (Ok u) = IsGrantedBy list circle here set
  Judges p set (Err e) = (e ≡ Unavailable) ⊎ ((denial : Denial) × (e ≡ NeedPrivileges denial) × IsDeniedBy list circle here p set denial)

module _ (o : Office) (circle : CircleOf) where
  abbrev pub JudgesNeed : Path → (Leaf → Bool) → Result (Unit {0}) Refusal → Type 0
  JudgesNeed p set result = Judges (effective_at o p) circle (here_of o p) p set result

  module _ (to : Option Destination) (target : Path) where
    -- each need is granted
    abbrev pub AreGranted : List Need → Type 0
    AreGranted [] = Unit {0}
    AreGranted (need ∷ rest) = IsGrantedAt o circle (place_path to target need.place) need.set × AreGranted rest

    -- the denial is of the first need that is not granted
    abbrev pub IsFirstDenial : List Need → Denial → Type 0
    IsFirstDenial [] denial = ⊥
    IsFirstDenial (need ∷ rest) denial = IsDeniedAt o circle (place_path to target need.place) need.set denial
        ⊎ (IsGrantedAt o circle (place_path to target need.place) need.set × IsFirstDenial rest denial)

-- the needs of a request that has passed the stages before
abbrev pub needs_at : Ready → List Need
needs_at ready = needs_of (method_of ready.asked) (shape_at ready)

-- the verdict is granted: each need is, for the principals to which the caller belongs
pub record IsGranted (o : Office) (ready : Ready) : Type 0 where
  pub circle : CircleOf
  pub is_circle : IsCircle o.pairs ready.caller circle
  pub granted : AreGranted o circle (destination_in ready.asked) ready.target.path (needs_at ready)

-- the verdict is a denial
pub record IsDenied (o : Office) (ready : Ready) (denial : Denial) : Type 0 where
  pub circle : CircleOf
  pub is_circle : IsCircle o.pairs ready.caller circle
  pub denied : IsFirstDenial o circle (destination_in ready.asked) ready.target.path (needs_at ready) denial

-- what the check of needs in turn tells
abbrev pub JudgesNeeds : Office → CircleOf → Option Destination → Path → List Need → Result (Unit {0}) Refusal → Type 0
JudgesNeeds o circle to target needs (Ok u) = AreGranted o circle to target needs
JudgesNeeds o circle to target needs (Err e) = (e ≡ Unavailable) ⊎ ((denial : Denial) × (e ≡ NeedPrivileges denial) × IsFirstDenial o circle to target needs denial)

-- the owner of what is mapped, and what is mapped with this owner
abbrev pub owner_in : Option Node → Option (List ℕ)
owner_in node = option_and_then (λ (n : Node). n.owner) node

abbrev pub owned_by : Option (List ℕ) → Option Node → Option Node
owned_by owner node = option_map (λ (n : Node). record n { owner = owner }) node

-- the target's node is what is mapped there, with no number told
abbrev pub IsTarget : Office → Target → Type 0
IsTarget o target = target.node ≡ option_map unnumbered (node_at o target.path)
