-- Resources, with what decides there (RFC 3744, section 6).
use Rattle.std.specs.Prelude.{◌≡◌, Bool, ◌&&◌, not, Option, Some, None, if◌then◌else◌}
use Rattle.std.specs.List.{find}
use Rattle.book_rights.specs.Leaves.{no_leaf, same_leaves}
use Rattle.book_rights.specs.declared.privileges.Leaf.{Leaf}
use Rattle.book_rights.specs.declared.privileges.Leaf.TheVariants.{ReadTexts, ReadNames}
use Rattle.book_lists.specs.Circles.{CircleOf}
use Rattle.book_lists.specs.declared.entries.Here.{Here}
use Rattle.book_lists.specs.Decisions.{bears}
use Rattle.book_office.specs.Levels.{effective_at}
use Rattle.book_office.specs.declared.nodes.EffectiveEntry.{EffectiveEntry}
use Rattle.book_office_values.specs.declared.offices.Office.{Office}
use Rattle.book_office_values.specs.Paths.{is_kind, kind_of}
use Rattle.book_office_values.specs.declared.paths.Kind.TheVariants as kind
use Rattle.book_office_values.specs.declared.paths.Path.{Path}
use Rattle.book_office_listings.specs.Values.{granted_by}
use Rattle.book_office_listings.specs.Verdicts.{here_of}
use Rattle.book_policy_gaps.specs.declared.places.Place.{Place}

-- a resource, with the entries in force there and what they ask of it
abbrev pub place_at : Office → Path → Place
place_at o p = record { path = p; here = here_of o p; list = effective_at o p }

-- whether a leaf is granted there: the first entry that applies and holds it grants it
abbrev pub may : Place → Leaf → CircleOf → Bool
may place leaf circle = granted_by place.list circle place.here leaf

-- whether `read` is: each of its leaves is
abbrev pub may_read : Place → CircleOf → Bool
may_read place circle = may place ReadTexts circle && may place ReadNames circle

-- whether any leaf is
abbrev pub may_anything : Place → CircleOf → Bool
may_anything place circle = not (same_leaves (granted_by place.list circle place.here) no_leaf)

-- the leaves are exactly those that are granted to a circle at a resource
abbrev pub AreHeld : Office → CircleOf → Path → (Leaf → Bool) → Type 0
AreHeld o circle p set = (leaf : Leaf) → set leaf ≡ granted_by (effective_at o p) circle (here_of o p) leaf

-- ---- at a book, an entry stands at it or above it
-- the entry that decides a leaf: the first that applies and holds it
abbrev pub is_bearing : CircleOf → Here → Leaf → EffectiveEntry → Bool
is_bearing circle here leaf e = bears circle here leaf e.entry

abbrev pub decider_at : Place → CircleOf → Leaf → Option EffectiveEntry
decider_at place circle leaf = find (is_bearing circle place.here leaf) place.list

abbrev pub stands_at_book : EffectiveEntry → Bool
stands_at_book e = is_kind kind.Book (kind_of e.path)

abbrev pub path_above : Option EffectiveEntry → Option Path
path_above None = None
path_above (Some e) = if stands_at_book e then None else Some e.path

-- where the entry stands that lets the caller read the texts of a book, if the caller may read it and that is above it
abbrev pub reads_from_above : Place → CircleOf → Option Path
reads_from_above book circle = if may_read book circle then path_above (decider_at book circle ReadTexts) else None
