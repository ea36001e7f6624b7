-- Facts of books that others reach (own profile; the decisions are those of RFC 3744, section 6).
use Rattle.std.specs.Prelude.{ℕ, Bool, true, false, not, ◌&&◌, ◌||◌, is_some, List, [], ◌∷◌, ◌++◌, Option, Some, None, if◌then◌else◌}
use Rattle.std.specs.List.{find, flat_map, list_any}
use Rattle.book_rights.specs.Leaves.{every_leaf, same_leaves}
use Rattle.book_lists.specs.declared.entries.Entry.{Entry}
use Rattle.book_lists.specs.declared.entries.Who.{Who}
use Rattle.book_lists.specs.declared.entries.Who.TheVariants.{Href, Everyone, Authenticated, Unauthenticated, Owner, Own}
use Rattle.book_office.specs.declared.nodes.EffectiveEntry.{EffectiveEntry}
use Rattle.book_office_values.specs.declared.paths.Path.{Path}
use Rattle.book_policy_gaps.specs.Gaps.{told_if}
use Rattle.book_policy_gaps.specs.Places.{may_read, reads_from_above, stands_at_book}
use Rattle.book_policy_gaps.specs.declared.askers.Asker.{Asker}
use Rattle.book_policy_gaps.specs.declared.askers.Everybody.{Everybody}
use Rattle.book_policy_gaps.specs.declared.gaps.Gap.{Gap}
use Rattle.book_policy_gaps.specs.declared.gaps.Gap.TheVariants.{OpenedAbove, KeptByOwners, KeptByProtected, ReadByListing}
use Rattle.book_policy_gaps.specs.declared.places.Place.{Place}

-- ---- a book that somebody reads by an entry above it, and that no entry of its lists closes
-- who is closed out: everybody, or who does not belong to a principal
abbrev pub closes_who : Who → Bool → Bool
closes_who (Href principal) invert = invert
closes_who Everyone invert = not invert
closes_who Authenticated invert = false
closes_who Unauthenticated invert = false
closes_who Owner invert = false
closes_who Own invert = false

-- an entry that closes denies `all` to them
abbrev pub closes : Entry → Bool
closes entry = entry.deny && (same_leaves entry.set every_leaf && closes_who entry.who entry.invert)

abbrev pub closes_book : EffectiveEntry → Bool
closes_book e = stands_at_book e && closes e.entry

abbrev pub is_closed_itself : Place → Bool
is_closed_itself book = list_any closes_book book.list

abbrev pub told_from : Place → Option (List ℕ) → Option Path → List Gap
told_from book reader None = []
told_from book reader (Some from) = OpenedAbove book.path reader from ∷ []

abbrev pub reads_book : Place → Asker → Bool
reads_book book person = is_some (reads_from_above book person.circle)

abbrev pub told_reader : Place → Option Asker → List Gap
told_reader book None = []
told_reader book (Some person) = told_from book (Some person.principal) (reads_from_above book person.circle)

-- the first who reads it: who is nobody, or a person, in order
abbrev pub first_reader : Everybody → Place → Option Path → List Gap
first_reader everybody book None = told_reader book (find (reads_book book) everybody.persons)
first_reader everybody book (Some from) = told_from book None (Some from)

abbrev pub opened_gap : Everybody → Place → List Gap
opened_gap everybody book =
    if is_closed_itself book then [] else first_reader everybody book (reads_from_above book everybody.nobody)

abbrev pub opened_gaps : Everybody → List Place → List Gap
opened_gaps everybody books = flat_map (opened_gap everybody) books

-- ---- a book at which an entry of its own list, or a protected one wherever it stands, grants to `owner`, and no entry in force before
-- it closes
abbrev pub is_owner_form : Who → Bool
is_owner_form (Href principal) = false
is_owner_form Everyone = false
is_owner_form Authenticated = false
is_owner_form Unauthenticated = false
is_owner_form Owner = true
is_owner_form Own = false

abbrev pub grants_owners : EffectiveEntry → Bool
grants_owners e = (e.protected || stands_at_book e) && (not e.entry.deny && (not e.entry.invert && is_owner_form e.entry.who))

abbrev pub settles_owners : EffectiveEntry → Bool
settles_owners e = closes e.entry || grants_owners e

abbrev pub kept_by : Path → EffectiveEntry → Gap
kept_by book e = if e.protected then KeptByProtected book e.path else KeptByOwners book

-- told where the first entry that closes or grants to owners grants to them
abbrev pub told_kept : Path → Option EffectiveEntry → List Gap
told_kept _ None = []
told_kept book (Some e) = told_if (grants_owners e) (kept_by book e)

abbrev pub kept_gap : Place → List Gap
kept_gap book = told_kept book.path (find settles_owners book.list)

abbrev pub kept_gaps : List Place → List Gap
kept_gaps books = flat_map kept_gap books

-- ---- a person who may list the books, and reads one by an entry above it: the first such book
abbrev pub is_read_by : Asker → Place → Bool
is_read_by person book = is_some (reads_from_above book person.circle)

abbrev pub told_listed : Asker → Option Place → List Gap
told_listed person None = []
told_listed person (Some book) = ReadByListing person.name book.path ∷ []

abbrev pub listing_gap : Place → List Place → Asker → List Gap
listing_gap home books person = if may_read home person.circle then told_listed person (find (is_read_by person) books) else []

abbrev pub listing_gaps : Place → List Place → List Asker → List Gap
listing_gaps home books persons = flat_map (listing_gap home books) persons

-- ---- of each book who reads it from above, and what owners keep there, and of each person who lists the books
abbrev pub far_gaps : Everybody → Place → List Place → List Gap
far_gaps everybody home books = opened_gaps everybody books ++ (kept_gaps books ++ listing_gaps home books everybody.persons)
