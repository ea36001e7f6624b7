-- Plain facts that a sound policy leaves open (own profile; the decisions are those of RFC 3744, section 6).
use Rattle.std.specs.Prelude.{ℕ, Bool, false, not, ◌&&◌, List, [], ◌∷◌, ◌++◌, Option, Some, None, if◌then◌else◌}
use Rattle.std.specs.List.{flat_map, list_any}
use Rattle.book_rights.specs.declared.privileges.Leaf.TheVariants.{WriteAcl}
use Rattle.book_lists.specs.Circles.{CircleOf, belongs}
use Rattle.book_lists.specs.Principals.{group_path}
use Rattle.book_office.specs.declared.nodes.Listed.{Listed}
use Rattle.book_office_values.specs.declared.offices.Office.{Office}
use Rattle.book_office_values.specs.Paths.{parent_of}
use Rattle.book_office_values.specs.declared.paths.Path.{Path}
use Rattle.book_policy_gaps.specs.Places.{may, may_anything, may_read, place_at}
use Rattle.book_policy_gaps.specs.declared.askers.Asker.{Asker}
use Rattle.book_policy_gaps.specs.declared.askers.Everybody.{Everybody}
use Rattle.book_policy_gaps.specs.declared.gaps.Gap.{Gap}
use Rattle.book_policy_gaps.specs.declared.gaps.Gap.TheVariants.{EmptyGroup, NoRight, ClosedList, UnreadByOwner}
use Rattle.book_policy_gaps.specs.declared.gaps.Judged.{Judged}
use Rattle.book_policy_gaps.specs.declared.places.Place.{Place}

-- a fact is told where it holds, and only there
abbrev pub told_if : Bool → Gap → List Gap
told_if holds gap = if holds then gap ∷ [] else []

-- ---- a group to which no person belongs, by any chain
abbrev pub has_person : List Asker → List ℕ → Bool
has_person persons group = list_any (λ (person : Asker). belongs person.circle group) persons

abbrev pub empty_gap : List Asker → Listed → List Gap
empty_gap persons group = told_if (not (has_person persons (group_path group.name))) (EmptyGroup group.name)

abbrev pub empty_gaps : List Asker → List Listed → List Gap
empty_gaps persons groups = flat_map (empty_gap persons) groups

-- ---- a person to whom no leaf is granted at any book
abbrev pub has_right : List Place → CircleOf → Bool
has_right books circle = list_any (λ (book : Place). may_anything book circle) books

abbrev pub right_gap : List Place → Asker → List Gap
right_gap books person = told_if (not (has_right books person.circle)) (NoRight person.name)

abbrev pub right_gaps : List Place → List Asker → List Gap
right_gaps books persons = flat_map (right_gap books) persons

-- ---- a resource at which `write-acl` is granted to no person and not to nobody, and which is not below such a one
abbrev pub persons_change_list : List Asker → Place → Bool
persons_change_list persons place = list_any (λ (person : Asker). may place WriteAcl person.circle) persons

abbrev pub is_closed : Everybody → Place → Bool
is_closed everybody place = not (may place WriteAcl everybody.nobody) && not (persons_change_list everybody.persons place)

abbrev pub is_closed_at : Office → Everybody → Path → Bool
is_closed_at o everybody p = is_closed everybody (place_at o p)

-- the same of what is above a resource; nothing is above the root
abbrev pub is_closed_above : Office → Everybody → Option Path → Bool
is_closed_above o everybody None = false
is_closed_above o everybody (Some p) = is_closed_at o everybody p

abbrev pub judged_of : Path → Bool → Bool → Judged
judged_of p closed above = record { path = p; closed = closed && not above }

abbrev pub judged_at : Office → Everybody → Path → Judged
judged_at o everybody p = judged_of p (is_closed_at o everybody p) (is_closed_above o everybody (parent_of p))

abbrev pub closed_gap : Judged → List Gap
closed_gap judged = told_if judged.closed (ClosedList judged.path)

abbrev pub closed_gaps : List Judged → List Gap
closed_gaps judged = flat_map closed_gap judged

-- ---- a book that nobody may read who belongs to its owner, a person or a group; and somebody does
abbrev pub reads_for : Place → List ℕ → Asker → Bool
reads_for book owner person = belongs person.circle owner && may_read book person.circle

abbrev pub is_read_for : List Asker → Place → List ℕ → Bool
is_read_for persons book owner = list_any (reads_for book owner) persons

abbrev pub is_shut_out : List Asker → Place → List ℕ → Bool
is_shut_out persons book owner = has_person persons owner && not (is_read_for persons book owner)

-- none where the book has no owner
abbrev pub unread_gap : List Asker → Place → Option (List ℕ) → List Gap
unread_gap persons book None = []
unread_gap persons book (Some owner) = told_if (is_shut_out persons book owner) (UnreadByOwner book.path owner)

abbrev pub owner_gap : List Asker → Place → List Gap
owner_gap persons book = unread_gap persons book book.here.owner

abbrev pub owner_gaps : List Asker → List Place → List Gap
owner_gaps persons books = flat_map (owner_gap persons) books

-- ---- of each group, of each person, of each resource that is no card, and of the owner of each book
abbrev pub plain_gaps : List Listed → List Asker → List Judged → List Place → List Gap
plain_gaps groups persons judged books =
    empty_gaps persons groups ++ (right_gaps books persons ++ (closed_gaps judged ++ owner_gaps persons books))
