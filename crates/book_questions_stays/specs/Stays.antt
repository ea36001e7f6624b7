-- What an adoption leaves because the policy does not name it, as lines of text in the words of an audit (own profile).
use Rattle.std.specs.Prelude.{◌≡◌, ℕ, Bool, true, false, is_some, List, [], ◌∷◌, ◌++◌, codes, filter, map, not, if◌then◌else◌}
use Rattle.std.specs.FinMap.{get}
use Rattle.std.specs.List.{flat_map}
use Rattle.book_lists.specs.Memberships.{Memberships, set_of}
use Rattle.book_lists.specs.declared.entries.Entry.{Entry}
use Rattle.book_lists.specs.declared.memberships.Membership.{Membership}
use Rattle.book_office.specs.Levels.{own_at}
use Rattle.book_office.specs.declared.nodes.Listed.{Listed}
use Rattle.book_office_adopting.specs.Adopting.{is_group_of}
use Rattle.book_office_audit.specs.Audits.{Block, in_order, member_line}
use Rattle.book_office_audit.specs.EntryLines.{entry_line}
use Rattle.book_office_values.specs.Paths.{path_text}
use Rattle.book_office_values.specs.declared.offices.Office.{Office}
use Rattle.book_office_values.specs.declared.paths.Path.{Path}
use Rattle.book_office_values.specs.declared.paths.Path.TheVariants as path
use Rattle.book_policy_values.specs.Policies.{entries_at}
use Rattle.book_policy_values.specs.declared.parts.PolicyTables.{PolicyTables}
use Rattle.book_questions_rights.specs.Places.{asked_below, cards_of}

-- ---- lines
-- a fact that stays
abbrev pub stays : List ℕ → List ℕ
stays fact = codes "stays " ++ fact

-- a resource, unless it is named
abbrev pub name_stays : Bool → List ℕ → List ℕ
name_stays named at = if named then [] else stays (at ++ codes "\n")

-- the entries of an own list, each after the text of the path where it stands
abbrev pub own_stays : List ℕ → List Entry → List ℕ
own_stays at own = flat_map (λ (entry : Entry). stays (at ++ entry_line false entry)) own

-- the same, unless the list is given anew
abbrev pub list_stays : Bool → List ℕ → List Entry → List ℕ
list_stays given at own = if given then [] else own_stays at own

-- the text of the path of a card
abbrev pub card_key : List ℕ → Listed → List ℕ
card_key book card = book ++ (codes "/" ++ card.name)

-- the own list of a card, at the text of its path
abbrev pub card_block : List ℕ → Listed → Block
card_block book card = (card_key book card, own_stays (card_key book card) card.own)

-- a direct membership, at the line of the membership
abbrev pub member_block : Membership → Block
member_block m = (member_line m, stays (member_line m ++ codes "\n"))

-- ---- what a policy names
abbrev pub has_entries : List Entry → Bool
has_entries [] = false
has_entries (entry ∷ entries) = true

module _ (t : PolicyTables) where
  -- the root and the homes, and each person, group and book of the policy; no policy names a card
  abbrev pub is_named : Path → Bool
  is_named path.Root = true
  is_named path.People = true
  is_named path.Groups = true
  is_named path.Books = true
  is_named (path.Person n) = is_some (get t.persons n)
  is_named (path.Group n) = is_some (get t.groups n)
  is_named (path.Book b) = is_some (get t.books b)
  is_named (path.Card b c) = false

  -- the policy has entries for the own list at a text of a path
  abbrev pub is_given : List ℕ → Bool
  is_given at = has_entries (entries_at false at t.entries)

  -- the members of a group that the policy does not have
  abbrev pub member_stays : Membership → Bool
  member_stays m = not (is_group_of t m.group)

  -- ---- what stays
  -- a resource that is no card, and its own list, at the text of its path
  abbrev pub place_block : Path → List Entry → Block
  place_block p own = (path_text p, name_stays (is_named p) (path_text p) ++ list_stays (is_given (path_text p)) (path_text p) own)

  -- the same with the cards in it
  abbrev pub place_blocks : Path → List Entry → List Listed → List Block
  place_blocks p own cards = place_block p own ∷ map (card_block (path_text p)) cards

  abbrev pub blocks_at : Office → Path → List Block
  blocks_at o p = place_blocks p (own_at o p) (cards_of o p)

  -- the resources of an Office, in byte order of their paths
  abbrev pub places_text : Office → List ℕ
  places_text o = in_order (flat_map (blocks_at o) (asked_below o path.Root))

  -- direct memberships, in byte order of their lines
  abbrev pub members_text : List Membership → List ℕ
  members_text list = in_order (map member_block (filter member_stays list))

  abbrev pub IsMembersText : Memberships → List ℕ → Type 0
  IsMembersText pairs text = (list : List Membership) × (set_of list ≡ pairs) × (text ≡ members_text list)

-- the memberships, and then the resources
abbrev pub IsStays : Office → PolicyTables → List ℕ → Type 0
IsStays o t text = (members : List ℕ) × IsMembersText t o.pairs members × (text ≡ members ++ places_text t o)
