-- Which rows are those of a sound Office: conditions on the rows of the five tables, as whole reads show them.
-- node: number of the row, path, parent, kind, owner, label, text, change number. ace2: node, protected, place, form, principal, invert, deny, mask.
-- member: group, member. gone: book, name, number. meta: version, epoch.
use Rattle.std.specs.Prelude.{◌≡◌, ◌≢◌, ◌⊎◌, ℕ, ℤ, pos, ◌≤◌, Bool, true, false, ◌&&◌, List, [], ◌∷◌, ◌++◌, map, filter, length, codes, Option, Some, None, unwrap_or, IsTrue}
use Rattle.std.specs.List.{AllByRecursion, count_by}
use Rattle.std.specs.Ordering.{int_eq}
use Rattle.sqlite.specs.declared.types.Value.{Value}
use Rattle.sqlite.specs.declared.types.Value.TheVariants.{Null, Int, Text}
use Rattle.sqlite.specs.Edit.{id_in}
use Rattle.sqlite.specs.Order.{Row}
use Rattle.book_limits.specs.declared.TheConstants.{MAX_ENTRIES, MAX_MEMBERS, MAX_CARDS, MAX_BOOKS, LAST_NUMBER}
use Rattle.book_lists.specs.Names.{IsName}
use Rattle.book_office_values.specs.declared.paths.Kind.{Kind}
use Rattle.book_office_values.specs.declared.paths.Kind.TheVariants as kind
use Rattle.book_office_values.specs.declared.paths.Path.{Path}
use Rattle.book_office_values.specs.Texts.{IsLabel, IsCardText}
use Rattle.book_office_values.specs.Paths.{IsPath, path_text, parent_of, kind_of, kind_code}
use Rattle.book_tables_rows.specs.Nodes.{number_in, text_in}
use Rattle.book_tables_rows.specs.Rows.{Rows}
use Rattle.book_tables.specs.Rows.{flag_in}
use Rattle.book_tables_opening.specs.Shown.{shown_gone_book, shown_gone_name, shown_gone_number, shown_group, shown_id, shown_kind, shown_label, shown_member, shown_node, shown_number, shown_owner, shown_parent, shown_path, shown_principal, shown_protected, shown_text}
use Rattle.book_tables_opening.specs.Directories.{first_shown_at, shown_with, number_at, is_of_kind}
use Rattle.book_tables_opening.specs.RowTests.{IsSpelledEntry}
use Rattle.book_tables_opening.specs.WholeNodes.{text_of_number}

-- ---- principals

-- a row of a person or of a group has the path
pub record HasPrincipal (nodes : List Row) (path : List ℕ) : Type 0 where
  pub node : Row
  pub there : first_shown_at nodes path ≡ Some node
  pub kind : IsTrue (is_of_kind 2 node) ⊎ IsTrue (is_of_kind 3 node)

pub record HasGroup (nodes : List Row) (path : List ℕ) : Type 0 where
  pub node : Row
  pub there : first_shown_at nodes path ≡ Some node
  pub kind : IsTrue (is_of_kind 3 node)

-- the principal is there, if one is named
abbrev pub IsKnown : List Row → Option (List ℕ) → Type 0
IsKnown nodes None = Unit {0}
IsKnown nodes (Some path) = HasPrincipal nodes path

-- ---- nodes

-- the value is the number of the row at the path above, and NULL for the root
abbrev pub IsBelow : List Row → Option Path → Value → Type 0
IsBelow nodes None value = value ≡ Null
IsBelow nodes (Some above) value = (id : ℤ) × (number_at nodes (path_text above) ≡ Some id) × (value ≡ Int id)

-- the value is the number of the row with a path
abbrev pub HasNumberOf : List Row → List ℕ → Value → Type 0
HasNumberOf nodes path value = (id : ℤ) × (number_at nodes path ≡ Some id) × (value ≡ Int id)

-- a card has a text, UTF-8 of at most so many bytes, and no other resource has one
abbrev pub IsContent : Kind → Option (List ℕ) → Type 0
IsContent kind.Root text = text ≡ None
IsContent kind.Home text = text ≡ None
IsContent kind.Person text = text ≡ None
IsContent kind.Group text = text ≡ None
IsContent kind.Book text = text ≡ None
IsContent kind.Card text = (content : List ℕ) × (text ≡ Some content) × IsCardText content

-- a row that is a card's has such a text, and another row has none
abbrev pub IsTextFor : Bool → Option (List ℕ) → Type 0
IsTextFor true text = (content : List ℕ) × (text ≡ Some content) × IsCardText content
IsTextFor false text = text ≡ None

-- books and cards alone have numbers
abbrev pub IsChangeNumber : Kind → ℕ → Type 0
IsChangeNumber kind.Root number = number ≡ 0
IsChangeNumber kind.Home number = number ≡ 0
IsChangeNumber kind.Person number = number ≡ 0
IsChangeNumber kind.Group number = number ≡ 0
IsChangeNumber kind.Book number = number ≤ LAST_NUMBER
IsChangeNumber kind.Card number = Unit {0}

pub record IsNodeRow (nodes : List Row) (row : Row) : Type 0 where
  pub at : Path
  pub named : IsPath at
  pub path : shown_path row ≡ Text (path_text at)
  pub parent : IsBelow nodes (parent_of at) (shown_parent row)
  pub kind : shown_kind row ≡ Int (pos (kind_code (kind_of at)))
  pub owner : IsKnown nodes (text_in (shown_owner row))
  pub label : IsLabel (unwrap_or (text_in (shown_label row)) [])
  pub text : IsContent (kind_of at) (text_in (shown_text row))
  pub natural : shown_number row ≡ Int (pos (number_in (shown_number row)))
  pub number : IsChangeNumber (kind_of at) (number_in (shown_number row))

-- the same, but for the text
pub record IsTextlessRow (nodes : List Row) (row : Row) : Type 0 where
  pub at : Path
  pub named : IsPath at
  pub path : shown_path row ≡ Text (path_text at)
  pub parent : IsBelow nodes (parent_of at) (shown_parent row)
  pub kind : shown_kind row ≡ Int (pos (kind_code (kind_of at)))
  pub owner : IsKnown nodes (text_in (shown_owner row))
  pub label : IsLabel (unwrap_or (text_in (shown_label row)) [])
  pub natural : shown_number row ≡ Int (pos (number_in (shown_number row)))
  pub number : IsChangeNumber (kind_of at) (number_in (shown_number row))

-- the node with the row's number has in the tables the text of the row's kind
abbrev pub HasTextIn : Rows → Row → Type 0
HasTextIn rows row = IsTextFor (is_of_kind 5 row) (text_of_number rows (id_in (shown_id row)))

-- the value is the text of no path
abbrev pub HasNoPath : Value → Type 0
HasNoPath value = (p : Path) → IsPath p → value ≢ Text (path_text p)

-- where a row stands, and its kind
pub record StandsAt (nodes : List Row) (at : Path) (row : Row) : Type 0 where
  pub parent : IsBelow nodes (parent_of at) (shown_parent row)
  pub kind : shown_kind row ≡ Int (pos (kind_code (kind_of at)))

-- what a row of a kind says, but for its text
pub record HasContent (nodes : List Row) (kind : Kind) (row : Row) : Type 0 where
  pub owner : IsKnown nodes (text_in (shown_owner row))
  pub label : IsLabel (unwrap_or (text_in (shown_label row)) [])
  pub natural : shown_number row ≡ Int (pos (number_in (shown_number row)))
  pub number : IsChangeNumber kind (number_in (shown_number row))

-- the root and the three homes are there
pub record HasHomes (nodes : List Row) : Type 0 where
  pub root : first_shown_at nodes (codes "/") ≢ None
  pub people : first_shown_at nodes (codes "/people") ≢ None
  pub groups : first_shown_at nodes (codes "/groups") ≢ None
  pub books : first_shown_at nodes (codes "/books") ≢ None

-- ---- entries

-- it is an entry of a node that is there, of none of a card's protected ones, and the principal that it names is there
pub record IsEntryRow (nodes : List Row) (row : Row) : Type 0 where
  pub spelled : IsSpelledEntry row
  pub node : Row
  pub there : shown_with nodes (shown_node row) ≡ Some node
  pub placed : IsTrue (is_of_kind 5 node) → flag_in (shown_protected row) ≡ false
  pub principal : IsKnown nodes (text_in (shown_principal row))

-- its node is there, and it is none of a card's protected ones
pub record IsPlaced (nodes : List Row) (row : Row) : Type 0 where
  pub node : Row
  pub there : shown_with nodes (shown_node row) ≡ Some node
  pub placed : IsTrue (is_of_kind 5 node) → flag_in (shown_protected row) ≡ false

-- ---- members

pub record IsMemberRow (nodes : List Row) (row : Row) : Type 0 where
  pub group : List ℕ
  pub group_is : shown_group row ≡ Text group
  pub group_there : HasGroup nodes group
  pub member : List ℕ
  pub member_is : shown_member row ≡ Text member
  pub member_there : HasPrincipal nodes member

-- ---- removed names

-- it is a name of a book that is there, and no card has it
pub record IsGoneRow (nodes : List Row) (row : Row) : Type 0 where
  pub book : Row
  pub there : shown_with nodes (shown_gone_book row) ≡ Some book
  pub kind : IsTrue (is_of_kind 4 book)
  pub name : List ℕ
  pub named : IsName name
  pub name_is : shown_gone_name row ≡ Text name
  pub free : first_shown_at nodes (unwrap_or (text_in (shown_path book)) [] ++ codes "/" ++ name) ≡ None
  pub natural : shown_gone_number row ≡ Int (pos (number_in (shown_gone_number row)))

-- ---- how often

-- what is counted together
abbrev pub Key : Type 0
Key = ℤ × ℤ

abbrev pub same_key : Key → Key → Bool
same_key a b = int_eq a.0 b.0 && int_eq a.1 b.1

-- no key is there more often
abbrev pub AreAtMost : ℕ → List Key → Type 0
AreAtMost limit keys = (k : Key) → count_by (same_key k) keys ≤ limit

-- the lists of the entries: node, and whether protected
abbrev pub list_keys : List Row → List Key
list_keys entries = map (λ row. (id_in (shown_node row), id_in (shown_protected row))) entries

-- the groups of the members, by their numbers
abbrev pub group_key : List Row → Row → ℤ
group_key nodes row = unwrap_or (number_at nodes (unwrap_or (text_in (shown_group row)) [])) (pos 0)

abbrev pub group_keys : List Row → List Row → List Key
group_keys nodes members = map (λ row. (group_key nodes row, pos 0)) members

-- the books of the cards
abbrev pub card_keys : List Row → List Key
card_keys nodes = map (λ row. (id_in (shown_parent row), pos 0)) (filter (is_of_kind 5) nodes)

-- book and number of each card, and of each removed name
abbrev pub card_change : Row → Key
card_change row = (id_in (shown_parent row), id_in (shown_number row))

abbrev pub card_changes : List Row → List Key
card_changes nodes = map card_change (filter (is_of_kind 5) nodes)

abbrev pub gone_change : Row → Key
gone_change row = (id_in (shown_gone_book row), id_in (shown_gone_number row))

abbrev pub gone_changes : List Row → List Key
gone_changes gone = map gone_change gone

abbrev pub change_keys : List Row → List Row → List Key
change_keys nodes gone = card_changes nodes ++ gone_changes gone

-- the number is from 1 to the book's
pub record IsWithinBook (nodes : List Row) (key : Key) : Type 0 where
  pub book : Row
  pub there : shown_with nodes (Int key.0) ≡ Some book
  pub number : ℕ
  pub number_is : key.1 ≡ pos number
  pub from_one : 1 ≤ number
  pub to_last : number ≤ number_in (shown_number book)

-- ---- version and epoch

-- one row, with version 2 and the epoch
pub record IsMetaRows (meta : List Row) : Type 0 where
  pub epoch : ℕ
  pub rows : meta ≡ (Int (pos 2) ∷ Int (pos epoch) ∷ []) ∷ []
  pub last : epoch ≤ LAST_NUMBER

-- ---- all

pub record AreOfficeRows (nodes entries members gone meta : List Row) : Type 0 where
  pub each_node : AllByRecursion (IsNodeRow nodes) nodes
  pub homes : HasHomes nodes
  pub each_entry : AllByRecursion (IsEntryRow nodes) entries
  pub lists : AreAtMost MAX_ENTRIES (list_keys entries)
  pub each_member : AllByRecursion (IsMemberRow nodes) members
  pub groups : AreAtMost MAX_MEMBERS (group_keys nodes members)
  pub each_gone : AllByRecursion (IsGoneRow nodes) gone
  pub within : AllByRecursion (IsWithinBook nodes) (change_keys nodes gone)
  pub different : AreAtMost 1 (change_keys nodes gone)
  pub cards : AreAtMost MAX_CARDS (card_keys nodes)
  pub books : length (filter (is_of_kind 4) nodes) ≤ MAX_BOOKS
  pub meta_rows : IsMetaRows meta

-- ---- the same, but for the texts

pub record AreTextlessRows (nodes entries members gone meta : List Row) : Type 0 where
  pub each_node : AllByRecursion (IsTextlessRow nodes) nodes
  pub homes : HasHomes nodes
  pub each_entry : AllByRecursion (IsEntryRow nodes) entries
  pub lists : AreAtMost MAX_ENTRIES (list_keys entries)
  pub each_member : AllByRecursion (IsMemberRow nodes) members
  pub groups : AreAtMost MAX_MEMBERS (group_keys nodes members)
  pub each_gone : AllByRecursion (IsGoneRow nodes) gone
  pub within : AllByRecursion (IsWithinBook nodes) (change_keys nodes gone)
  pub different : AreAtMost 1 (change_keys nodes gone)
  pub cards : AreAtMost MAX_CARDS (card_keys nodes)
  pub books : length (filter (is_of_kind 4) nodes) ≤ MAX_BOOKS
  pub meta_rows : IsMetaRows meta

-- ---- parts of it

-- each row is one of its table
pub record HaveForm (nodes entries members gone : List Row) : Type 0 where
  pub each_node : AllByRecursion (IsTextlessRow nodes) nodes
  pub homes : HasHomes nodes
  pub each_entry : AllByRecursion (IsEntryRow nodes) entries
  pub each_member : AllByRecursion (IsMemberRow nodes) members
  pub each_gone : AllByRecursion (IsGoneRow nodes) gone

-- the numbers of keys are from 1 to those of their books, and all different
abbrev pub AreChangeKeys : List Row → List Key → Type 0
AreChangeKeys nodes keys = AllByRecursion (IsWithinBook nodes) keys × AreAtMost 1 keys

abbrev pub AreChanges : List Row → List Row → Type 0
AreChanges nodes gone = AreChangeKeys nodes (change_keys nodes gone)

pub record KeepLimits (nodes entries members gone : List Row) : Type 0 where
  pub lists : AreAtMost MAX_ENTRIES (list_keys entries)
  pub groups : AreAtMost MAX_MEMBERS (group_keys nodes members)
  pub changes : AreChanges nodes gone
  pub cards : AreAtMost MAX_CARDS (card_keys nodes)
  pub books : length (filter (is_of_kind 4) nodes) ≤ MAX_BOOKS
