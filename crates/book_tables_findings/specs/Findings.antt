-- What breaks which rule of a sound Office. Each rule is a condition of `AreOfficeRows`.
use Rattle.std.specs.Prelude.{◌≡◌, ◌⊎◌, ◌≤◌, ℕ, pos, true, List, [], ◌∷◌, ◌++◌, filter, length, codes, Option, Some, None, unwrap_or, IsPermutation, IsTrue}
use Rattle.std.specs.List.{AllByRecursion}
use Rattle.sqlite.specs.declared.types.Value.{Value}
use Rattle.sqlite.specs.declared.types.Value.TheVariants.{Int, Text}
use Rattle.sqlite.specs.Order.{Row}
use Rattle.book_limits.specs.declared.TheConstants.{MAX_ENTRIES, MAX_MEMBERS, MAX_CARDS, MAX_BOOKS}
use Rattle.book_lists.specs.Names.{IsName}
use Rattle.book_office_values.specs.declared.paths.Path.{Path}
use Rattle.book_office_values.specs.Texts.{IsLabel}
use Rattle.book_office_values.specs.Paths.{IsPath, path_text, parent_of, kind_of, kind_code}
use Rattle.book_tables_rows.specs.Lists.{pairs_of}
use Rattle.book_tables_rows.specs.Nodes.{number_in, text_in}
use Rattle.book_tables_rows.specs.Rows.{Rows}
use Rattle.book_tables_schema.specs.Whole.{entries_shown, gone_shown, meta_shown}
use Rattle.book_tables.specs.Rows.{flag_in}
use Rattle.book_tables_opening.specs.Directories.{first_shown_at, is_of_kind, shown_with}
use Rattle.book_tables_opening.specs.Opening.{AreAtMost, HasContent, HasGroup, HasNoPath, HasPrincipal, HasTextIn, IsBelow, IsChangeNumber, IsEntryRow, IsGoneRow, IsKnown, IsMemberRow, IsMetaRows, IsTextlessRow, IsWithinBook, StandsAt, card_keys, change_keys, group_keys, list_keys}
use Rattle.book_tables_opening.specs.RowTests.{IsSpelledEntry}
use Rattle.book_tables_opening.specs.Shown.{shown_gone_book, shown_gone_name, shown_gone_number, shown_group, shown_kind, shown_label, shown_member, shown_node, shown_number, shown_owner, shown_parent, shown_path, shown_principal, shown_protected}
use Rattle.book_tables_opening.specs.WholeNodes.{textless_nodes}
use Rattle.book_tables_findings.specs.Names.{entry_name, gone_row_name, member_name, node_name}
use Rattle.book_tables_findings.specs.declared.findings.NodeRule.{NodeRule}
use Rattle.book_tables_findings.specs.declared.findings.NodeRule.TheVariants as of_node
use Rattle.book_tables_findings.specs.declared.findings.Home.{Home}
use Rattle.book_tables_findings.specs.declared.findings.Home.TheVariants as of_home
use Rattle.book_tables_findings.specs.declared.findings.EntryRule.{EntryRule}
use Rattle.book_tables_findings.specs.declared.findings.EntryRule.TheVariants as of_entry
use Rattle.book_tables_findings.specs.declared.findings.MemberRule.{MemberRule}
use Rattle.book_tables_findings.specs.declared.findings.MemberRule.TheVariants as of_member
use Rattle.book_tables_findings.specs.declared.findings.GoneRule.{GoneRule}
use Rattle.book_tables_findings.specs.declared.findings.GoneRule.TheVariants as of_gone
use Rattle.book_tables_findings.specs.declared.findings.Limit.{Limit}
use Rattle.book_tables_findings.specs.declared.findings.Limit.TheVariants as of_limit
use Rattle.book_tables_findings.specs.declared.findings.Finding.{Finding}
use Rattle.book_tables_findings.specs.declared.findings.Finding.TheVariants as found

-- the name is that of the first row that does not keep something, and of this row something holds
pub record IsFirst (name_of : Row → List ℕ) (Keeps Breaks : Row → Type 0) (rows : List Row) (name : List ℕ) : Type 0 where
  pub front : List Row
  pub row : Row
  pub back : List Row
  pub are : rows ≡ front ++ row ∷ back
  pub kept : AllByRecursion Keeps front
  pub named : name ≡ name_of row
  pub broken : Breaks row

-- ---- node

-- a row that has the text of a path breaks a rule that asks for the path
abbrev pub BreaksAt : List Row → Path → Row → NodeRule → Type 0
BreaksAt nodes at row of_node.Path = ⊥
BreaksAt nodes at row of_node.Parent = ¬ (IsBelow nodes (parent_of at) (shown_parent row))
BreaksAt nodes at row of_node.Kind = ¬ (shown_kind row ≡ Int (pos (kind_code (kind_of at))))
BreaksAt nodes at row of_node.Owner = ¬ (IsKnown nodes (text_in (shown_owner row)))
BreaksAt nodes at row of_node.Label = ¬ (IsLabel (unwrap_or (text_in (shown_label row)) []))
BreaksAt nodes at row of_node.Number =
    ¬ ((shown_number row ≡ Int (pos (number_in (shown_number row)))) × IsChangeNumber (kind_of at) (number_in (shown_number row)))

pub record BreaksAtPath (nodes : List Row) (row : Row) (rule : NodeRule) : Type 0 where
  pub at : Path
  pub named : IsPath at
  pub path : shown_path row ≡ Text (path_text at)
  pub broken : BreaksAt nodes at row rule

abbrev pub BreaksNode : List Row → Row → NodeRule → Type 0
BreaksNode nodes row of_node.Path = HasNoPath (shown_path row)
BreaksNode nodes row of_node.Parent = BreaksAtPath nodes row of_node.Parent
BreaksNode nodes row of_node.Kind = BreaksAtPath nodes row of_node.Kind
BreaksNode nodes row of_node.Owner = BreaksAtPath nodes row of_node.Owner
BreaksNode nodes row of_node.Label = BreaksAtPath nodes row of_node.Label
BreaksNode nodes row of_node.Number = BreaksAtPath nodes row of_node.Number

-- what a row at a path keeps where it breaks no such rule
pub record KeepsAt (nodes : List Row) (at : Path) (row : Row) : Type 0 where
  pub stands : StandsAt nodes at row
  pub content : HasContent nodes (kind_of at) row

abbrev pub IsMissing : List Row → Home → Type 0
IsMissing nodes of_home.Root = first_shown_at nodes (codes "/") ≡ None
IsMissing nodes of_home.People = first_shown_at nodes (codes "/people") ≡ None
IsMissing nodes of_home.Groups = first_shown_at nodes (codes "/groups") ≡ None
IsMissing nodes of_home.Books = first_shown_at nodes (codes "/books") ≡ None

-- ---- ace2

-- a protected entry of a card
pub record IsOfCard (nodes : List Row) (row : Row) : Type 0 where
  pub node : Row
  pub there : shown_with nodes (shown_node row) ≡ Some node
  pub card : IsTrue (is_of_kind 5 node)
  pub protected : flag_in (shown_protected row) ≡ true

abbrev pub BreaksEntry : List Row → Row → EntryRule → Type 0
BreaksEntry nodes row of_entry.Form = ¬ (IsSpelledEntry row)
BreaksEntry nodes row of_entry.Node = shown_with nodes (shown_node row) ≡ None
BreaksEntry nodes row of_entry.Protected = IsOfCard nodes row
BreaksEntry nodes row of_entry.Principal = ¬ (IsKnown nodes (text_in (shown_principal row)))

-- ---- member

abbrev pub NamesGroup : List Row → Value → Type 0
NamesGroup nodes value = (path : List ℕ) × (value ≡ Text path) × HasGroup nodes path

abbrev pub NamesPrincipal : List Row → Value → Type 0
NamesPrincipal nodes value = (path : List ℕ) × (value ≡ Text path) × HasPrincipal nodes path

abbrev pub BreaksMember : List Row → Row → MemberRule → Type 0
BreaksMember nodes row of_member.Group = ¬ (NamesGroup nodes (shown_group row))
BreaksMember nodes row of_member.Member = ¬ (NamesPrincipal nodes (shown_member row))

-- ---- gone

abbrev pub NamesBook : List Row → Value → Type 0
NamesBook nodes value = (book : Row) × (shown_with nodes value ≡ Some book) × IsTrue (is_of_kind 4 book)

abbrev pub HasName : Value → Type 0
HasName value = (name : List ℕ) × IsName name × (value ≡ Text name)

-- a card of the book has the name
pub record IsTaken (nodes : List Row) (row : Row) : Type 0 where
  pub book : Row
  pub there : shown_with nodes (shown_gone_book row) ≡ Some book
  pub name : List ℕ
  pub name_is : shown_gone_name row ≡ Text name
  pub taken : ¬ (first_shown_at nodes (unwrap_or (text_in (shown_path book)) [] ++ codes "/" ++ name) ≡ None)

abbrev pub BreaksGone : List Row → Row → GoneRule → Type 0
BreaksGone nodes row of_gone.Book = ¬ (NamesBook nodes (shown_gone_book row))
BreaksGone nodes row of_gone.Name = ¬ (HasName (shown_gone_name row))
BreaksGone nodes row of_gone.Free = IsTaken nodes row
BreaksGone nodes row of_gone.Number = ¬ (shown_gone_number row ≡ Int (pos (number_in (shown_gone_number row))))

-- ---- what is counted

abbrev pub BreaksLimit : List Row → List Row → List Row → List Row → Limit → Type 0
BreaksLimit nodes entries members gone of_limit.Entries = ¬ (AreAtMost MAX_ENTRIES (list_keys entries))
BreaksLimit nodes entries members gone of_limit.Members = ¬ (AreAtMost MAX_MEMBERS (group_keys nodes members))
BreaksLimit nodes entries members gone of_limit.Range = ¬ (AllByRecursion (IsWithinBook nodes) (change_keys nodes gone))
BreaksLimit nodes entries members gone of_limit.Twice = ¬ (AreAtMost 1 (change_keys nodes gone))
BreaksLimit nodes entries members gone of_limit.Cards = ¬ (AreAtMost MAX_CARDS (card_keys nodes))
BreaksLimit nodes entries members gone of_limit.Books = ¬ (length (filter (is_of_kind 4) nodes) ≤ MAX_BOOKS)

-- ---- all

-- what rows that whole reads show break, but for the texts of cards, which no read of them shows
abbrev pub BreaksRows : List Row → List Row → List Row → List Row → List Row → Finding → Type 0
BreaksRows nodes entries members gone meta found.Meta = ¬ (IsMetaRows meta)
BreaksRows nodes entries members gone meta (found.Node name rule) =
    IsFirst node_name (IsTextlessRow nodes) (λ row. BreaksNode nodes row rule) nodes name
BreaksRows nodes entries members gone meta (found.Missing which) = IsMissing nodes which
BreaksRows nodes entries members gone meta (found.Entry name rule) =
    IsFirst entry_name (IsEntryRow nodes) (λ row. BreaksEntry nodes row rule) entries name
BreaksRows nodes entries members gone meta (found.Member name rule) =
    IsFirst member_name (IsMemberRow nodes) (λ row. BreaksMember nodes row rule) members name
BreaksRows nodes entries members gone meta (found.Gone name rule) =
    IsFirst gone_row_name (IsGoneRow nodes) (λ row. BreaksGone nodes row rule) gone name
BreaksRows nodes entries members gone meta (found.Limit which) = BreaksLimit nodes entries members gone which
BreaksRows nodes entries members gone meta (found.Text name) = ⊥

-- the first row whose node has in the tables no text of its kind
abbrev pub BreaksText : Rows → List Row → List ℕ → Type 0
BreaksText rows nodes name = IsFirst node_name (HasTextIn rows) (λ row. ¬ (HasTextIn rows row)) nodes name

abbrev pub BreaksTexts : Rows → List Row → Finding → Type 0
BreaksTexts rows nodes f = (name : List ℕ) × (f ≡ found.Text name) × BreaksText rows nodes name

-- whether the nodes have texts of their kinds: none is found, or the first that has not
abbrev pub TellsTexts : Rows → List Row → Option (List ℕ) → Type 0
TellsTexts rows nodes None = AllByRecursion (HasTextIn rows) nodes
TellsTexts rows nodes (Some name) = BreaksText rows nodes name

-- whole reads of tables show these rows: of nodes without their texts, in order, and of the others in some order
pub record AreRead (rows : Rows) (nodes entries members gone meta : List Row) : Type 0 where
  pub nodes_are : nodes ≡ textless_nodes rows
  pub entries_are : IsPermutation (entries_shown rows) entries
  pub members_are : IsPermutation (pairs_of rows) members
  pub gone_are : IsPermutation (gone_shown rows) gone
  pub meta_are : IsPermutation (meta_shown rows) meta

-- what was found is so in the rows of tables, as they are read
pub record BreaksIn (rows : Rows) (f : Finding) : Type 0 where
  pub nodes : List Row
  pub entries : List Row
  pub members : List Row
  pub gone : List Row
  pub meta : List Row
  pub read : AreRead rows nodes entries members gone meta
  pub broken : BreaksRows nodes entries members gone meta f ⊎ BreaksTexts rows nodes f
