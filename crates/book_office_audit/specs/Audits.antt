-- The audit of an Office as a text (own profile).
use Rattle.std.specs.Prelude.{◌≡◌, ℕ, List, [], ◌∷◌, ◌++◌, map, codes, decimal, Option, option_and_then}
use Rattle.std.specs.FinMap.{empty, entries, insert}
use Rattle.std.specs.List.{flat_map}
use Rattle.book_lists.specs.Memberships.{Memberships, set_of}
use Rattle.book_lists.specs.declared.memberships.Membership.{Membership}
use Rattle.book_office.specs.Levels.{lists_at}
use Rattle.book_office.specs.Resources.{children_at, node_at}
use Rattle.book_office.specs.declared.nodes.Level.{Level}
use Rattle.book_office.specs.declared.nodes.Listed.{Listed}
use Rattle.book_office.specs.declared.nodes.Node.{Node}
use Rattle.book_office_values.specs.Names.{NamesTo}
use Rattle.book_office_values.specs.Paths.{book_path}
use Rattle.book_office_values.specs.declared.offices.Office.{Office}
use Rattle.book_office_values.specs.declared.paths.Path.TheVariants as path
use Rattle.book_office_audit.specs.EntryLines.{resource_lines}
use Rattle.book_office_audit.specs.declared.contents.Contents.{Contents}
use Rattle.book_office_audit.specs.declared.contents.Residents.{Residents}
use Rattle.book_office_audit.specs.declared.contents.Shelf.{Shelf}
use Rattle.book_office_audit.specs.declared.contents.Top.{Top}

-- a text at a key
abbrev pub Block : Type 0
Block = List ℕ × List ℕ

-- a map with blocks: its entries stand in byte order of their keys
abbrev pub gathered : NamesTo (List ℕ) → List Block → NamesTo (List ℕ)
gathered m [] = m
gathered m (b ∷ bs) = gathered (insert m b.0 b.1) bs

-- the texts of blocks, in byte order of their keys
abbrev pub in_order : List Block → List ℕ
in_order blocks = flat_map (λ (b : Block). b.1) (entries (gathered empty blocks))

-- a direct membership as a line, at this line
abbrev pub member_line : Membership → List ℕ
member_line m = codes "member " ++ (m.group ++ (codes " " ++ m.member))

abbrev pub member_block : Membership → Block
member_block m = (member_line m, member_line m ++ codes "\n")

-- the lines of a child at the text of its path: the path above it, which is empty for a home, a slash and its name
abbrev pub block_of : List ℕ → Listed → Block
block_of above child =
    (above ++ codes "/" ++ child.name, resource_lines (above ++ codes "/" ++ child.name) child.owner child.protected child.own)

abbrev pub shelf_blocks : Shelf → List Block
shelf_blocks shelf = map (block_of shelf.book) shelf.cards

-- the lines of the root
abbrev pub level_block : Option (List ℕ) → Level → Block
level_block owner level = (codes "/", resource_lines (codes "/") owner level.protected level.own)

-- the lines of all resources, each at the text of its path
abbrev pub blocks_of : Contents → List Block
blocks_of contents =
    map (level_block contents.top.owner) contents.top.lists.levels
    ++ (map (block_of []) contents.top.homes
    ++ (map (block_of (codes "/people")) contents.residents.persons
    ++ (map (block_of (codes "/groups")) contents.residents.groups
    ++ (map (block_of (codes "/books")) contents.residents.books
    ++ flat_map shelf_blocks contents.shelves))))

-- ---- all resources of an Office
abbrev pub owner_in : Option Node → Option (List ℕ)
owner_in node = option_and_then (λ (n : Node). n.owner) node

abbrev pub top_of : Office → Top
top_of o = record { owner = owner_in (node_at o path.Root); lists = lists_at o path.Root; homes = children_at o path.Root }

abbrev pub residents_of : Office → Residents
residents_of o = record { persons = children_at o path.People; groups = children_at o path.Groups; books = children_at o path.Books }

abbrev pub shelf_of : Office → Listed → Shelf
shelf_of o book = record { book = book_path book.name; cards = children_at o (path.Book book.name) }

abbrev pub contents_of : Office → Contents
contents_of o = record { top = top_of o; residents = residents_of o; shelves = map (shelf_of o) (children_at o path.Books) }

-- ---- the text
-- the epoch, the direct memberships in byte order of their lines, and the resources in byte order of their paths
abbrev pub IsTextOf : ℕ → Memberships → Contents → List ℕ → Type 0
IsTextOf epoch pairs contents text = (list : List Membership) × (set_of list ≡ pairs)
    × (text ≡ (codes "epoch " ++ (decimal epoch ++ codes "\n")) ++ in_order (map member_block list) ++ in_order (blocks_of contents))

abbrev pub IsAuditText : Office → List ℕ → Type 0
IsAuditText o text = IsTextOf o.epoch o.pairs (contents_of o) text
