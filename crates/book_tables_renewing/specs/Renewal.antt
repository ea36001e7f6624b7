-- What becomes of the tables of a store of version 1, whose entries know eight leaves (own profile).
use Rattle.std.specs.Prelude.{◌≡◌, ℕ, pos, nat_lt, nat_eq, Bool, true, false, ◌&&◌, List, [], ◌∷◌, map, length, codes, Option, Some, None, IsTrue, IsPermutation}
use Rattle.std.specs.List.{AllByRecursion}
use Rattle.sqlite.specs.declared.types.Value.{Value}
use Rattle.sqlite.specs.declared.types.Value.TheVariants.{Int}
use Rattle.sqlite.specs.Order.{Row, column}
use Rattle.sqlite.specs.State.{State}
use Rattle.sqlite.specs.Tree.{Trees}
use Rattle.book_tables_rows.specs.Columns.{ace_mask}
use Rattle.book_tables_rows.specs.Rows.{Rows, rows_of, IsBook}
use Rattle.book_tables_rows.specs.Schema.{first_schema, node_tree, ace_tree, ace2_tree, member_tree, gone_tree, meta_tree}
use Rattle.book_tables_schema.specs.OtherReach.{schema_of}
use Rattle.book_tables_schema.specs.declared.layout.Generation.TheVariants.{Former}
use Rattle.book_tables_schema.specs.Renewing.{IsFirstMeta, renumbered, widened_row}
use Rattle.book_tables_schema.specs.Tabled.{HasTables, IsTabled}

-- ---- the tables of version 1

-- the rows of the tables: the entries are those of `ace`, and there is no `reach`
abbrev pub first_rows_of : Trees → Rows
first_rows_of trees = record { nodes = trees node_tree; entries = trees ace_tree; members = trees member_tree; gone = trees gone_tree; meta = trees meta_tree; reach = [] }

-- a mask of the eight leaves
abbrev pub is_first_mask : Value → Bool
is_first_mask (Int (pos n)) = nat_lt n 256
is_first_mask _ = false

abbrev pub HasFirstMask : Row → Type 0
HasFirstMask row = IsTrue (is_first_mask (ace_mask row))

-- the sets of all entries are of the eight leaves, and the version is 1
pub record AreFirstRows (rows : Rows) : Type 0 where
  pub masks : AllByRecursion HasFirstMask rows.entries
  pub epoch : ℕ
  pub version : IsFirstMeta rows.meta epoch

-- ---- they are renewed

-- each entry has bit 8 in its mask where it has bit 0, and the version is 2
abbrev pub renewed : Rows → Rows
renewed rows = renumbered (record rows { entries = map widened_row rows.entries })

-- a connection in a transaction, where the tables of version 1 were renewed, with so many entries
pub record Renewed (old new : State) (count : ℕ) : Type 0 where
  pub inside : IsTrue new.in_transaction
  pub was_open : IsTrue old.is_open
  pub is_open : IsTrue new.is_open
  pub first : HasTables first_schema old.now → AreFirstRows (first_rows_of old.now.trees)
  pub made : HasTables first_schema old.now → IsBook new.now × (rows_of new.now.trees ≡ renewed (first_rows_of old.now.trees))
  pub counted : HasTables first_schema old.now → count ≡ length (old.now.trees ace_tree)

-- whether they were
abbrev pub TellsRenewed : State → State → Option ℕ → Type 0
TellsRenewed old new None = HasTables first_schema old.now → ¬ (AreFirstRows (first_rows_of old.now.trees))
TellsRenewed old new (Some count) = Renewed old new count

-- ---- the steps

abbrev pub list_masks : List ℕ
list_masks = codes "SELECT mask FROM ace"

-- the masks of the rows of `ace` are shown, in some order, and nothing changes
abbrev pub AreMasks : State → State → List Row → Type 0
AreMasks old new shown = (new.now ≡ old.now) × IsPermutation (map (λ row. ace_mask row ∷ []) (old.now.trees ace_tree)) shown

-- an open connection shows the masks of the entries of version 1, and stays; and so it does in the former order of version 2
pub record ShowsMasks (old new : State) (shown : List Row) : Type 0 where
  pub was_open : IsTrue old.is_open
  pub mode : new.in_transaction ≡ old.in_transaction
  pub rows : old.now.schema ≡ first_schema → AreMasks old new shown
  pub former : old.now.schema ≡ schema_of Former → AreMasks old new shown

abbrev pub copy_text : List ℕ
copy_text = codes "INSERT INTO ace2 (rowid, node, protected, place, form, principal, invert, deny, mask) SELECT rowid, node, protected, place, form, principal, invert, deny, mask + 256 * (mask % 2) FROM ace ORDER BY rowid"

-- inside a transaction: the table of entries of version 2, which was empty, has those of version 1, widened
pub record Copies (old new : State) : Type 0 where
  pub inside : IsTrue new.in_transaction
  pub was_open : IsTrue old.is_open
  pub is_open : IsTrue new.is_open
  pub made : IsTabled old.now → old.now.trees ace2_tree ≡ [] → AllByRecursion HasFirstMask (old.now.trees ace_tree)
      → IsTabled new.now × (rows_of new.now.trees ≡ record (rows_of old.now.trees) { entries = map widened_row (old.now.trees ace_tree) })

-- inside a transaction: the tables of version 1 are those of version 2, with the same rows but for the masks
pub record Retables (old new : State) : Type 0 where
  pub inside : IsTrue new.in_transaction
  pub was_open : IsTrue old.is_open
  pub is_open : IsTrue new.is_open
  pub made : HasTables first_schema old.now → AllByRecursion HasFirstMask (old.now.trees ace_tree)
      → IsBook new.now × (rows_of new.now.trees ≡ record (first_rows_of old.now.trees) { entries = map widened_row (old.now.trees ace_tree) })

-- the one row that is shown has version 1 and an epoch
abbrev pub is_one : Value → Bool
is_one (Int (pos n)) = nat_eq n 1
is_one _ = false

abbrev pub is_natural : Value → Bool
is_natural (Int (pos n)) = true
is_natural _ = false

abbrev pub are_first_meta : List Row → Bool
are_first_meta [] = false
are_first_meta (row ∷ []) = is_one (column row 0) && is_natural (column row 1)
are_first_meta (row ∷ next ∷ rows) = false

-- inside a transaction: there was one row with version 1, and now it has version 2; or there was none, and nothing changed
pub record Reversions (old new : State) : Type 0 where
  pub inside : IsTrue new.in_transaction
  pub was_open : IsTrue old.is_open
  pub is_open : IsTrue new.is_open
  pub first : IsBook old.now → (epoch : ℕ) × IsFirstMeta (rows_of old.now.trees).meta epoch
  pub rows : IsBook old.now → IsBook new.now × (rows_of new.now.trees ≡ renumbered (rows_of old.now.trees))

abbrev pub TellsVersion : State → State → Bool → Type 0
TellsVersion old new true = Reversions old new
TellsVersion old new false = IsBook old.now → (epoch : ℕ) → ¬ (IsFirstMeta (rows_of old.now.trees).meta epoch)
