-- How the tables of version 1 become those of version 2.
use Rattle.std.specs.Prelude.{◌≡◌, ℕ, ◌+◌, ◌*◌, ◌%◌, pos, Bool, true, List, [], ◌∷◌, map, IsTrue, codes}
use Rattle.sqlite.specs.declared.types.Value.{Value}
use Rattle.sqlite.specs.declared.types.Value.TheVariants.{Int}
use Rattle.sqlite.specs.Order.{Row, column}
use Rattle.sqlite.specs.State.{State}
use Rattle.sqlite_keyed.specs.Lists.{update_where}
use Rattle.book_tables_rows.specs.Columns.{ace_deny, ace_form, ace_invert, ace_mask, ace_node, ace_place, ace_principal, ace_protected}
use Rattle.book_tables_rows.specs.Nodes.{number_in}
use Rattle.book_tables_rows.specs.Writes.{entries_of}
use Rattle.book_tables_rows.specs.Rows.{Rows, rows_of, IsBook}
use Rattle.book_tables_schema.specs.Tabled.{IsTabled}

abbrev pub delete_former : List ℕ
delete_former = codes "DELETE FROM ace"

-- inside a transaction: `ace` is empty, and the tables are those of a store
pub record Empties (old new : State) : Type 0 where
  pub inside : IsTrue new.in_transaction
  pub was_open : IsTrue old.is_open
  pub is_open : IsTrue new.is_open
  pub made : IsTabled old.now → IsBook new.now × (rows_of new.now.trees ≡ rows_of old.now.trees)

abbrev pub set_second : List ℕ
set_second = codes "UPDATE meta SET version = 2"

-- one row, with version 1 and the epoch
abbrev pub IsFirstMeta : List Row → ℕ → Type 0
IsFirstMeta meta epoch = (id : Value) × (meta ≡ (id ∷ Int (pos 1) ∷ Int (pos epoch) ∷ []) ∷ [])

abbrev pub with_second : Row → Row
with_second row = column row 0 ∷ Int (pos 2) ∷ column row 2 ∷ []

-- the rows with version 2
abbrev pub renumbered : Rows → Rows
renumbered rows = record rows { meta = update_where (λ _. true) with_second rows.meta }

-- a row of `ace` as `ace2` has it: bit 8 is in its mask where bit 0 is
abbrev pub widened_row : Row → Row
widened_row row =
    column row 0 ∷ ace_node row ∷ ace_protected row ∷ ace_place row ∷ ace_form row ∷ ace_principal row ∷ ace_invert row ∷ ace_deny row
    ∷ Int (pos (number_in (ace_mask row) + 256 * (number_in (ace_mask row) % 2))) ∷ []

-- each list has the widened entries, in the same order
abbrev pub WidenedRowsKeepLists : Type 0
WidenedRowsKeepLists = (rows : List Row) (id : Value) (protected : Bool) → entries_of (map widened_row rows) id protected ≡ map widened_row (entries_of rows id protected)
