-- Statements as values: what each makes of the rows, and what all of them make in turn.
use Rattle.std.specs.Prelude.{ℕ, ◌<◌, ◌^◌, List, [], ◌∷◌, ⊤, Ok}
use Rattle.std.specs.Option.{option_copied}
use Rattle.sqlite.specs.declared.types.Value.TheVariants.{Int}
use Rattle.sqlite.specs.Order.{Row}
use Rattle.sqlite.specs.State.{State, ExecutesInside}
use Rattle.book_tables_rows.specs.Columns.{rowid_place}
use Rattle.book_tables_rows.specs.Items.{written}
use Rattle.book_tables_rows.specs.Rows.{Rows, has}
use Rattle.book_tables_rows.specs.Plans.{Plan}
use Rattle.book_tables_rows.specs.Writes as writes
use Rattle.book_tables_rows.specs.Writes.{AreFree, HasMeta, is_mapped, is_under}
use Rattle.book_tables_rows.specs.declared.script.Statement.{Statement}
use Rattle.book_tables_rows.specs.declared.script.Statement.TheVariants.{SetNumber, SetLabel, MoveNode, SetPlace, InsertNode, WriteCard, WriteCopy, DeleteNode, DeleteChildren, DeleteEntries, DeleteOwn, InsertGone, DeleteGoneName, DeleteGone, DeleteMembers, SetEpoch, Each}

-- a text was run, and changed some number of rows
pub record Executed (sql : List ℕ) (params : Row) (old new : State) : Type 0 where
  pub count : ℕ
  pub ran : ExecutesInside 0 sql params old new (Ok count)

-- its numbers are in range
abbrev pub IsSmall : Statement → Type 0
IsSmall (SetNumber path number) = number < 2 ^ 53
IsSmall (SetLabel path label number) = number < 2 ^ 53
IsSmall (MoveNode path destination parent number) = number < 2 ^ 53
IsSmall (SetPlace path owner label) = ⊤
IsSmall (InsertNode path parent kind owner label text number) = number < 2 ^ 53
IsSmall (WriteCard book path name owner text number) = number < 2 ^ 53
IsSmall (WriteCopy book path name owner label text number) = number < 2 ^ 53
IsSmall (DeleteNode node) = ⊤
IsSmall (DeleteChildren node) = ⊤
IsSmall (DeleteEntries node) = ⊤
IsSmall (DeleteOwn node) = ⊤
IsSmall (InsertGone book name number) = number < 2 ^ 53
IsSmall (DeleteGoneName book name) = ⊤
IsSmall (DeleteGone book) = ⊤
IsSmall (DeleteMembers group) = ⊤
IsSmall (SetEpoch epoch) = epoch < 2 ^ 53
IsSmall (Each items) = ⊤

-- the rows that it fits
abbrev pub fits : Statement → Rows → Type 0
fits (SetNumber path number) rows = ⊤
fits (SetLabel path label number) rows = ⊤
fits (MoveNode path destination parent number) rows = ⊤
fits (SetPlace path owner label) rows = ⊤
fits (InsertNode path parent kind owner label text number) rows = ⊤
fits (WriteCard book path name owner text number) rows = ⊤
fits (WriteCopy book path name owner label text number) rows = ⊤
fits (DeleteNode node) rows = AreFree (has rowid_place (Int node)) rows
fits (DeleteChildren node) rows = AreFree (is_under (Int node)) rows
fits (DeleteEntries node) rows = ⊤
fits (DeleteOwn node) rows = ⊤
fits (InsertGone book name number) rows = ⊤
fits (DeleteGoneName book name) rows = ⊤
fits (DeleteGone book) rows = ⊤
fits (DeleteMembers group) rows = ⊤
fits (SetEpoch epoch) rows = HasMeta rows
fits (Each items) rows = ⊤

-- what it makes of them
abbrev pub write : Statement → Rows → Rows
write (SetNumber path number) rows = writes.set_number path.now number rows
write (SetLabel path label number) rows = writes.set_label_rows path.now label.now number rows
write (MoveNode path destination parent number) rows = writes.move_node path.now destination.now (Int parent) number rows
write (SetPlace path owner label) rows = writes.set_place path.now (option_copied owner) label.now rows
write (InsertNode path parent kind owner label text number) rows =
    writes.insert_node path.now (Int parent) kind (option_copied owner) label.now (option_copied text) number rows
write (WriteCard book path name owner text number) rows =
    writes.write_card (Int book) (is_mapped path.now rows) path.now name.now (option_copied owner) text.now number rows
write (WriteCopy book path name owner label text number) rows =
    writes.write_copy (Int book) (is_mapped path.now rows) path.now name.now (option_copied owner) label.now text.now number rows
write (DeleteNode node) rows = writes.delete_node (Int node) rows
write (DeleteChildren node) rows = writes.delete_children (Int node) rows
write (DeleteEntries node) rows = writes.delete_entries (Int node) rows
write (DeleteOwn node) rows = writes.delete_own (Int node) rows
write (InsertGone book name number) rows = writes.insert_gone (Int book) name.now number rows
write (DeleteGoneName book name) rows = writes.delete_gone_name (Int book) name.now rows
write (DeleteGone book) rows = writes.delete_gone (Int book) rows
write (DeleteMembers group) rows = writes.delete_members group.now rows
write (SetEpoch epoch) rows = writes.set_epoch epoch rows
write (Each items) rows = written items 0 rows

-- each fits the rows at its turn
abbrev pub fit_all : List Statement → Rows → Type 0
fit_all [] rows = ⊤
fit_all (s ∷ ss) rows = fits s rows × fit_all ss (write s rows)

abbrev pub write_all : List Statement → Rows → Rows
write_all [] rows = rows
write_all (s ∷ ss) rows = write_all ss (write s rows)

abbrev pub plan_of : Statement → Plan
plan_of s = record { Fits = fits s; Such = λ rows. ⊤; write = write s }

abbrev pub script : List Statement → Plan
script ss = record { Fits = fit_all ss; Such = λ rows. ⊤; write = write_all ss }
