-- Rows that are written one after another: what the items of a list make of the rows.
use Rattle.std.specs.Prelude.{ℕ, map, drop, length, string_bytes, ⊤}
use Rattle.sqlite.specs.declared.types.Value.TheVariants.{Int}
use Rattle.book_tables_rows.specs.Lists.{listed_node}
use Rattle.book_tables_rows.specs.Nodes.{said}
use Rattle.book_tables_rows.specs.Reach.{pair_said}
use Rattle.book_tables_rows.specs.Rows.{Rows}
use Rattle.book_tables_rows.specs.Plans.{Plan}
use Rattle.book_tables_rows.specs.Writes as writes
use Rattle.book_tables_rows.specs.declared.items.Items.{Items}
use Rattle.book_tables_rows.specs.declared.items.Items.TheVariants.{Entries, Members, OldPairs, NewPairs, EntriesOf}

abbrev pub item_count : Items → ℕ
item_count (Entries node protected list) = length list.now
item_count (Members group members) = length members.now
item_count (OldPairs pairs) = length pairs.now
item_count (NewPairs pairs) = length pairs.now
item_count (EntriesOf rows) = length rows.now

-- what those from a place on make of the rows
abbrev pub written : Items → ℕ → Rows → Rows
written (Entries node protected list) place = writes.insert_list (Int node) protected place (map said (drop place list.now))
written (Members group members) place = writes.insert_members group.now (map string_bytes (drop place members.now))
written (OldPairs pairs) place = writes.delete_pairs (map pair_said (drop place pairs.now))
written (NewPairs pairs) place = writes.insert_pairs (map pair_said (drop place pairs.now))
written (EntriesOf rows) place = writes.delete_entries_of (map listed_node (drop place rows.now))

abbrev pub pieces : Items → ℕ → Plan
pieces items place = record { Fits = λ rows. ⊤; Such = λ rows. ⊤; write = written items place }
