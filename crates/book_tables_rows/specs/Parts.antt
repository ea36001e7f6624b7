-- What a policy writes, one after another.
use Rattle.std.specs.Prelude.{ℕ, ⊤, List, map, drop, length}
use Rattle.book_tables_rows.specs.Adopting.{CanList, CanPlace, InTurn, in_turn, joined, listed_row, placed_row, write_group, write_lists, write_place}
use Rattle.book_tables_rows.specs.Plans.{Plan}
use Rattle.book_tables_rows.specs.Rows.{Rows}
use Rattle.book_tables_rows.specs.declared.adopting.Part.{Part}
use Rattle.book_tables_rows.specs.declared.adopting.Part.TheVariants.{Places, Lists, Groups}

abbrev pub part_count : Part → ℕ
part_count (Places places) = length places.now
part_count (Lists lists) = length lists.now
part_count (Groups groups) = length groups.now

-- a plan of writes in turn
abbrev pub turns : {A : Type 0} → (A → Rows → Type 0) → (A → Rows → Rows) → List A → Plan
turns Can write items = record { Fits = λ rows. ⊤; Such = InTurn Can write items; write = in_turn write items }

-- those of a part from a place on
abbrev pub part_from : Part → ℕ → Plan
part_from (Places places) place = turns CanPlace write_place (map placed_row (drop place places.now))
part_from (Lists lists) place = turns CanList write_lists (map listed_row (drop place lists.now))
part_from (Groups groups) place = turns (λ _ _. ⊤) write_group (map joined (drop place groups.now))
