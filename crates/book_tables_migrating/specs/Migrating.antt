-- For which Office the tables of version 1, and those of version 2 in the former order, stand, and what a migration makes of them.
use Rattle.std.specs.Prelude.{◌≡◌, ◌⊎◌, ℕ, Bool, List, [], length, map, Option, Some, None, IsTrue}
use Rattle.sqlite.specs.Effect.{Database}
use Rattle.sqlite.specs.Order.{Row}
use Rattle.sqlite.specs.Schema.{Schema}
use Rattle.sqlite.specs.State.{State}
use Rattle.sqlite.specs.Tree.{Trees}
use Rattle.book_rights.specs.declared.privileges.Leaf.{Leaf}
use Rattle.book_lists.specs.Circles.{CircleOf}
use Rattle.book_lists.specs.Widening.{IsOfFirst, widened_entry, IsDecidedAlike}
use Rattle.book_lists.specs.declared.entries.Here.{Here}
use Rattle.book_office_values.specs.declared.offices.Office.{Office}
use Rattle.book_office_values.specs.declared.paths.Path.{Path}
use Rattle.book_office.specs.InForce.{in_force_at}
use Rattle.book_office.specs.Levels.{effective_at}
use Rattle.book_office.specs.declared.nodes.EffectiveEntry.{EffectiveEntry}
use Rattle.book_office.specs.Sound.{IsSound}
use Rattle.book_tables_rows.specs.Rows.{in_store}
use Rattle.book_tables_rows.specs.Schema.{ace_tree, ace2_tree}
use Rattle.book_tables_rows.specs.Steps.{Stays}
use Rattle.book_tables_schema.specs.Renewing.{renumbered}
use Rattle.book_tables_schema.specs.OtherReach.{IsBeside}
use Rattle.book_tables_schema.specs.Layout.{former_tree}
use Rattle.book_tables_schema.specs.declared.layout.Generation.{Generation}
use Rattle.book_tables_schema.specs.declared.layout.Generation.TheVariants.{First, Former, Second}
use Rattle.book_tables_renewing.specs.Renewal.{first_rows_of, AreFirstRows}
use Rattle.book_tables_renewing.specs.Reordering.{former_rows_of}
use Rattle.book_tables.specs.Opened.{StandsAlone}
use Rattle.book_tables.specs.Stands.{Gives, IsKept, Stands}
use Rattle.book_tables_opening.specs.Reading.{RowsRise}
use Rattle.book_tables_migrating.specs.Widen.{widen}

-- ---- the tables that a migration takes

-- the tables of a generation are there with their columns and rules, and their rows rise by their numbers: with a table `reach`, of
-- whatever columns and rows, or without one, and with whichever of the indexes that only make look-ups fast
abbrev pub HasBefore : Generation → Database → Type 0
HasBefore generation db = IsBeside generation db.schema × RowsRise db

-- tables of version 1 whose rows give a sound Office, but that their version is 1: the sets of its entries are of the eight leaves
pub record StandsFirst (db : Database) (o : Office) : Type 0 where
  pub tables : HasBefore First db
  pub first : AreFirstRows (first_rows_of db.trees)
  pub gives : Gives (renumbered (first_rows_of db.trees)) o
  pub sound : IsSound o

-- tables of version 2 in the former order whose rows give a sound Office, and `ace` has none
pub record StandsFormer (db : Database) (o : Office) : Type 0 where
  pub tables : HasBefore Former db
  pub empty : db.trees ace_tree ≡ []
  pub gives : Gives (former_rows_of db.trees) o
  pub sound : IsSound o

-- tables of a generation, and the Office that a migration makes of them: the widened one of what those of version 1 stand for, and
-- what those in the former order stand for; those of version 2 are not migrated
abbrev pub StandsBefore : Generation → Database → Office → Type 0
StandsBefore First db new = (o : Office) × StandsFirst db o × (new ≡ widen o)
StandsBefore Former db new = StandsFormer db new
StandsBefore Second db new = ⊥

-- a store with these trees stands so
abbrev pub StandsBeforeBy : Generation → Trees → Office → Type 0
StandsBeforeBy generation trees new = (s : Schema) × StandsBefore generation (record { schema = s; trees = trees }) new

-- no migration makes an Office of the tables as those of a generation
abbrev pub StandsForNoneAs : Generation → Database → Type 0
StandsForNoneAs generation db = (new : Office) → ¬ (StandsBefore generation db new)

-- the entries of their lists
abbrev pub entries_before : Generation → Trees → List Row
entries_before First trees = trees ace_tree
entries_before Former trees = trees former_tree
entries_before Second trees = trees ace2_tree

-- which tables a schema has that a migration takes
abbrev pub TellsGeneration : Schema → Option Generation → Type 0
TellsGeneration schema None = (¬ (IsBeside First schema)) × (¬ (IsBeside Former schema))
TellsGeneration schema (Some First) = IsBeside First schema
TellsGeneration schema (Some Former) = IsBeside Former schema
TellsGeneration schema (Some Second) = ⊥

-- ---- the law

-- of an Office that tables of version 1 stand for, each decision on a need of the eight leaves at a path is the one on the widened
-- need in the widened Office: allowed where it was, and denied by the same entry, which stands at the same path, under the same name
abbrev pub widened_there : EffectiveEntry → EffectiveEntry
widened_there e = record e { entry = widened_entry e.entry }

abbrev pub WidenedOfficesDecideAlike : Type 0
WidenedOfficesDecideAlike = (db : Database) (o : Office) → StandsFirst db o → (p : Path) → (circle : CircleOf) (here : Here) (need : Leaf → Bool) → IsOfFirst need
    → (in_force_at (widen o) p ≡ map widened_entry (in_force_at o p))
    × (effective_at (widen o) p ≡ map widened_there (effective_at o p))
    × IsDecidedAlike (in_force_at o p) circle here need

-- ---- a connection

-- inside a transaction: the tables of a generation became those of a store, with so many entries, and are kept for the Office
pub record Rewritten (generation : Generation) (old new : State) (count : ℕ) : Type 0 where
  pub inside : IsTrue new.in_transaction
  pub was_open : IsTrue old.is_open
  pub stands : HasBefore generation old.now → (o : Office) × StandsBefore generation old.now o × IsKept new.now o
  pub counted : HasBefore generation old.now → count ≡ length (entries_before generation old.now.trees)

-- whether they did: if not, they stood for no Office
abbrev pub TellsRewritten : Generation → State → State → Option ℕ → Type 0
TellsRewritten generation old new (Some count) = Rewritten generation old new count
TellsRewritten generation old new None = StandsForNoneAs generation old.now

-- the tables of a connection became those of a store, and were committed
pub record IsMigrated (old new : State) (count : ℕ) : Type 0 where
  pub generation : Generation
  pub schema : IsBeside generation old.now.schema
  pub was_open : IsTrue old.is_open
  pub is_open : IsTrue new.is_open
  pub committed : new.committed ≡ new.now
  pub stands : HasBefore generation old.now → (o : Office) × StandsBefore generation old.now o × IsKept new.now o
  pub counted : HasBefore generation old.now → count ≡ length (entries_before generation old.now.trees)

-- what a stop may leave of it
pub record MayMigrate (old : State) (trees : Trees) : Type 0 where
  pub generation : Generation
  pub schema : IsBeside generation old.now.schema
  pub was_open : IsTrue old.is_open
  pub stands : HasBefore generation old.now → (o : Office) × StandsBefore generation old.now o × Stands (in_store trees) o

-- whether they did: if not, they stood for no Office, and an open connection shows what it showed
abbrev pub TellsMigrated : State → State → Option ℕ → Type 0
TellsMigrated old new (Some count) = IsMigrated old new count
TellsMigrated old new None = Stays old new × ((generation : Generation) → StandsForNoneAs generation old.now)

-- ---- a store that is migrated

-- the trees that were committed stood for an Office as tables of version 1, and the connection stands for the widened one; or they
-- stood for one in the former order, and the connection stands for it
pub record StandsMigrated (trees : Trees) (new : State) (count : ℕ) : Type 0 where
  pub generation : Generation
  pub office : Office
  pub before : StandsBeforeBy generation trees office
  pub stands : StandsAlone new office
  pub counted : count ≡ length (entries_before generation trees)

-- what an open connection shows stands for no Office as tables of version 1, and for none in the former order
abbrev pub StandsForNoneBefore : State → Type 0
StandsForNoneBefore s = IsTrue s.is_open → (generation : Generation) → StandsForNoneAs generation s.now

-- it shows the trees that were committed, and a stop leaves these, or what stands for the Office that a migration makes of them
pub record IsUnmigrated (trees : Trees) (new : State) : Type 0 where
  pub shows : IsTrue new.is_open → new.now.trees ≡ trees
  pub left : (after : Trees) → new.may_leave after
      → (after ≡ trees) ⊎ ((generation : Generation) × (o : Office) × StandsBeforeBy generation trees o × Stands (in_store after) o)
