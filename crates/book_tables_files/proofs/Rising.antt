-- The rows of each table of a file rise by their numbers.
use Rattle.std.proofs.Common.{◌≡◌, ℕ, List, [], ◌∷◌, filter, sym, subst, inl, inr, Result, Ok, Err, IfOk}
use Rattle.std.proofs.Math.Logic.{∥∥₁_elim}
use Rattle.std.specs.List.{AllZip}
use Rattle.sqlite_pages.specs.PageMap.{PageMap}
use Rattle.sqlite_pool.specs.File.{version_in, in_use}
use Rattle.sqlite_rules.specs.Lists.{Has}
use Rattle.sqlite_trees.specs.Objects.{catalog_tree, IsListed}
use Rattle.sqlite_trees.specs.Props.{IsOrdered-prop}
use Rattle.sqlite_trees.specs.Tree.{Trees}
use Rattle.sqlite_trees.specs.View.{IsShaped, IsOrdered}
use Rattle.sqlite_trees.specs.declared.store.Shape.TheVariants.{Table as TableShape}
use Rattle.sqlite_wal.specs.Recovery.{Image}
use Rattle.sqlite_catalog.specs.Listing.{IsTableRow, is_table_row}
use Rattle.sqlite_catalog.proofs.LayoutLemmas.{table_shape}
use Rattle.sqlite_store.specs.declared.catalog.Wanted.{Wanted}
use Rattle.sqlite_store.specs.Listed.{catalog_rows, is_listed}
use Rattle.sqlite_store.specs.Listing.{all_reals, all_shapes, file_trees}
use Rattle.sqlite_store.proofs.ListingLemmas.{all_ordered}
use Rattle.sqlite.specs.Effect.{Database, IsDatabase}
use Rattle.sqlite.specs.Files.{AreFoundIn, IsEmpty}
use Rattle.sqlite.specs.Table.{Table}
use Rattle.book_tables_files.specs.Finding.{TablesRise}

-- where no object is listed there is no table
no_table_of : (tables : List Table) → AllZip IsTableRow [] tables → (t : Table) → Has tables t → ⊥
no_table_of [] none t there = there
no_table_of (u ∷ tables) none t there = none

pub empty_rise : (db : Database) → IsDatabase db → IsEmpty db.trees → TablesRise db
empty_rise db sound empty t there =
    let none = subst (λ objects. AllZip IsTableRow (filter is_table_row objects) db.schema.tables) empty.1 sound.lists.listed.tables in
    absurd (no_table_of db.schema.tables none t there)

-- trees in order under shapes that their list gives
shaped_rise : (db : Database) (shapes : ℕ → _) (reals : ℕ → ℕ) → IsDatabase db → IsListed (db.trees catalog_tree) shapes reals → IsOrdered shapes db.trees → TablesRise db
shaped_rise db shapes reals sound listed ordered t there =
    let objects = subst (λ s. IsShaped s (db.trees catalog_tree)) listed.itself.0 (ordered catalog_tree) in
    let shape = table_shape listed objects.0 sound.lists.listed t there in
    subst (λ s. IsShaped s (db.trees t.tree)) shape.0 (ordered t.tree)

file_listed : (size : ℕ) (wanted : List Wanted) (pages : PageMap) → IsListed (file_trees size wanted pages catalog_tree) (all_shapes wanted) (all_reals wanted)
file_listed size wanted pages = rw (catalog_rows size wanted (in_use size pages)) (is_listed wanted)

pub found_rise : (image : Image) (db : Database) → IsDatabase db → AreFoundIn image db.trees → TablesRise db
found_rise image db sound (inl (size, pages, wanted, adopted, ours, is)) =
    let listed = subst (λ (trees : Trees). IsListed (trees catalog_tree) (all_shapes wanted) (all_reals wanted)) (sym is) (file_listed size wanted pages) in
    let ordered : IsOrdered (all_shapes wanted) (file_trees size wanted pages) = ∥∥₁_elim ours (IsOrdered-prop _ _) (λ it. all_ordered it.file.db (version_in pages)) in
    shaped_rise db (all_shapes wanted) (all_reals wanted) sound listed (subst (IsOrdered (all_shapes wanted)) (sym is) ordered)
found_rise image db sound (inr (nothing, empty)) = empty_rise db sound empty

pub ok_both : {X E : Type 0} (r : Result X E) (P Q : X → Type 0) → IfOk r P → IfOk r Q → IfOk r (λ x. P x × Q x)
ok_both (Ok x) P Q p q = (p, q)
ok_both (Err e) P Q p q = tt
