-- What a read of the masks of `ace` shows.
use Rattle.std.proofs.Common.{◌≡◌, false, true, List, [], ◌∷◌, codes, map, filter, refl, sym, ap, subst, IsPermutation}
use Rattle.sqlite.specs.declared.types.Value.TheVariants.{Null}
use Rattle.sqlite.specs.Command.{Command}
use Rattle.sqlite.specs.Command.TheVariants.{Select}
use Rattle.sqlite.specs.Listing.{understood, reads_listing}
use Rattle.sqlite.specs.Order.{Row}
use Rattle.sqlite.specs.Program.{overlay}
use Rattle.sqlite.specs.Schema.{Schema}
use Rattle.sqlite.specs.State.{State, Shown}
use Rattle.sqlite.specs.Term.{col}
use Rattle.sqlite.proofs.Callers.{IsPlain, command_of, reads_as}
use Rattle.sqlite_tied.specs.Compute.{everything}
use Rattle.book_tables_rows.specs.Columns.{ace_mask}
use Rattle.book_tables_rows.specs.Schema.{ace_tree, first_schema}
use Rattle.book_tables_rows.proofs.Keeping.{shown_open, shown_mode, shown_same}
use Rattle.book_tables_rows.proofs.Statements.{simple, answers}
use Rattle.book_tables_schema.specs.OtherReach.{schema_of}
use Rattle.book_tables_schema.specs.declared.layout.Generation.TheVariants.{Former}
use Rattle.book_tables_renewing.specs.Renewal.{list_masks, AreMasks, ShowsMasks}

all_pass : (rows : List Row) → filter (λ r. true) rows ≡ rows
all_pass [] = refl
all_pass (r ∷ rows) = ap (λ xs. r ∷ xs) (all_pass rows)

abbrev mask_command : Command
mask_command = Select (record { lets = []; body = simple ace_tree [] (col 1 8 ∷ []) }) (codes "mask" ∷ [])

module _ (schema : Schema) (is : command_of (understood schema list_masks) ≡ mask_command) (plain : IsPlain (understood schema list_masks)) (unlisted : reads_listing schema list_masks ≡ false) where
  shows_under : (old new : State) (rows : List Row) → Shown list_masks [] old new rows → old.now.schema ≡ schema → AreMasks old new rows
  shows_under old new rows h has =
      let db = old.now.trees in
      let read = (reads_as list_masks [] old new schema has _ is plain unlisted rows h).answer Null in (
        shown_same list_masks [] old new rows (subst (λ s. IsPlain (understood s list_masks)) (sym has) plain) h,
        subst (λ xs. IsPermutation (map (λ row. ace_mask row ∷ []) xs) rows) (all_pass (db ace_tree)) (answers ace_tree [] (col 1 8 ∷ []) (overlay db []) [] rows read),
      )

first_is : command_of (understood first_schema list_masks) ≡ mask_command
unfolding understood everything
first_is = refl

first_plain : IsPlain (understood first_schema list_masks)
unfolding understood everything
first_plain = (refl, refl)

first_unlisted : reads_listing first_schema list_masks ≡ false
unfolding understood everything
first_unlisted = refl

former_is : command_of (understood (schema_of Former) list_masks) ≡ mask_command
unfolding understood everything
former_is = refl

former_plain : IsPlain (understood (schema_of Former) list_masks)
unfolding understood everything
former_plain = (refl, refl)

former_unlisted : reads_listing (schema_of Former) list_masks ≡ false
unfolding understood everything
former_unlisted = refl

pub shows_masks : (old new : State) (rows : List Row) → Shown list_masks [] old new rows → ShowsMasks old new rows
shows_masks old new rows h = record {
  was_open = shown_open list_masks [] old new rows h;
  mode = shown_mode list_masks [] old new rows h;
  rows = shows_under first_schema first_is first_plain first_unlisted old new rows h;
  former = shows_under (schema_of Former) former_is former_plain former_unlisted old new rows h;
}
