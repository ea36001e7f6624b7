-- The names that many proofs of this crate cite, passed on from one place. Declares nothing.
pub use Rattle.std.proofs.Common.{◌≡◌, ◌∙◌, arith, List, refl, [], subst, IsTrue, ap, sym, ℕ, map, ◌∷◌, false, Some, true, Bool, rules, None, Option, filter, inl, ℤ, Ok, find, inr, pos, option_map, FitsSigned, if◌then◌else◌, ◌&&◌, ◌++◌, cond, true≢false, ◌+◌, drop, string_bytes, get_or, is_eq, length, Less, flat_map, slice_get, unwrap_or, not, Equal, Greater, Ordering, suc, Err, Result, nat_lt, ◌||◌, ◌⊎◌}
pub use Rattle.std.proofs.lemmas.Bool.{and_parts}
pub use Rattle.std.proofs.lemmas.Int.{to_z-of_z, to_z_pos, ints}
pub use Rattle.std.proofs.lemmas.List.Sorted.{IsPermutation-map}
pub use Rattle.std.proofs.lemmas.Result.{IfOk-weaker}
pub use Rattle.std.specs.List.{AllByRecursion, list_any}
pub use Rattle.std.specs.List.Sorted.{IsPermutation}
pub use Rattle.std.specs.Option.{option_copied, option_to_list}
pub use Rattle.std.specs.Ordering.{ordering_then}
pub use Rattle.std.specs.Prelude.{⊤}
pub use mathlib.Core.Bool.{and-true}
pub use mir.Syntax.{w64}
pub use Rattle.sqlite.proofs.Callers.{IsPlain, reads_as, command_of, one_step, one_permutation, runs_as, statement_of}
pub use Rattle.sqlite.specs.Collation.TheVariants.{Binary}
pub use Rattle.sqlite.specs.Command.TheVariants.{Delete, Insert, Update}
pub use Rattle.sqlite.specs.Does.{Tally}
pub use Rattle.sqlite.specs.Edit.{id_in, edit_of, Edit, Applies, next_rowid, put_all}
pub use Rattle.sqlite.specs.Effect.{Database, IsDatabase}
pub use Rattle.sqlite.specs.Held.{state}
pub use Rattle.sqlite.specs.Listing.{understood}
pub use Rattle.sqlite.specs.Ops.{is_null, binary}
pub use Rattle.sqlite.specs.Order.{Row, value_cmp}
pub use Rattle.sqlite.specs.Program.{overlay}
pub use Rattle.sqlite.specs.Query.{IsAnswer, Output, output, Query, end, inner, page}
pub use Rattle.sqlite.specs.Rowids.TheVariants.{Given, Chosen}
pub use Rattle.sqlite.specs.Schema.{Schema}
pub use Rattle.sqlite.specs.Source.TheVariants.{Values}
pub use Rattle.sqlite.specs.State.{HasCleanDisk, State, Shown, Survives, ExecutesInside, Executes}
pub use Rattle.sqlite.specs.Table.{Table}
pub use Rattle.sqlite.specs.Term.{col, Term, lit}
pub use Rattle.sqlite.specs.Tree.{rowid, Trees, without_rowid}
pub use Rattle.sqlite.specs.declared.types.Value.{Value}
pub use Rattle.sqlite.specs.declared.types.Value.TheVariants.{Int, Null, Text, Blob, Real}
pub use Rattle.sqlite_catalog.proofs.AlterLemmas.{keys_are_unique}
pub use Rattle.sqlite_keyed.proofs.ListLemmas.{ascending-map, ascending_weaker}
pub use Rattle.sqlite_keyed.proofs.SortLemmas.{sort_by-map, sorted_is-sort_by}
pub use Rattle.sqlite_keyed.specs.Lists.{delete_where, sort_by, update_where}
pub use Rattle.sqlite_rules.proofs.KeyLemmas.{agree_back, agree_chain}
pub use Rattle.sqlite_rules.proofs.ListLemmas.{all_has}
pub use Rattle.sqlite_rules.specs.Action.{works}
pub use Rattle.sqlite_rules.specs.Calls.{ids_of}
pub use Rattle.sqlite_rules.specs.Cast.{cast_row}
pub use Rattle.sqlite_rules.specs.Edit.{taken_by, without_all}
pub use Rattle.sqlite_rules.specs.Lists.{Has}
pub use Rattle.sqlite_schema.specs.Names.{same_name}
pub use Rattle.sqlite_schema.specs.Rules.{equal, agree, are_present, is_of}
pub use Rattle.sqlite_schema.specs.declared.schema.Constraint.TheVariants.{NotNull}
pub use Rattle.sqlite_schema.specs.declared.schema.Keys.TheVariants.{Enforced}
pub use Rattle.sqlite_sql.proofs.QueryLemmas.{output_cmp_total}
pub use Rattle.sqlite_sql.specs.Query.{output_cmp}
pub use Rattle.sqlite_tied.specs.Compute.{everything}
pub use Rattle.sqlite_trees.specs.Tree.{IsAscending, IsTable}
pub use Rattle.sqlite_trees.specs.View.{is_int, IsShaped}
pub use Rattle.sqlite_value.proofs.KeyLemmas.{first_key-plain}
pub use Rattle.sqlite_value.proofs.OrderLemmas.{value_cmp-Int}
pub use Rattle.sqlite_value.specs.Keys.{plain}
pub use Rattle.book_tables_rows.specs.Adopting.{placed_row, joined, listed_row, CanList, CanPlace}
pub use Rattle.book_tables_rows.specs.Columns.{ace_node_place, node_label, node_number, gone_book_place, node_owner, node_parent, node_path, node_text, ace_node, ace_place, ace_protected_place, node_kind, rowid_place}
pub use Rattle.book_tables_rows.specs.Nodes.{Finds, told, Told, ShowsEpoch, number_in, said, told_of}
pub use Rattle.book_tables_rows.specs.Rows.{IsBook, rows_of, has, Rows}
pub use Rattle.book_tables_rows.specs.Schema.{book_schema, node_table, ace_table, gone_table, member_table, meta_table}
pub use Rattle.book_tables_rows.specs.Steps.{Looks, Becomes, BecomesIf, Keeps}
pub use Rattle.book_tables_rows.specs.Writes.{is_at, flag, is_under, or_null, AreFree, HasMeta, is_entry, is_mapped, IsMeta, Said, by_place, delete_entries}
pub use Rattle.book_tables_rows.specs.declared.nodes.FoundNode.{FoundNode}
