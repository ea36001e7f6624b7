-- The names that many proofs of this crate cite, passed on from one place. Declares nothing.
pub use Rattle.std.proofs.Common.{◌≡◌, ◌∙◌, sym, ap, List, ℕ, refl, map, subst, [], ◌∷◌, None, Some, Option, false, true, option_map, rules, Bool, ◌++◌, arith, inl, cond, inr, ◌+◌, ◌≢◌, find, ℤ, ◌&&◌, length, option_and_then, filter, true≢false, get_or, take, unwrap_or, Err, ◌<◌, ◌⊎◌, Less, codes, ◌≤◌, IsTrue, drop, is_some, not, pos, string_bytes, Equal, Greater, Ok, Ordering, is_eq, ◌<ℤ◌, ◌||◌, IsPermutation, Result, int_cmp, is_gt, suc}
pub use Rattle.std.proofs.lemmas.Bool.{and_parts, false_from_ne_true}
pub use Rattle.std.proofs.lemmas.Cmp.{tied_itself}
pub use Rattle.std.proofs.lemmas.Int.{ints, to_z-of_z}
pub use Rattle.std.proofs.lemmas.List.Folds.{find-append}
pub use Rattle.std.proofs.lemmas.Option.{same_Some}
pub use Rattle.std.proofs.lemmas.Result.{IfOk-weaker}
pub use Rattle.std.specs.Cmp.{IsTotalOrder}
pub use Rattle.std.specs.Cmp.Lexicographic.{nat_list_cmp_total}
pub use Rattle.std.specs.FinMap.{get, entries, empty, insert, get-empty, remove}
pub use Rattle.std.specs.FinSet.{contains-insert}
pub use Rattle.std.specs.List.{AllByRecursion, list_any}
pub use Rattle.std.specs.Option.{option_copied, option_or}
pub use Rattle.std.specs.Ordering.{eq_by_cmp}
pub use Rattle.std.specs.Str.{bytes_eq}
pub use Rattle.std.specs.Vec.Iter.{into_iter_items, into_iter_len}
pub use mir.Syntax.{w64}
pub use Rattle.sqlite.specs.Edit.{id_in, next_rowid}
pub use Rattle.sqlite.specs.Effect.{Database, IsDatabase}
pub use Rattle.sqlite.specs.Held.{state}
pub use Rattle.sqlite.specs.Ops.{binary}
pub use Rattle.sqlite.specs.Order.{Row, value_cmp, column}
pub use Rattle.sqlite.specs.State.{HasCleanDisk, Survives, State}
pub use Rattle.sqlite.specs.Tree.{rowid, Trees}
pub use Rattle.sqlite.specs.declared.types.Value.{Value}
pub use Rattle.sqlite.specs.declared.types.Value.TheVariants.{Int, Text, Null}
pub use Rattle.sqlite_keyed.proofs.KeyedLemmas.{int_eq_apart}
pub use Rattle.sqlite_keyed.proofs.ListLemmas.{ascending-map, map-map}
pub use Rattle.sqlite_keyed.specs.Lists.{delete_where, update_where, sort_by}
pub use Rattle.sqlite_rules.proofs.ListLemmas.{all_has, has_filtered, all_from, has_kept}
pub use Rattle.sqlite_rules.specs.Lists.{Has}
pub use Rattle.sqlite_trees.proofs.ListLemmas.{all_weaker, all-append}
pub use Rattle.sqlite_trees.specs.Tree.{IsAscending}
pub use Rattle.sqlite_trees.specs.View.{IsShaped, doubt}
pub use Rattle.sqlite_value.proofs.OrderLemmas.{value_cmp-Int, value_cmp_total}
pub use Rattle.book_limits.specs.declared.TheConstants.{LAST_NUMBER}
pub use Rattle.book_lists.proofs.Pairing.{memberships_exact, memberships_total, same_membership}
pub use Rattle.book_lists.specs.Memberships.{Memberships, membership_cmp}
pub use Rattle.book_lists.specs.Names.{IsName, name_cmp}
pub use Rattle.book_lists.specs.Principals.{group_path}
pub use Rattle.book_lists.specs.declared.entries.Entry.{Entry}
pub use Rattle.book_lists.specs.declared.memberships.Membership.{Membership}
pub use Rattle.book_office_values.proofs.Members.{get_mem, mem_get}
pub use Rattle.book_office_values.proofs.NameMapLaws.{by_names, same_itself, same, is_same, names_apart}
pub use Rattle.book_office_values.proofs.OneName.{some_apart, by_option, where_some, put_elsewhere, put_here, removed_elsewhere, removed_here}
pub use Rattle.book_office_values.proofs.Spelling.{one_text}
pub use Rattle.book_office_values.specs.Changes.{changes_after}
pub use Rattle.book_office_values.specs.Names.{NamesTo}
pub use Rattle.book_office_values.specs.Paths.{book_path, path_text, IsPath, card_path, parent_of, kind_of, levels}
pub use Rattle.book_office_values.specs.declared.offices.Book.{Book}
pub use Rattle.book_office_values.specs.declared.offices.Office.{Office}
pub use Rattle.book_office_values.specs.declared.offices.Properties.{Properties}
pub use Rattle.book_office_values.specs.declared.offices.StoredCard.{StoredCard}
pub use Rattle.book_office_values.specs.declared.paths.Kind.{Kind}
pub use Rattle.book_office_values.specs.declared.paths.Path.{Path}
pub use Rattle.book_office_adopting.specs.Adopting.{taken_over, adoption_of}
pub use Rattle.book_office_adopting.specs.TakingOver.{bare, bare_books}
pub use Rattle.book_office.proofs.StandingResources.{resources_stand_in_place}
pub use Rattle.book_office.specs.Edits.{apply, with_book}
pub use Rattle.book_office.specs.Keeping.{Standing, Reads, Leftover, failures_after_fault, whole}
pub use Rattle.book_office.specs.Levels.{lists_at}
pub use Rattle.book_office.specs.Resources.{resource_at, Resource, book_resource, card_in, unless_mapped, card_resource, removed_at, number_of, properties_resource, count_at, node_at, card_at, changed_in, children_at, listed_principals, properties_at}
pub use Rattle.book_office.specs.Sound.{IsSound, IsSoundBook}
pub use Rattle.book_office.specs.declared.edits.Edit.TheVariants.{SetLabel, Adopt}
pub use Rattle.book_office.specs.declared.keepers.StoreFault.{StoreFault}
pub use Rattle.book_office.specs.declared.nodes.Changed.{Changed}
pub use Rattle.book_office.specs.declared.nodes.Listed.{Listed}
pub use Rattle.book_office.specs.declared.nodes.Lists.{Lists}
pub use Rattle.book_office.specs.declared.nodes.Node.{Node}
pub use Rattle.book_policy_values.specs.Policies.{added}
pub use Rattle.book_policy_values.specs.declared.parts.PolicyTables.{PolicyTables}
pub use Rattle.book_tables_rows.proofs.Keeping.{unseen_then}
pub use Rattle.book_tables_rows.proofs.NodeDeletes.{int_itself, in_left}
pub use Rattle.book_tables_rows.proofs.Once.{PassesOnce}
pub use Rattle.book_tables_rows.proofs.Shapes.{key_is, key, keyed, next_is}
pub use Rattle.book_tables_rows.specs.Adopting.{Place, Joined, listed_row, placed_row, in_turn, joined}
pub use Rattle.book_tables_rows.specs.Columns.{ace_node_place, gone_book_place, gone_number, node_path, gone_name_place, node_number, node_parent, rowid_place, ace_protected_place, gone_book, node_label}
pub use Rattle.book_tables_rows.specs.Lists.{by_path}
pub use Rattle.book_tables_rows.specs.Nodes.{number_in, text_in, said}
pub use Rattle.book_tables_rows.specs.Rows.{Rows, has, rows_of, IsBook, in_store}
pub use Rattle.book_tables_rows.specs.Schema.{book_schema}
pub use Rattle.book_tables_rows.specs.Plans.{Makes}
pub use Rattle.book_tables_rows.specs.Steps.{Stays, Looks, Keeps}
pub use Rattle.book_tables_rows.specs.Writes.{is_at, is_gone, is_under, flag, is_entry, by_place, with_epoch, with_number, node_row}
pub use Rattle.book_tables.specs.Adopting.{Compared, AddsLists, AddsPlaces, compared_in, AreDifferences, HasLists, HasPlace, compared_books, lists_said, members_in, place_said}
pub use Rattle.book_tables.specs.BareOffice.{place_told, book_told}
pub use Rattle.book_tables.specs.Children.{ShowsListing, text_above, child_shown}
pub use Rattle.book_tables.specs.Inside.{Inside, inside_by, inside_of, ReadsInside, EditsInside}
pub use Rattle.book_tables.specs.Keeps.{standing_of, standing_within}
pub use Rattle.book_tables.specs.LastChanges.{card_shown, ShowsChanges, removed_shown}
pub use Rattle.book_tables.specs.Levels.{level_told}
pub use Rattle.book_tables.specs.Listing.{entry_shown}
pub use Rattle.book_tables.specs.Rows.{row_at, resource_of, list_in, resource_in, removed_from, entry_of, removed_in, is_member, entry_values}
pub use Rattle.book_tables.specs.Settings.{entry_said}
pub use Rattle.book_tables.specs.Shares.{DoNotFall, card_among, child_among, list_among}
pub use Rattle.book_tables.specs.Stands.{IsKept, Gives, IsRemoved, IsNode, IsEntry, StandsFor, IsParent, Stands, IsNodeAt, LeftOf}
