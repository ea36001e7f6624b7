-- The names that many proofs of this crate cite, passed on from one place. Declares nothing.
pub use Rattle.std.proofs.Common.{◌≡◌, ◌∙◌, sym, List, ap, subst, arith, Some, true, ℕ, [], ◌≤◌, refl, length, ◌∷◌, false, option_map, filter, Bool, None, cond, take, true≢false, unwrap_or, ◌&&◌, Option, inl, find, nat_eq, pos, ℤ, inr, ◌≢◌, rules, IsTrue, map, suc, ◌+◌, option_and_then, ◌<◌, drop, get_or, IfOk, is_some, zero, ◌⊎◌, codes, ◌++◌, ◌↔◌, Ordering, int_cmp, int_eq, is_eq, slice_get, ◌-◌}
pub use Rattle.std.proofs.lemmas.Bool.{and_parts}
pub use Rattle.std.proofs.lemmas.Option.{same_Some}
pub use Rattle.std.specs.FinMap.{get, len, empty, get-empty}
pub use Rattle.std.specs.List.{AllByRecursion, count_by}
pub use Rattle.std.specs.Option.{option_or}
pub use Rattle.sqlite.specs.Edit.{id_in}
pub use Rattle.sqlite.specs.Effect.{Database, IsDatabase}
pub use Rattle.sqlite.specs.Held.{state}
pub use Rattle.sqlite.specs.Order.{Row, column}
pub use Rattle.sqlite.specs.State.{HasCleanDisk, State}
pub use Rattle.sqlite.specs.Tree.{rowid}
pub use Rattle.sqlite.specs.declared.types.Value.{Value}
pub use Rattle.sqlite.specs.declared.types.Value.TheVariants.{Int, Text, Null, Blob, Real}
pub use Rattle.sqlite_rules.proofs.ListLemmas.{all_has, has_filtered, all_from}
pub use Rattle.sqlite_rules.specs.Lists.{Has}
pub use Rattle.sqlite_trees.specs.View.{IsShaped}
pub use Rattle.book_limits.specs.declared.TheConstants.{MAX_ENTRIES, MAX_BOOKS, MAX_CARDS, MAX_MEMBERS}
pub use Rattle.book_lists.specs.Memberships.{Memberships, members_of}
pub use Rattle.book_lists.specs.Names.{IsName, name_cmp}
pub use Rattle.book_lists.specs.declared.entries.Entry.{Entry}
pub use Rattle.book_lists.specs.declared.entries.Who.{Who}
pub use Rattle.book_lists.specs.declared.entries.Who.TheVariants.{Authenticated, Everyone, Href, Own, Owner, Unauthenticated}
pub use Rattle.book_lists.specs.declared.memberships.Membership.{Membership}
pub use Rattle.book_office_values.proofs.NameMapLaws.{is_same, same_itself, same, by_names}
pub use Rattle.book_office_values.proofs.OneName.{some_apart, by_option}
pub use Rattle.book_office_values.proofs.Spelling.{one_text}
pub use Rattle.book_office_values.specs.Names.{NamesTo}
pub use Rattle.book_office_values.specs.Paths.{path_text, IsPath, book_path, kind_of, kind_code, parent_of, card_path}
pub use Rattle.book_office_values.specs.declared.offices.Book.{Book}
pub use Rattle.book_office_values.specs.declared.offices.Office.{Office}
pub use Rattle.book_office_values.specs.declared.offices.Properties.{Properties}
pub use Rattle.book_office_values.specs.declared.offices.StoredCard.{StoredCard}
pub use Rattle.book_office_values.specs.declared.paths.Kind.{Kind}
pub use Rattle.book_office_values.specs.declared.paths.Path.{Path}
pub use Rattle.book_office.proofs.StandingResources.{from_map}
pub use Rattle.book_office.specs.Resources.{resource_at, properties_resource, book_resource, card_resource, number_of, removed_at, card_in, unless_mapped}
pub use Rattle.book_office.specs.Sound.{IsSound, IsKnownForm, AreSoundProperties, IsMapped, IsMappedGroup, IsOwner, IsSoundList}
pub use Rattle.book_tables_rows.proofs.Keeping.{looks_then}
pub use Rattle.book_tables_rows.proofs.NodeDeletes.{int_itself}
pub use Rattle.book_tables_rows.specs.Columns.{node_parent, gone_number, node_number, ace_node, ace_protected, member_group, member_group_place, member_member, ace_deny, ace_form, ace_invert, ace_mask, ace_principal, gone_book, gone_book_place, gone_name, ace_place, ace_protected_place, gone_name_place, meta_epoch, meta_version, node_kind, node_parent_place, node_text}
pub use Rattle.book_tables_rows.specs.Lists.{pairs_of, entry_principal}
pub use Rattle.book_tables_rows.specs.Nodes.{number_in, text_in}
pub use Rattle.book_tables_rows.specs.Rows.{IsBook, Rows, has, rows_of}
pub use Rattle.book_tables_rows.specs.Schema.{book_schema}
pub use Rattle.book_tables_rows.specs.Writes.{is_at, is_gone, flag, is_entry, by_place}
pub use Rattle.book_tables_schema.specs.Whole.{entries_shown, gone_shown, meta_shown}
pub use Rattle.book_tables.proofs.Acting.{nodes_of}
pub use Rattle.book_tables.proofs.ChildRows.{its_resource}
pub use Rattle.book_tables.proofs.Looking.{found_has, has_text, has_int, same_ints}
pub use Rattle.book_tables.proofs.RowFacts.{number_of_row, all_from_has, same_rowid}
pub use Rattle.book_tables.proofs.SameLists.{has_map, has_mapped}
pub use Rattle.book_tables.specs.Rows.{row_at, resource_of, flag_in, list_in, is_member, removed_from, entry_of, principal_value}
pub use Rattle.book_tables.specs.Stands.{Gives, IsNode, IsEntry, IsParent, IsRemoved}
pub use Rattle.book_tables_opening.specs.Directories.{is_of_kind, first_shown_at, node_numbered, number_at, shown_with, is_int_of, is_text_of}
pub use Rattle.book_tables_opening.specs.Opening.{AreAtMost, Key, IsNodeRow, same_key, AreOfficeRows, IsEntryRow, IsBelow, IsGoneRow, IsMemberRow, IsWithinBook, IsChangeNumber, IsContent, IsKnown, IsMetaRows, card_changes, change_keys, gone_change, gone_changes, list_keys}
pub use Rattle.book_tables_opening.specs.Shown.{shown_path, shown_id, shown_parent, shown_protected}
pub use Rattle.book_tables_opening.specs.WholeNodes.{node_shown, whole_nodes}
