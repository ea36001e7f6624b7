-- The names that many proofs of this crate cite, passed on from one place. Declares nothing.
pub use Rattle.std.proofs.Common.{◌≡◌, ◌∙◌, ap, sym, rules, ℕ, List, Some, refl, [], ◌∷◌, option_map, true, None, codes, Option, cond, subst, Bool, false, not, ◌+◌, length, ◌&&◌}
pub use Rattle.std.proofs.lemmas.Bool.{false≢true}
pub use Rattle.std.specs.Cmp.Lexicographic.{nat_list_cmp_total}
pub use Rattle.std.specs.FinMap.{get, entries, empty, same_map, len}
pub use Rattle.std.specs.List.{AllByRecursion}
pub use Rattle.book_lists.specs.Principals.{group_path}
pub use Rattle.book_lists.specs.declared.entries.Entry.{Entry}
pub use Rattle.book_lists.specs.declared.memberships.Membership.{Membership}
pub use Rattle.book_office_values.proofs.NameMapLaws.{names_apart, same}
pub use Rattle.book_office_values.specs.Names.{NamesTo}
pub use Rattle.book_office_values.specs.Paths.{book_path}
pub use Rattle.book_office_values.specs.declared.offices.Book.{Book}
pub use Rattle.book_office_values.specs.declared.offices.Office.{Office}
pub use Rattle.book_office_values.specs.declared.offices.Properties.{Properties}
pub use Rattle.book_office_adopting.specs.Adopting.{taken_over, adopt}
pub use Rattle.book_office_adopting.specs.Sameness.{same_office}
pub use Rattle.book_office_adopting.specs.TakingOver.{all_inserted, bare, new_properties, old_properties, bare_book, bare_books, emptied, fresh_book, kept_pairs, moved}
pub use Rattle.book_policy_values.specs.declared.parts.PolicyBook.{PolicyBook}
pub use Rattle.book_policy_values.specs.declared.parts.PolicyTables.{PolicyTables}
