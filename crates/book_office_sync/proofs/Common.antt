-- The names that many proofs of this crate cite, passed on from one place. Declares nothing.
pub use Rattle.std.proofs.Common.{◌≡◌, ◌∙◌, ap, sym, Some, false, List, true, None, refl, ℕ, ◌∷◌, Option, [], map, subst, Bool, arith, if◌then◌else◌, inl, inr, ◌≤◌, cond, length, option_and_then, option_map, rules, ◌++◌, ◌<◌, drop, filter, unwrap_or, is_some, nat_lt, suc, zero, ◌&&◌, ◌==◌, ◌⊎◌}
pub use Rattle.std.proofs.lemmas.Bool.Decides.{nat_tests}
pub use Rattle.std.specs.FinMap.{get}
pub use Rattle.std.specs.Option.{option_copied}
pub use Rattle.book_lists.specs.Circles.{CircleOf}
pub use Rattle.book_office_values.proofs.Members.{Mem}
pub use Rattle.book_office_values.specs.Changes.{Change, changes_after}
pub use Rattle.book_office_values.specs.Names.{NamesTo}
pub use Rattle.book_office_values.specs.declared.offices.Book.{Book}
pub use Rattle.book_office_values.specs.declared.offices.Office.{Office}
pub use Rattle.book_office_values.specs.declared.offices.StoredCard.{StoredCard}
pub use Rattle.book_office.specs.Resources.{number_of}
pub use Rattle.book_office.specs.declared.nodes.Level.{Level}
pub use Rattle.book_office_sync.specs.Copies.{Right, item_of, patch, report, seen, shown, Kept, Later, found_of, is_valid, last_change, start_of, sync}
pub use Rattle.book_office_sync.specs.declared.messages.Item.{Item}
pub use Rattle.book_office_sync.specs.declared.messages.Seen.{Seen}
pub use Rattle.book_office_sync.specs.declared.messages.Token.{Token}
