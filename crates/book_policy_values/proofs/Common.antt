-- The names that many proofs of this crate cite, passed on from one place. Declares nothing.
pub use Rattle.std.proofs.Common.{◌≡◌, length, map, ◌∙◌, [], false, true, ◌∷◌, List, ap, ℕ, ◌++◌, arith, refl, sym, ◌≤◌, Some, cond, subst, Bool, None, Option, rules, unwrap_or, ◌+◌, ◌≢◌}
pub use Rattle.std.proofs.lemmas.List.Elements.{All-head, All-tail, All-cons, All-nil}
pub use Rattle.std.specs.FinMap.{get, empty, insert}
pub use Rattle.std.specs.List.{All, AllByRecursion}
pub use Rattle.std.specs.Vec.Iter.{into_iter_items, into_iter_len}
pub use Rattle.book_lists.specs.Names.{IsName}
pub use Rattle.book_lists.specs.declared.entries.Entry.{Entry}
pub use Rattle.book_office_values.specs.Names.{NamesTo}
pub use Rattle.book_policy_values.specs.Policies.{added, entry_of, given_members, IsPlaceOf, NamesPrincipal, named_book, named_group, named_person, paired, paired_all, spelled}
pub use Rattle.book_policy_values.specs.Reading.{CanAdd, EntriesFit, with_entries, BookFits, EntryFits, GroupsFit, MembersFit, PersonsFit}
