-- The names that many proofs of this crate cite, passed on from one place. Declares nothing.
pub use Rattle.std.proofs.Common.{◌≡◌, ◌∙◌, sym, ap, List, [], ◌++◌, ◌∷◌, take, ℕ, map, subst, None, Some, true, refl, unwrap_or, ◌+◌, arith, length, Option, cond, inl, inr, rules, ◌||◌}
pub use Rattle.std.proofs.lemmas.Cmp.{nat_list_cmp_total}
pub use Rattle.std.proofs.lemmas.List.{take_more}
pub use Rattle.std.specs.FinMap.{empty, insert}
pub use Rattle.book_lists.specs.Circles.{has_path}
pub use Rattle.book_lists.specs.GroupEntries.{groups_at, pairs_in}
pub use Rattle.book_lists.specs.Principals.{path_cmp}
pub use Rattle.book_office_values.specs.Names.{NamesTo}
pub use Rattle.book_office_sync.specs.Copies.{patch}
pub use Rattle.book_office_sync.specs.declared.messages.Seen.{Seen}
pub use Rattle.book_office_members.specs.Members.{AreCardsOf}
pub use Rattle.book_office_members.specs.Reaching.{uid_in, names_at}
pub use Rattle.book_office_members.specs.Steps.{AreNamesOf, IsReached, card_named}
pub use Rattle.book_office_members.specs.declared.card_refs.CardRef.{CardRef}
