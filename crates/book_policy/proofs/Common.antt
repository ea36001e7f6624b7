-- The names that many proofs of this crate cite, passed on from one place. Declares nothing.
pub use Rattle.std.proofs.Common.{◌∙◌, ◌≡◌, drop, subst, sym, List, ap, refl, ℕ, [], map, ◌∷◌, arith, inr, length, ◌≤◌, Bool, None, Some, cond, false, inl, true, ◌++◌, ◌<◌}
pub use Rattle.std.specs.FinMap.{empty}
pub use Rattle.std.specs.List.{AllByRecursion, All}
pub use Rattle.book_office_values.specs.declared.paths.Path.{Path}
pub use Rattle.book_policy_values.specs.Policies.{NamesPrincipal, added, NamesForm, named_group, named_person}
pub use Rattle.book_policy_values.specs.Reading.{CanAdd}
pub use Rattle.book_policy_values.specs.declared.parts.BookPart.{BookPart}
pub use Rattle.book_policy_values.specs.declared.parts.GroupPart.{GroupPart}
pub use Rattle.book_policy.specs.Rules.{entry_part, who_of}
pub use Rattle.book_policy.specs.declared.parts.EntryText.{EntryText}
pub use Rattle.book_policy.specs.declared.parts.Parts.{Parts}
