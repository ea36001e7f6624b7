-- The names that many proofs of this crate cite, passed on from one place. Declares nothing.
pub use Rattle.std.proofs.Common.{◌∙◌, ap, sym, subst, ◌≡◌, List, refl, Some, arith, cond, ℕ, [], false, true, ◌+◌, ◌∷◌, None, ◌<◌, Option, inl, inr, ◌++◌, Bool, codes, length, ◌≤◌, Err, Ok, Result, drop, filter, nat_lt, rules, ◌&&◌, ◌≢◌, ◌⊎◌}
pub use Rattle.std.specs.Cmp.{nat_cmp_total, eq_by_cmp_equiv}
pub use Rattle.std.specs.Cmp.Lexicographic.{nat_list_cmp_total}
pub use Rattle.std.specs.FinMap.{get, nat_cmp-IsAntisymmetric, entries, insert, remove, get-insert, get-remove, same_map, IsAntisymmetric, find, len}
pub use Rattle.std.specs.List.Sorted.{IsStrictlySortedBy}
pub use Rattle.std.specs.Ordering.{is_eq, is_lt}
pub use Rattle.std.specs.declared.cmp.Ordering.{Ordering}
pub use Rattle.std.specs.declared.cmp.Ordering.TheVariants.{Less, Equal, Greater}
pub use Rattle.book_lists.specs.Names.{name_cmp, IsName}
pub use Rattle.book_office_values.specs.Changes.{AreNumbers, touched}
pub use Rattle.book_office_values.specs.Names.{NamesTo, changed_if}
pub use Rattle.book_office_values.specs.declared.collections.changes.Numbers.{Numbers}
