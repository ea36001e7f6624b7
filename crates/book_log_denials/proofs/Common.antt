-- The names that many proofs of this crate cite, passed on from one place. Declares nothing.
pub use Rattle.std.proofs.Common.{◌≡◌, ◌≢◌, ap, sym, refl, subst, ◌∙◌, map, ◌++◌, ◌∷◌, List, [], ℕ, ◌+◌, length, Option, Some, None, Bool, true, false, arith, append_assoc, append-nil, string_bytes}
pub use Rattle.std.specs.Cmp.Lexicographic.{nat_list_cmp_total}
pub use Rattle.std.specs.List.{concat, filter_map, flat_map}
pub use Rattle.book_lists.specs.Names.{name_cmp}
pub use Rattle.book_office_values.proofs.NameMapLaws.{names_apart}
pub use Rattle.book_office_values.specs.Names.{NamesTo}
pub use Rattle.book_log_denials.specs.declared.tallies.Tally.{Tally}
