-- The names that many proofs of this crate cite, passed on from one place. Declares nothing.
pub use Rattle.std.proofs.Common.{◌≡◌, ◌≢◌, ◌⊎◌, inl, inr, ap, ap₂, sym, refl, subst, ◌∙◌, map, ◌++◌, ◌∷◌, List, [], ℕ, ◌+◌, take, drop, length, Ok, Err, Result, Option, Some, None, option_map, codes, arith, append_assoc, append-nil}
pub use Rattle.book_office_values.specs.declared.offices.Office.{Office}
pub use Rattle.book_office_values.specs.declared.paths.Path.{Path}
pub use Rattle.book_office.specs.Keeping.{Standing, Reads}
