-- The names that many proofs of this crate cite, passed on from one place. Declares nothing.
pub use Rattle.std.proofs.Common.{◌≡◌, ◌++◌, ◌∷◌, ◌∙◌, ◌+◌, [], ℕ, Bool, true, false, List, Option, Some, None, Ok, Err, Result, codes, ap, arith, drop, map, refl, string_bytes, subst, sym, take}
pub use Rattle.std.specs.Cmp.Lexicographic.{nat_list_cmp_total}
pub use Rattle.std.specs.FinMap.{empty}
pub use Rattle.std.specs.List.{flat_map}
pub use Rattle.book_office.specs.Keeping.{Standing}
pub use Rattle.book_office_audit.specs.Audits.{gathered, Block}
pub use Rattle.book_office_values.specs.Names.{NamesTo}
pub use Rattle.book_office_values.specs.declared.offices.Office.{Office}
pub use Rattle.book_questions_differs.specs.Comparing.{Compares}
