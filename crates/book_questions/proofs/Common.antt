-- The names that many proofs of this crate cite, passed on from one place. Declares nothing.
pub use Rattle.std.proofs.Common.{◌≡◌, ◌++◌, ◌∷◌, ◌∙◌, [], List, Option, Some, None, Ok, Err, ℕ, ◌+◌, true, false, Bool, ap, arith, drop, map, refl, string_bytes, subst, sym, take, length, is_some}
pub use Rattle.std.specs.List.{AllZip, flat_map}
pub use Rattle.book_office_values.specs.declared.offices.Office.{Office}
pub use Rattle.book_office.specs.Keeping.{Reads, Standing}
pub use Rattle.book_questions.specs.Whys.{AreWhys, IsWhyNeed}
pub use Rattle.book_questions.specs.declared.whys.Why.{Why}
pub use Rattle.book_questions.specs.declared.whys.WhyNeed.{WhyNeed}
