-- The names that many proofs of this crate cite, passed on from one place. Declares nothing.
pub use Rattle.std.proofs.Common.{◌≡◌, ◌≢◌, ◌≤◌, ◌+◌, ◌∙◌, ◌++◌, ℕ, List, [], Bool, true, false, IsTrue, Option, Some, None, Result, Ok, Err, IfOk, IfErr, ap, arith, drop, length, refl, subst, sym, take, append_assoc, append-nil}
pub use Rattle.book_office.specs.Keeping.{Standing, Leftover, Reads}
pub use Rattle.book_office_values.specs.declared.offices.Office.{Office}
