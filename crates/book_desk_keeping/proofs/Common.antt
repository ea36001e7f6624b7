-- The names that many proofs of this crate cite, passed on from one place. Declares nothing.
pub use Rattle.std.proofs.Common.{◌≡◌, ◌≢◌, ◌↔◌, ◌∙◌, ◌++◌, ℕ, List, [], Bool, true, false, IsTrue, Option, Some, None, Result, Ok, Err, IfOk, IfErr, inl, inr, ap, arith, refl, subst, sym}
pub use Rattle.std.proofs.KnownBytes.{Keeps-refl}
