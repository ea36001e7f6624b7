-- The names that many proofs of this crate cite, passed on from one place. Declares nothing.
pub use Rattle.std.proofs.Common.{◌≡◌, ◌∙◌, ◌+◌, ◌<◌, ◌++◌, ℕ, List, [], take, length, get_or, Option, Some, None, Result, Ok, Err, IfOk, IfErr, inl, inr, ap, arith, refl, rules, subst, sym}
pub use Rattle.std.proofs.KnownBytes.{Keeps-refl}
pub use Rattle.sqlite.specs.Held.{Held, state}
pub use Rattle.sqlite.specs.State.{HasCleanDisk, State}
