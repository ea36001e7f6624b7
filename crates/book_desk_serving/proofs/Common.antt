-- The names that many proofs of this crate cite, passed on from one place. Declares nothing.
pub use Rattle.std.proofs.Common.{sym, ◌∙◌, ◌≡◌, refl, inl, inr, ap, arith, ◌++◌, Err, List, subst, ℕ, Ok, Option, [], length, ◌∷◌, Some, true}
pub use Rattle.std.proofs.KnownBytes.{Keeps-refl}
pub use Rattle.std.specs.Io.KnownBytes.{Consumes}
pub use Rattle.book_wire.specs.declared.stream.Served.{Served}
pub use Rattle.book_wire_serving.specs.declared.faults.StreamFault.{StreamFault}
