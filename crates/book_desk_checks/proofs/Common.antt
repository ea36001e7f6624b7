-- The names that the proofs of this crate cite, passed on from one place. Declares nothing.
pub use Rattle.std.proofs.Common.{refl, inl, inr, ap, subst, Some}
pub use Rattle.std.proofs.KnownBytes.{Keeps-refl}
