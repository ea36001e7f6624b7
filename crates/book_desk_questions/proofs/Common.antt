-- The names that many proofs of this crate cite, passed on from one place. Declares nothing.
pub use Rattle.std.proofs.Common.{sym, ◌∙◌, ◌≡◌, refl, inl, inr, ap, arith, subst, ℕ, Some}
pub use Rattle.std.proofs.KnownBytes.{Keeps-refl}
