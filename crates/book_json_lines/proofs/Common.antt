-- The names that many proofs of this crate cite, passed on from one place. Declares nothing.
pub use Rattle.std.proofs.Common.{◌≡◌, ◌≢◌, ap, sym, refl, subst, ◌∙◌, ◌++◌, ◌∷◌, List, [], ℕ, ◌+◌, codes, arith, append_assoc, append-nil}
