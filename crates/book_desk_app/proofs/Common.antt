-- The names that many proofs of this crate cite, passed on from one place. Declares nothing.
pub use Rattle.std.proofs.Common.{sym, ◌∙◌, ◌≡◌, refl, inl, inr, ap, arith, ◌++◌, Err, List, subst, ℕ, Ok, Option, [], length, ◌∷◌, IfSome, Some, string_bytes, true}
pub use Rattle.std.specs.Io.KnownBytes.{Consumes}
pub use Rattle.book_desk_app.specs.ShortTexts.{HasKept}
