-- The names that many proofs of this crate cite, passed on from one place. Declares nothing.
pub use Rattle.std.proofs.Common.{◌≡◌, map, take, sym, [], ◌∙◌, List, Some, subst, ℕ, ◌++◌, ◌∷◌, ap, None, arith, get_or, refl, rules, drop, length, ◌+◌, ◌<◌}
pub use Rattle.std.proofs.lemmas.Bool.{false≢true}
pub use Rattle.serde_json.specs.Data.{Data, string, null}
pub use Rattle.serde_json.specs.View.{view, items_of, items_view}
pub use Rattle.book_wire_json.specs.Entries.{AreEntries}
pub use Rattle.book_wire_json.specs.Principals.{AllName}
