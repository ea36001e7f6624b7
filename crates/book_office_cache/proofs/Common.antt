-- The names that many proofs of this crate cite, passed on from one place. Declares nothing.
pub use Rattle.std.proofs.Common.{◌≡◌, ◌∙◌, rules, ap, Ok, Some, Option}
pub use Rattle.book_office_values.specs.declared.offices.Office.{Office}
pub use Rattle.book_office.specs.Keeping.{Reads, Standing}
pub use Rattle.book_office.specs.Levels.{level_at}
pub use Rattle.book_office.specs.Resources.{node_at, count_at}
pub use Rattle.book_office.specs.declared.nodes.Level.{Level}
pub use Rattle.book_office.specs.declared.nodes.Node.{Node}
pub use Rattle.book_office_cache.specs.Remembering.{AreAllBare, AreBare, Remembers, bare_level}
pub use Rattle.book_office_cache.specs.declared.remembered.Remembered.{Remembered}
