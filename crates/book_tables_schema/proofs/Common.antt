-- The names that many proofs of this crate cite, passed on from one place. Declares nothing.
pub use Rattle.std.proofs.Common.{arith, refl, ◌∙◌, ◌≡◌, [], false, subst, sym, List, codes, ◌∷◌}
pub use Rattle.std.proofs.lemmas.Result.{IfOk-weaker}
pub use Rattle.sqlite.specs.Effect.{Database}
pub use Rattle.sqlite.specs.Held.{state}
pub use Rattle.sqlite.specs.Schema.{Schema}
pub use Rattle.sqlite.specs.State.{HasCleanDisk, State}
pub use Rattle.book_tables_rows.proofs.Keeping.{on_ok, query_keeps, looked}
pub use Rattle.book_tables_rows.specs.Rows.{IsBook}
pub use Rattle.book_tables_rows.specs.Schema.{book_schema}
pub use Rattle.book_tables_schema.specs.Founding.{Extends, no_schema, with_all}
