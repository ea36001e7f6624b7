-- The names that many proofs of this crate cite, passed on from one place. Declares nothing.
pub use Rattle.std.proofs.Common.{◌≡◌, ◌++◌, ◌∷◌, ◌∙◌, ◌&&◌, [], List, Option, Some, None, Ok, ℕ, ◌+◌, true, false, Bool, ap, arith, map, refl, string_bytes, subst, sym, take, Vec, Global}
pub use Rattle.std.specs.Prelude.{if◌then◌else◌}
pub use Rattle.std.specs.List.{AllZip, flat_map}
pub use Rattle.std.specs.Result.{is_ok}
pub use Rattle.std.proofs.lemmas.List.{take_more, take_all}
pub use Rattle.book_rights.specs.declared.privileges.Leaf.{Leaf}
pub use Rattle.book_lists.specs.Circles.{CircleOf}
pub use Rattle.book_lists.specs.Readings.{read_by}
pub use Rattle.book_lists.specs.declared.entries.Here.{Here}
pub use Rattle.book_office_values.specs.declared.offices.Office.{Office}
pub use Rattle.book_office.specs.Keeping.{Reads, Standing}
pub use Rattle.book_office.specs.declared.nodes.EffectiveEntry.{EffectiveEntry}
pub use Rattle.book_office_audit.proofs.ReadsInTurn.{reads_nothing, reads_then, reads_weaker, reads_refused, reads_failed}
pub use Rattle.book_office_listings.specs.Verdicts.{bare_entries}
