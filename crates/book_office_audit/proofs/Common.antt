-- The names that many proofs of this crate cite, passed on from one place. Declares nothing.
pub use Rattle.std.proofs.Common.{◌≡◌, ap, map, ◌++◌, ◌∙◌, List, [], take, string_bytes, sym, ℕ, ◌∷◌, Ok, codes, drop, refl}
pub use Rattle.std.specs.Cmp.Lexicographic.{nat_list_cmp_total}
pub use Rattle.std.specs.FinMap.{empty}
pub use Rattle.std.specs.List.{flat_map}
pub use Rattle.book_office_values.proofs.NameMapLaws.{names_apart}
pub use Rattle.book_office_values.specs.Names.{NamesTo}
pub use Rattle.book_office_values.specs.declared.offices.Office.{Office}
pub use Rattle.book_office.specs.Keeping.{Reads}
pub use Rattle.book_office_audit.specs.Audits.{gathered, Block, block_of, shelf_blocks, level_block, shelf_of}
pub use Rattle.book_office_audit.specs.declared.contents.Shelf.{Shelf}
