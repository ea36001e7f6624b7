-- The names that many proofs of this crate cite, passed on from one place. Declares nothing.
pub use Rattle.std.proofs.Common.{◌≡◌, ◌⊎◌, inl, inr, ap, sym, refl, subst, ◌∙◌, map, ◌++◌, ◌∷◌, List, [], ℕ, zero, suc, ◌+◌, ◌-◌, ◌<◌, ◌≤◌, length, drop, get_or, Option, Some, None, option_map, Bool, true, false, arith, append_assoc, append-nil, slice_get}
pub use Rattle.std.specs.List.{flat_map}
pub use Rattle.std.proofs.lemmas.Option.{slice_get-map}
pub use Rattle.book_lists.specs.declared.entries.Entry.{Entry}
pub use Rattle.book_office.specs.InForce.{list_in}
pub use Rattle.book_office.specs.declared.nodes.Level.{Level}
pub use Rattle.book_office_values.specs.declared.offices.Office.{Office}
pub use Rattle.book_office_values.specs.declared.paths.Path.{Path}
pub use Rattle.book_log_replies.specs.Standing.{Placed, all_placed, decided, decided_of, numbered, placed, placed_at}
