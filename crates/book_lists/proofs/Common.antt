-- The names that many proofs of this crate cite, passed on from one place. Declares nothing.
pub use Rattle.std.proofs.Common.{sym, ◌≡◌, ◌∙◌, ap, ℕ, List, [], refl, ◌++◌, arith, ◌∷◌, Bool, subst, Some, false, length, true, ◌+◌, ◌<◌, inl, ◌≤◌, None, Option, inr, unwrap_or, append-nil, cond, map, slice_get, ◌↔◌, ◌⊎◌, get_or, length-append, not, suc, take, ◌&&◌, ◌^◌, IsTrue, Ok, zero, ◌-◌, ◌||◌}
pub use Rattle.std.proofs.lemmas.Bool.{false≢true, both_ways, and_parts, cases_lt}
pub use Rattle.std.proofs.lemmas.Cmp.{nat_list_cmp_total, nat_list_eq_equiv}
pub use Rattle.std.proofs.lemmas.List.{map-append}
pub use Rattle.std.proofs.lemmas.Map.Text.{is_eq-slice_cmp}
pub use Rattle.std.proofs.lemmas.Option.{slice_get_within}
pub use Rattle.std.specs.BTreeMap.{is_at}
pub use Rattle.std.specs.Cmp.Lexicographic.{slice_cmp}
pub use Rattle.std.specs.FinSet.{same_set}
pub use Rattle.std.specs.List.{flat_map, list_any}
pub use Rattle.std.specs.Map.{lookup}
pub use Rattle.std.specs.Ordering.{eq_by_cmp, is_eq, nat_cmp}
pub use Rattle.std.specs.Str.{bytes_eq}
pub use Rattle.std.specs.declared.cmp.Ordering.TheVariants.{Less}
pub use Rattle.book_rights.specs.Leaves.{difference}
pub use Rattle.book_rights.specs.declared.privileges.Leaf.{Leaf}
pub use Rattle.book_lists.specs.Circles.{CircleOf, has_path}
pub use Rattle.book_lists.specs.Decisions.{IsAllowed, IsDenial}
pub use Rattle.book_lists.specs.GroupEntries.{groups_at, pairs_in, pairs_of}
pub use Rattle.book_lists.specs.Memberships.{membership_cmp, set_of}
pub use Rattle.book_lists.specs.Principals.{path_cmp}
pub use Rattle.book_lists.specs.Readings.{Reading, read_by}
pub use Rattle.book_lists.specs.declared.entries.Entry.{Entry}
pub use Rattle.book_lists.specs.declared.entries.Here.{Here}
