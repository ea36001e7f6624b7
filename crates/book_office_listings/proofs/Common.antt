-- The names that many proofs of this crate cite, passed on from one place. Declares nothing.
pub use Rattle.std.proofs.Common.{◌≡◌, ◌++◌, ◌∙◌, subst, ap, take, sym, [], ◌∷◌, List, arith, map, Some, refl, ℕ, ◌+◌, length, ◌<◌, slice_get, None, false, true, Bool, Option, drop, append-nil, option_map, get_or, suc, zero, append_assoc, is_some}
pub use Rattle.std.proofs.lemmas.List.{take_more, take_all, flat_map_more, length-map}
pub use Rattle.std.specs.List.{flat_map, AllZip, filter_map}
pub use Rattle.std.specs.List.Sorted.{IsStrictlySortedBy}
pub use Rattle.book_rights.specs.declared.privileges.Leaf.{Leaf}
pub use Rattle.book_lists.specs.Circles.{CircleOf}
pub use Rattle.book_lists.specs.Decisions.{bears, Grants, IsAllowed}
pub use Rattle.book_lists.specs.Memberships.{membership_cmp}
pub use Rattle.book_lists.specs.Readings.{read_by}
pub use Rattle.book_lists.specs.declared.entries.Entry.{Entry}
pub use Rattle.book_lists.specs.declared.entries.Here.{Here}
pub use Rattle.book_lists_explain.specs.ShortNames.{all_leaves}
pub use Rattle.book_office_values.specs.declared.offices.Office.{Office}
pub use Rattle.book_office_values.specs.declared.paths.Path.{Path}
pub use Rattle.book_office.specs.Levels.{effective_of, standing_at, effective_at, own_entries, protected_entries}
pub use Rattle.book_office.specs.Resources.{Resource, resource_at}
pub use Rattle.book_office.specs.declared.nodes.EffectiveEntry.{EffectiveEntry}
pub use Rattle.book_office.specs.declared.nodes.Level.{Level}
pub use Rattle.book_office_sync.specs.Sifting.{AppliesAs}
pub use Rattle.book_office_listings.specs.Listings.{IsResponse, IsResponseTo, listed_paths, asks_members, asks_token, subject_of}
pub use Rattle.book_office_listings.specs.Reading.{IsChildResponse}
pub use Rattle.book_office_listings.specs.Scanning.{standing_in}
pub use Rattle.book_office_listings.specs.Sifting.{entries_of_levels}
pub use Rattle.book_office_listings.specs.Values.{acl_entry}
pub use Rattle.book_office_listings.specs.Verdicts.{bare_entries, paths_of, here_of}
pub use Rattle.book_office_listings.specs.declared.messages.Extent.{Extent}
pub use Rattle.book_office_listings.specs.declared.messages.Extent.TheVariants.{Children}
pub use Rattle.book_office_listings.specs.declared.messages.Find.{Find}
pub use Rattle.book_office_listings.specs.declared.messages.Response.{Response}
pub use Rattle.book_office_listings.specs.declared.messages.Response.TheVariants.{Denied, Told}
pub use Rattle.book_office_listings.specs.declared.subjects.Subject.{Subject}
pub use Rattle.book_office_listings.specs.declared.subjects.Whole.{Whole}
