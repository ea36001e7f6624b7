-- The names that many proofs of this crate cite, passed on from one place. Declares nothing.
pub use Rattle.std.proofs.Common.{◌∙◌, ap, ◌≡◌, sym, List, Some, subst, ◌++◌, ℕ, None, refl, true, Option, ◌≢◌, [], arith, length, false, Bool, option_and_then, inr, map, option_map, ◌+◌, ◌∷◌, cond, inl, not, ◌<◌, ◌≤◌, rules, take, ◌&&◌, ◌||◌, unwrap_or, le_trans, ◌↔◌}
pub use Rattle.std.proofs.lemmas.Bool.{false≢true}
pub use Rattle.std.proofs.lemmas.Option.{same_Some}
pub use Rattle.std.proofs.lemmas.Result.{on_ok_weaker, on_err_weaker}
pub use Rattle.std.specs.FinMap.{get, insert, remove}
pub use Rattle.std.specs.FinSet.{contains-retain, same_set}
pub use Rattle.std.specs.List.{flat_map, list_any}
pub use Rattle.std.specs.Str.{bytes_eq}
pub use Rattle.std.specs.Vec.Iter.{into_iter_items, into_iter_len}
pub use Rattle.book_limits.specs.declared.TheConstants.{LAST_NUMBER}
pub use Rattle.book_rights.specs.declared.privileges.Leaf.{Leaf}
pub use Rattle.book_lists.proofs.Pairing.{memberships_exact, memberships_total}
pub use Rattle.book_lists.specs.Deciders.{IsJudged}
pub use Rattle.book_lists.specs.Decisions.{IsAllowed}
pub use Rattle.book_lists.specs.Memberships.{Memberships, members_of, membership_cmp}
pub use Rattle.book_lists.specs.Names.{IsName, name_cmp}
pub use Rattle.book_lists.specs.Readings.{read_by, Reading}
pub use Rattle.book_lists.specs.declared.entries.Entry.{Entry}
pub use Rattle.book_lists.specs.declared.memberships.Membership.{Membership}
pub use Rattle.book_office_values.proofs.NameMapLaws.{at_some, insert_same, same}
pub use Rattle.book_office_values.proofs.OneName.{some_apart, where_some, by_changed, by_option, by_put, by_removed, is_there}
pub use Rattle.book_office_values.specs.Names.{NamesTo}
pub use Rattle.book_office_values.specs.declared.offices.Book.{Book}
pub use Rattle.book_office_values.specs.declared.offices.Office.{Office}
pub use Rattle.book_office_values.specs.declared.offices.Properties.{Properties}
pub use Rattle.book_office_values.specs.declared.offices.StoredCard.{StoredCard}
pub use Rattle.book_office_values.specs.declared.paths.Path.{Path}
pub use Rattle.book_office_adopting.specs.Adopting.{taken_over}
pub use Rattle.book_office_adopting.specs.Sameness.{same_office}
pub use Rattle.book_office.specs.Edits.{changed_if, move_to, remove_card, changed_at, copy_from, label_set, list_set, listed_card, new_book, with_book, with_book_properties, card_labelled, label_card, put_card, with_cards}
pub use Rattle.book_office.specs.InForce.{lists_in, in_force, in_force_at}
pub use Rattle.book_office.specs.Moving.{handed, unroomed}
pub use Rattle.book_office.specs.Resources.{Resource, card_at, card_in, card_resource, number_of}
pub use Rattle.book_office.specs.Sound.{IsSound, IsSoundBook, AreSoundProperties, IsMapped, IsOwner, IsSoundCard, IsSoundList}
