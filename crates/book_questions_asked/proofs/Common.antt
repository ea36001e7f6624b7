-- The names that many proofs of this crate cite, passed on from one place. Declares nothing.
pub use Rattle.std.proofs.Common.{◌≡◌, ◌++◌, ◌∷◌, ◌∙◌, ◌+◌, ◌⊎◌, [], ℕ, Bool, true, false, cond, List, Option, Some, None, Ok, Err, Result, codes, ap, arith, filter, inl, inr, map, refl, string_bytes, subst, sym, take}
pub use Rattle.std.specs.List.{flat_map, list_any}
pub use Rattle.std.proofs.lemmas.Bool.{false≢true}
pub use Rattle.book_rights.specs.declared.privileges.Leaf.{Leaf}
pub use Rattle.book_lists.specs.Circles.{CircleOf, belongs}
pub use Rattle.book_lists.specs.Memberships.{Memberships, set_of}
pub use Rattle.book_lists.specs.declared.circles.Caller.{Caller}
pub use Rattle.book_lists.specs.declared.memberships.Membership.{Membership}
pub use Rattle.book_office_values.specs.declared.offices.Office.{Office}
pub use Rattle.book_questions_asked.specs.Stated.{IsStated, leading}
pub use Rattle.book_questions_asked.specs.declared.stated.Asked.{Asked}
pub use Rattle.book_questions_asked.specs.declared.stated.Stated.{Stated}
