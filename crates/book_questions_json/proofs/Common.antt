-- The names that many proofs of this crate cite, passed on from one place. Declares nothing.
pub use Rattle.std.proofs.Common.{◌≡◌, ◌++◌, ◌∷◌, ◌∙◌, ◌+◌, ◌||◌, [], ℕ, zero, suc, Bool, true, false, cond, List, Option, Some, None, codes, decimal, ap, arith, filter, map, option_map, refl, string_bytes, subst, sym, take, drop, Ok}
pub use Rattle.book_office_audit.specs.Audits.{gathered, Block}
pub use Rattle.book_office_values.specs.Names.{NamesTo}
pub use Rattle.std.specs.List.{flat_map}
pub use Rattle.book_rights.specs.declared.privileges.Leaf.{Leaf}
pub use Rattle.book_rights.specs.declared.privileges.Privilege.{Privilege}
pub use Rattle.book_lists_explain.specs.ShortNames.{short_list}
pub use Rattle.book_office_listings.specs.declared.messages.Denial.{Denial}
pub use Rattle.book_office_listings.specs.declared.messages.Ruling.{Ruling}
pub use Rattle.book_questions.specs.declared.holders.Holder.{Holder}
pub use Rattle.book_questions.specs.declared.whys.InForce.{InForce}
pub use Rattle.book_questions.specs.declared.whys.Why.{Why}
pub use Rattle.book_questions.specs.declared.whys.WhyNeed.{WhyNeed}
pub use Rattle.book_questions_chains.specs.declared.chains.Chain.{Chain}
pub use Rattle.book_questions_json.specs.Facts.{Decided, Fact, HolderFact, LeafFact, NeedFact, Standing, holder, need, verdict}
