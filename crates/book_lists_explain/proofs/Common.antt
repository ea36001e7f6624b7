-- The names that many proofs of this crate cite, passed on from one place. Declares nothing.
pub use Rattle.std.proofs.Common.{◌≡◌, List, sym, ◌∙◌, ap, ◌∷◌, [], arith, ℕ, subst, Bool, inr, take, ◌++◌, inl, length, refl, ◌<◌, ◌+◌, None, Some, codes, get_or, Err, append-nil, false, ◌≢◌, Option, drop, map, true, ◌⊎◌}
pub use Rattle.std.proofs.lemmas.Bool.{false≢true}
pub use Rattle.std.proofs.lemmas.List.{map-append, take_all, take_more}
pub use Rattle.std.specs.List.{filter_map}
pub use Rattle.std.specs.Str.{bytes_eq}
pub use Rattle.book_rights.specs.declared.privileges.Leaf.{Leaf}
pub use Rattle.book_rights.specs.declared.privileges.Privilege.{Privilege}
pub use Rattle.book_lists.specs.Decisions.{IfDenied, IsDenial}
pub use Rattle.book_lists.specs.Memberships.{Memberships, set_of}
pub use Rattle.book_lists.specs.declared.circles.Caller.{Caller}
pub use Rattle.book_lists.specs.declared.decisions.Outcome.TheVariants.{Allowed}
pub use Rattle.book_lists.specs.declared.entries.Entry.{Entry}
pub use Rattle.book_lists.specs.declared.entries.Here.{Here}
pub use Rattle.book_lists.specs.declared.entries.Who.{Who}
pub use Rattle.book_lists_explain.specs.Answers.{IsAnswer}
pub use Rattle.book_lists_explain.specs.Lines.{OrMemory, AreLeaves, FormFault, FaultOfWords, IsWho, Says, caller_form, here_form, member_form, owner_form, Names, OwnFault, WordsSay, lines_of}
pub use Rattle.book_lists_explain.specs.Questions.{LinesSay, IsQuestion, Fits, LineFault, member_in}
pub use Rattle.book_lists_explain.specs.ShortNames.{all_leaves, short_name}
pub use Rattle.book_lists_explain.specs.declared.faults.ExplainFaultKind.{ExplainFaultKind}
pub use Rattle.book_lists_explain.specs.declared.faults.ExplainFaultKind.TheVariants.{BadName, UnknownPrivilege}
pub use Rattle.book_lists_explain.specs.declared.lines.Line.{Line}
