-- The names that many proofs of this crate cite, passed on from one place. Declares nothing.
pub use Rattle.std.proofs.Common.{◌≡◌, subst, sym, ap, ◌∙◌, refl, inr, List, Ok, Some, ℕ, None, inl, Err, Option, Result, [], Bool, ◌∷◌, option_map, true, false, is_some, arith, length, take, option_and_then, ◌++◌, ◌<◌, ◌≢◌, ◌≤◌, if◌then◌else◌, map, unwrap_or, nat_lt, ◌&&◌, ◌+◌, ◌⊎◌, IsTrue, cond, rules, ◌||◌, All, IsErrAnd, nat_le, ◌↔◌}
pub use Rattle.std.proofs.lemmas.Bool.{lt-ltb}
pub use Rattle.std.proofs.lemmas.Option.{same_Some}
pub use Rattle.std.proofs.lemmas.Slice.Eq.{bytes_eq-Decides}
pub use Rattle.std.specs.Cmp.Lexicographic.{nat_list_cmp_total}
pub use Rattle.std.specs.FinMap.{get, len, entries, insert}
pub use Rattle.std.specs.List.{AllZip, flat_map}
pub use Rattle.std.specs.Str.{bytes_eq}
pub use Rattle.book_limits.specs.declared.TheConstants.{MAX_CARDS, LAST_NUMBER, MAX_BOOKS}
pub use Rattle.book_rights.specs.Leaves.{only}
pub use Rattle.book_rights.specs.declared.methods.Method.{Method}
pub use Rattle.book_rights.specs.declared.methods.Method.TheVariants.{Move, Copy, Delete, Mkcol, Proppatch, Put, Acl, Get, Head, Options, Propfind}
pub use Rattle.book_rights.specs.declared.places.Need.{Need}
pub use Rattle.book_rights.specs.declared.privileges.Leaf.{Leaf}
pub use Rattle.book_lists.proofs.OneOutcome.{one_circle}
pub use Rattle.book_lists.specs.Callers.{IsCircle}
pub use Rattle.book_lists.specs.Circles.{CircleOf}
pub use Rattle.book_lists.specs.ListEdits.{entries_of}
pub use Rattle.book_lists.specs.Names.{IsName, name_cmp}
pub use Rattle.book_lists.specs.Principals.{person_path, group_path}
pub use Rattle.book_lists.specs.declared.circles.Caller.{Caller}
pub use Rattle.book_lists.specs.declared.circles.Caller.TheVariants.{Known, Nobody}
pub use Rattle.book_lists.specs.declared.entries.Entry.{Entry}
pub use Rattle.book_lists.specs.declared.submitted.Submitted.{Submitted}
pub use Rattle.book_cards.specs.CardText.{card_fault}
pub use Rattle.book_cards.specs.declared.fault.CardFault.{CardFault}
pub use Rattle.book_office_values.proofs.NameMapLaws.{names_apart}
pub use Rattle.book_office_values.proofs.OneName.{some_apart}
pub use Rattle.book_office_values.specs.Names.{NamesTo}
pub use Rattle.book_office_values.specs.Paths.{kind_of, levels}
pub use Rattle.book_office_values.specs.declared.offices.Book.{Book}
pub use Rattle.book_office_values.specs.declared.offices.Office.{Office}
pub use Rattle.book_office_values.specs.declared.offices.Properties.{Properties}
pub use Rattle.book_office_values.specs.declared.offices.StoredCard.{StoredCard}
pub use Rattle.book_office_values.specs.declared.paths.Kind.{Kind}
pub use Rattle.book_office_values.specs.declared.paths.Path.{Path}
pub use Rattle.book_office_adopting.proofs.Merges.{get_mapped}
pub use Rattle.book_office_adopting.specs.Adopting.{mapped}
pub use Rattle.book_office.specs.Edits.{apply, place_card}
pub use Rattle.book_office.specs.Keeping.{Standing, one_more}
pub use Rattle.book_office.specs.Levels.{effective_at, effective_of, level_at, own_at, protected_at}
pub use Rattle.book_office.specs.Resources.{node_at, unnumbered, Resource, node_of, book_resource, card_in, card_resource, number_of, card_at, count_at, resource_at, properties_resource}
pub use Rattle.book_office.specs.Sound.{IsSound, IsMapped, Fits}
pub use Rattle.book_office.specs.declared.edits.Edit.{Edit}
pub use Rattle.book_office.specs.declared.edits.Edit.TheVariants.{PutCard, RemoveCard}
pub use Rattle.book_office.specs.declared.nodes.EffectiveEntry.{EffectiveEntry}
pub use Rattle.book_office.specs.declared.nodes.Level.{Level}
pub use Rattle.book_office.specs.declared.nodes.Node.{Node}
pub use Rattle.book_office_sync.specs.declared.messages.Report.{Report}
pub use Rattle.book_office_listings.specs.Rulings.{AreRulingsAt}
pub use Rattle.book_office_listings.specs.Verdicts.{here_of, IsGrantedAt, bare_entries, owner_at}
pub use Rattle.book_office_listings.specs.declared.messages.Denial.{Denial}
pub use Rattle.book_office_listings.specs.declared.messages.Find.{Find}
pub use Rattle.book_office_listings.specs.declared.messages.Ruling.{Ruling}
pub use Rattle.book_machine.specs.Agreement.{MayRead, Agree, outline, outline_of_book, outline_of_card, named}
pub use Rattle.book_machine.specs.AllowedMethods.{goes_on}
pub use Rattle.book_machine.specs.Asked.{destination_in, method_of, asked_of, destination_path, copy_asked, destination_asked, each_once, move_asked, report_asked}
pub use Rattle.book_machine.specs.Asking.{MeetsAny, Asks, Meets, Counted, IsWellFormed, MeetsPlan, TellsWhether}
pub use Rattle.book_machine.specs.Laws.{is_late}
pub use Rattle.book_machine.specs.LeadingRuns.{AreWellFormed}
pub use Rattle.book_machine.specs.Promises.{ServePromise}
pub use Rattle.book_machine.specs.Refusals.{refused}
pub use Rattle.book_machine.specs.Runs.{Call, calls_of, last_office}
pub use Rattle.book_machine.specs.Stages.{IsListed, IsGrantedPlan, ready_of, IsSuccessOf, ◌>>=◌, replied, IsBodyAnswer, IsDone, destination_of, limits_of, target_of, IsSuccess, at_unmapped, caller_of, check, IsChecked, at_node, body_then_limits, copy_edit, put_edit, suits_target, text_of, AreMembersTold, IsMembersAnswer, IsReportOf, delete_edit, mkcol_edit, move_edit, patch_edit, protected_entries_at, report_plan, IsAclAnswer, bad_card, can_change, can_change_twice, label_limits, move_limits, replaceable, report_from, sync_plan}
pub use Rattle.book_machine.specs.Steps.{IsPlan, IsPlannedFrom, settled, IsDecided, apply_any, Serves}
pub use Rattle.book_machine.specs.Targets.{Ready, Target, ready_seen, target_seen}
pub use Rattle.book_machine.specs.Verdicts.{IsTarget, JudgesNeeds, IsGranted, needs_at, place_path, AreGranted, IsDenied, JudgesNeed}
pub use Rattle.book_machine.specs.declared.asked.Asked.{Asked}
pub use Rattle.book_machine.specs.declared.asked.Destination.{Destination}
pub use Rattle.book_machine.specs.declared.messages.Content.{Content}
pub use Rattle.book_machine.specs.declared.messages.Patch.{Patch}
pub use Rattle.book_machine.specs.declared.messages.Reply.{Reply}
pub use Rattle.book_machine.specs.declared.messages.ReportKind.{ReportKind}
pub use Rattle.book_machine.specs.declared.messages.Request.{Request}
pub use Rattle.book_machine.specs.declared.messages.SyncFrom.{SyncFrom}
pub use Rattle.book_machine.specs.declared.messages.SyncRequest.{SyncRequest}
pub use Rattle.book_machine.specs.declared.plans.Plan.{Plan}
pub use Rattle.book_machine.specs.declared.refusals.Refusal.{Refusal}
pub use Rattle.book_machine.specs.declared.refusals.Refusal.TheVariants.{Unavailable, NoParent, UnknownCaller, BadRequest, Full, BodyOnMkcol, NeedPrivileges, NotAllowed, Overwrite, ValidSyncToken}
