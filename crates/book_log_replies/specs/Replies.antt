-- What a log tells of a request and its reply (own profile).
use Rattle.std.specs.Prelude.{ℕ, List, Option, Some, None, option_map, option_and_then}
use Rattle.book_log_lines.specs.declared.lines.Decided.{Decided}
use Rattle.book_log_lines.specs.declared.lines.Denied.{Denied}
use Rattle.book_log_lines.specs.declared.lines.ReplyLine.{ReplyLine}
use Rattle.book_machine.specs.Refusals.{refusal_name}
use Rattle.book_machine.specs.declared.messages.Content.{Content}
use Rattle.book_machine.specs.declared.messages.Content.TheVariants as content
use Rattle.book_machine.specs.declared.messages.Reply.{Reply}
use Rattle.book_machine.specs.declared.messages.Request.{Request}
use Rattle.book_machine.specs.declared.refusals.Refusal.{Refusal}
use Rattle.book_machine.specs.declared.refusals.Refusal.TheVariants.{BadRequest, UnknownCaller, BadCard, NeedPrivileges, NoProtectedAceConflict, NoInheritedAceConflict, LimitedNumberOfAces, NotSupportedPrivilege, RecognizedPrincipal, ValidSyncToken, NotFound, NotAllowed, NoParent, Overwrite, BodyOnMkcol, Full, Unavailable}
use Rattle.book_office.specs.declared.nodes.Level.{Level}
use Rattle.book_office_listings.specs.declared.messages.DecidingEntry.{DecidingEntry}
use Rattle.book_office_listings.specs.declared.messages.Denial.{Denial}
use Rattle.book_log_replies.specs.Standing.{decided_of}
use Rattle.book_log_replies.specs.declared.replies.Exchange.{Exchange}

-- the refusal that a content is, if it is one; no other content is told
abbrev pub refusal_in : Content → Option Refusal
refusal_in content.Empty = None
refusal_in (content.Card text) = None
refusal_in (content.Allow methods) = None
refusal_in (content.Listing responses) = None
refusal_in (content.Synced report) = None
refusal_in (content.Members book members) = None
refusal_in (content.Rulings rulings) = None
refusal_in (content.Names book names) = None
refusal_in (content.Refusal refusal) = Some refusal

abbrev pub error_in : Content → Option (List ℕ)
error_in c = option_map refusal_name (refusal_in c)

-- the denial that a refusal tells, if it is one
abbrev pub denial_of : Refusal → Option Denial
denial_of BadRequest = None
denial_of UnknownCaller = None
denial_of (BadCard fault) = None
denial_of (NeedPrivileges denial) = Some denial
denial_of NoProtectedAceConflict = None
denial_of NoInheritedAceConflict = None
denial_of LimitedNumberOfAces = None
denial_of NotSupportedPrivilege = None
denial_of RecognizedPrincipal = None
denial_of ValidSyncToken = None
denial_of NotFound = None
denial_of (NotAllowed methods) = None
denial_of NoParent = None
denial_of Overwrite = None
denial_of BodyOnMkcol = None
denial_of Full = None
denial_of Unavailable = None

abbrev pub denial_in : Content → Option Denial
denial_in c = option_and_then denial_of (refusal_in c)

-- the entry that decides, in full, by the lists in force
abbrev pub by_of : List Level → Option DecidingEntry → Option Decided
by_of levels entry = option_and_then (λ (e : DecidingEntry). decided_of levels e.number) entry

abbrev pub denied_of : List Level → Denial → Denied
denied_of levels denial = record { resource = denial.resource; privilege = denial.privilege; by = by_of levels denial.entry }

abbrev pub denied_in : List Level → Content → Option Denied
denied_in levels c = option_map (denied_of levels) (denial_in c)

-- the line of a request and its reply, with the lists in force at the resource of a denial
abbrev pub reply_of : Exchange → Request → Reply → List Level → ReplyLine
reply_of x request reply levels = record {
  time = x.time;
  connection = x.connection;
  caller = x.caller;
  method = Some request.method;
  path = request.path;
  destination = request.destination;
  status = reply.status;
  error = error_in reply.content;
  denied = denied_in levels reply.content;
  touched = x.touched;
  epoch = x.epoch;
}
