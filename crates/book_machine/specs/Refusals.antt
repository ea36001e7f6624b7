-- Refusals: their statuses and printed names.
use Rattle.std.specs.Prelude.{ℕ, List, codes}
use Rattle.book_machine.specs.declared.messages.Content.TheVariants as content
use Rattle.book_machine.specs.declared.messages.Reply.{Reply}
use Rattle.book_machine.specs.declared.refusals.Refusal.{Refusal}
use Rattle.book_machine.specs.declared.refusals.Refusal.TheVariants.{BadRequest, UnknownCaller, BadCard, NeedPrivileges, NoProtectedAceConflict, NoInheritedAceConflict, LimitedNumberOfAces, NotSupportedPrivilege, RecognizedPrincipal, ValidSyncToken, NotFound, NotAllowed, NoParent, Overwrite, BodyOnMkcol, Full, Unavailable}

abbrev pub status_of : Refusal → ℕ
status_of BadRequest = 400
status_of UnknownCaller = 400
status_of (BadCard fault) = 400
status_of (NeedPrivileges denial) = 403
status_of NoProtectedAceConflict = 403
status_of NoInheritedAceConflict = 403
status_of LimitedNumberOfAces = 403
status_of NotSupportedPrivilege = 403
status_of RecognizedPrincipal = 403
status_of ValidSyncToken = 403
status_of NotFound = 404
status_of (NotAllowed methods) = 405
status_of NoParent = 409
status_of Overwrite = 412
status_of BodyOnMkcol = 415
status_of Full = 507
status_of Unavailable = 503

abbrev pub refusal_name : Refusal → List ℕ
refusal_name BadRequest = codes "bad-request"
refusal_name UnknownCaller = codes "unknown-caller"
refusal_name (BadCard fault) = codes "bad-card"
refusal_name (NeedPrivileges denial) = codes "need-privileges"
refusal_name NoProtectedAceConflict = codes "no-protected-ace-conflict"
refusal_name NoInheritedAceConflict = codes "no-inherited-ace-conflict"
refusal_name LimitedNumberOfAces = codes "limited-number-of-aces"
refusal_name NotSupportedPrivilege = codes "not-supported-privilege"
refusal_name RecognizedPrincipal = codes "recognized-principal"
refusal_name ValidSyncToken = codes "valid-sync-token"
refusal_name NotFound = codes "not-found"
refusal_name (NotAllowed methods) = codes "not-allowed"
refusal_name NoParent = codes "no-parent"
refusal_name Overwrite = codes "overwrite"
refusal_name BodyOnMkcol = codes "body-on-mkcol"
refusal_name Full = codes "full"
refusal_name Unavailable = codes "unavailable"

-- the reply to a refused request
abbrev pub refused : Refusal → Reply
refused refusal = record { status = status_of refusal; content = content.Refusal refusal }
