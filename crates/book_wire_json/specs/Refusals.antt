-- The bodies of refusals (RFC 3744, section 7.1.1; own profile). The keys of an object stand in byte order.
use Rattle.std.specs.Prelude.{ℕ, List, codes}
use Rattle.serde_json.specs.Data.{Data, number, string, object, member, no_members, unsigned}
use Rattle.book_rights.specs.Privileges.{name_of}
use Rattle.book_cards.specs.FaultTexts.{card_fault_name}
use Rattle.book_office_values.specs.Paths.{path_text}
use Rattle.book_office_listings.specs.declared.messages.Denial.{Denial}
use Rattle.book_wire_json.specs.Denials.{entry_data}
use Rattle.book_machine.specs.declared.refusals.Refusal.{Refusal}
use Rattle.book_machine.specs.declared.refusals.Refusal.TheVariants.{BadRequest, UnknownCaller, BadCard, NeedPrivileges, NoProtectedAceConflict, NoInheritedAceConflict, LimitedNumberOfAces, NotSupportedPrivilege, RecognizedPrincipal, ValidSyncToken, NotFound, NotAllowed, NoParent, Overwrite, BodyOnMkcol, Full, Unavailable}

-- {"error":NAME}
abbrev pub named : List ℕ → Data
named name = object (member (codes "error") (string name) no_members)

-- {"error":"bad-card","fault":NAME,"line":N}
abbrev pub faulty_card : List ℕ → ℕ → Data
faulty_card fault line =
    object (member (codes "error") (string (codes "bad-card")) (member (codes "fault") (string fault)
    (member (codes "line") (number (unsigned line)) no_members)))

-- {"entry":E,"error":"need-privileges","privilege":LEAF,"resource":PATH}
abbrev pub denial_data : Denial → Data
denial_data denial =
    object (member (codes "entry") (entry_data denial.entry) (member (codes "error") (string (codes "need-privileges"))
    (member (codes "privilege") (string (name_of denial.privilege))
    (member (codes "resource") (string (path_text denial.resource)) no_members))))

-- what the body of a refusal says
abbrev pub refusal_data : Refusal → Data
refusal_data BadRequest = named (codes "bad-request")
refusal_data UnknownCaller = named (codes "unknown-caller")
refusal_data (BadCard fault) = faulty_card (card_fault_name fault.kind) fault.line
refusal_data (NeedPrivileges denial) = denial_data denial
refusal_data NoProtectedAceConflict = named (codes "no-protected-ace-conflict")
refusal_data NoInheritedAceConflict = named (codes "no-inherited-ace-conflict")
refusal_data LimitedNumberOfAces = named (codes "limited-number-of-aces")
refusal_data NotSupportedPrivilege = named (codes "not-supported-privilege")
refusal_data RecognizedPrincipal = named (codes "recognized-principal")
refusal_data ValidSyncToken = named (codes "valid-sync-token")
refusal_data NotFound = named (codes "not-found")
refusal_data (NotAllowed methods) = named (codes "not-allowed")
refusal_data NoParent = named (codes "no-parent")
refusal_data Overwrite = named (codes "overwrite")
refusal_data BodyOnMkcol = named (codes "body-on-mkcol")
refusal_data Full = named (codes "full")
refusal_data Unavailable = named (codes "unavailable")
