-- The bytes of a reply (RFC 9112, section 4; own profile).
use Rattle.std.specs.Prelude.{ℕ, Bool, true, false, if◌then◌else◌, ◌==◌, List, [], ◌++◌, length, codes, decimal}
use Rattle.serde_json.specs.Written.{compact_text}
use Rattle.book_machine.specs.AllowedMethods.{allowed_text}
use Rattle.book_machine.specs.declared.messages.Content.{Content}
use Rattle.book_machine.specs.declared.messages.Content.TheVariants as content
use Rattle.book_machine.specs.declared.messages.Reply.{Reply}
use Rattle.book_machine.specs.declared.refusals.Refusal.{Refusal}
use Rattle.book_machine.specs.declared.refusals.Refusal.TheVariants as refusal
use Rattle.book_wire_json.specs.Refusals.{refusal_data}
use Rattle.book_wire_json.specs.Listings.{listing_data}
use Rattle.book_wire_json.specs.Members.{members_data}
use Rattle.book_wire_json.specs.Names.{names_data}
use Rattle.book_wire_json.specs.SyncReports.{report_data}
use Rattle.book_wire_json.specs.Rulings.{rulings_data}
use Rattle.book_wire_targets.specs.Targets.{phrase_of}
use Rattle.book_wire.specs.declared.head.WireRefusal.{WireRefusal}
use Rattle.book_wire.specs.declared.head.WireRefusal.TheVariants as wire

-- the body of a reply
abbrev pub body_bytes : Content → List ℕ
body_bytes content.Empty = []
body_bytes (content.Card text) = text
body_bytes (content.Allow methods) = []
body_bytes (content.Listing responses) = compact_text (listing_data responses)
body_bytes (content.Synced report) = compact_text (report_data report)
body_bytes (content.Members book members) = compact_text (members_data book members)
body_bytes (content.Rulings rulings) = compact_text (rulings_data rulings)
body_bytes (content.Names book names) = compact_text (names_data book names)
body_bytes (content.Refusal r) = compact_text (refusal_data r)

-- the methods that a refusal lists (RFC 9110, section 15.5.6)
abbrev pub refused_allow : Refusal → List ℕ
refused_allow refusal.BadRequest = []
refused_allow refusal.UnknownCaller = []
refused_allow (refusal.BadCard fault) = []
refused_allow (refusal.NeedPrivileges denial) = []
refused_allow refusal.NoProtectedAceConflict = []
refused_allow refusal.NoInheritedAceConflict = []
refused_allow refusal.LimitedNumberOfAces = []
refused_allow refusal.NotSupportedPrivilege = []
refused_allow refusal.RecognizedPrincipal = []
refused_allow refusal.ValidSyncToken = []
refused_allow refusal.NotFound = []
refused_allow (refusal.NotAllowed methods) = codes "Allow: " ++ (allowed_text methods ++ codes "\r\n")
refused_allow refusal.NoParent = []
refused_allow refusal.Overwrite = []
refused_allow refusal.BodyOnMkcol = []
refused_allow refusal.Full = []
refused_allow refusal.Unavailable = []

-- the methods that the resource allows (RFC 9110, section 10.2.1)
abbrev pub allow_line : Content → List ℕ
allow_line content.Empty = []
allow_line (content.Card text) = []
allow_line (content.Allow methods) = codes "Allow: " ++ (allowed_text methods ++ codes "\r\n")
allow_line (content.Listing responses) = []
allow_line (content.Synced report) = []
allow_line (content.Members book members) = []
allow_line (content.Rulings rulings) = []
allow_line (content.Names book names) = []
allow_line (content.Refusal r) = refused_allow r

-- the type of JSON, where it is sent
abbrev pub json_line : Bool → List ℕ
json_line true = []
json_line false = codes "Content-Type: application/json\r\n"

-- the type of the body (RFC 9110, section 8.3); a HEAD is told that of the card, and none of a refusal
abbrev pub type_line : Content → Bool → List ℕ
type_line content.Empty bare = []
type_line (content.Card text) bare = codes "Content-Type: text/vcard; charset=utf-8\r\n"
type_line (content.Allow methods) bare = []
type_line (content.Listing responses) bare = json_line bare
type_line (content.Synced report) bare = json_line bare
type_line (content.Members book members) bare = json_line bare
type_line (content.Rulings rulings) bare = json_line bare
type_line (content.Names book names) bare = json_line bare
type_line (content.Refusal r) bare = json_line bare

-- the length of the body (RFC 9110, section 8.6), but for a 204
abbrev pub length_line : ℕ → ℕ → List ℕ
length_line status n = if status == 204 then [] else codes "Content-Length: " ++ (decimal n ++ codes "\r\n")

abbrev pub close_line : Bool → List ℕ
close_line true = codes "Connection: close\r\n"
close_line false = []

-- the status line, the fields in their order, and the empty line
unfoldable pub head_text : ℕ → List ℕ → List ℕ → ℕ → Bool → List ℕ
head_text status allow kind n closes =
    codes "HTTP/1.1 " ++ decimal status ++ codes " " ++ phrase_of status ++ codes "\r\n"
    ++ allow ++ kind ++ length_line status n ++ close_line closes ++ codes "\r\n"

-- a bare reply has its head alone (RFC 9110, section 9.3.2)
abbrev pub sent_text : List ℕ → Bool → List ℕ
sent_text body true = []
sent_text body false = body

-- a reply to a request
unfoldable pub spelling : Reply → Bool → Bool → List ℕ
spelling reply bare closes =
    head_text reply.status (allow_line reply.content) (type_line reply.content bare) (length (body_bytes reply.content)) closes
    ++ sent_text (body_bytes reply.content) bare

-- ---- what is answered where no request can be read

abbrev pub wire_status : WireRefusal → ℕ
wire_status wire.BadHead = 400
wire_status wire.HeadTooLarge = 431
wire_status wire.BodyTooLarge = 413
wire_status wire.NotImplemented = 501

-- its name
abbrev pub wire_name : WireRefusal → List ℕ
wire_name wire.BadHead = codes "bad-head"
wire_name wire.HeadTooLarge = codes "head-too-large"
wire_name wire.BodyTooLarge = codes "body-too-large"
wire_name wire.NotImplemented = codes "not-implemented"

-- {"error":NAME}
abbrev pub wire_body : WireRefusal → List ℕ
wire_body wire.BadHead = codes "{\"error\":\"bad-head\"}"
wire_body wire.HeadTooLarge = codes "{\"error\":\"head-too-large\"}"
wire_body wire.BodyTooLarge = codes "{\"error\":\"body-too-large\"}"
wire_body wire.NotImplemented = codes "{\"error\":\"not-implemented\"}"

-- it is written in place of a reply, and closes the connection
unfoldable pub refusal_text : WireRefusal → Bool → List ℕ
refusal_text r bare =
    head_text (wire_status r) [] (json_line bare) (length (wire_body r)) true ++ sent_text (wire_body r) bare
