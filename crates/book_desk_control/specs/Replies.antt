-- What is answered to who keeps a server (RFC 9112, section 4; own profile).
use Rattle.std.specs.Prelude.{ℕ, ◌==◌, if◌then◌else◌, List, [], ◌++◌, codes, decimal, Option, Some, None}
use Rattle.book_desk_control.specs.Questions.{allowed_text, methods_of}
use Rattle.book_desk_control.specs.declared.replies.Ending.{Ending}
use Rattle.book_desk_control.specs.declared.replies.Kind.{Kind}
use Rattle.book_desk_control.specs.declared.replies.Kind.TheVariants.{Json, JsonLines, Text, Metrics}
use Rattle.book_desk_control.specs.declared.replies.Outcome.{Outcome}
use Rattle.book_desk_control.specs.declared.replies.Outcome.TheVariants.{Answered, Refused, NotFound, NotAllowed, HeadTooLarge, NotImplemented, Unavailable, Full}

abbrev pub status_line : Outcome → List ℕ
status_line Answered = codes "HTTP/1.1 200 OK\r\n"
status_line Refused = codes "HTTP/1.1 400 Bad Request\r\n"
status_line NotFound = codes "HTTP/1.1 404 Not Found\r\n"
status_line (NotAllowed question) = codes "HTTP/1.1 405 Method Not Allowed\r\n"
status_line HeadTooLarge = codes "HTTP/1.1 431 Request Header Fields Too Large\r\n"
status_line NotImplemented = codes "HTTP/1.1 501 Not Implemented\r\n"
status_line Unavailable = codes "HTTP/1.1 503 Service Unavailable\r\n"
status_line Full = codes "HTTP/1.1 507 Insufficient Storage\r\n"

-- the methods that the target takes, where another one came (RFC 9110, section 10.2.1)
abbrev pub allow_line : Outcome → List ℕ
allow_line Answered = []
allow_line Refused = []
allow_line NotFound = []
allow_line (NotAllowed question) = codes "Allow: " ++ (allowed_text (methods_of question) ++ codes "\r\n")
allow_line HeadTooLarge = []
allow_line NotImplemented = []
allow_line Unavailable = []
allow_line Full = []

abbrev pub field_line : List ℕ → ℕ → List ℕ
field_line name number = name ++ (decimal number ++ codes "\r\n")

-- the status with which a command over the store would have ended, and how many bytes, the last of the body, it told on standard
-- error
abbrev pub ending_lines : Option Ending → List ℕ
ending_lines None = []
ending_lines (Some ending) =
    field_line (codes "X-Exit-Status: ") ending.status ++ field_line (codes "X-Error-Length: ") ending.told

abbrev pub type_line : Kind → List ℕ
type_line Json = codes "Content-Type: application/json\r\n"
type_line JsonLines = codes "Content-Type: application/x-ndjson\r\n"
type_line Text = codes "Content-Type: text/plain; charset=utf-8\r\n"
type_line Metrics = codes "Content-Type: text/plain; version=0.0.4; charset=utf-8\r\n"

-- the connection closes after the reply
abbrev pub length_lines : ℕ → List ℕ
length_lines size = codes "Content-Length: " ++ (decimal size ++ codes "\r\nConnection: close\r\n\r\n")

-- the head of a reply with so long a body
abbrev pub head_text : Outcome → Option Ending → Kind → ℕ → List ℕ
head_text outcome ending kind size =
    status_line outcome ++ (allow_line outcome ++ (ending_lines ending ++ (type_line kind ++ length_lines size)))

-- 0 is answered, 3 is a store that can't be had, and all others are refused
abbrev pub outcome_of_status : ℕ → Outcome
outcome_of_status status = if status == 0 then Answered else (if status == 3 then Unavailable else Refused)
