-- What bytes ask of a server (RFC 9112, sections 2 to 6): they begin with a request, or with none.
use Rattle.std.specs.Prelude.{◌≡◌, ◌⊎◌, ℕ, ◌<◌, ◌≤◌, List, ◌++◌, length, take, drop, Ok, Err}
use Rattle.httparse.specs.Grammar.{RequestHead, IsRequestHead, print_request, HasNoRequest, MayBecomeRequest, NeverHasRequest}
use Rattle.httparse.specs.Spans.{RequestExceeds, RequestOverflows}
use Rattle.book_desk_control.specs.Fields.{asked_of_head}
use Rattle.book_desk_control.specs.declared.fields.Asked.{Asked}
use Rattle.book_desk_control.specs.declared.hearing.Heard.{Heard}
use Rattle.book_desk_control.specs.declared.hearing.Heard.TheVariants.{Part, Refused, Whole}
use Rattle.book_desk_control.specs.declared.questions.Question.{Question}
use Rattle.book_desk_control.specs.declared.refusals.Refusal.{Refusal}
use Rattle.book_desk_control.specs.declared.refusals.Refusal.TheVariants.{BadHead, HeadTooLarge, NotImplemented, NotFound, NotAllowed, TooMany, BadBody}

-- a head of the grammar of httparse, of at most 8,192 bytes and 64 fields
pub record IsHead (h : RequestHead) : Type 0 where
  pub head : IsRequestHead h
  pub size : length (print_request h) ≤ 8192
  pub fields : length h.fields ≤ 64

-- a front of the bytes is no head: none that can be read, or none within the limits: the front ends before a head does, or has
-- more fields, whatever follows
abbrev pub FrontRefuses : List ℕ → Refusal → Type 0
FrontRefuses bytes BadHead =
    (front : List ℕ) × (more : List ℕ) × (bytes ≡ front ++ more) × (length front ≤ 8192) × NeverHasRequest front
FrontRefuses bytes HeadTooLarge =
    (front : List ℕ) × (more : List ℕ) × (bytes ≡ front ++ more) × (length front ≤ 8192)
    × (((length front ≡ 8192) × HasNoRequest front) ⊎ (RequestExceeds 64 front × RequestOverflows 64 front))
FrontRefuses bytes NotImplemented = ⊥
FrontRefuses bytes NotFound = ⊥
FrontRefuses bytes (NotAllowed question) = ⊥
FrontRefuses bytes TooMany = ⊥
FrontRefuses bytes BadBody = ⊥

-- the bytes begin with a head that is refused, before anything of its body is looked at
abbrev pub HeadRefuses : List ℕ → Refusal → Type 0
HeadRefuses bytes refusal =
    (h : RequestHead) × (more : List ℕ) × IsHead h × (bytes ≡ print_request h ++ more) × (asked_of_head h ≡ Err refusal)

-- a part of a head that may go on
abbrev pub IsPartOfHead : List ℕ → Type 0
IsPartOfHead bytes = (length bytes < 8192) × HasNoRequest bytes × MayBecomeRequest bytes

-- a head, and less than its body
abbrev pub IsPartOfBody : List ℕ → Type 0
IsPartOfBody bytes =
    (h : RequestHead) × (body : List ℕ) × (asked : Asked) × IsHead h × (bytes ≡ print_request h ++ body)
    × (asked_of_head h ≡ Ok asked) × (length body < asked.length)

-- the bytes begin with the head of this question, and with a body of so many bytes
abbrev pub IsWhole : List ℕ → Question → ℕ → ℕ → Type 0
IsWhole bytes question start count =
    (h : RequestHead) × (more : List ℕ) × IsHead h × (bytes ≡ print_request h ++ more) × (start ≡ length (print_request h))
    × (asked_of_head h ≡ Ok (record { question = question; length = count })) × (count ≤ length more)

abbrev pub Hears : List ℕ → Heard → Type 0
Hears bytes Part = IsPartOfHead bytes ⊎ IsPartOfBody bytes
Hears bytes (Refused refusal) = FrontRefuses bytes refusal ⊎ HeadRefuses bytes refusal
Hears bytes (Whole question start count) = IsWhole bytes question start count

-- so many bytes from one on
abbrev pub body_at : List ℕ → ℕ → ℕ → List ℕ
body_at bytes start count = take count (drop start bytes)
