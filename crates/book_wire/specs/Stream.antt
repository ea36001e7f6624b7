-- What a stream of requests is answered (RFC 9112).
use Rattle.std.specs.Prelude.{◌≡◌, ◌≢◌, ℕ, ◌-◌, ◌+◌, ◌^◌, ◌<◌, ◌≤◌, ◌⊎◌, min, Bool, true, false, List, [], ◌∷◌, ◌++◌, map, length, Option, Some, None, IfSome, Ok, Err}
use Rattle.std.specs.List.{flat_map, AllByRecursion}
use Rattle.httparse.specs.Grammar.{RequestHead, IsRequestHead, print_request, HasNoRequest, NeverHasRequest, MayBecomeRequest}
use Rattle.httparse.specs.Spans.{RequestExceeds}
use Rattle.book_limits.specs.declared.TheConstants.{MAX_HEAD, MAX_FIELDS}
use Rattle.book_machine.specs.declared.messages.Reply.{Reply}
use Rattle.book_machine.specs.declared.messages.Request.{Request}
use Rattle.book_machine.specs.declared.refusals.Refusal.TheVariants.{Unavailable}
use Rattle.book_machine.specs.Refusals.{refused}
use Rattle.book_wire_serving.specs.Serving.{Serving}
use Rattle.book_rights.specs.declared.methods.Method.{Method}
use Rattle.book_rights.specs.declared.methods.Method.TheVariants as method
use Rattle.book_wire.specs.declared.head.WireRefusal.{WireRefusal}
use Rattle.book_wire.specs.declared.head.WireRefusal.TheVariants.{BadHead, HeadTooLarge, BodyTooLarge, NotImplemented}
use Rattle.book_wire.specs.declared.stream.Served.{Served}
use Rattle.book_wire.specs.declared.stream.Ended.{Ended}
use Rattle.book_wire.specs.declared.stream.Ended.TheVariants.{Clean, Cut, Closed}
use Rattle.book_wire.specs.Requests.{IsRequest, caller_name}
use Rattle.book_wire_serving.specs.Serving.{Answered, Runs}
use Rattle.book_wire.specs.Head.{Asked, asked_of_head, is_bare_head}
use Rattle.book_wire.specs.Spelling.{spelling, refusal_text}

-- a head of the grammar of httparse, within the limits
pub record IsHead (h : RequestHead) : Type 0 where
  pub head : IsRequestHead h
  pub size : length (print_request h) ≤ MAX_HEAD
  pub fields : length h.fields ≤ MAX_FIELDS

abbrev pub is_head_method : Method → Bool
is_head_method method.Get = false
is_head_method method.Head = true
is_head_method method.Options = false
is_head_method method.Put = false
is_head_method method.Propfind = false
is_head_method method.Proppatch = false
is_head_method method.Acl = false
is_head_method method.Copy = false
is_head_method method.Move = false
is_head_method method.Delete = false
is_head_method method.Mkcol = false
is_head_method method.Report = false

-- the text is one whole request
pub record Spells (text : List ℕ) (asked : Asked) (body : List ℕ) : Type 0 where
  pub head : RequestHead
  pub is_head : IsHead head
  pub text_is : text ≡ print_request head ++ body
  pub asks : asked_of_head head ≡ Ok asked
  pub whole : length body ≡ asked.length

-- a whole request and its reply; the request is none where memory was refused before it was read
pub record Exchange : Type 0 where
  pub text : List ℕ
  pub asked : Asked
  pub body : List ℕ
  pub request : Option Request
  pub reply : Reply

abbrev pub text_of : Exchange → List ℕ
text_of e = e.text

abbrev pub answered_of : Exchange → Answered
answered_of e = record { name = caller_name e.asked.caller; request = e.request; reply = e.reply }

abbrev pub reply_text : Exchange → List ℕ
reply_text e = spelling e.reply (is_head_method e.asked.method) e.asked.closes

-- the request is the one that the head and the body spell; where memory was refused before it was read, the reply is
-- unavailable
abbrev pub IsAskedBy : Asked → List ℕ → Option Request → Reply → Type 0
IsAskedBy asked body (Some request) reply = IsRequest asked body request
IsAskedBy asked body None reply = reply ≡ refused Unavailable

abbrev pub IsExchange : Exchange → Type 0
IsExchange e = Spells e.text e.asked e.body × IsAskedBy e.asked e.body e.request e.reply

-- after its reply the connection stays
abbrev pub IsOpen : Exchange → Type 0
IsOpen e = IsExchange e × (e.asked.closes ≡ false)

-- after its reply the connection closes
abbrev pub IsLast : Exchange → Type 0
IsLast e = IsExchange e × (e.asked.closes ≡ true)

-- a front of the rest is no head: none that can be read, or none within the limits
abbrev pub FrontRefuses : List ℕ → WireRefusal → Type 0
FrontRefuses rest BadHead =
    (front : List ℕ) × (more : List ℕ) × (rest ≡ front ++ more) × (length front ≤ MAX_HEAD) × NeverHasRequest front
FrontRefuses rest HeadTooLarge =
    (front : List ℕ) × (more : List ℕ) × (rest ≡ front ++ more) × (length front ≤ MAX_HEAD)
    × (((length front ≡ MAX_HEAD) × HasNoRequest front) ⊎ RequestExceeds MAX_FIELDS front)
FrontRefuses rest BodyTooLarge = ⊥
FrontRefuses rest NotImplemented = ⊥

-- the rest begins with a head whose fields are refused; the refusal is bare where its method is HEAD
abbrev pub HeadRefuses : List ℕ → WireRefusal → Bool → Type 0
HeadRefuses rest refusal bare =
    (h : RequestHead) × (more : List ℕ) × IsHead h × (rest ≡ print_request h ++ more) × (asked_of_head h ≡ Err refusal)
    × (bare ≡ is_bare_head h.method)

abbrev pub Refuses : List ℕ → WireRefusal → Bool → Type 0
Refuses rest refusal bare = (FrontRefuses rest refusal × (bare ≡ false)) ⊎ HeadRefuses rest refusal bare

-- a part of a head that may go on
abbrev pub IsPartOfHead : List ℕ → Type 0
IsPartOfHead rest = (length rest < MAX_HEAD) × HasNoRequest rest × MayBecomeRequest rest

-- a head, and less than its body; with so many bytes it is whole
abbrev pub IsPartOfBodyOf : List ℕ → ℕ → Type 0
IsPartOfBodyOf rest wanted =
    (h : RequestHead) × (body : List ℕ) × (asked : Asked) × IsHead h × (rest ≡ print_request h ++ body)
    × (asked_of_head h ≡ Ok asked) × (length body < asked.length) × (wanted ≡ length (print_request h) + asked.length)

abbrev pub IsPartOfBody : List ℕ → Type 0
IsPartOfBody rest = (wanted : ℕ) × IsPartOfBodyOf rest wanted

-- less than a whole request, and nothing that is refused
abbrev pub IsPartial : List ℕ → Type 0
IsPartial rest = IsPartOfHead rest ⊎ IsPartOfBody rest

-- whole requests, each answered
pub record Answers (old : Serving) (exchanges : List Exchange) (input written : List ℕ) (new : Serving) : Type 0 where
  pub input_is : input ≡ flat_map text_of exchanges
  pub written_is : written ≡ flat_map reply_text exchanges
  pub runs : Runs old new (map answered_of exchanges)

-- after exchanges that leave the connection open, how the stream ends, with what is written of it
abbrev pub EndsOpen : List ℕ → List ℕ → Ended → Type 0
EndsOpen rest written Clean = (rest ≡ []) × (written ≡ [])
EndsOpen rest written Cut = (rest ≢ []) × IsPartial rest × (written ≡ [])
EndsOpen rest written Closed = (refusal : WireRefusal) × (bare : Bool) × Refuses rest refusal bare × (written ≡ refusal_text refusal bare)

-- each leaves the connection open, and then the rest; or the last one closes it
abbrev pub Ends : List Exchange → List ℕ → List ℕ → Ended → Type 0
Ends exchanges rest written ended =
    (AllByRecursion IsOpen exchanges × EndsOpen rest written ended)
    ⊎ ((opened : List Exchange) × (last : Exchange) × (exchanges ≡ opened ++ last ∷ []) × AllByRecursion IsOpen opened
    × IsLast last × (written ≡ []) × (ended ≡ Closed))

-- what one connection is told, whatever others ask in between: the input is these whole requests and a rest; what is written is
-- their replies, and the refusal with which the rest begins
pub record IsTold (exchanges : List Exchange) (input written : List ℕ) (ended : Ended) : Type 0 where
  pub rest : List ℕ
  pub refusal : List ℕ
  pub input_is : input ≡ flat_map text_of exchanges ++ rest
  pub written_is : written ≡ flat_map reply_text exchanges ++ refusal
  pub ends : Ends exchanges rest refusal ended

-- what one connection is told, and the run of the machine over its requests alone
pub record IsServed (before : Serving) (input written : List ℕ) (requests : ℕ) (ended : Ended) (after : Serving) : Type 0 where
  pub exchanges : List Exchange
  pub told : IsTold exchanges input written ended
  pub runs : Runs before after (map answered_of exchanges)
  pub count : requests ≡ length exchanges

-- the count stays at its last value
abbrev pub IsStream : Serving → List ℕ → List ℕ → Served → Serving → Type 0
IsStream before input written served after =
    (requests : ℕ) × (served.requests ≡ min requests (2 ^ 64 - 1)) × IsServed before input written requests served.ended after

-- whole requests that leave the connection open, each answered, and then what is unread
pub record SoFar (before : Serving) (input written : List ℕ) (requests : ℕ) (after : Serving) (unread : List ℕ) : Type 0 where
  pub exchanges : List Exchange
  pub taken : List ℕ
  pub input_is : input ≡ taken ++ unread
  pub opened : AllByRecursion IsOpen exchanges
  pub answers : Answers before exchanges taken written after
  pub count : requests ≡ length exchanges

-- nothing, or less than a whole request
abbrev pub Waits : List ℕ → Type 0
Waits unread = (unread ≡ []) ⊎ IsPartial unread

-- what the reader gives is the input, where that is known
abbrev pub IsInput : Option (List ℕ) → List ℕ → Type 0
IsInput known input = IfSome known (λ bytes. input ≡ bytes)

-- less than a whole request, and with fewer bytes than these it stays so
abbrev pub WaitsFor : List ℕ → ℕ → Type 0
WaitsFor unread wanted = (Waits unread × (wanted ≤ length unread + 1)) ⊎ IsPartOfBodyOf unread wanted
