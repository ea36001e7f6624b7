-- What is asked of a server beside its connections, by the method and the target of a request (own profile).
use Rattle.std.specs.Prelude.{ℕ, Bool, true, false, ◌||◌, if◌then◌else◌, List, codes, Option, Some, None, Result, Ok, Err}
use Rattle.std.specs.Str.{bytes_eq}
use Rattle.book_desk_control.specs.declared.questions.Methods.{Methods}
use Rattle.book_desk_control.specs.declared.questions.Methods.TheVariants.{Get, GetOrPost, Post, Put}
use Rattle.book_desk_control.specs.declared.questions.Question.{Question}
use Rattle.book_desk_control.specs.declared.questions.Question.TheVariants.{Health, Metrics, Audit, Why, Who, Rights, Ask, Show, Check, Differs, Policy, Dump, Backup, Stop}
use Rattle.book_desk_control.specs.declared.refusals.Refusal.{Refusal}
use Rattle.book_desk_control.specs.declared.refusals.Refusal.TheVariants.{NotImplemented, NotFound, NotAllowed}

abbrev pub office_question_at : List ℕ → Option Question
office_question_at target =
    if bytes_eq target (codes "/audit") then Some Audit else (
    if bytes_eq target (codes "/why") then Some Why else (
    if bytes_eq target (codes "/who") then Some Who else (
    if bytes_eq target (codes "/rights") then Some Rights else (
    if bytes_eq target (codes "/ask") then Some Ask else (
    if bytes_eq target (codes "/show") then Some Show else None)))))

abbrev pub policy_question_at : List ℕ → Option Question
policy_question_at target =
    if bytes_eq target (codes "/check") then Some (Check false) else (
    if bytes_eq target (codes "/check?strict") then Some (Check true) else (
    if bytes_eq target (codes "/differs") then Some (Differs false) else (
    if bytes_eq target (codes "/differs?strict") then Some (Differs true) else (
    if bytes_eq target (codes "/policy") then Some Policy else None))))

abbrev pub server_question_at : List ℕ → Option Question
server_question_at target =
    if bytes_eq target (codes "/health") then Some Health else (
    if bytes_eq target (codes "/metrics") then Some Metrics else (
    if bytes_eq target (codes "/dump") then Some Dump else (
    if bytes_eq target (codes "/backup") then Some Backup else (
    if bytes_eq target (codes "/stop") then Some Stop else None))))

abbrev pub or_else : Option Question → Option Question → Option Question
or_else (Some question) other = Some question
or_else None other = other

-- targets are compared byte by byte, with their query
abbrev pub question_at : List ℕ → Option Question
question_at target = or_else (office_question_at target) (or_else (policy_question_at target) (server_question_at target))

abbrev pub methods_of : Question → Methods
methods_of Health = Get
methods_of Metrics = Get
methods_of Audit = GetOrPost
methods_of Why = Post
methods_of Who = Post
methods_of Rights = Post
methods_of Ask = Post
methods_of Show = Post
methods_of (Check strict) = Post
methods_of (Differs strict) = Post
methods_of Policy = Put
methods_of Dump = Get
methods_of Backup = Post
methods_of Stop = Post

abbrev pub has_method : Methods → List ℕ → Bool
has_method Get method = bytes_eq method (codes "GET")
has_method GetOrPost method = bytes_eq method (codes "GET") || bytes_eq method (codes "POST")
has_method Post method = bytes_eq method (codes "POST")
has_method Put method = bytes_eq method (codes "PUT")

abbrev pub allowed_text : Methods → List ℕ
allowed_text Get = codes "GET"
allowed_text GetOrPost = codes "GET, POST"
allowed_text Post = codes "POST"
allowed_text Put = codes "PUT"

-- the methods that some target takes
abbrev pub is_known : List ℕ → Bool
is_known method = bytes_eq method (codes "GET") || (bytes_eq method (codes "POST") || bytes_eq method (codes "PUT"))

abbrev pub asked_by : List ℕ → Question → Result Question Refusal
asked_by method question = if has_method (methods_of question) method then Ok question else Err (NotAllowed question)

abbrev pub asked_at : List ℕ → Option Question → Result Question Refusal
asked_at method None = Err NotFound
asked_at method (Some question) = asked_by method question

-- a method that no target takes; then a target at which nothing is; then a method that this target does not take
abbrev pub question_of : List ℕ → List ℕ → Result Question Refusal
question_of method target = if is_known method then asked_at method (question_at target) else Err NotImplemented
