-- The request of a question to a server (own profile; RFC 9112, section 3).
use Rattle.std.specs.Prelude.{ℕ, Bool, true, false, List, [], ◌∷◌, ◌++◌, map, length, codes, decimal, option_copied, option_map, string_bytes}
use Rattle.json.specs.Json.{Json, array, boolean, object, string}
use Rattle.book_json_lines.specs.Objects.{if_some, items_of, members_of, text_line}
use Rattle.book_desk_asking.specs.declared.questions.Decision.{Decision}
use Rattle.book_desk_asking.specs.declared.questions.Part.{Part}
use Rattle.book_desk_asking.specs.declared.questions.Question.{Question}
use Rattle.book_desk_asking.specs.declared.questions.Question.TheVariants as question
use Rattle.book_desk_asking.specs.declared.questions.Rights.{Rights}
use Rattle.book_desk_asking.specs.declared.questions.Who.{Who}
use Rattle.book_desk_asking.specs.declared.questions.Why.{Why}

-- the words of a question, by their keys
abbrev pub Words : Type 0
Words = List (List ℕ × Json)

abbrev pub part_words : Part → Words
part_words p =
    if_some (codes "at") (option_map string (option_copied p.at))
    ++ ((codes "books", boolean p.books) ∷ (codes "labels", boolean p.labels) ∷ [])

abbrev pub why_words : Why → Words
why_words w =
    (codes "caller", string w.caller.now) ∷ (codes "what", string w.what.now) ∷ (codes "path", string w.path.now)
    ∷ if_some (codes "destination") (option_map string (option_copied w.destination))
    ++ ((codes "json", boolean w.json) ∷ [])

abbrev pub who_words : Who → Words
who_words w =
    (codes "privilege", string w.privilege.now) ∷ (codes "path", string w.path.now) ∷ (codes "denied", boolean w.denied)
    ∷ (codes "json", boolean w.json) ∷ []

abbrev pub rights_words : Rights → Words
rights_words r =
    if_some (codes "at") (option_map string (option_copied r.at))
    ++ (if_some (codes "caller") (option_map string (option_copied r.caller))
    ++ ((codes "shared", boolean r.shared) ∷ (codes "json", boolean r.json) ∷ []))

abbrev pub decision_words : Decision → Words
decision_words d =
    (codes "caller", string d.caller.now) ∷ (codes "path", string d.path.now)
    ∷ (codes "privileges", array (items_of (map string (map string_bytes d.privileges.now)))) ∷ []

abbrev pub words_of : Question → Words
words_of (question.Audit part) = part_words part
words_of (question.Why why) = why_words why
words_of (question.Who who) = who_words who
words_of (question.Rights rights) = rights_words rights
words_of (question.Ask decision) = decision_words decision
words_of (question.Show path) = (codes "path", string path.now) ∷ []
words_of question.Dump = []
words_of (question.Check policy strict) = []
words_of (question.Differs policy strict) = []
words_of (question.Import policy) = []

-- the words as a line of JSON (RFC 8259)
abbrev pub words_line : Question → List ℕ
words_line q = text_line (object (members_of (words_of q)))

-- a policy goes as it is
abbrev pub body_of : Question → List ℕ
body_of (question.Audit part) = words_line (question.Audit part)
body_of (question.Why why) = words_line (question.Why why)
body_of (question.Who who) = words_line (question.Who who)
body_of (question.Rights rights) = words_line (question.Rights rights)
body_of (question.Ask decision) = words_line (question.Ask decision)
body_of (question.Show path) = words_line (question.Show path)
body_of question.Dump = []
body_of (question.Check policy strict) = policy.now
body_of (question.Differs policy strict) = policy.now
body_of (question.Import policy) = policy.now

abbrev pub check_target : Bool → List ℕ
check_target false = codes "POST /check"
check_target true = codes "POST /check?strict"

abbrev pub differs_target : Bool → List ℕ
differs_target false = codes "POST /differs"
differs_target true = codes "POST /differs?strict"

-- the method and the target
abbrev pub target_of : Question → List ℕ
target_of (question.Audit part) = codes "POST /audit"
target_of (question.Why why) = codes "POST /why"
target_of (question.Who who) = codes "POST /who"
target_of (question.Rights rights) = codes "POST /rights"
target_of (question.Ask decision) = codes "POST /ask"
target_of (question.Show path) = codes "POST /show"
target_of question.Dump = codes "GET /dump"
target_of (question.Check policy strict) = check_target strict
target_of (question.Differs policy strict) = differs_target strict
target_of (question.Import policy) = codes "PUT /policy"

-- the rest of the head, with the length of the body
abbrev pub fields_text : ℕ → List ℕ
fields_text size = codes " HTTP/1.1\r\nHost: localhost\r\nContent-Length: " ++ (decimal size ++ codes "\r\n\r\n")

abbrev pub request_text : Question → List ℕ
request_text q = target_of q ++ (fields_text (length (body_of q)) ++ body_of q)
