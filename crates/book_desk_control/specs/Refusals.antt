-- What is told of a refusal (own profile).
use Rattle.std.specs.Prelude.{ℕ, List, codes}
use Rattle.book_desk_control.specs.declared.refusals.Refusal.{Refusal}
use Rattle.book_desk_control.specs.declared.refusals.Refusal.TheVariants.{BadHead, HeadTooLarge, NotImplemented, NotFound, NotAllowed, TooMany, BadBody}
use Rattle.book_desk_control.specs.declared.replies.Outcome.{Outcome}
use Rattle.book_desk_control.specs.declared.replies.Outcome.TheVariants as outcome

abbrev pub outcome_of : Refusal → Outcome
outcome_of BadHead = outcome.Refused
outcome_of HeadTooLarge = outcome.HeadTooLarge
outcome_of NotImplemented = outcome.NotImplemented
outcome_of NotFound = outcome.NotFound
outcome_of (NotAllowed question) = outcome.NotAllowed question
outcome_of TooMany = outcome.Refused
outcome_of BadBody = outcome.Refused

abbrev pub refusal_text : Refusal → List ℕ
refusal_text BadHead = codes "{\"error\":\"bad-head\"}"
refusal_text HeadTooLarge = codes "{\"error\":\"head-too-large\"}"
refusal_text NotImplemented = codes "{\"error\":\"not-implemented\"}"
refusal_text NotFound = codes "{\"error\":\"not-found\"}"
refusal_text (NotAllowed question) = codes "{\"error\":\"not-allowed\"}"
refusal_text TooMany = codes "{\"error\":\"too-many\"}"
refusal_text BadBody = codes "{\"error\":\"bad-body\"}"
