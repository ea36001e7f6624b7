-- What a reply with a content leaves as it was.
use Rattle.std.proofs.Common.{◌≡◌, ◌≢◌, ℕ, Bool, true, false, List, Option, sym, ap, ap₂, ◌∙◌, subst, ⊎_elim}
use Rattle.book_office_values.specs.declared.offices.Office.{Office}
use Rattle.book_office_listings.specs.declared.messages.Denial.{Denial}
use Rattle.book_machine.specs.Laws.{TellingRepliesChangeNothing}
use Rattle.book_machine.specs.Steps.{Serves}
use Rattle.book_machine.specs.declared.messages.Content.{Content}
use Rattle.book_machine.specs.declared.messages.Content.TheVariants as content
use Rattle.book_machine.specs.declared.messages.Reply.{Reply}
use Rattle.book_machine.specs.declared.messages.Request.{Request}
use Rattle.book_machine.specs.declared.refusals.Refusal.TheVariants.{NeedPrivileges}
use Rattle.book_policy_openings.specs.Openings.{AnswersRead, Reads, read_card}

card_apart : (text : List ℕ) → content.Card text ≡ content.Empty → ⊥
card_apart text e = cc

refusal_apart : (denial : Denial) → content.Refusal (NeedPrivileges denial) ≡ content.Empty → ⊥
refusal_apart denial e = cc

told_content : (reply : Reply) (may : Bool) → AnswersRead reply may → reply.content ≢ content.Empty
told_content reply true answers = λ e. card_apart answers.0 (sym (ap (λ (r : Reply). r.content) answers.1) ∙ e)
told_content reply false answers = λ e. refusal_apart answers.0 (sym (ap (λ (r : Reply). r.content) answers.1) ∙ e)

stays : TellingRepliesChangeNothing → (o after : Office) (name : Option (List ℕ)) (request : Request) (reply : Reply) → reply.content ≢ content.Empty → Serves o name request reply after → after ≡ o
stays law o after name request reply told serves = ⊎_elim (λ steps. law o name request reply after steps told) (λ left. left.1) serves

-- a read leaves the Office, and is one of it
pub read_kept : TellingRepliesChangeNothing → (o after : Office) (caller : Option (List ℕ)) (book : List ℕ) (request : Request) (reply : Reply) (may : Bool)
    → request ≡ read_card book → AnswersRead reply may → Serves o caller request reply after → after ≡ o
read_kept law o after caller book request reply may is answers serves = stays law o after caller request reply (told_content reply may answers) serves

pub read_told : TellingRepliesChangeNothing → (o after : Office) (caller : Option (List ℕ)) (book : List ℕ) (request : Request) (reply : Reply) (may : Bool)
    → request ≡ read_card book → AnswersRead reply may → Serves o caller request reply after → Reads o caller book may
read_told law o after caller book request reply may is answers serves =
    let same : after ≡ o = read_kept law o after caller book request reply may is answers serves in
    let there : Serves o caller request reply o = subst (λ (a : Office). Serves o caller request reply a) same serves in
    (reply, answers, subst (λ (r : Request). Serves o caller r reply o) is there)

abbrev reply_of : ℕ → Content → Reply
reply_of status carried = record { status = status; content = carried }

-- a reply is its status and what it carries
pub same_reply : (reply : Reply) (status : ℕ) (carried : Content) → reply.status ≡ status → reply.content ≡ carried → reply ≡ record { status = status; content = carried }
same_reply reply status carried s k = ap₂ reply_of s k
