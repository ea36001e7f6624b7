-- A caller who may open a book that is closed to them: the requests, served one after the other over the policy. A caller is a
-- person, by the bare name, or nobody, who is not known.
use Rattle.std.specs.Prelude.{◌≡◌, ◌<◌, ℕ, Bool, true, false, List, codes, Option, Some, None, All}
use Rattle.std.specs.FinMap.{get, len}
use Rattle.book_limits.specs.declared.TheConstants.{LAST_NUMBER, MAX_CARDS}
use Rattle.book_rights.specs.declared.methods.Method.TheVariants as method
use Rattle.book_policy_values.specs.declared.parts.PolicyTables.{PolicyTables}
use Rattle.book_office_adopting.specs.Adopting.{adopt}
use Rattle.book_office_adopting.specs.TakingOver.{bare}
use Rattle.book_office.specs.Sound.{IsSound}
use Rattle.book_machine.specs.Adoptions.{HasRoomFor}
use Rattle.book_machine.specs.declared.adoptions.AdoptFault.{AdoptFault}
use Rattle.book_machine.specs.declared.adoptions.AdoptFault.TheVariants.{Full, Unavailable}
use Rattle.book_office_listings.specs.declared.messages.Denial.{Denial}
use Rattle.book_office.specs.Edits.{apply, empty_office}
use Rattle.book_office.specs.declared.edits.Edit.{Edit}
use Rattle.book_office.specs.declared.nodes.Node.{Node}
use Rattle.book_office.specs.declared.edits.Edit.TheVariants.{PutCard}
use Rattle.book_office_values.specs.declared.offices.Book.{Book}
use Rattle.book_office_values.specs.declared.offices.Office.{Office}
use Rattle.book_office_values.specs.declared.paths.Path.TheVariants as path
use Rattle.book_machine.specs.Refusals.{refused}
use Rattle.book_machine.specs.Steps.{Serves}
use Rattle.book_machine.specs.declared.messages.Body.TheVariants as body
use Rattle.book_machine.specs.declared.messages.Content.TheVariants as content
use Rattle.book_machine.specs.declared.messages.Reply.{Reply}
use Rattle.book_machine.specs.declared.messages.Request.{Request}
use Rattle.book_machine.specs.declared.refusals.Refusal.{Refusal}
use Rattle.book_machine.specs.declared.refusals.Refusal.TheVariants.{NeedPrivileges}
use Rattle.book_policy_openings.specs.Steps.{IsRequestOf, plain}
use Rattle.book_policy_openings.specs.declared.openings.Opening.{Opening}
use Rattle.book_policy_openings.specs.declared.steps.Step.{Step}

-- the card that is read: nobody owns it, and its own list is empty
abbrev pub trial_card : List ℕ → Edit
trial_card book = PutCard book (codes "card") None (codes "card")

-- an Office without its cards, with that card in a book
abbrev pub trial_office : Office → List ℕ → Office
trial_office o book = apply (bare o) (trial_card book)

-- what a keeper tells of a book that is there, with how many cards it has: one more has room
abbrev pub MayHaveMore : Option Node → ℕ → Type 0
MayHaveMore None count = ⊥
MayHaveMore (Some node) count = (node.number < LAST_NUMBER) × (count < MAX_CARDS)

-- a book is there, and has room for a card
pub record HasRoomIn (o : Office) (name : List ℕ) : Type 0 where
  pub book : Book
  pub is_there : get o.books name ≡ Some book
  pub number : book.changes.number < LAST_NUMBER
  pub room : len book.cards < MAX_CARDS

-- GET of the card
abbrev pub read_card : List ℕ → Request
read_card book = plain method.Get (path.Card book (codes "card")) body.Empty

-- the refusal of a privilege that is not granted
abbrev pub IsDenial : Refusal → Type 0
IsDenial refusal = (denial : Denial) × (refusal ≡ NeedPrivileges denial)

-- the reply is the card's text, or else the denial of a privilege
abbrev pub AnswersRead : Reply → Bool → Type 0
AnswersRead reply true = (text : List ℕ) × (reply ≡ record { status = 200; content = content.Card text })
AnswersRead reply false = (denial : Denial) × (reply ≡ refused (NeedPrivileges denial))

-- a caller may read the card of a book, or may not; the reply is what the machine answers
abbrev pub Reads : Office → Option (List ℕ) → List ℕ → Bool → Type 0
Reads o caller book may = (reply : Reply) × AnswersRead reply may × Serves o caller (read_card book) reply o

-- the request of a step is served with success
abbrev pub Acts : Office → Option (List ℕ) → Step → Office → Type 0
Acts o caller step after =
    (request : Request) × (reply : Reply) × IsRequestOf o caller step request × (reply.status < 300) × Serves o caller request reply after

-- so is each of one or two, one after the other
abbrev pub Leads : Office → Option (List ℕ) → Step → Option Step → Office → Type 0
Leads o caller first None after = Acts o caller first after
Leads o caller first (Some second) after = (between : Office) × Acts o caller first between × Acts between caller second after

-- from an Office: the caller may not read the book; their requests are served; then they may
pub record IsOpeningFrom (o : Office) (opening : Opening) : Type 0 where
  pub after : Office
  pub closed : Reads o opening.caller opening.book false
  pub led : Leads o opening.caller opening.first opening.second after
  pub opened : Reads after opening.caller opening.book true

-- in an Office, of which the cards have no part
abbrev pub IsOpeningIn : Office → Opening → Type 0
IsOpeningIn o opening = IsOpeningFrom (trial_office o opening.book) opening

-- over a policy: in the Office that it makes of an empty one
abbrev pub IsOpening : PolicyTables → Opening → Type 0
IsOpening t opening = IsOpeningIn (adopt t empty_office) opening

-- what is added to openings is such
abbrev pub AddsOpenings : Office → List Opening → List Opening → Type 0
AddsOpenings o old new = All (IsOpeningIn o) old → All (IsOpeningIn o) new

-- why a policy is not adopted over a sound Office: there is no room for what it makes of it, or memory was refused
abbrev pub IsRefused : PolicyTables → Office → AdoptFault → Type 0
IsRefused t o Full = IsSound o → HasRoomFor t o → ⊥
IsRefused t o Unavailable = Unit {0}
