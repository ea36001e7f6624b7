-- Contents that a caller may not read stay unseen: no reply tells of them.
use Rattle.std.specs.Prelude.{◌≡◌, ◌≢◌, ℕ, ◌≤◌, List, Option, Some, option_map, All}
use Rattle.book_rights.specs.Leaves.{only}
use Rattle.book_rights.specs.declared.methods.Method.TheVariants.{Move}
use Rattle.book_rights.specs.declared.privileges.Leaf.TheVariants.{ReadNames}
use Rattle.book_lists.specs.Circles.{CircleOf}
use Rattle.book_lists.specs.declared.circles.Caller.{Caller}
use Rattle.book_office_members.specs.Names.{name_told}
use Rattle.book_office.specs.Resources.{card_at}
use Rattle.book_office_listings.specs.Verdicts.{IsGrantedAt}
use Rattle.book_office_values.specs.declared.offices.StoredCard.{StoredCard}
use Rattle.book_office_values.specs.declared.offices.Office.{Office}
use Rattle.book_office_values.specs.declared.paths.Path.TheVariants as path
use Rattle.book_lists.specs.Names.{IsName}
use Rattle.book_office.specs.Sound.{IsSound}
use Rattle.book_office_values.specs.Texts.{IsCardText}
use Rattle.book_machine.specs.Agreement.{named, Agree}
use Rattle.book_machine.specs.Runs.{Call, Run, last_office}
use Rattle.book_machine.specs.Steps.{Steps}
use Rattle.book_machine.specs.declared.messages.Reply.{Reply}
use Rattle.book_machine.specs.declared.messages.Request.{Request}

-- Offices that agree for a caller agree for it the other way round, and from one to the next
abbrev pub AgreementIsAnEquivalence : Type 0
AgreementIsAnEquivalence = (caller : Caller)
    → ((o : Office) → Agree o o caller)
    × ((o p : Office) → Agree o p caller → Agree p o caller)
    × ((o p q : Office) → Agree o p caller → Agree p q caller → Agree o q caller)

-- what a card at a path may have: names, and one of two texts
pub record AreTextsAt (b c text other : List ℕ) : Type 0 where
  pub book_named : IsName b
  pub card_named : IsName c
  pub is_text : IsCardText text
  pub is_other : IsCardText other

-- Offices that agree may differ: there are sound ones with a card of any two texts, at any path, that nobody may read
abbrev pub AgreeingOfficesMayDiffer : Type 0
AgreeingOfficesMayDiffer = (b c text other : List ℕ) → AreTextsAt b c text other → (o : Office) × (p : Office)
    × IsSound o × IsSound p
    × (option_map (λ (card : StoredCard). card.text) (card_at o b c) ≡ Some text)
    × (option_map (λ (card : StoredCard). card.text) (card_at p b c) ≡ Some other)
    × ((caller : Caller) → Agree o p caller)

-- and where everybody may read the card's name alone: there are such with a card of any two texts that say one name
abbrev pub AgreeingOfficesMayDifferWhereNamed : Type 0
AgreeingOfficesMayDifferWhereNamed = (b c text other : List ℕ) → AreTextsAt b c text other → name_told text ≡ name_told other → (o : Office) × (p : Office)
    × IsSound o × IsSound p
    × (option_map (λ (card : StoredCard). card.text) (card_at o b c) ≡ Some text)
    × (option_map (λ (card : StoredCard). card.text) (card_at p b c) ≡ Some other)
    × ((circle : CircleOf) → IsGrantedAt o circle (path.Card b c) (only ReadNames))
    × ((caller : Caller) → Agree o p caller)

-- from Offices that agree for its caller a request finds one reply; and without a MOVE or a rise of the epoch it leaves Offices that agree
abbrev pub AgreeingOfficesStepAlike : Type 0
AgreeingOfficesStepAlike = (o p : Office) (name : Option (List ℕ)) (request : Request) (reply : Reply) (after : Office)
    → Agree o p (named name) → Steps o name request reply after
    → (later : Office) × Steps p name request reply later
    × (request.method ≢ Move → after.epoch ≡ o.epoch → Agree after later (named name))

-- no request lowers the epoch
abbrev pub EpochsNeverFall : Type 0
EpochsNeverFall = (o : Office) (name : Option (List ℕ)) (request : Request) (reply : Reply) (after : Office)
    → Steps o name request reply after → o.epoch ≤ after.epoch

abbrev pub RunsNeverLowerTheEpoch : Type 0
RunsNeverLowerTheEpoch = (o : Office) (calls : List Call) (replies : List Reply) (offices : List Office)
    → Run o calls replies offices → o.epoch ≤ (last_office o offices).epoch

-- the calls are all by the caller of this name, and none is a MOVE
pub record AreByOne (name : Option (List ℕ)) (calls : List Call) : Type 0 where
  pub callers : All (λ (call : Call). call.0 ≡ name) calls
  pub methods : All (λ (call : Call). call.1.method ≢ Move) calls

-- a run of calls by one caller, without a MOVE and with one epoch at its ends, is also one from each Office that agrees
abbrev pub RunsAlike : Office → List Call → List Reply → List Office → Type 0
RunsAlike o calls replies offices = (name : Option (List ℕ)) → AreByOne name calls → (last_office o offices).epoch ≡ o.epoch
    → (p : Office) → Agree o p (named name)
    → (others : List Office) × Run p calls replies others × Agree (last_office o offices) (last_office p others) (named name)

abbrev pub AgreeingOfficesRunAlike : Type 0
AgreeingOfficesRunAlike = (o : Office) (calls : List Call) (replies : List Reply) (offices : List Office)
    → Run o calls replies offices → RunsAlike o calls replies offices
