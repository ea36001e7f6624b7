-- Why a request is granted or denied: for each need its resource, and for each leaf of the need the ruling by the entries in
-- force there; and what of it `serve` answers (RFC 3744, sections 6 and 7.1.1; that it is told is own profile).
use Rattle.std.specs.Prelude.{◌≡◌, ◌↔◌, ℕ, List, [], ◌∷◌, Option, Some, None, Ok}
use Rattle.std.specs.List.{AllZip}
use Rattle.book_lists.specs.Callers.{IsCircle}
use Rattle.book_lists.specs.Circles.{CircleOf}
use Rattle.book_office.specs.Levels.{effective_at}
use Rattle.book_office_values.specs.declared.offices.Office.{Office}
use Rattle.book_office_values.specs.declared.paths.Path.{Path}
use Rattle.book_office_listings.specs.Rulings.{AreRulings}
use Rattle.book_office_listings.specs.Verdicts.{here_of}
use Rattle.book_office_listings.specs.declared.messages.Denial.{Denial}
use Rattle.book_machine.specs.Needing.{needed_of}
use Rattle.book_machine.specs.Refusals.{refused}
use Rattle.book_machine.specs.Stages.{ready_of}
use Rattle.book_machine.specs.Steps.{Steps}
use Rattle.book_machine.specs.Targets.{Ready}
use Rattle.book_machine.specs.Verdicts.{IsGranted, IsDenied}
use Rattle.book_machine.specs.declared.messages.Reply.{Reply}
use Rattle.book_machine.specs.declared.messages.Request.{Request}
use Rattle.book_machine.specs.declared.needing.Needed.{Needed}
use Rattle.book_machine.specs.declared.needing.PlacedNeed.{PlacedNeed}
use Rattle.book_machine.specs.declared.refusals.Refusal.TheVariants.{NeedPrivileges}
use Rattle.book_questions.specs.RulingVerdicts.{denial_of}
use Rattle.book_questions.specs.declared.whys.InForce.{InForce}
use Rattle.book_questions.specs.declared.whys.Why.{Why}
use Rattle.book_questions.specs.declared.whys.WhyNeed.{WhyNeed}
use Rattle.book_questions_chains.specs.Chains.{AreChainsOf}

-- the denial of one need, if it is not granted
abbrev pub denial_at : WhyNeed → Option Denial
denial_at why = denial_of why.resource why.set why.rulings

-- the denial of the first need that is not granted
abbrev pub or_else : Option Denial → Option Denial → Option Denial
or_else (Some denial) rest = Some denial
or_else None rest = rest

abbrev pub first_denial : List WhyNeed → Option Denial
first_denial [] = None
first_denial (why ∷ rest) = or_else (denial_at why) (first_denial rest)

-- the list in force at a path, and what its entries ask of the resource there
pub record IsInForce (o : Office) (p : Path) (force : InForce) : Type 0 where
  pub list : force.list ≡ effective_at o p
  pub here : force.here ≡ here_of o p

module _ (o : Office) (circle : CircleOf) where
  -- what is told of a need: its resource and leaves, the list in force there, and the ruling on each leaf that there is
  pub record IsWhyNeed (need : PlacedNeed) (why : WhyNeed) : Type 0 where
    pub resource : why.resource ≡ need.resource
    pub set : why.set ≡ need.set
    pub force : IsInForce o need.resource why.force
    pub rulings : AreRulings (effective_at o need.resource) circle (here_of o need.resource) why.rulings

  abbrev pub AreWhys : List PlacedNeed → List WhyNeed → Type 0
  AreWhys needs whys = AllZip IsWhyNeed needs whys

-- the same for the principals to which the caller belongs, and a shortest chain to each of them
pub record IsWhy (o : Office) (needed : Needed) (why : Why) : Type 0 where
  pub circle : CircleOf
  pub is_circle : IsCircle o.pairs needed.caller circle
  pub needs : AreWhys o circle needed.needs why.needs
  pub chains : AreChainsOf o.pairs needed.caller why.chains

-- what is told of a request that has passed the stages before its verdict is granted exactly where the verdict is, and its denial
-- is exactly the verdict's
abbrev pub WhyTellsTheVerdict : Type 0
WhyTellsTheVerdict = (o : Office) (ready : Ready) (why : Why) → IsWhy o (needed_of ready) why
    → ((first_denial why.needs ≡ None) ↔ IsGranted o ready) × ((denial : Denial) → (first_denial why.needs ≡ Some denial) ↔ IsDenied o ready denial)

-- and so it is what `serve` answers: the reply is a denial exactly where it is told, with the same resource, privilege and entry
abbrev pub WhyTellsTheReply : Type 0
WhyTellsTheReply = (o after : Office) (name : Option (List ℕ)) (request : Request) (reply : Reply) (ready : Ready) (why : Why) (denial : Denial)
    → ready_of o name request ≡ Ok ready → IsWhy o (needed_of ready) why → Steps o name request reply after
    → (reply ≡ refused (NeedPrivileges denial)) ↔ (first_denial why.needs ≡ Some denial)
