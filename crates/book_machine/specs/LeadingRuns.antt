-- Where runs of the machine lead.
use Rattle.std.specs.Prelude.{ℕ, List, [], ◌∷◌, Option}
use Rattle.book_office_values.specs.declared.offices.Office.{Office}
use Rattle.book_office.specs.Sound.{IsSound}
use Rattle.book_office_sync.specs.Copies.{Later}
use Rattle.book_machine.specs.Asking.{IsWellFormed}
use Rattle.book_machine.specs.Runs.{Call, Run, last_office}
use Rattle.book_machine.specs.Steps.{Serves}
use Rattle.book_machine.specs.declared.messages.Reply.{Reply}
use Rattle.book_machine.specs.declared.messages.Request.{Request}

-- all calls are well formed
abbrev pub AreWellFormed : List Call → Type 0
AreWellFormed [] = Unit {0}
AreWellFormed (call ∷ calls) = IsWellFormed call.1 × AreWellFormed calls

-- a step from a sound Office leads to a sound one, which is later
abbrev pub StepsLeadOn : Type 0
StepsLeadOn = (o p : Office) (name : Option (List ℕ)) (request : Request) (reply : Reply)
    → IsSound o → IsWellFormed request → Serves o name request reply p → IsSound p × Later o p

-- so does a run of steps
abbrev pub RunsLeadOn : Type 0
RunsLeadOn = (o : Office) (calls : List Call) (replies : List Reply) (offices : List Office)
    → IsSound o → AreWellFormed calls → Run o calls replies offices → IsSound (last_office o offices) × Later o (last_office o offices)
