-- What the machine does for calls one after the other, and what a stop after them may leave.
use Rattle.std.specs.Prelude.{◌≡◌, ◌≢◌, ◌⊎◌, ℕ, List, [], ◌∷◌, map, Option, option_map, String}
use Rattle.std.specs.String.{string_bytes}
use Rattle.std.specs.declared.alloc.Global.{Global}
use Rattle.book_office.specs.Edits.{apply}
use Rattle.book_office.specs.Keeping.{Leftover, whole}
use Rattle.book_office.specs.declared.edits.Edit.{Edit}
use Rattle.book_office_values.specs.declared.offices.Office.{Office}
use Rattle.book_machine.specs.Asking.{IsPlanned}
use Rattle.book_machine.specs.Refusals.{refused}
use Rattle.book_machine.specs.Steps.{Serves}
use Rattle.book_machine.specs.declared.messages.Reply.{Reply}
use Rattle.book_machine.specs.declared.messages.Request.{Request}
use Rattle.book_machine.specs.declared.refusals.Refusal.TheVariants.{Unavailable}

-- a call: the bytes of the caller's name, if there is one, and the request
abbrev pub Call : Type 0
Call = Option (List ℕ) × Request

-- the calls of a list whose names are strings
abbrev pub name_of : Option (String Global) → Option (List ℕ)
name_of name = option_map string_bytes name

abbrev pub call_of : Option (String Global) × Request → Call
call_of call = (name_of call.0, call.1)

abbrev pub calls_of : List (Option (String Global) × Request) → List Call
calls_of calls = map call_of calls

-- from one Office the machine may give these replies to these calls, one after the other, and leave these Offices, one after each
abbrev pub Run : Office → List Call → List Reply → List Office → Type 0
Run o [] [] [] = Unit {0}
Run o [] [] (after ∷ offices) = ⊥
Run o [] (reply ∷ replies) offices = ⊥
Run o (call ∷ calls) [] offices = ⊥
Run o (call ∷ calls) (reply ∷ replies) [] = ⊥
Run o (call ∷ calls) (reply ∷ replies) (after ∷ offices) = Serves o call.0 call.1 reply after × Run after calls replies offices

-- the Office at the end
abbrev pub last_office : Office → List Office → Office
last_office o [] = o
last_office o (after ∷ offices) = last_office after offices

-- what a stop may leave after a call, by what it could leave before: that, or the Office with the call's edit; and that Office alone
-- where the edit was acknowledged
abbrev pub MayLeave : (Leftover → Type 0) → Office → Call → Reply → Leftover → Type 0
MayLeave before o call reply x =
    (before x ⊎ ((edit : Edit) × IsPlanned o call.0 call.1 edit × (x ≡ whole (apply o edit))))
    × (reply ≢ refused Unavailable → (edit : Edit) → IsPlanned o call.0 call.1 edit → x ≡ whole (apply o edit))

-- what a stop may leave after a run, call by call
abbrev pub MayLeaveAfter : (Leftover → Type 0) → Office → List Call → List Reply → List Office → Leftover → Type 0
MayLeaveAfter before o (call ∷ calls) (reply ∷ replies) (after ∷ offices) x = MayLeaveAfter (MayLeave before o call reply) after calls replies offices x
MayLeaveAfter before o [] replies offices x = before x
MayLeaveAfter before o (call ∷ calls) [] offices x = before x
MayLeaveAfter before o (call ∷ calls) (reply ∷ replies) [] x = before x
