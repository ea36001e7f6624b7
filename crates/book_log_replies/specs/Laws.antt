-- What the definitions imply.
use Rattle.std.specs.Prelude.{◌≡◌, ℕ, ◌-◌, ◌≤◌, Bool, true, false, List, All, Contains, length, map, slice_get, Option, Some}
use Rattle.std.specs.FinMap.{get}
use Rattle.book_lists.specs.declared.entries.Entry.{Entry}
use Rattle.book_log_lines.specs.declared.lines.Decided.{Decided}
use Rattle.book_log_lines.specs.declared.lines.Touched.{Touched}
use Rattle.book_machine.specs.Asking.{IsWellFormed}
use Rattle.book_machine.specs.Steps.{Steps}
use Rattle.book_machine.specs.Targets.{Ready}
use Rattle.book_machine.specs.Verdicts.{IsDenied}
use Rattle.book_machine.specs.declared.messages.Content.TheVariants as content
use Rattle.book_machine.specs.declared.messages.Reply.{Reply}
use Rattle.book_machine.specs.declared.messages.Request.{Request}
use Rattle.book_office.specs.Sound.{IsSound}
use Rattle.book_office.specs.Levels.{effective_at, effective_of, lists_at, own_at, protected_at, standing_at}
use Rattle.book_office.specs.declared.nodes.EffectiveEntry.{EffectiveEntry}
use Rattle.book_office.specs.declared.nodes.Level.{Level}
use Rattle.book_office_listings.specs.declared.messages.DecidingEntry.{DecidingEntry}
use Rattle.book_office_listings.specs.declared.messages.Denial.{Denial}
use Rattle.book_office_values.specs.declared.offices.Book.{Book}
use Rattle.book_office_values.specs.declared.offices.Office.{Office}
use Rattle.book_office_values.specs.declared.paths.Path.{Path}
use Rattle.book_office_values.specs.declared.paths.Path.TheVariants as path
use Rattle.book_log_replies.specs.Effects.{effect_of}
use Rattle.book_log_replies.specs.Replies.{refusal_in, reply_of}
use Rattle.book_log_replies.specs.Standing.{Placed, all_placed, decided_of}
use Rattle.book_log_replies.specs.declared.replies.Exchange.{Exchange}

-- the line is a function of these
abbrev pub LinesTellNoContents : Type 0
LinesTellNoContents = (x : Exchange) (request other : Request) (reply further : Reply) (levels : List Level)
    → request.method ≡ other.method → request.path ≡ other.path → request.destination ≡ other.destination
    → reply.status ≡ further.status → refusal_in reply.content ≡ refusal_in further.content
    → reply_of x request reply levels ≡ reply_of x other further levels

-- an entry as the effective list has it
abbrev pub standing : Placed → EffectiveEntry
standing q = standing_at q.from q.is_protected q.entry

-- the entries with their places are those in force, in their order
abbrev pub PlacesAreInForce : Type 0
PlacesAreInForce = (levels : List Level) → map standing (all_placed levels) ≡ effective_of levels

-- the protected list that stands at a path, or the own one
abbrev pub list_at : Office → Bool → Path → List Entry
list_at o true p = protected_at o p
list_at o false p = own_at o p

-- an entry is the one that a denial at a path names: where it stands, at its place there, and at its number in the effective list
pub record IsNamed (o : Office) (p : Path) (named : DecidingEntry) (found : Decided) : Type 0 where
  pub from : found.from ≡ named.from
  pub number : found.number ≡ named.number
  pub place : 1 ≤ found.place
  pub there : slice_get (list_at o found.protected found.from) (found.place - 1) ≡ Some found.entry
  pub in_force : slice_get (effective_at o p) (named.number - 1) ≡ Some (standing_at found.from found.protected found.entry)

-- a denial by an entry is told with that entry
abbrev pub DenialsNameTheEntry : Type 0
DenialsNameTheEntry = (o : Office) (ready : Ready) (denial : Denial) (named : DecidingEntry) → IsDenied o ready denial → denial.entry ≡ Some named
    → (found : Decided) × (decided_of (lists_at o denial.resource).levels named.number ≡ Some found) × IsNamed o denial.resource named found

-- the number is that of the last change of the card's name, in a book that is there
abbrev pub IsLastChange : Office → Touched → Type 0
IsLastChange o t =
    (b : List ℕ) × (c : List ℕ) × (book : Book) × (t.path ≡ path.Card b c) × (get o.books b ≡ Some book) × (get book.changes.last c ≡ Some t.number)

-- what is told of the cards that were touched, by the Offices before and after
pub record TellsChanges (o after : Office) (touched : List Touched) : Type 0 where
  pub few : length touched ≤ 2
  -- each has the number of its last change afterwards
  pub each : All (IsLastChange after) touched
  -- in a book that is there before and after, a name that isn't told has the last change that it had
  pub others : (b c : List ℕ) (old new : Book) → get o.books b ≡ Some old → get after.books b ≡ Some new
      → (Contains (map (λ (t : Touched). t.path) touched) (path.Card b c) → ⊥) → get new.changes.last c ≡ get old.changes.last c

-- an edit is told with the cards that it touched
abbrev pub EditsTellTheirChanges : Type 0
EditsTellTheirChanges = (o after : Office) (name : Option (List ℕ)) (request : Request) (reply : Reply) → IsSound o → IsWellFormed request
    → Steps o name request reply after → reply.content ≡ content.Empty → TellsChanges o after (effect_of after request).touched
