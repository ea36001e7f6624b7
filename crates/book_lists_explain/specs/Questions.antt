-- Questions: which one a text asks, or its first fault.
use Rattle.std.specs.Prelude.{◌≡◌, ◌≢◌, ℕ, ◌+◌, ◌<◌, ◌≤◌, ◌⊎◌, Bool, List, [], ◌∷◌, ◌++◌, length, Option, Some, None, option_to_list}
use Rattle.std.specs.List.{filter_map}
use Rattle.book_rights.specs.declared.privileges.Leaf.{Leaf}
use Rattle.book_lists.specs.declared.circles.Caller.{Caller}
use Rattle.book_lists.specs.declared.entries.Entry.{Entry}
use Rattle.book_lists.specs.declared.entries.Here.{Here}
use Rattle.book_lists_explain.specs.declared.questions.Question.{Question}
use Rattle.book_lists.specs.declared.memberships.Membership.{Membership}
use Rattle.book_lists_explain.specs.declared.lines.Line.{Line}
use Rattle.book_lists_explain.specs.declared.lines.Line.TheVariants as lines
use Rattle.book_lists_explain.specs.declared.faults.ExplainFaultKind.{ExplainFaultKind}
use Rattle.book_lists_explain.specs.declared.faults.ExplainFaultKind.TheVariants.{Twice, TooMany}
use Rattle.book_lists.specs.Memberships.{set_of}
use Rattle.book_lists_explain.specs.Lines.{Says, OwnFault}

-- what a line adds to a question
abbrev pub member_in : Line → Option Membership
member_in (lines.Member group member) = Some (record { group = group; member = member })
member_in _ = None

abbrev pub caller_in : Line → Option Caller
caller_in (lines.Asks caller) = Some caller
caller_in _ = None

abbrev pub need_in : Line → Option (Leaf → Bool)
need_in (lines.Need set) = Some set
need_in _ = None

abbrev pub owner_in : Line → Option (List ℕ)
owner_in (lines.Owner path) = Some path
owner_in _ = None

abbrev pub here_in : Line → Option (List ℕ)
here_in (lines.Here path) = Some path
here_in _ = None

abbrev pub entry_in : Line → Option Entry
entry_in (lines.Listed entry) = Some entry
entry_in _ = None

-- after these lines one more may say this: at most one `caller`, `need`, `owner` and `here`, 1,000 members and 64 entries
abbrev pub Fits : List Line → Line → Type 0
Fits said lines.Blank = Unit {0}
Fits said (lines.Member group member) = length (filter_map member_in said) < 1000
Fits said (lines.Asks caller) = filter_map caller_in said ≡ []
Fits said (lines.Need set) = filter_map need_in said ≡ []
Fits said (lines.Owner path) = filter_map owner_in said ≡ []
Fits said (lines.Here path) = filter_map here_in said ≡ []
Fits said (lines.Listed entry) = length (filter_map entry_in said) < 64

-- the fault of a line that does not fit after these
abbrev pub Excess : List Line → Line → ExplainFaultKind → Type 0
Excess said lines.Blank kind = ⊥
Excess said (lines.Member group member) kind = (kind ≡ TooMany) × (1000 ≤ length (filter_map member_in said))
Excess said (lines.Asks caller) kind = (kind ≡ Twice) × (filter_map caller_in said ≢ [])
Excess said (lines.Need set) kind = (kind ≡ Twice) × (filter_map need_in said ≢ [])
Excess said (lines.Owner path) kind = (kind ≡ Twice) × (filter_map owner_in said ≢ [])
Excess said (lines.Here path) kind = (kind ≡ Twice) × (filter_map here_in said ≢ [])
Excess said (lines.Listed entry) kind = (kind ≡ TooMany) × (64 ≤ length (filter_map entry_in said))

-- the lines have no fault, and say this after what was said before
abbrev pub LinesSay : List Line → List (List ℕ) → List Line → Type 0
LinesSay before [] [] = Unit {0}
LinesSay before (line ∷ lines) (said ∷ more) = Says line said × Fits before said × LinesSay (before ++ said ∷ []) lines more
LinesSay before [] (said ∷ more) = ⊥
LinesSay before (line ∷ lines) [] = ⊥

-- the least fault of a line after these
abbrev pub LineFault : List Line → List ℕ → ExplainFaultKind → Type 0
LineFault said line kind = OwnFault line kind ⊎ ((meant : Line) × Says line meant × Excess said meant kind)

-- the first line with a fault, and its least fault
pub record FirstFault (lines : List (List ℕ)) (kind : ExplainFaultKind) (number : ℕ) : Type 0 where
  pub before : List (List ℕ)
  pub line : List ℕ
  pub after : List (List ℕ)
  pub said : List Line
  pub there : lines ≡ before ++ line ∷ after
  pub faultless : LinesSay [] before said
  pub fault : LineFault said line kind
  pub numbered : number ≡ length before + 1

abbrev pub first : {A : Type 0} → List A → Option A
first [] = None
first (x ∷ xs) = Some x

abbrev pub here_of : List Line → Here
here_of said = record { owner = first (filter_map owner_in said); principal = first (filter_map here_in said) }

-- the question that the lines asked so far
pub record IsQuestion (said : List Line) (question : Question) : Type 0 where
  pub pairs : question.pairs ≡ set_of (filter_map member_in said)
  pub members : question.members ≡ length (filter_map member_in said)
  pub caller : option_to_list question.caller ≡ filter_map caller_in said
  pub need : option_to_list question.need ≡ filter_map need_in said
  pub owner : option_to_list question.here.owner ≡ filter_map owner_in said
  pub here : option_to_list question.here.principal ≡ filter_map here_in said
  pub entries : question.entries.items ≡ filter_map entry_in said
