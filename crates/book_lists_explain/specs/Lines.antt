-- The lines of a question: their forms, what they say, and their faults.
use Rattle.std.specs.Prelude.{◌≡◌, ◌≢◌, ℕ, ◌<◌, ◌⊎◌, ◌==◌, nat_eq, Bool, true, false, List, [], ◌∷◌, ◌++◌, length, map, codes, get_or}
use Rattle.std.specs.List.{slice_split, list_any}
use Rattle.book_rights.specs.declared.privileges.Leaf.{Leaf}
use Rattle.book_rights.specs.declared.privileges.Privilege.{Privilege}
use Rattle.book_rights.specs.Privileges.{contained, name_of}
use Rattle.book_lists.specs.declared.circles.Caller.TheVariants.{Nobody, Known}
use Rattle.book_lists.specs.declared.entries.Who.{Who}
use Rattle.book_lists.specs.declared.entries.Who.TheVariants as forms
use Rattle.book_lists_explain.specs.declared.lines.Line.{Line}
use Rattle.book_lists_explain.specs.declared.lines.Line.TheVariants as lines
use Rattle.book_lists_explain.specs.declared.faults.ExplainFaultKind.{ExplainFaultKind}
use Rattle.book_lists_explain.specs.declared.faults.ExplainFaultKind.TheVariants.{BadLine, BadName, UnknownPrivilege, Twice, Missing, TooMany, Memory}
use Rattle.book_lists.specs.Principals.{IsPerson, IsGroup, IsPrincipal, Spells}

-- the lines of a text, and the words of a line: each space separates two
abbrev pub lines_of : List ℕ → List (List ℕ)
lines_of text = slice_split (λ b. b == 10) text

abbrev pub words_of : List ℕ → List (List ℕ)
words_of line = slice_split (λ b. b == 32) line

-- the form of a line, with the words that vary
pub data Form : Type 0 where
  member_form : (group member : List ℕ) → Form
  caller_form : (person : List ℕ) → Form
  need_form : (name : List ℕ) (names : List (List ℕ)) → Form
  owner_form : (path : List ℕ) → Form
  here_form : (path : List ℕ) → Form
  entry_form : (deny invert : Bool) (who name : List ℕ) (names : List (List ℕ)) → Form

-- with `not` before the words, where the entry is inverted
abbrev pub inverted : Bool → List (List ℕ) → List (List ℕ)
inverted true ws = codes "not" ∷ ws
inverted false ws = ws

abbrev pub action : Bool → List ℕ
action true = codes "deny"
action false = codes "grant"

-- a line of this form
abbrev pub words : Form → List (List ℕ)
words (member_form group member) = codes "member" ∷ group ∷ member ∷ []
words (caller_form person) = codes "caller" ∷ person ∷ []
words (need_form name names) = codes "need" ∷ name ∷ names
words (owner_form path) = codes "owner" ∷ path ∷ []
words (here_form path) = codes "here" ∷ path ∷ []
words (entry_form deny invert who name names) = action deny ∷ inverted invert (who ∷ name ∷ names)

-- `not` is never a principal form
abbrev pub IsProper : Form → Type 0
IsProper (entry_form deny invert who name names) = who ≢ codes "not"
IsProper (member_form group member) = Unit {0}
IsProper (caller_form person) = Unit {0}
IsProper (need_form name names) = Unit {0}
IsProper (owner_form path) = Unit {0}
IsProper (here_form path) = Unit {0}

abbrev pub HasForm : List (List ℕ) → Form → Type 0
HasForm ws form = (words form ≡ ws) × IsProper form

-- the word names this principal
abbrev pub Names : List ℕ → List ℕ → Type 0
Names word path = IsPrincipal path × Spells word path

abbrev pub IsWho : List ℕ → Who → Type 0
IsWho word (forms.Href path) = Names word path
IsWho word forms.Everyone = word ≡ codes "all"
IsWho word forms.Authenticated = word ≡ codes "authenticated"
IsWho word forms.Unauthenticated = word ≡ codes "unauthenticated"
IsWho word forms.Owner = word ≡ codes "owner"
IsWho word forms.Own = word ≡ codes "self"

-- the leaves that the privileges with these names contain
abbrev pub AreLeaves : List (List ℕ) → (Leaf → Bool) → Type 0
AreLeaves names set = (privileges : List Privilege) × (map name_of privileges ≡ names) × ((leaf : Leaf) → set leaf ≡ list_any (λ p. contained p leaf) privileges)

-- one of the names is no privilege's
abbrev pub HasUnknown : List (List ℕ) → Type 0
HasUnknown names = (i : ℕ) × (i < length names) × ((privilege : Privilege) → get_or names i [] ≢ name_of privilege)

-- what a line of this form says
abbrev pub Means : Form → Line → Type 0
Means (member_form a b) (lines.Member group member) = Names a group × IsGroup group × Names b member
Means (caller_form a) (lines.Asks Nobody) = a ≡ codes "-"
Means (caller_form a) (lines.Asks (Known person)) = Names a person × IsPerson person
Means (need_form name names) (lines.Need set) = AreLeaves (name ∷ names) set
Means (owner_form a) (lines.Owner path) = Names a path
Means (here_form a) (lines.Here path) = Names a path
Means (entry_form deny invert who name names) (lines.Listed entry) = (entry.deny ≡ deny) × (entry.invert ≡ invert) × IsWho who entry.who × AreLeaves (name ∷ names) entry.set
Means _ _ = ⊥

-- a word where a principal is wanted is none, or not one of the kind that is wanted
abbrev pub HasBadName : Form → Type 0
HasBadName (member_form a b) = ((group : List ℕ) → Names a group → IsGroup group → ⊥) ⊎ ((member : List ℕ) → Names b member → ⊥)
HasBadName (caller_form a) = (a ≢ codes "-") × ((person : List ℕ) → Names a person → IsPerson person → ⊥)
HasBadName (need_form name names) = ⊥
HasBadName (owner_form a) = (path : List ℕ) → Names a path → ⊥
HasBadName (here_form a) = (path : List ℕ) → Names a path → ⊥
HasBadName (entry_form deny invert who name names) = (form : Who) → IsWho who form → ⊥

abbrev pub HasUnknownPrivilege : Form → Type 0
HasUnknownPrivilege (need_form name names) = HasUnknown (name ∷ names)
HasUnknownPrivilege (entry_form deny invert who name names) = HasUnknown (name ∷ names)
HasUnknownPrivilege _ = ⊥

-- the least fault of a line of this form, by itself
abbrev pub FormFault : Form → ExplainFaultKind → Type 0
FormFault form BadName = HasBadName form
FormFault form UnknownPrivilege = (HasBadName form → ⊥) × HasUnknownPrivilege form
FormFault form BadLine = ⊥
FormFault form Twice = ⊥
FormFault form Missing = ⊥
FormFault form TooMany = ⊥
FormFault form Memory = ⊥

-- what the words of a line say
abbrev pub WordsSay : List (List ℕ) → Line → Type 0
WordsSay ws line = (form : Form) × HasForm ws form × Means form line

-- the least fault of the words of a line
abbrev pub FaultOfWords : List (List ℕ) → ExplainFaultKind → Type 0
FaultOfWords ws kind = ((kind ≡ BadLine) × ((form : Form) → HasForm ws form → ⊥)) ⊎ ((form : Form) × HasForm ws form × FormFault form kind)

-- no word is empty
abbrev pub NoEmpty : List (List ℕ) → Type 0
NoEmpty ws = list_any (λ w. nat_eq (length w) 0) ws ≡ false

-- empty lines and lines that begin with `#` say nothing
abbrev pub IsBlank : List ℕ → Type 0
IsBlank line = (line ≡ []) ⊎ ((rest : List ℕ) × (line ≡ codes "#" ++ rest))

-- what a line says
abbrev pub Says : List ℕ → Line → Type 0
Says line said = (IsBlank line × (said ≡ lines.Blank)) ⊎ ((IsBlank line → ⊥) × NoEmpty (words_of line) × WordsSay (words_of line) said)

-- the least fault of a line by itself
abbrev pub OwnFault : List ℕ → ExplainFaultKind → Type 0
OwnFault line kind = (IsBlank line → ⊥) × (((kind ≡ BadLine) × (NoEmpty (words_of line) → ⊥)) ⊎ (NoEmpty (words_of line) × FaultOfWords (words_of line) kind))

-- want of memory may come in place of any other fault
abbrev pub OrMemory : (ExplainFaultKind → Type 0) → ExplainFaultKind → Type 0
OrMemory P kind = (kind ≡ Memory) ⊎ P kind
