-- A person who is gone (RFC 3744, sections 4.3, 5.1 and 5.5).
use Rattle.std.specs.Prelude.{◌≡◌, ◌≢◌, ℕ, Bool, true, false, not, if◌then◌else◌, List, [], ◌∷◌, ◌++◌, All, filter, codes, Option, Some, None}
use Rattle.std.specs.List.{flat_map}
use Rattle.std.specs.Str.{bytes_eq}
use Rattle.book_dumps.specs.declared.lines.Line.{Line}
use Rattle.book_dumps_reading.specs.declared.dumped.Dumped.{Dumped}
use Rattle.book_lists.specs.Principals.{IsGroup}
use Rattle.book_lists.specs.declared.entries.Entry.{Entry}
use Rattle.book_lists.specs.declared.entries.Who.{Who}
use Rattle.book_lists.specs.declared.entries.Who.TheVariants.{Href, Everyone, Authenticated, Unauthenticated, Owner, Own}
use Rattle.book_office_audit.specs.EntryLines.{entry_line}
use Rattle.book_office_values.specs.Paths.{path_text}
use Rattle.book_office_values.specs.declared.paths.Path.{Path}
use Rattle.book_dumps_changes.specs.Changing.{has_principal, is_of, raised}
use Rattle.book_dumps_changes.specs.Owners.{is_owner}
use Rattle.book_dumps_changes.specs.declared.changed.Changed.{Changed}

-- whether a form names the person
abbrev pub names : List ℕ → Who → Bool
names person (Href path) = bytes_eq path person
names person Everyone = false
names person Authenticated = false
names person Unauthenticated = false
names person Owner = false
names person Own = false

-- An entry for the person goes. An inverted one applied to everybody else, and becomes one for everybody.
abbrev pub entry_without : List ℕ → Entry → List Entry
entry_without person entry =
    if names person entry.who then (if entry.invert then record entry { who = Everyone; invert = false } ∷ [] else []) else entry ∷ []

abbrev pub entries_without : List ℕ → List Entry → List Entry
entries_without person entries = flat_map (entry_without person) entries

-- what the person owned is the heir's, or nobody's
abbrev pub owner_without : List ℕ → Option (List ℕ) → Option (List ℕ) → Option (List ℕ)
owner_without person heir owner = if is_owner person owner then heir else owner

abbrev pub is_other : List ℕ → List ℕ → Bool
is_other person member = not (bytes_eq member person)

abbrev pub line_without : List ℕ → Option (List ℕ) → Line → Line
line_without person heir line = record line {
  owner = owner_without person heir line.owner;
  protected = entries_without person line.protected;
  own = entries_without person line.own;
  members = filter (is_other person) line.members;
}

-- the person's line goes
abbrev pub lines_without : List ℕ → Option (List ℕ) → Line → List Line
lines_without person heir line = if is_of person line then [] else line_without person heir line ∷ []

-- ---- what is told
abbrev pub heir_text : Option (List ℕ) → List ℕ
heir_text None = codes "nobody"
heir_text (Some heir) = heir

-- a word, the path of a resource, and a principal
abbrev pub words : List ℕ → Path → List ℕ → List ℕ
words word at principal = word ++ (path_text at ++ (codes " " ++ principal))

-- owner PATH PERSON -> HEIR
abbrev pub told_owner : List ℕ → Option (List ℕ) → Line → List ℕ
told_owner person heir line =
    if is_owner person line.owner then words (codes "owner ") line.path person ++ (codes " -> " ++ (heir_text heir ++ codes "\n")) else []

-- gone PATH LIST ENTRY, and of an inverted entry: all PATH LIST ENTRY, with what the entry was
abbrev pub end_word : Bool → List ℕ
end_word true = codes "all "
end_word false = codes "gone "

abbrev pub told_entry : List ℕ → Path → Bool → Entry → List ℕ
told_entry person at is_protected entry =
    if names person entry.who then end_word entry.invert ++ (path_text at ++ entry_line is_protected entry) else []

abbrev pub told_entries : List ℕ → Path → Bool → List Entry → List ℕ
told_entries person at is_protected entries = flat_map (told_entry person at is_protected) entries

-- member PATH PERSON
abbrev pub told_member : List ℕ → Path → List ℕ → List ℕ
told_member person at member = if is_other person member then [] else words (codes "member ") at member ++ codes "\n"

abbrev pub told_members : List ℕ → Path → List (List ℕ) → List ℕ
told_members person at members = flat_map (told_member person at) members

-- of a resource that is not the person: its owner, its lists and its members
abbrev pub told_parts : List ℕ → Option (List ℕ) → Line → List ℕ
told_parts person heir line =
    told_owner person heir line ++ (told_entries person line.path true line.protected
    ++ (told_entries person line.path false line.own ++ told_members person line.path line.members))

-- person PATH
abbrev pub told_line : List ℕ → Option (List ℕ) → Line → List ℕ
told_line person heir line = if is_of person line then codes "person " ++ (person ++ codes "\n") else told_parts person heir line

abbrev pub told_leaving : List ℕ → Option (List ℕ) → List Line → List ℕ
told_leaving person heir lines = flat_map (told_line person heir) lines

-- the person is gone; the epoch is one more, since something is told
abbrev pub without_person : List ℕ → Option (List ℕ) → Dumped → Changed
without_person person heir dumped = record {
  dumped = record { epoch = raised (told_leaving person heir dumped.lines) dumped.epoch; lines = flat_map (lines_without person heir) dumped.lines };
  told = told_leaving person heir dumped.lines;
}

-- ---- who may leave, and what holds of what is made
-- the heir has a line, and is somebody else, if there is one
abbrev pub IsHeir : List Line → List ℕ → Option (List ℕ) → Type 0
IsHeir lines person None = Unit {0}
IsHeir lines person (Some heir) = (has_principal lines heir ≡ true) × (heir ≢ person)

-- a person with a line may leave
pub record MayLeave (lines : List Line) (person : List ℕ) (heir : Option (List ℕ)) : Type 0 where
  pub single : IsGroup person → ⊥
  pub there : has_principal lines person ≡ true
  pub other : IsHeir lines person heir

-- nowhere in a line the person is named
pub record IsFreeOf (person : List ℕ) (line : Line) : Type 0 where
  pub path : is_of person line ≡ false
  pub owner : line.owner ≢ Some person
  pub protected : All (λ (entry : Entry). entry.who ≢ Href person) line.protected
  pub own : All (λ (entry : Entry). entry.who ≢ Href person) line.own
  pub members : All (λ (member : List ℕ). member ≢ person) line.members
