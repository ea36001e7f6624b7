-- A person who is gone is named nowhere.
use Rattle.std.proofs.Common.{◌≡◌, ◌≢◌, ℕ, List, [], ◌∷◌, Bool, true, false, Option, Some, None, refl, ap}
use Rattle.std.specs.Prelude.{All, filter, not, if◌then◌else◌}
use Rattle.std.specs.List.{flat_map}
use Rattle.std.specs.Str.{bytes_eq}
use Rattle.std.proofs.lemmas.List.Elements.{All-nil, All-cons, All-append}
use Rattle.std.proofs.lemmas.Slice.Eq.{bytes_eq-Decides}
use Rattle.book_dumps.specs.declared.lines.Line.{Line}
use Rattle.book_lists.specs.declared.entries.Entry.{Entry}
use Rattle.book_lists.specs.declared.entries.Who.TheVariants.{Href, Everyone}
use Rattle.book_dumps_changes.specs.Changing.{is_of}
use Rattle.book_dumps_changes.specs.Leavers.{entries_without, entry_without, is_other, line_without, lines_without, names, owner_without, IsFreeOf, IsHeir}

-- texts that are told apart are different
apart : (a b : List ℕ) → bytes_eq a b ≡ false → a ≢ b
apart a b is same = let yes : bytes_eq a b ≡ true = (bytes_eq-Decides a b).1 same in cc

-- what holds of each part holds of all parts
all_parts : {X Y : Type 0} (P : Y → Type 0) (f : X → List Y) → ((x : X) → All P (f x)) → (xs : List X) → All P (flat_map f xs)
all_parts P f each [] = All-nil P
all_parts P f each (x ∷ xs) = All-append P (f x) (flat_map f xs) (each x) (all_parts P f each xs)

-- ---- entries
abbrev IsFreeEntry : List ℕ → Entry → Type 0
IsFreeEntry person entry = entry.who ≢ Href person

entry_case : (person : List ℕ) (entry : Entry) (named invert : Bool) → names person entry.who ≡ named
    → All (IsFreeEntry person) (if named then (if invert then record entry { who = Everyone; invert = false } ∷ [] else []) else entry ∷ [])
entry_case person entry true true is = All-cons (IsFreeEntry person) (record entry { who = Everyone; invert = false }) [] (λ same. cc) (All-nil (IsFreeEntry person))
entry_case person entry true false is = All-nil (IsFreeEntry person)
entry_case person entry false invert is =
    All-cons (IsFreeEntry person) entry [] (λ same.
    let yes : bytes_eq person person ≡ true = (bytes_eq-Decides person person).1 refl in
    let named : names person entry.who ≡ bytes_eq person person = ap (names person) same in cc) (All-nil (IsFreeEntry person))

entries_free : (person : List ℕ) (entries : List Entry) → All (IsFreeEntry person) (entries_without person entries)
entries_free person entries = all_parts (IsFreeEntry person) (entry_without person) (λ entry. entry_case person entry (names person entry.who) entry.invert refl) entries

-- ---- members
abbrev IsOther : List ℕ → List ℕ → Type 0
IsOther person member = member ≢ person

member_case : (person member : List ℕ) (rest : List (List ℕ)) (same : Bool) → bytes_eq member person ≡ same
    → All (IsOther person) rest → All (IsOther person) (if not same then member ∷ rest else rest)
member_case person member rest true is all = all
member_case person member rest false is all = All-cons (IsOther person) member rest (apart member person is) all

members_free : (person : List ℕ) (members : List (List ℕ)) → All (IsOther person) (filter (is_other person) members)
members_free person [] = All-nil (IsOther person)
members_free person (member ∷ members) =
    member_case person member (filter (is_other person) members) (bytes_eq member person) refl (members_free person members)

-- ---- owners
owner_case : (person : List ℕ) (heir : Option (List ℕ)) (owner : List ℕ) (same : Bool) → bytes_eq owner person ≡ same → heir ≢ Some person
    → (if same then heir else Some owner) ≢ Some person
owner_case person heir owner true is other = other
owner_case person heir owner false is other = λ one. let two : owner ≡ person = cc in apart owner person is two

owner_free : (person : List ℕ) (heir owner : Option (List ℕ)) → heir ≢ Some person → owner_without person heir owner ≢ Some person
owner_free person heir None other = λ one. cc
owner_free person heir (Some owner) other = owner_case person heir owner (bytes_eq owner person) refl other

-- an heir is somebody else
pub heir_is_other : (lines : List Line) (person : List ℕ) (heir : Option (List ℕ)) → IsHeir lines person heir → heir ≢ Some person
heir_is_other lines person None h = λ one. cc
heir_is_other lines person (Some heir) h = λ one. let two : heir ≡ person = cc in h.1 two

-- ---- lines
line_free : (person : List ℕ) (heir : Option (List ℕ)) (line : Line) → is_of person line ≡ false → heir ≢ Some person → IsFreeOf person (line_without person heir line)
line_free person heir line is other = record {
  path = is;
  owner = owner_free person heir line.owner other;
  protected = entries_free person line.protected;
  own = entries_free person line.own;
  members = members_free person line.members;
}

line_case : (person : List ℕ) (heir : Option (List ℕ)) (line : Line) (gone : Bool) → is_of person line ≡ gone → heir ≢ Some person
    → All (IsFreeOf person) (if gone then [] else line_without person heir line ∷ [])
line_case person heir line true is other = All-nil (IsFreeOf person)
line_case person heir line false is other = All-cons (IsFreeOf person) (line_without person heir line) [] (line_free person heir line is other) (All-nil (IsFreeOf person))

pub lines_free : (person : List ℕ) (heir : Option (List ℕ)) (lines : List Line) → heir ≢ Some person → All (IsFreeOf person) (flat_map (lines_without person heir) lines)
lines_free person heir lines other = all_parts (IsFreeOf person) (lines_without person heir) (λ line. line_case person heir line (is_of person line) refl other) lines
