-- What stays as it was for everybody else when a person is gone.
use Rattle.std.specs.Prelude.{◌≡◌, ℕ, Bool, false, List, ◌++◌, Option, option_map}
use Rattle.book_lists.specs.Circles.{CircleOf, belongs}
use Rattle.book_lists.specs.Deciding.{decider}
use Rattle.book_lists.specs.Decisions.{bears, denying}
use Rattle.book_lists.specs.declared.entries.Entry.{Entry}
use Rattle.book_lists.specs.declared.entries.Here.{Here}
use Rattle.book_rights.specs.declared.privileges.Leaf.{Leaf}
use Rattle.book_dumps_changes.specs.Leavers.{entries_without}

-- what a list rules of a leaf: the first entry that applies and holds it denies it or grants it, or there is none
abbrev pub ruling : List Entry → CircleOf → Here → Leaf → Option Bool
ruling entries circle here leaf = option_map (λ (found : ℕ × Entry). denying found.1) (decider (bears circle here) entries leaf)

-- of each caller who does not belong to the person, that is everybody else, each list rules the same as before
abbrev pub OthersAreRuledAlike : Type 0
OthersAreRuledAlike = (person : List ℕ) (entries : List Entry) (circle : CircleOf) (here : Here) (leaf : Leaf)
    → belongs circle person ≡ false → ruling (entries_without person entries) circle here leaf ≡ ruling entries circle here leaf

-- lists that are joined, as those of a resource and of the levels above it, become what each of them becomes
abbrev pub JoinedListsAreChangedApart : Type 0
JoinedListsAreChangedApart = (person : List ℕ) (first last : List Entry)
    → entries_without person (first ++ last) ≡ entries_without person first ++ entries_without person last
