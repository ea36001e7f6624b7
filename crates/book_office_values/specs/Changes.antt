-- The last change of each name of a book, and the changes of a book in order of number.
use Rattle.std.specs.Prelude.{◌≡◌, ℕ, ◌+◌, ◌-◌, ◌≤◌, Bool, false, cond, List, Option, Some, None, map, filter, take, max, nat_lt, nat_le}
use Rattle.std.specs.Ordering.{nat_cmp}
use Rattle.std.specs.FinMap.{FinMap, get, insert, remove, entries, from_entries}
use Rattle.book_office_values.specs.Names.{NamesTo, changed_at}
use Rattle.book_office_values.specs.declared.collections.changes.Numbers.{Numbers}

-- a finite map from numbers to names
abbrev pub NumberedNames : Type 0
NumberedNames = FinMap nat_cmp (List ℕ)

-- a change: its number, and the name that changed
abbrev pub Change : Type 0
Change = ℕ × List ℕ

-- the name takes the next number
abbrev pub touched : Numbers → List ℕ → Numbers
touched c name = record { number = c.number + 1; last = insert c.last name (c.number + 1) }

-- the number of the last change is at least this one; no name changes
abbrev pub raised : Numbers → ℕ → Numbers
raised c n = record { number = max c.number n; last = c.last }

-- the names by the numbers of their last changes
abbrev pub by_number : NamesTo ℕ → NumberedNames
by_number last = from_entries (map (λ e. (e.1, e.0)) (entries last))

-- the last changes that have a number above n, in order of number
abbrev pub changes_after : NamesTo ℕ → ℕ → List Change
changes_after last n = filter (λ (c : Change). nat_lt n c.0) (entries (by_number last))

-- each last change has a number that was given
abbrev pub AreWithin : Numbers → Type 0
AreWithin c = (name : List ℕ) (n : ℕ) → get c.last name ≡ Some n → (1 ≤ n) × (n ≤ c.number)

-- what holds of the numbers of every book: no two last changes have the same
pub record AreNumbers (c : Numbers) : Type 0 where
  pub within : AreWithin c
  pub different : (a b : List ℕ) (n : ℕ) → get c.last a ≡ Some n → get c.last b ≡ Some n → a ≡ b

-- the second map has for each number the name whose last change has it
pub record IsInverse (last : NamesTo ℕ) (names : NumberedNames) : Type 0 where
  pub there : (name : List ℕ) (n : ℕ) → get last name ≡ Some n → get names n ≡ Some name
  pub back : (name : List ℕ) (n : ℕ) → get names n ≡ Some name → get last name ≡ Some n

-- the numbers of a book beside the names by them
pub record AreIndexed (c : Numbers) (names : NumberedNames) : Type 0 where
  pub within : AreWithin c
  pub inverse : IsInverse c.last names

-- the names without a number, if there is one
abbrev pub without : NumberedNames → Option ℕ → NumberedNames
without names None = names
without names (Some n) = remove names n

-- the number that a name had before is put back
abbrev pub put_back : NamesTo ℕ → List ℕ → Option ℕ → NamesTo ℕ
put_back last name None = remove last name
put_back last name (Some n) = changed_at (λ _. n) last name

-- the last change of a name is taken back
abbrev pub left : Numbers → List ℕ → Option ℕ → Numbers
left c name before = record { number = c.number - 1; last = put_back c.last name before }

-- the names and one more, under the number of its last change; the same names where it never changed
abbrev pub with_number : NumberedNames → Option ℕ → List ℕ → NumberedNames
with_number names None name = names
with_number names (Some n) name = insert names n name

-- the first so many items; all of them where no number is given
abbrev pub first_of : {A : Type 0} → Option ℕ → List A → List A
first_of None items = items
first_of (Some most) items = take most items

-- a list of so many items has as many as it is to have
abbrev pub is_full : Option ℕ → ℕ → Bool
is_full None n = false
is_full (Some most) n = nat_le most n

-- a number above another one, if there is one
abbrev pub above : ℕ → Option ℕ → Option ℕ
above n None = None
above n (Some m) = cond (nat_lt n m) (Some m) None
