-- What is to be written in a transaction, how far a function has come with it, and the change that an edit makes by it.
use Rattle.std.specs.Prelude.{◌≡◌, IsTrue, OnOk, Result, ⊤}
use Rattle.sqlite.specs.declared.error.Error.{Error}
use Rattle.sqlite.specs.State.{State, HasCleanDisk, Survives}
use Rattle.book_tables_rows.specs.Rows.{Rows, rows_of, IsBook}
use Rattle.book_tables_rows.specs.Steps.{Change, Changed}

-- rows that it fits, what Ok tells of the rows before, and what it makes of them
pub record Plan : Type 1 where
  pub Fits : Rows → Type 0
  pub Such : Rows → Type 0
  pub write : Rows → Rows

-- nothing is left to be written
abbrev pub nothing : Plan
nothing = record { Fits = λ rows. ⊤; Such = λ rows. ⊤; write = λ rows. rows }

-- inside a transaction, on the way: rows that the plan fitted are such that what is left of it fits them, and makes of them what the plan was to make
pub record Awaits (old now : State) (left all : Plan) : Type 0 where
  pub inside : IsTrue now.in_transaction
  pub rows : IsBook old.now → all.Fits (rows_of old.now.trees)
      → IsBook now.now × left.Fits (rows_of now.now.trees) × (left.Such (rows_of now.now.trees) → all.Such (rows_of old.now.trees))
      × (left.write (rows_of now.now.trees) ≡ all.write (rows_of old.now.trees))

-- a stop leaves nothing of it
abbrev pub Unseen : State → State → Type 0
Unseen old new = Survives old new (λ _. ⊥)

-- a function that answers Ok has come so far
abbrev pub Goes : State → State → Result (Unit {0}) Error → Plan → Plan → Type 0
Goes old new result left all = HasCleanDisk new → IsTrue old.in_transaction → OnOk result (Awaits old new left all)

-- and an open connection is open
abbrev pub StaysOpen : State → State → Result (Unit {0}) Error → Type 0
StaysOpen old new result = HasCleanDisk new → IsTrue old.in_transaction → OnOk result (IsTrue old.is_open → IsTrue new.is_open)

-- inside a transaction: the change was made
pub record Makes (old new : State) (change : Change) : Type 0 where
  pub inside : IsTrue new.in_transaction
  pub was_open : IsTrue old.is_open
  pub made : Changed change old.now new.now

-- a function that answers Ok has made the change
abbrev pub Performs : State → State → Result (Unit {0}) Error → Change → Type 0
Performs old new result change = HasCleanDisk new → IsTrue old.in_transaction → OnOk result (Makes old new change)
