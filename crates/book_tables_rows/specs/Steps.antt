-- What a call does to a connection: a step inside a transaction, and a whole transaction.
use Rattle.std.specs.Prelude.{◌≡◌, ℕ, Bool, List, IsTrue, OnOk, IfOk, Result, ⊤}
use Rattle.sqlite.specs.declared.error.Error.{Error}
use Rattle.sqlite.specs.Effect.{Database}
use Rattle.sqlite.specs.State.{State, HasCleanDisk, KeepsCommit}
use Rattle.book_tables_rows.specs.Rows.{Rows, rows_of, IsBook}
use Rattle.book_tables_rows.specs.Writes.{is_mapped}

-- ---- a step inside a transaction

-- whatever it answers, what was committed stays
abbrev pub Keeps : State → State → Type 0
Keeps old new = HasCleanDisk new → IsTrue old.in_transaction → KeepsCommit old new

-- inside a transaction: the rows become these
pub record Becomes (old new : State) (write : Rows → Rows) : Type 0 where
  pub inside : IsTrue new.in_transaction
  pub was_open : IsTrue old.is_open
  pub is_open : IsTrue new.is_open
  pub rows : IsBook old.now → IsBook new.now × (rows_of new.now.trees ≡ write (rows_of old.now.trees))

-- inside a transaction: where the rows fit, they become these
pub record BecomesIf (old new : State) (Fit : Rows → Type 0) (write : Rows → Rows) : Type 0 where
  pub inside : IsTrue new.in_transaction
  pub was_open : IsTrue old.is_open
  pub is_open : IsTrue new.is_open
  pub rows : IsBook old.now → Fit (rows_of old.now.trees) → IsBook new.now × (rows_of new.now.trees ≡ write (rows_of old.now.trees))

-- a step that answers Ok has made the rows so
abbrev pub Writes : State → State → Result (Unit {0}) Error → (Rows → Rows) → Type 0
Writes old new result write = HasCleanDisk new → IsTrue old.in_transaction → OnOk result (Becomes old new write)

-- the same of the node at a path, where the answer tells whether a row was there
abbrev pub WritesAt : State → State → Result Bool Error → List ℕ → (Rows → Rows) → Type 0
WritesAt old new result path write = HasCleanDisk new → IsTrue old.in_transaction
    → IfOk result (λ there. Becomes old new write × (IsBook old.now → there ≡ is_mapped path (rows_of old.now.trees)))

abbrev pub WritesIf : State → State → Result (Unit {0}) Error → (Rows → Type 0) → (Rows → Rows) → Type 0
WritesIf old new result Fit write = HasCleanDisk new → IsTrue old.in_transaction → OnOk result (BecomesIf old new Fit write)

-- inside a transaction: the rows were such, and become these, by as many statements as there are items, or by none
pub record Leads (old new : State) (Such : Rows → Type 0) (write : Rows → Rows) : Type 0 where
  pub inside : IsTrue new.in_transaction
  pub still_open : IsTrue old.is_open → IsTrue new.is_open
  pub such : IsBook old.now → Such (rows_of old.now.trees)
  pub rows : IsBook old.now → IsBook new.now × (rows_of new.now.trees ≡ write (rows_of old.now.trees))

abbrev pub AdvancesFrom : State → State → Result (Unit {0}) Error → (Rows → Type 0) → (Rows → Rows) → Type 0
AdvancesFrom old new result Such write = HasCleanDisk new → IsTrue old.in_transaction → OnOk result (Leads old new Such write)

abbrev pub Advances : State → State → Result (Unit {0}) Error → (Rows → Rows) → Type 0
Advances old new result write = AdvancesFrom old new result (λ _. ⊤) write

-- a read leaves the transaction, and the tables if they are there
pub record Looks (old new : State) : Type 0 where
  pub mode : new.in_transaction ≡ old.in_transaction
  pub same : IsBook old.now → new.now ≡ old.now

-- a read that answers Ok leaves them
abbrev pub Spares : {X : Type 0} → State → State → Result X Error → Type 0
Spares old new result = HasCleanDisk new → IfOk result (λ _. Looks old new)

-- ---- a change of the rows

-- the rows that it is made of, and the rows before and after it
pub record Change : Type 1 where
  pub Fits : Rows → Type 0
  pub Makes : Rows → Rows → Type 0

-- one that fits all rows
abbrev pub change_of : (Rows → Rows → Type 0) → Change
change_of Makes = record { Fits = λ rows. ⊤; Makes = Makes }

-- the tables of a store before and after a change
abbrev pub Changed : Change → Database → Database → Type 0
Changed change old new =
    IsBook old → change.Fits (rows_of old.trees) → IsBook new × change.Makes (rows_of old.trees) (rows_of new.trees)

-- ---- a whole transaction

-- what an open connection shows is as it was
abbrev pub Stays : State → State → Type 0
Stays old new = IsTrue new.is_open → IsTrue old.is_open × (new.now ≡ old.now)
