-- What is left of a connection whose tables were not had.
use Rattle.std.specs.Prelude.{◌≡◌, IsTrue}
use Rattle.sqlite.specs.Held.{Held}
use Rattle.sqlite.specs.State.{State}
use Rattle.sqlite.specs.Tree.{Trees}
use Rattle.sqlite_trees.specs.View.{IsClean}
use Rattle.sqlite_trees.specs.declared.store.Store.{Ghosts}
use Rattle.book_tables_schema.specs.declared.reopening.Unopened.{Unopened}
use Rattle.book_tables_schema.specs.declared.reopening.Unopened.TheVariants.{Connection, Store}

-- the connection, of which something holds
abbrev pub IsConnectionAnd : {S : Type 0} → Unopened S → (Held S → Type 0) → Type 0
IsConnectionAnd (Connection c) P = P c
IsConnectionAnd (Store s) P = ⊥

abbrev pub IfConnection : {S : Type 0} → Unopened S → (Held S → Type 0) → Type 0
IfConnection (Connection c) P = P c
IfConnection (Store s) P = Unit {0}

abbrev pub IfStore : {S : Type 0} → Unopened S → (S → Type 0) → Type 0
IfStore (Connection c) P = Unit {0}
IfStore (Store s) P = P s

-- The store of a connection, given back. Where it is open it shows what was committed. A stop leaves what it could leave of the
-- connection: where that was open, what was committed.
pub record IsUnharmed {S : Type 0} (g : Ghosts S) (was : State) (store : S) : Type 0 where
  pub shows : IsClean (g.view store) → IsTrue (g.view store).is_open → (g.view store).trees ≡ was.committed.trees
  pub left : (trees : Trees) → g.recovers store trees → was.may_leave trees
  pub settled : (trees : Trees) → IsTrue was.is_open → g.recovers store trees → trees ≡ was.committed.trees
