-- A round of the keeper over tables: work in an open transaction, which is committed or undone.
use Rattle.std.specs.Prelude.{ℕ, Bool, false, List}
use Rattle.std.specs.Borrow.{GName}
use Rattle.sqlite.specs.Held.{Held, state}
use Rattle.sqlite.specs.State.{State}
use Rattle.sqlite_trees.specs.declared.store.Store.{Ghosts}
use Rattle.book_office.specs.Keeping.{FallsBack, Standing}
use Rattle.book_tables.specs.Keeps.{fallback_within, standing_within}

-- what the keeper of an open transaction stands on: the references by which it has the connection, the connection, how often the store has
-- failed, whether a call has failed, and whether an edit was begun
pub record InRound (S : Type 0) : Type 0 where
  pub names : List GName
  pub connection : Held S
  pub failures : ℕ
  pub spoiled : Bool
  pub written : Bool

abbrev pub standing_in : {S : Type 0} → Ghosts S → InRound S → Standing
standing_in g i = standing_within i.names (state g i.connection) i.failures i.spoiled i.written

-- work was done over such a keeper
pub record IsRun {W : Type 0} (does : Standing → Standing → W → W → Type 0) (old new : State) (failed fails : ℕ) (spoiled written : Bool) (before after : W) : Type 0 where
  pub names : List GName
  pub done : does (standing_within names old failed false false) (standing_within names new fails spoiled written) before after
  pub falls : FallsBack (fallback_within names old false) (fallback_within names new spoiled)
