-- What the program does where it migrates a store (own profile).
use Rattle.std.specs.Prelude.{◌≡◌, ◌⊎◌, ℕ, List, ◌++◌, codes, decimal, Option, IsTrue}
use Rattle.std.specs.Io.KnownBytes.{Appends, Keeps}
use Rattle.sqlite.specs.Held.{Held, state}
use Rattle.sqlite.specs.State.{HasCleanDisk}
use Rattle.sqlite_trees.specs.declared.store.Store.{Ghosts}
use Rattle.book_tables_schema.specs.Reopening.{IfConnection, IfStore, IsConnectionAnd, IsUnharmed}
use Rattle.book_tables_schema.specs.declared.reopening.Unopened.{Unopened}
use Rattle.book_tables_schema.specs.declared.reopening.Unopened.TheVariants.{Connection}
use Rattle.book_tables.specs.declared.opening.OpenFault.{OpenFault}
use Rattle.book_tables_opening.specs.Reading.{FaultSays, IsRefused}
use Rattle.book_tables_migrating.specs.Migrating.{IsUnmigrated, StandsForNoneBefore, StandsMigrated}
use Rattle.book_desk_app.specs.Stores.{store_failure}
use Rattle.book_desk_app.specs.declared.failures.Failure.{Failure}
use Rattle.book_desk_app.specs.declared.failures.Failure.TheVariants.{Output, Store}

-- what is written
abbrev pub migration_line : ℕ → List ℕ
migration_line entries = codes "version 2, entries " ++ (decimal entries ++ codes "\n")

module _ {S : Type 0} (g : Ghosts S) where
  -- what was committed stood for an Office, and the connection stands for the widened one, with so many entries
  abbrev pub IsMigratedTo : Held S → Held S → ℕ → Type 0
  IsMigratedTo store back entries = HasCleanDisk (state g back) → StandsMigrated (state g store).committed.trees (state g back) entries

  -- the connection shows what was committed
  abbrev pub IsAsItWas : Held S → Held S → Type 0
  IsAsItWas store back = HasCleanDisk (state g back) → IsUnmigrated (state g store).committed.trees (state g back)

  -- where it was refused, the connection came back: what it shows stands for no Office as tables of version 1, and the query for the
  -- version says so
  abbrev pub IsNoFormer : OpenFault → Unopened S → Type 0
  IsNoFormer fault back = IsRefused fault → IsConnectionAnd back (λ c. HasCleanDisk (state g c)
      → StandsForNoneBefore (state g c) × (IsTrue (state g c).is_open → FaultSays 1 (state g c).now fault))

  -- the store was not migrated, for a fault that was told, and nothing was written
  pub record IsNotMigrated (Told : Failure → Type 0) (store : Held S) (held holds : Option (List ℕ)) (status : ℕ) (back : Unopened S) : Type 0 where
    pub fault : OpenFault
    pub status_is : status ≡ 3
    pub refused : IsNoFormer fault back
    pub connection : IfConnection back (IsAsItWas store)
    pub unharmed : IfStore back (IsUnharmed g (state g store))
    pub silent : Keeps held holds
    pub told : Told (Store (store_failure fault))

  -- it was not; or it was, and the line was written or could not be, which was told. With how a failure is told, what the writer held
  -- and holds, the status, and the connection afterwards; or its store, unharmed, which could not be opened again
  abbrev pub MigratesStore : (Failure → Type 0) → Held S → Option (List ℕ) → Option (List ℕ) → ℕ → Unopened S → Type 0
  MigratesStore Told store held holds status back =
      IsNotMigrated Told store held holds status back
      ⊎ ((after : Held S) × (entries : ℕ) × (back ≡ Connection after) × IsMigratedTo store after entries
      × (((status ≡ 0) × Appends held holds (migration_line entries)) ⊎ ((status ≡ 3) × Told Output)))
