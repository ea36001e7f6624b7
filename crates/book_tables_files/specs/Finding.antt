-- What is found where the files of a store are opened.
use Rattle.std.specs.Prelude.{◌≡◌, ◌⊎◌, ◌↔◌, ℕ, suc, Bool, true, false, List, IsTrue}
use Rattle.sqlite_disk.specs.declared.Disk.{Ghosts}
use Rattle.sqlite_disk.specs.declared.Files.{Files}
use Rattle.sqlite_wal.specs.PageSize.{IsPageSize}
use Rattle.sqlite_wal.specs.Recovery.{Image, IsCommitted, Replays}
use Rattle.sqlite_wal.specs.Reads.{AreClean}
use Rattle.sqlite_wal.specs.Files.{outcomes}
use Rattle.sqlite_pool.specs.Opening.{IsBlankFile}
use Rattle.sqlite_trees.specs.Tree.{Trees}
use Rattle.sqlite_trees.specs.View.{IsShaped}
use Rattle.sqlite_trees.specs.declared.store.Shape.TheVariants.{Table as TableShape}
use Rattle.sqlite_rules.specs.Lists.{Has}
use Rattle.sqlite_store.specs.declared.store.FileStore.{FileStore}
use Rattle.sqlite_store.specs.FileStore.{view, recovers}
use Rattle.sqlite_store.specs.Unopened.{state_of}
use Rattle.sqlite.specs.Steps.{IsFresh}
use Rattle.sqlite.specs.Effect.{Database}
use Rattle.sqlite.specs.Held.{Held}
use Rattle.sqlite.specs.Table.{Table}
use Rattle.sqlite.specs.declared.file.Leftover.{Leftover}
use Rattle.sqlite.specs.declared.file.Leftover.TheVariants as left
use Rattle.sqlite.specs.Files.{file_state, image_of, HoldsDatabase, IsEmpty, LeavesFiles}

-- the database file is empty, or is what was left where one with pages of 512 bytes was begun
abbrev pub IsUnmade : Image → Type 0
IsUnmade = IsBlankFile 512

-- the log holds a commit: its first frames are valid, of pages of some size, and the last of them commits
abbrev pub HoldsCommit : List ℕ → Type 0
HoldsCommit log = (page_size : ℕ) × IsPageSize page_size × (last : ℕ) × IsCommitted page_size log (suc last)

-- whether recovery takes a frame of a log
abbrev pub TellsFrame : ℕ → List ℕ → Bool → Type 0
TellsFrame page_size log true = (last : ℕ) × IsCommitted page_size log (suc last)
TellsFrame page_size log false = Replays page_size log 0

-- whether a store is to be made: none was made yet, and the log holds no commit
abbrev pub TellsNew : Image → Bool → Type 0
TellsNew image true = IsUnmade image × ¬ (HoldsCommit image.log)
TellsNew image false = ¬ (IsUnmade image)

-- the files hold a store without a row
abbrev pub HasNoRow : Image → Type 0
HasNoRow image = ∥ ((db : Trees) × HoldsDatabase image db × IsEmpty db) ∥₁

-- what a stop may leave once the first open has begun: what it could leave before, a store still to be made, or one without a row
abbrev pub IsBegun : {D : Type 0} → Ghosts D → Files D → Image → Type 0
IsBegun g files image = outcomes g files.log files.db image ⊎ (IsUnmade image ⊎ HasNoRow image)

-- the rows of each table rise by their numbers
abbrev pub TablesRise : Database → Type 0
TablesRise db = (t : Table) → Has db.schema.tables t → IsShaped TableShape (db.trees t.tree)

module _ {D : Type 0} {g : Ghosts D} where
  -- a store without a row was made in the files
  pub record IsMadeIn (files : Files D) (store : FileStore D g) : Type 0 where
    pub honest : AreClean g files.log files.db
    pub fresh : IsFresh (view store)
    pub is_open : IsTrue (view store).is_open
    pub empty : IsEmpty (view store).trees

  -- the connection has the database that the files hold, and an empty one where none was made yet, beside a log without a commit
  pub record FindsStore (files : Files D) (c : Held (FileStore D g)) : Type 0 where
    pub honest : AreClean g files.log files.db
    pub holds : (db : Trees) → HoldsDatabase (image_of g files) db → (file_state c).committed.trees ≡ db
    pub unmade : IsUnmade (image_of g files) → IsEmpty (file_state c).committed.trees × ¬ (HoldsCommit (image_of g files).log)

  -- what a stop may leave where the first open failed
  abbrev pub LeavesFirstOpen : Files D → Leftover D g → Type 0
  LeavesFirstOpen files (left.Files now) = (image : Image) → outcomes g now.log now.db image → outcomes g files.log files.db image
  LeavesFirstOpen files (left.Unopened now) = (image : Image) → (state_of now).may_leave image → IsBegun g files image
  LeavesFirstOpen files (left.Store now) = (trees : Trees) → recovers now trees → IsEmpty trees

  -- what a stop may leave where an open failed: what `sqlite` says of its own, or what the first open leaves, where none was made
  -- yet and the log holds no commit
  abbrev pub KeepsFiles : Files D → Leftover D g → Type 0
  KeepsFiles files now = LeavesFiles files now ⊎ (TellsNew (image_of g files) true × LeavesFirstOpen files now)
