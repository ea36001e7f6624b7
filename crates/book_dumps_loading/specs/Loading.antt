-- For which Office a loaded store stands.
use Rattle.std.specs.Prelude.{◌≡◌, ◌≢◌, ℕ, List, Result, IfOk, OnOk}
use Rattle.sqlite.specs.State.{State, HasCleanDisk}
use Rattle.book_dumps.specs.Dumps.{dump_text}
use Rattle.book_dumps_loading.specs.declared.faults.LoadFault.{LoadFault}
use Rattle.book_dumps_reading.specs.Dumped.{dumped_text}
use Rattle.book_dumps_reading.specs.declared.dumped.Dumped.{Dumped}
use Rattle.book_office.specs.Keeping.{FallsBack, Standing, Leftover}
use Rattle.book_office_values.specs.declared.offices.Office.{Office}
use Rattle.book_tables.specs.Opened.{StandsAlone}

-- a connection stands for a sound Office with this text, and a stop leaves that one alone
pub record StandsForText (s : State) (text : List ℕ) : Type 0 where
  pub office : Office
  pub told : dump_text office ≡ text
  pub stands : StandsAlone s office

-- the same of one with another text
pub record StandsForOther (s : State) (text : List ℕ) : Type 0 where
  pub office : Office
  pub told : dump_text office ≢ text
  pub stands : StandsAlone s office

-- a connection before and after it was read: what it stood for alone it stands for still, and that Office is such
pub record Compares (old new : State) (IsSuch : Office → Type 0) : Type 0 where
  pub was_clean : HasCleanDisk old
  pub stands : (o : Office) → StandsAlone old o → StandsAlone new o
  pub such : (o : Office) → StandsAlone old o → IsSuch o

-- a keeper's Office is read, and stays
pub record Rests (old new : Standing) : Type 0 where
  pub was_honest : new.honest → old.honest
  pub falls : FallsBack old.fallback new.fallback
  pub kept : new.honest → (o : Office) → old.stands o → new.stands o
  pub left : new.honest → (x : Leftover) → new.left x → old.left x

-- what a dump of it tells
pub record ReadsWhole (old new : Standing) (result : Result Dumped LoadFault) : Type 0 where
  pub rests : Rests old new
  pub told : new.honest → IfOk result (λ d. (o : Office) → old.stands o → dumped_text d ≡ dump_text o)
  pub counted : OnOk result (new.failures ≡ old.failures)

-- a connection is a copy of a keeper: it stands for the Office of that one, and a stop leaves it alone
abbrev pub IsCopy : Standing → State → Type 0
IsCopy source copy = (o : Office) → source.stands o → StandsAlone copy o
