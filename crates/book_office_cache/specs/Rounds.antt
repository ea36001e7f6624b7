-- A round of a keeper behind what is remembered.
use Rattle.std.specs.Prelude.{◌≡◌}
use Rattle.std.specs.Borrow.{GName}
use Rattle.book_office.specs.Keeping.{Standing, lent}
use Rattle.book_office_cache.specs.Remembering.{Held, lent_memory, remembering}
use Rattle.book_office_cache.specs.declared.rounds.CachedWork.{CachedWork}

-- what stands behind what is remembered in a round, of a keeper that is lent
abbrev pub remembering_in : {I : Type 0} → (I → Standing) → I × GName × Held → Standing
remembering_in inside i = remembering (lent i.1 (inside i.0)) i.2

-- what work does over a keeper that is lent, it does over one that remembers in front of it, by a reference of what is remembered
pub record IsWorkBehind {W : Type 0} (does : Standing → Standing → W → W → Type 0) (first last : Standing) (before after : CachedWork W) : Type 0 where
  pub name : GName
  pub memory : GName
  pub same_work : after.work.ghost_name ≡ before.work.ghost_name
  pub same_memory : after.remembered.ghost_name ≡ before.remembered.ghost_name
  pub done : does (remembering (lent name first) (lent_memory memory before.remembered.now)) (remembering (lent name last) (lent_memory memory after.remembered.now)) before.work.now after.work.now
