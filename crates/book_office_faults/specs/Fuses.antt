-- A fuse before a keeper: what stands behind it, and what a call does with it.
use Rattle.std.specs.Prelude.{◌≡◌, ◌≢◌, ℕ, ◌+◌, min, Result, Err}
use Rattle.book_office.specs.declared.edits.Edit.{Edit}
use Rattle.book_office.specs.declared.keepers.StoreFault.{StoreFault}
use Rattle.book_office.specs.declared.keepers.StoreFault.TheVariants.{Store}
use Rattle.std.specs.Borrow.{GName}
use Rattle.book_office.specs.Keeping.{Edits, Reads, Standing, lent, one_more}
use Rattle.book_office_values.specs.declared.offices.Office.{Office}
use Rattle.book_office_faults.specs.declared.fused.Fused.{Fused}
use Rattle.book_office_faults.specs.declared.rounds.FusedWork.{FusedWork}

-- the failures of the keeper and those of the fuse are counted together, up to the last value
abbrev pub together : ℕ → ℕ → ℕ
together kept failures = min (kept + failures) 18446744073709551615

-- what the keeper stands for, with the failures of both
abbrev pub behind : Standing → ℕ → Standing
behind kept failures = record {
  honest = kept.honest;
  stands = kept.stands;
  sound = kept.sound;
  left = kept.left;
  failures = together kept.failures failures;
  fallback = kept.fallback;
}

-- a read and an edit, by what stands behind the fuse
abbrev pub ReadsBehind : {K A : Type 0} → (K → Standing) → Fused K → Fused K → Result A StoreFault → (Office → A → Type 0) → Type 0
ReadsBehind standing old new result Tells = Reads (behind (standing old.keeper) old.failures) (behind (standing new.keeper) new.failures) result Tells

abbrev pub EditsBehind : {K : Type 0} → (K → Standing) → Fused K → Fused K → Result (Unit {0}) StoreFault → Edit → Type 0
EditsBehind standing old new result edit = Edits (behind (standing old.keeper) old.failures) (behind (standing new.keeper) new.failures) result edit

-- a call that is passed on takes one of the calls, and the fuse counts no failure
pub record IsPassed {K : Type 0} (old new : Fused K) : Type 0 where
  pub calls : new.calls + 1 ≡ old.calls
  pub failures : new.failures ≡ old.failures

-- a call that is not passed on is a fault of the store, which the fuse counts and the keeper does not see
pub record IsFailed {K A : Type 0} (old new : Fused K) (result : Result A StoreFault) : Type 0 where
  pub fault : result ≡ Err Store
  pub keeper : new.keeper ≡ old.keeper
  pub calls : new.calls ≡ 0
  pub failures : new.failures ≡ one_more old.failures

-- a call is passed on while calls are left, and then no more
pub record IsFused {K A : Type 0} (old new : Fused K) (result : Result A StoreFault) : Type 0 where
  pub passed : old.calls ≢ 0 → IsPassed old new
  pub failed : old.calls ≡ 0 → IsFailed old new result

-- ---- rounds
-- what stands behind the fuse of a round, of a keeper that is lent
abbrev pub behind_in : {I : Type 0} → (I → Standing) → I × GName × ℕ → Standing
behind_in inside i = behind (lent i.1 (inside i.0)) i.2

-- what work does before a keeper that is lent, it does behind a fuse
pub record IsWorkBehind {W : Type 0} (does : Standing → Standing → W → W → Type 0) (first last : Standing) (before after : FusedWork W) : Type 0 where
  pub name : GName
  pub same_reference : after.work.ghost_name ≡ before.work.ghost_name
  pub done : does (behind (lent name first) before.failures) (behind (lent name last) after.failures) before.work.now after.work.now
