-- A round of a service: requests are served, and one commit of the store keeps all that they edited, or nothing of it.
use Rattle.std.specs.Prelude.{◌≡◌, ◌⊎◌, false, ℕ, List, [], ◌++◌, Some, Result, OnOk, OnErr}
use Rattle.std.specs.Borrow.{GName}
use Rattle.book_machine.specs.LeadingRuns.{AreWellFormed}
use Rattle.book_machine.specs.Runs.{Run, MayLeaveAfter}
use Rattle.book_office.specs.Keeping.{FallsBack, Leftover, Standing, lent}
use Rattle.book_office.specs.Rounds.{IsRound}
use Rattle.book_office.specs.declared.keepers.StoreFault.{StoreFault}
use Rattle.book_office_values.specs.declared.offices.Office.{Office}
use Rattle.book_wire_serving.specs.Logs.{Log, no_log}
use Rattle.book_wire_serving.specs.Serving.{Answered, Serving, calls_answered, replies_of}
use Rattle.book_wire_serving.specs.declared.rounds.MachineWork.{MachineWork}

abbrev pub with_log : Log → Standing → Serving
with_log log s = record { standing = s; log = log }

-- what is had by these references more
abbrev pub lent_by : List GName → Standing → Standing
lent_by names kept = record {
  honest = kept.honest;
  stands = kept.stands;
  sound = kept.sound;
  left = kept.left;
  failures = kept.failures;
  fallback = record { names = names ++ kept.fallback.names; stands = kept.fallback.stands; left = kept.fallback.left };
}

abbrev pub by_names : List GName → Serving → Serving
by_names names s = with_log s.log (lent_by names s.standing)

-- in a round lines are noted in a log of its own, which is empty as it begins
pub record BeginsEmpty (old first : Log) : Type 0 where
  pub begins : first.failed ≡ old.failed
  pub empty : (bytes : List ℕ) → old.held ≡ Some bytes → first.held ≡ Some []

-- what was noted in a round follows, unless a write has failed
pub record IsFollowed (old last new : Log) : Type 0 where
  pub was_sound : new.failed ≡ false → last.failed ≡ false
  pub follows : new.failed ≡ false → (bytes text : List ℕ) → old.held ≡ Some bytes → last.held ≡ Some text → new.held ≡ Some (bytes ++ text)

-- Work was done over a service in a round of its store, with a log of its own. Where the round is kept that log follows; on an error the
-- Office and the log are as they were, and the work may have been done, or not.
pub record IsServedRound {I W : Type 0} (inside : I → Standing) (does : Serving → Serving → W → W → Type 0) (old new : Serving) (before after : W) (result : Result (Unit {0}) StoreFault) : Type 0 where
  pub first_log : Log
  pub last_log : Log
  pub round : IsRound inside (λ s t b a. does (with_log first_log s) (with_log last_log t) b a) old.standing new.standing before after result
  pub begins : BeginsEmpty old.log first_log
  pub followed : OnOk result (IsFollowed old.log last_log new.log)
  pub same_log : OnErr result (new.log ≡ old.log)

-- what a stop may leave of a round from that Office, where it is found as if it were kept
abbrev pub MayLeaveTried : (Leftover → Type 0) → Office → List Answered → Leftover → Type 0
MayLeaveTried before o answered x =
    (offices : List Office) × Run o (calls_answered answered) (replies_of answered) offices
    × MayLeaveAfter before o (calls_answered answered) (replies_of answered) offices x

-- A round was tried and not kept: the Office and the log are as they were. It may not be known whether its commit failed, so a stop may
-- still leave what it would leave if the round were kept.
pub record IsTried (old new : Serving) (answered : List Answered) : Type 0 where
  pub well_formed : AreWellFormed (calls_answered answered)
  pub was_honest : new.standing.honest → old.standing.honest
  pub falls : FallsBack old.standing.fallback new.standing.fallback
  pub kept : new.standing.honest → (o : Office) → old.standing.stands o → new.standing.stands o
  pub left : new.standing.honest → (o : Office) → old.standing.stands o → (x : Leftover) → new.standing.left x
      → old.standing.left x ⊎ MayLeaveTried old.standing.left o answered x
  pub same_log : new.log ≡ old.log

-- what work does over a keeper that is lent, it does over a machine of it
pub record IsMachineWork {W : Type 0} (does : Serving → Serving → W → W → Type 0) (first last : Standing) (before after : MachineWork W) : Type 0 where
  pub name : GName
  pub same_reference : after.work.ghost_name ≡ before.work.ghost_name
  pub done : does (with_log no_log (lent name first)) (with_log no_log (lent name last)) before.work.now after.work.now
