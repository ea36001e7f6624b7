-- The steps of a server that is administered while it serves: requests that are answered, rounds that were not kept, and policies that
-- are adopted between them, in one order (own profile).
use Rattle.std.specs.Prelude.{◌≡◌, ◌⊎◌, ℕ, Bool, false, if◌then◌else◌, List, [], ◌∷◌, ◌++◌, Result, Ok, Err, OnOk}
use Rattle.std.specs.List.{flat_map, AllByRecursion}
use Rattle.book_office_adopting.specs.Adopting.{adopt}
use Rattle.book_policy_values.specs.declared.parts.PolicyTables.{PolicyTables}
use Rattle.book_office.specs.Keeping.{FallsBack, Leftover, Standing, whole}
use Rattle.book_office_values.specs.declared.offices.Office.{Office}
use Rattle.book_machine.specs.Adoptions.{Adopts, HasRoomFor}
use Rattle.book_machine.specs.LeadingRuns.{AreWellFormed}
use Rattle.book_machine.specs.Promises.{AdoptPromise}
use Rattle.book_machine.specs.Runs.{Run, last_office, MayLeaveAfter}
use Rattle.book_machine.specs.declared.adoptions.AdoptFault.{AdoptFault}
use Rattle.book_machine.specs.declared.adoptions.AdoptFault.TheVariants.{Full, Unavailable}
use Rattle.book_machine.specs.declared.adoptions.Adopted.{Adopted}
use Rattle.book_log_lines.specs.declared.lines.Adoption.{Adoption}
use Rattle.book_log_lines.specs.declared.lines.Adoption.TheVariants as adoption
use Rattle.book_log_lines.specs.declared.lines.Line.{Line}
use Rattle.book_log_lines.specs.declared.lines.Line.TheVariants as line
use Rattle.book_wire_serving.specs.Logs.{Gains}
use Rattle.book_wire_serving.specs.Rounds.{IsTried, MayLeaveTried}
use Rattle.book_wire_serving.specs.Serving.{Answered, AreLinesOf, Runs, Serving, calls_answered, replies_of}

-- Requests were answered; or they were served in a round that was not kept, and nothing was answered; or a policy was to be adopted, and
-- this came of it.
pub data Step : Type 0 where
  serves : List Answered → Step
  tries : List Answered → Step
  adopts : PolicyTables → Result Adopted AdoptFault → Step

-- ---- an adoption
-- what the log tells that came of it
abbrev pub told_as : Result Adopted AdoptFault → Adoption
told_as (Ok adopted) = if adopted.changed then adoption.Changed else adoption.Unchanged
told_as (Err Full) = adoption.Full
told_as (Err Unavailable) = adoption.Unavailable

-- The epoch that is told with it: that of the answer; after a refusal that of the Office in force, or 0, which tells that it could
-- not be read.
abbrev pub IsEpochTold : Standing → Standing → Result Adopted AdoptFault → ℕ → Type 0
IsEpochTold between new (Ok adopted) epoch = epoch ≡ adopted.epoch
IsEpochTold between new (Err fault) epoch = (epoch ≡ 0) ⊎ (new.honest → (o : Office) → between.stands o → epoch ≡ o.epoch)

-- the line of an adoption of which this came, at some time
abbrev pub IsLineOfAdoption : Standing → Standing → Result Adopted AdoptFault → Line → Type 0
IsLineOfAdoption between new outcome l =
    (time : List ℕ) × (epoch : ℕ) × IsEpochTold between new outcome epoch
    × (l ≡ line.Adoption (record { time = time; epoch = epoch; adopted = told_as outcome }))

-- the Office is as it was; it may have been read
pub record KeepsOffice (old new : Standing) : Type 0 where
  pub was_honest : new.honest → old.honest
  pub falls : FallsBack old.fallback new.fallback
  pub kept : new.honest → (o : Office) → old.stands o → new.stands o
  pub left : new.honest → (x : Leftover) → new.left x → old.left x

-- ---- what was answered
-- in an adoption nothing is, nor in a round that was not kept
abbrev pub answered_by : Step → List Answered
answered_by (serves answered) = answered
answered_by (tries answered) = []
answered_by (adopts tables outcome) = []

-- all that was answered, in its order
abbrev pub all_answered : List Step → List Answered
all_answered steps = flat_map answered_by steps

-- what was served in rounds that were not kept
abbrev pub tried_by : Step → List Answered
tried_by (serves answered) = []
tried_by (tries answered) = answered
tried_by (adopts tables outcome) = []

abbrev pub all_tried : List Step → List Answered
all_tried steps = flat_map tried_by steps

-- the replies are those of a run of the machine, and the lines that the log gained are theirs, whatever a stop may leave
pub record IsOneRun (old new : Serving) (answered : List Answered) : Type 0 where
  pub well_formed : AreWellFormed (calls_answered answered)
  pub was_honest : new.standing.honest → old.standing.honest
  pub falls : FallsBack old.standing.fallback new.standing.fallback
  pub run : new.standing.honest → (o : Office) → old.standing.stands o
      → (offices : List Office) × new.standing.stands (last_office o offices) × Run o (calls_answered answered) (replies_of answered) offices
  pub noted : Gains old.log new.log (AreLinesOf answered)

-- each step, from the Office that the one before it left: what was answered is a run, a round that was not kept leaves it as it was, and a
-- policy is adopted or refused
abbrev pub LeadFrom : Office → List Step → Office → Type 0
LeadFrom o [] last = last ≡ o
LeadFrom o (serves answered ∷ steps) last =
    (offices : List Office) × Run o (calls_answered answered) (replies_of answered) offices × LeadFrom (last_office o offices) steps last
LeadFrom o (tries answered ∷ steps) last = LeadFrom o steps last
LeadFrom o (adopts tables outcome ∷ steps) last = (after : Office) × Adopts o tables outcome after × LeadFrom after steps last

-- what a stop may leave after a policy was to be adopted, by what it could leave before: that, or the Office that has adopted it; and that
-- Office alone where it is adopted
abbrev pub MayLeaveAdopting : (Leftover → Type 0) → Office → PolicyTables → Result Adopted AdoptFault → Leftover → Type 0
MayLeaveAdopting before o tables outcome x =
    (before x ⊎ (HasRoomFor tables o × (x ≡ whole (adopt tables o)))) × OnOk outcome (x ≡ whole (adopt tables o))

-- What a stop may leave after steps, by what it could leave before them: after what was answered as after a run; after a round that was
-- not kept what it could leave before that, or what it would leave if that were kept, until an edit is acknowledged or a policy adopted.
abbrev pub LeaveAfter : (Leftover → Type 0) → Office → List Step → Leftover → Type 0
LeaveAfter before o [] x = before x
LeaveAfter before o (serves answered ∷ steps) x =
    (offices : List Office) × Run o (calls_answered answered) (replies_of answered) offices
    × LeaveAfter (λ y. MayLeaveAfter before o (calls_answered answered) (replies_of answered) offices y) (last_office o offices) steps x
LeaveAfter before o (tries answered ∷ steps) x = LeaveAfter (λ y. before y ⊎ MayLeaveTried before o answered y) o steps x
LeaveAfter before o (adopts tables outcome ∷ steps) x =
    (after : Office) × Adopts o tables outcome after × LeaveAfter (λ y. MayLeaveAdopting before o tables outcome y) after steps x

-- the step is no adoption
abbrev pub IsNoAdoption : Step → Type 0
IsNoAdoption (serves answered) = Unit {0}
IsNoAdoption (tries answered) = Unit {0}
IsNoAdoption (adopts tables outcome) = ⊥

-- the step is no round that was not kept
abbrev pub IsNoTry : Step → Type 0
IsNoTry (serves answered) = Unit {0}
IsNoTry (tries answered) = ⊥
IsNoTry (adopts tables outcome) = Unit {0}

-- over services with what they stand for
module _ {M : Type 0} (serving : M → Serving) where
  -- The machine adopted the policy, or refused it, and a line tells that, where a log is kept. Between both the epoch may be read.
  pub record AdoptsNow (old new : M) (tables : PolicyTables) (outcome : Result Adopted AdoptFault) : Type 0 where
    pub between : M
    pub promise : AdoptPromise (serving old).standing (serving between).standing tables outcome
    pub keeps : KeepsOffice (serving between).standing (serving new).standing
    pub noted : Gains (serving old).log (serving new).log
        (λ lines. (l : Line) × (lines ≡ l ∷ []) × IsLineOfAdoption (serving between).standing (serving new).standing outcome l)

  abbrev pub Does : M → Step → M → Type 0
  Does old (serves answered) new = Runs (serving old) (serving new) answered
  Does old (tries answered) new = IsTried (serving old) (serving new) answered
  Does old (adopts tables outcome) new = AdoptsNow old new tables outcome

  -- these steps, one after the other
  abbrev pub TakesSteps : M → List Step → M → Type 0
  TakesSteps old [] new = new ≡ old
  TakesSteps old (s ∷ steps) new = (between : M) × Does old s between × TakesSteps between steps new

  -- no request was answered, nor was a round tried: policies were adopted or refused, or the Office was read
  abbrev pub OnlyAdopts : M → M → Type 0
  OnlyAdopts old new = (steps : List Step) × TakesSteps old steps new × (all_answered steps ≡ []) × AllByRecursion IsNoTry steps

  -- What was answered, the rounds that were not kept, and what was adopted between, are steps in one order. Where nobody administers it,
  -- nothing is adopted, and what was answered is one run.
  pub record ServesInSteps (administered : Bool) (first last : M) (answered : List Answered) : Type 0 where
    pub steps : List Step
    pub takes : TakesSteps first steps last
    pub answers : all_answered steps ≡ answered
    pub unadopted : administered ≡ false → AllByRecursion IsNoAdoption steps
    pub alone : administered ≡ false → IsOneRun (serving first) (serving last) answered

  -- ---- what that implies
  -- What was answered while nothing was adopted is a run, with what was adopted before it and after it: so each law of runs holds of
  -- it, of synced copies, of what is not seen and of the log; and of stops, where each round was kept.
  abbrev pub AreRunsBetweenAdoptions : Type 0
  AreRunsBetweenAdoptions = (old new : M) (before among after : List Step) → TakesSteps old (before ++ (among ++ after)) new
      → AllByRecursion IsNoAdoption among
      → (a b : M) × TakesSteps old before a × IsOneRun (serving a) (serving b) (all_answered among)
      × (AllByRecursion IsNoTry among → Runs (serving a) (serving b) (all_answered among)) × TakesSteps b after new

  -- what is done to the Office is what the steps do to it, one after the other
  abbrev pub StepsLeadOffices : Type 0
  StepsLeadOffices = (old new : M) (steps : List Step) → TakesSteps old steps new → (serving new).standing.honest
      → (o : Office) → (serving old).standing.stands o
      → (last : Office) × (serving new).standing.stands last × LeadFrom o steps last

  -- what a stop may leave is what the steps let it leave, one after the other
  abbrev pub StepsLeave : Type 0
  StepsLeave = (old new : M) (steps : List Step) → TakesSteps old steps new → (serving new).standing.honest
      → (o : Office) → (serving old).standing.stands o
      → (x : Leftover) → (serving new).standing.left x → LeaveAfter (serving old).standing.left o steps x

  -- steps lose nothing of what there is where a transaction in which the service is open is not kept
  abbrev pub StepsFallBack : Type 0
  StepsFallBack = (old new : M) (steps : List Step) → TakesSteps old steps new
      → FallsBack (serving old).standing.fallback (serving new).standing.fallback

  -- the lines of a step: those of what was answered, or that of the adoption, which tells what came of it; none where a round was not
  -- kept
  abbrev pub AreLinesOfStep : Step → List Line → Type 0
  AreLinesOfStep (serves answered) lines = AreLinesOf answered lines
  AreLinesOfStep (tries answered) lines = lines ≡ []
  AreLinesOfStep (adopts tables outcome) lines =
      (l : Line) × (lines ≡ l ∷ []) × ((time : List ℕ) × (epoch : ℕ)
      × (l ≡ line.Adoption (record { time = time; epoch = epoch; adopted = told_as outcome })))

  -- the lines of steps, in their order
  abbrev pub AreLinesOfSteps : List Step → List Line → Type 0
  AreLinesOfSteps [] lines = lines ≡ []
  AreLinesOfSteps (s ∷ steps) lines =
      (these later : List Line) × (lines ≡ these ++ later) × AreLinesOfStep s these × AreLinesOfSteps steps later

  -- the log gains the lines of the steps
  abbrev pub LogsTellSteps : Type 0
  LogsTellSteps = (old new : M) (steps : List Step) → TakesSteps old steps new
      → Gains (serving old).log (serving new).log (AreLinesOfSteps steps)
