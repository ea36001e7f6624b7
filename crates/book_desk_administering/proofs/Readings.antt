-- What is told of an Office was read: a run of no request.
use Rattle.std.proofs.Common.{◌≡◌, ℕ, Bool, List, [], Option, Result, Err, refl, inl, inr}
use Rattle.book_desk_app.specs.Audits.{Audits, FailsToAudit}
use Rattle.book_desk_app.specs.declared.failures.Failure.{Failure}
use Rattle.book_desk_checks.specs.Checking.{ChecksCopy}
use Rattle.book_desk_questions.specs.Answers.{AnswersWords, EndsAsked, FailsToAnswer}
use Rattle.book_desk_questions.specs.Differing.{DiffersBy, EndsPlan, WritesPlan}
use Rattle.book_desk_questions.specs.Dumping.{EndsDump}
use Rattle.book_desk_questions.specs.declared.asked.Asked.{Asked}
use Rattle.book_desk_questions.specs.declared.asked.Asking.{Asking}
use Rattle.book_desk_questions.specs.declared.asked.Words.{Words}
use Rattle.book_desk_questions.specs.declared.differing.Unplanned.{Unplanned}
use Rattle.book_desk_questions.specs.declared.differing.Unplanned.TheVariants as unplanned
use Rattle.book_desk_questions.specs.declared.failures.Unanswered.{Unanswered}
use Rattle.book_desk_questions.specs.declared.failures.Unanswered.TheVariants.{Refused, UnknownPrivilege, TooMany, Output}
use Rattle.book_machine.specs.Asking.{Asks}
use Rattle.book_machine.specs.declared.refusals.Refusal.{Refusal}
use Rattle.book_office.specs.Keeping.{Reads, Standing}
use Rattle.book_office.specs.declared.keepers.StoreFault.{StoreFault}
use Rattle.book_office_values.specs.declared.offices.Office.{Office}
use Rattle.book_dumps_loading.specs.Loading.{Rests}
use Rattle.book_policy_values.specs.declared.parts.PolicyTables.{PolicyTables}
use Rattle.book_questions_plans.specs.Planning.{Plans}
use Rattle.book_questions_plans.specs.declared.faults.PlanFault.{PlanFault}
use Rattle.book_wire_serving.proofs.Servings.{gains_none, runs_unread}
use Rattle.book_wire_serving.specs.Logs.{Log, no_log}
use Rattle.book_wire_serving.specs.Serving.{AreLinesOf, Runs, Serving, StandsStill}

-- what serves without a log
abbrev bare : Standing → Serving
bare s = record { standing = s; log = no_log }

-- the same reading, beside a log that stays
pub beside_log : (old new : Serving) (before after : Log) → after ≡ before → Runs old new []
    → Runs (record { standing = old.standing; log = before }) (record { standing = new.standing; log = after }) []
beside_log old new before after same r = record {
  well_formed = r.well_formed;
  was_honest = r.was_honest;
  falls = r.falls;
  run = r.run;
  noted = gains_none before after (AreLinesOf []) same refl;
}

still_reads : (old new : Standing) → StandsStill old new → Runs (bare old) (bare new) []
still_reads old new s = runs_unread (bare old) (bare new) s.was_honest s.falls s.kept s.left refl

asks_reads : {A : Type 0} (old new : Standing) (result : Result A Refusal) (T : Office → Result A Refusal → Type 0) → Asks old new result T → Runs (bare old) (bare new) []
asks_reads old new result T a = runs_unread (bare old) (bare new) a.was_honest a.falls a.kept a.left refl

pub read_reads : {A : Type 0} (old new : Standing) (result : Result A StoreFault) (T : Office → A → Type 0) → Reads old new result T → Runs (bare old) (bare new) []
read_reads old new result T r = runs_unread (bare old) (bare new) r.was_honest r.falls r.kept r.left refl

plan_reads : {A : Type 0} (old new : Standing) (t : PolicyTables) (result : Result A PlanFault) (T : Office → A → Type 0) → Plans old new t result T → Runs (bare old) (bare new) []
plan_reads old new t result T p = runs_unread (bare old) (bare new) p.was_honest p.falls p.kept p.left refl

-- ---- a question
unanswered_reads : (old : Standing) (a : Asked) (held holds : Option (List ℕ)) (new : Standing) (failure : Unanswered)
    → FailsToAnswer old a held holds new failure → Runs (bare old) (bare new) []
unanswered_reads old a held holds new (Refused refusal) f = asks_reads old new _ _ f.0
unanswered_reads old a held holds new UnknownPrivilege f = absurd f
unanswered_reads old a held holds new TooMany f = asks_reads old new _ _ f.0
unanswered_reads old a held holds new Output f = asks_reads old new _ _ f.1

answer_reads : (Told : List ℕ → Type 0) (command : Asking) (old : Standing) (a : Asked) (held holds : Option (List ℕ)) (status : ℕ) (new : Standing)
    → EndsAsked Told command old a held holds status new → Runs (bare old) (bare new) []
answer_reads Told command old a held holds status new (inl done) = asks_reads old new _ _ done.1.1
answer_reads Told command old a held holds status new (inr failed) = unanswered_reads old a held holds new failed.0 failed.2

pub words_read : (Told : List ℕ → Type 0) (words : Words) (old : Standing) (held holds : Option (List ℕ)) (status : ℕ) (new : Standing)
    → AnswersWords Told words old held holds status new → Runs (bare old) (bare new) []
words_read Told words old held holds status new (inl none) = still_reads old new none.3
words_read Told words old held holds status new (inr asked) = answer_reads Told _ old asked.0 held holds status new asked.2

-- ---- the audit and the dump
pub audit_reads : (old : Standing) (held holds : Option (List ℕ)) (new : Standing) → Audits old held holds new → Runs (bare old) (bare new) []
audit_reads old held holds new a = read_reads old new _ _ a.1

pub unaudited_reads : (old : Standing) (failure : Failure) (held holds : Option (List ℕ)) (new : Standing) → FailsToAudit old failure held holds new → Runs (bare old) (bare new) []
unaudited_reads old failure held holds new (inl unread) = read_reads old new _ _ unread.2
unaudited_reads old failure held holds new (inr unwritten) = read_reads old new _ _ unwritten.1.1

pub dump_reads : (Told : List ℕ → Type 0) (old : Standing) (held holds : Option (List ℕ)) (status : ℕ) (new : Standing)
    → EndsDump Told old held holds status new → Runs (bare old) (bare new) []
dump_reads Told old held holds status new (inl done) =
    let d = done.1 in
    runs_unread (bare old) (bare new) d.was_honest d.falls d.kept d.left refl
dump_reads Told old held holds status new (inr failed) =
    let d = failed.2 in
    runs_unread (bare old) (bare new) d.was_honest d.falls d.kept d.left refl

-- ---- a copy
pub copy_reads : (old new : Standing) → Rests old new → Runs (bare old) (bare new) []
copy_reads old new r = runs_unread (bare old) (bare new) r.was_honest r.falls r.kept r.left refl

-- ---- a policy that is not adopted
pub check_reads : (bytes : List ℕ) (strict is_whole : Bool) (old : Standing) (held holds errors_held errors_hold : Option (List ℕ)) (status : ℕ) (new : Standing)
    → ChecksCopy bytes strict is_whole old held holds errors_held errors_hold status new → Runs (bare old) (bare new) []
check_reads bytes strict is_whole old held holds errors_held errors_hold status new (inl failed) = read_reads old new _ _ failed.1
check_reads bytes strict is_whole old held holds errors_held errors_hold status new (inr told) = read_reads old new _ _ told.1

unwritten_reads : (old new : Standing) (t : PolicyTables) (held holds : Option (List ℕ)) (fault : Unplanned) → WritesPlan old new t held holds (Err fault) → Runs (bare old) (bare new) []
unwritten_reads old new t held holds (unplanned.Fault fault) w = plan_reads old new t _ _ w.0
unwritten_reads old new t held holds unplanned.Output w = plan_reads old new t _ _ w.1

plan_ends : (Told : List ℕ → Type 0) (Silent : Type 0) (t : PolicyTables) (strict : Bool) (old : Standing) (held holds : Option (List ℕ)) (status : ℕ) (new : Standing)
    → EndsPlan Told Silent t strict old held holds status new → Runs (bare old) (bare new) []
plan_ends Told Silent t strict old held holds status new (inl done) = plan_reads old new t _ _ done.1.1
plan_ends Told Silent t strict old held holds status new (inr failed) = unwritten_reads old new t held holds failed.0 failed.1

pub differs_reads : (Told : List ℕ → Type 0) (Silent : Type 0) (bytes : List ℕ) (strict : Bool) (old : Standing) (held holds : Option (List ℕ)) (status : ℕ) (new : Standing)
    → DiffersBy Told Silent bytes strict old held holds status new → Runs (bare old) (bare new) []
differs_reads Told Silent bytes strict old held holds status new (inl none) = still_reads old new none.3
differs_reads Told Silent bytes strict old held holds status new (inr policy) = plan_ends Told Silent policy.0 strict old held holds status new policy.2
