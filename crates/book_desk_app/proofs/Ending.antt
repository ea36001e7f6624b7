-- How a task ends: the status of its outcome, and that a failure is told.
use Rattle.book_desk_app.proofs.Common.{◌≡◌, ◌∙◌, ℕ, ap, arith, Ok, Err, inl, inr, subst}
use Rattle.std.proofs.Common.{◌⊎◌, Result, OnOk, IfErr}
use Rattle.book_machine.specs.declared.adoptions.AdoptFault.{AdoptFault}
use Rattle.book_machine.specs.declared.adoptions.AdoptFault.TheVariants.{Full, Unavailable}
use Rattle.book_policy.specs.declared.faults.PolicyFault.{PolicyFault}
use Rattle.book_policy.specs.declared.faults.PolicyFault.TheVariants as policy_faults
use Rattle.book_desk_app.specs.TextFailures.{input_status}
use Rattle.book_desk_app.specs.declared.text_failures.InputFault.{InputFault}
use Rattle.book_desk_app.specs.declared.text_failures.InputFault.TheVariants as inputs
use Rattle.book_desk_app.specs.declared.failures.InitFault.{InitFault}
use Rattle.book_desk_app.specs.declared.failures.InitFault.TheVariants as inits
use Rattle.book_desk_app.specs.Failures.{adopt_status, failure_status, init_status, policy_status}
use Rattle.book_desk_app.specs.Endings.{EndsWith}
use Rattle.book_desk_app.specs.declared.failures.Failure.{Failure}
use Rattle.book_desk_app.specs.declared.failures.Failure.TheVariants.{Input, Output, Init, Listen, Policy, Store, Adoption, Stream}

input_not_done : (fault : InputFault) → input_status fault ≡ 0 → ⊥
input_not_done inputs.Read e = omega (arith, e)
input_not_done inputs.NotUtf8 e = omega (arith, e)

policy_not_done : (fault : PolicyFault) → policy_status fault ≡ 0 → ⊥
policy_not_done policy_faults.NotToml e = omega (arith, e)
policy_not_done policy_faults.OtherVersion e = omega (arith, e)
policy_not_done policy_faults.BadKey e = omega (arith, e)
policy_not_done policy_faults.BadName e = omega (arith, e)
policy_not_done policy_faults.NameTwice e = omega (arith, e)
policy_not_done policy_faults.UnknownPrincipal e = omega (arith, e)
policy_not_done policy_faults.UnknownResource e = omega (arith, e)
policy_not_done policy_faults.UnknownPrivilege e = omega (arith, e)
policy_not_done policy_faults.TooMany e = omega (arith, e)
policy_not_done policy_faults.Memory e = omega (arith, e)

init_not_done : (fault : InitFault) → init_status fault ≡ 0 → ⊥
init_not_done inits.Exists e = omega (arith, e)
init_not_done inits.Write e = omega (arith, e)

adopt_not_done : (fault : AdoptFault) → adopt_status fault ≡ 0 → ⊥
adopt_not_done Full e = omega (arith, e)
adopt_not_done Unavailable e = omega (arith, e)

-- a failure never has the status of what was done
pub not_done : (failure : Failure) → failure_status failure ≡ 0 → ⊥
not_done (Input fault) e = input_not_done fault e
not_done Output e = omega (arith, e)
not_done (Init fault) e = init_not_done fault e
not_done Listen e = omega (arith, e)
not_done (Policy fault) e = policy_not_done fault e
not_done (Store failure) e = omega (arith, e)
not_done (Adoption failure) e = adopt_not_done failure.fault e
not_done (Stream failure) e = omega (arith, e)

pub ends : {Done : Type 0} {Fails : Failure → Type 0} (Told : Failure → Type 0) (Silent : Type 0) (outcome : Result (Unit {0}) Failure) (status : ℕ)
    → OnOk outcome Done → IfErr outcome Fails
    → OnOk outcome ((status ≡ 0) × Silent) → IfErr outcome (λ failure. (status ≡ failure_status failure) × Told failure) → EndsWith Told Done Fails status
ends Told Silent (Ok _) status done fails zero failed = inl (zero.0, done)
ends Told Silent (Err failure) status done fails zero failed = inr (failure, failed.0, fails, failed.1)

pub silent : (Told : Failure → Type 0) (Silent : Type 0) (outcome : Result (Unit {0}) Failure) (status : ℕ)
    → OnOk outcome ((status ≡ 0) × Silent) → IfErr outcome (λ failure. (status ≡ failure_status failure) × Told failure) → status ≡ 0 → Silent
silent Told Silent (Ok _) status zero failed done = zero.1
silent Told Silent (Err failure) status zero failed done = absurd (not_done failure (rw (← failed.0) done))

-- the same where what is done is a line that is written
pub written : {Done : Type 0} (Told : Failure → Type 0) (Silent : Type 0) (outcome : Result (Unit {0}) Failure) (status : ℕ)
    → OnOk outcome Done → IfErr outcome (λ failure. failure ≡ Output)
    → OnOk outcome ((status ≡ 0) × Silent) → IfErr outcome (λ failure. (status ≡ failure_status failure) × Told failure) → ((status ≡ 0) × Done) ⊎ ((status ≡ 3) × Told Output)
written Told Silent (Ok _) status done fails zero failed = inl (zero.0, done)
written Told Silent (Err failure) status done is zero failed = inr (failed.0 ∙ ap failure_status is, subst Told is failed.1)
