-- How a command ends (own profile).
use Rattle.std.specs.Prelude.{◌≡◌, ◌⊎◌, ℕ}
use Rattle.book_desk_app.specs.Failures.{failure_status}
use Rattle.book_desk_app.specs.declared.failures.Failure.{Failure}

-- where a failure is told so: it was done, or it failed, with the status of the failure, which was told
abbrev pub EndsWith : (Failure → Type 0) → Type 0 → (Failure → Type 0) → ℕ → Type 0
EndsWith Told Done Fails status = ((status ≡ 0) × Done) ⊎ ((failure : Failure) × (status ≡ failure_status failure) × Fails failure × Told failure)
