-- What `audit` writes (own profile).
use Rattle.std.specs.Prelude.{◌≡◌, ◌⊎◌, ℕ, List, Option, Ok, Err}
use Rattle.std.specs.Io.KnownBytes.{Appends, Keeps}
use Rattle.book_office_audit.specs.Audits.{IsAuditText}
use Rattle.book_office.specs.Keeping.{Standing, Reads}
use Rattle.book_office.specs.declared.keepers.StoreFault.{StoreFault}
use Rattle.book_desk_app.specs.Failures.{store_failure}
use Rattle.book_desk_app.specs.declared.failures.Failure.{Failure}
use Rattle.book_desk_app.specs.declared.failures.Failure.TheVariants.{Output, Store}

-- the text was read as the audit of the Office, which stays
abbrev pub ReadsAudit : Standing → List ℕ → Standing → Type 0
ReadsAudit old text new = Reads old new (Ok text) IsAuditText

-- what was written is the audit
abbrev pub Audits : Standing → Option (List ℕ) → Option (List ℕ) → Standing → Type 0
Audits old held holds new = (text : List ℕ) × ReadsAudit old text new × Appends held holds text

-- the Office could not be read and nothing was written, or its audit could not be written
abbrev pub FailsToAudit : Standing → Failure → Option (List ℕ) → Option (List ℕ) → Standing → Type 0
FailsToAudit old failure held holds new =
    ((fault : StoreFault) × (failure ≡ Store (store_failure fault)) × Reads {A = List ℕ} old new (Err fault) IsAuditText × Keeps held holds)
    ⊎ ((failure ≡ Output) × ((text : List ℕ) × ReadsAudit old text new))
