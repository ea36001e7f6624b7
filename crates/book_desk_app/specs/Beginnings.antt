-- Files to begin with, in a folder (own profile).
use Rattle.std.specs.Prelude.{◌≡◌, ◌⊎◌, ℕ, List, [], ◌∷◌, codes, Bool, true, false, ◌||◌, bytes_eq, Option, Some, IfSome}
use Rattle.std.specs.Io.KnownBytes.{Appends, Keeps}
use Rattle.book_desk_app.specs.declared.failures.Failure.{Failure}
use Rattle.book_desk_app.specs.declared.failures.Failure.TheVariants.{Init, Output}
use Rattle.book_desk_app.specs.declared.failures.InitFault.{InitFault}
use Rattle.book_desk_app.specs.declared.failures.InitFault.TheVariants.{Exists}

-- a file, by its name and its text
abbrev pub File : Type 0
File = List ℕ × List ℕ

abbrev pub is_named : List ℕ → List File → Bool
is_named name [] = false
is_named name (file ∷ more) = bytes_eq file.0 name || is_named name more

-- ---- where the files of a folder are known

-- one more was made
abbrev pub AddsFile : Option (List File) → Option (List File) → List ℕ → List ℕ → Type 0
AddsFile old new name text = IfSome old (λ files. new ≡ Some ((name, text) ∷ files))

abbrev pub KeepsFiles : Option (List File) → Option (List File) → Type 0
KeepsFiles old new = IfSome old (λ files. new ≡ Some files)

-- the one that was made last is gone
abbrev pub TakesBack : Option (List File) → Option (List File) → List ℕ → Type 0
TakesBack old new name = (text : List ℕ) (files : List File) → old ≡ Some ((name, text) ∷ files) → new ≡ Some files

-- ---- `init`

abbrev pub is_begun : List File → Bool
is_begun files = is_named (codes "policy.toml") files || is_named (codes "gateway.toml") files

-- neither file was there, and both are
abbrev pub MakesBoth : Option (List File) → Option (List File) → List ℕ → List ℕ → Type 0
MakesBoth old new policy settings =
    IfSome old (λ files. (is_begun files ≡ false) × (new ≡ Some ((codes "gateway.toml", settings) ∷ (codes "policy.toml", policy) ∷ files)))

-- nothing was made, and the fault tells where one was there
abbrev pub FailsToMake : Option (List File) → Option (List File) → InitFault → Type 0
FailsToMake old new fault = KeepsFiles old new × (fault ≡ Exists → IfSome old (λ files. is_begun files ≡ true))

-- both were made, and what comes next was written
abbrev pub Begins : Option (List File) → Option (List File) → List ℕ → List ℕ → List ℕ → Option (List ℕ) → Option (List ℕ) → Type 0
Begins old new policy settings next held holds = MakesBoth old new policy settings × Appends held holds next

-- they were not made and nothing was written, or they were and that could not be written
abbrev pub FailsToBegin : Option (List File) → Option (List File) → List ℕ → List ℕ → Failure → Option (List ℕ) → Option (List ℕ) → Type 0
FailsToBegin old new policy settings failure held holds =
    ((fault : InitFault) × (failure ≡ Init fault) × FailsToMake old new fault × Keeps held holds)
    ⊎ ((failure ≡ Output) × MakesBoth old new policy settings)
