-- The policy that bytes spell.
use Rattle.std.specs.Prelude.{◌≡◌, ◌⊎◌, ℕ, List}
use Rattle.std.specs.Str.{IsUtf8}
use Rattle.book_policy_values.specs.declared.parts.PolicyTables.{PolicyTables}
use Rattle.book_policy.specs.Rules.{IsFaultOf, IsPolicyOf}
use Rattle.book_policy.specs.declared.faults.PolicyFault.{PolicyFault}
use Rattle.book_policy.specs.declared.faults.PolicyFault.TheVariants as faults
use Rattle.book_desk_app.specs.declared.text_failures.InputFault.TheVariants.{NotUtf8}
use Rattle.book_desk_app.specs.declared.failures.Failure.{Failure}
use Rattle.book_desk_app.specs.declared.failures.Failure.TheVariants.{Input, Policy}

-- the bytes are the text of the policy
abbrev pub SpellsPolicy : List ℕ → PolicyTables → Type 0
SpellsPolicy bytes policy = IsUtf8 bytes × IsPolicyOf bytes policy

-- the bytes are no text; or a text that has the fault, want of memory aside
abbrev pub GivesNoPolicy : List ℕ → Failure → Type 0
GivesNoPolicy bytes failure =
    ((failure ≡ Input NotUtf8) × ¬ IsUtf8 bytes)
    ⊎ ((fault : PolicyFault) × (failure ≡ Policy fault) × IsUtf8 bytes × ((fault ≡ faults.Memory) ⊎ IsFaultOf bytes fault))
