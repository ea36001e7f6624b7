-- Which version a store says that it is of, whatever its schema.
use Rattle.std.specs.Prelude.{◌≡◌, ◌⊎◌, ℕ, pos, nat_eq, Bool, false, not, List, [], ◌∷◌, codes}
use Rattle.sqlite.specs.declared.error.Error.TheVariants.{SqlInputError}
use Rattle.sqlite.specs.declared.types.Value.{Value}
use Rattle.sqlite.specs.declared.types.Value.TheVariants.{Int}
use Rattle.sqlite.specs.Order.{Row, column}
use Rattle.sqlite.specs.State.{State, Shown, FailsToQuery, IsTooLate}
use Rattle.sqlite_resolve.specs.declared.error.CompileError.{CompileError}

abbrev pub read_version : List ℕ
read_version = codes "SELECT version FROM meta"

-- the one column that is shown
abbrev pub told_version : Row → Value
told_version row = column row 0

abbrev pub is_version : ℕ → Value → Bool
is_version version (Int (pos n)) = nat_eq n version
is_version version _ = false

-- one row, whose version is not this one
abbrev pub is_other : ℕ → List Row → Bool
is_other version [] = false
is_other version (row ∷ []) = not (is_version version (told_version row))
is_other version (row ∷ next ∷ rows) = false

-- SQL does not understand the text under the schema that is there
abbrev pub CannotRead : State → State → Type 0
CannotRead old new = (fault : CompileError) × (FailsToQuery read_version [] old new (SqlInputError fault) ⊎ IsTooLate read_version [] old new (SqlInputError fault))

-- whether the text shows one row, whose version is not this one
abbrev pub SaysOther : ℕ → State → State → Bool → Type 0
SaysOther version old new other = ((rows : List Row) × Shown read_version [] old new rows × (other ≡ is_other version rows)) ⊎ (CannotRead old new × (other ≡ false))
