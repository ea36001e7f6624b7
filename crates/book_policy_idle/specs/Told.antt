-- What is told of the entries of a policy.
use Rattle.std.specs.Prelude.{◌≡◌, ℕ, ◌+◌, List, [], ◌∷◌, ◌++◌, Option, Some, None}
use Rattle.book_policy_values.specs.declared.parts.PolicyEntry.{PolicyEntry}
use Rattle.book_policy_values.specs.declared.parts.PolicyTables.{PolicyTables}
use Rattle.book_policy_idle.specs.Alike.{CanGo}
use Rattle.book_policy_idle.specs.Idle.{NeverDecides}
use Rattle.book_policy_idle.specs.Reasons.{IsReason}
use Rattle.book_policy_idle.specs.declared.idle.IdleEntry.{IdleEntry}
use Rattle.book_policy_idle.specs.declared.reasons.Reason.{Reason}

-- the entry with an index is told for this reason, or it is not told
abbrev pub IsToldFor : PolicyTables → ℕ → PolicyEntry → Option Reason → Type 0
IsToldFor t i e None = (NeverDecides t i → ⊥) × (CanGo t i e → ⊥)
IsToldFor t i e (Some reason) = IsReason t e i reason

-- an entry as it is told: its number from 1, where it stands, to whom it applies, and why it changes no decision
abbrev pub told_for : ℕ → PolicyEntry → Option Reason → List IdleEntry
told_for i e None = []
told_for i e (Some reason) = record { number = i + 1; at = e.at; who = e.entry.who; reason = reason } ∷ []

-- one entry more
pub record AddsTold (t : PolicyTables) (i : ℕ) (e : PolicyEntry) (old new : List IdleEntry) : Type 0 where
  pub reason : Option Reason
  pub right : IsToldFor t i e reason
  pub told : new ≡ old ++ told_for i e reason

-- what is told of some entries, of which the first has index i
abbrev pub AreTold : PolicyTables → ℕ → List PolicyEntry → List IdleEntry → Type 0
AreTold t i [] told = told ≡ []
AreTold t i (e ∷ es) told = (reason : Option Reason) × (rest : List IdleEntry) × IsToldFor t i e reason × (told ≡ told_for i e reason ++ rest) × AreTold t (i + 1) es rest

-- exactly the entries that decide no leaf for anybody, and those without which the same is decided, each once, in order, and why
abbrev pub AreIdle : PolicyTables → List IdleEntry → Type 0
AreIdle t told = AreTold t 0 t.entries told
