-- What is told, where the writer of lines takes each text to its end (own profile).
use Rattle.std.specs.Prelude.{ℕ, Bool, List, ◌++◌, codes, Option, IsTrue}
use Rattle.std.specs.Io.KnownBytes.{Appends}
use Rattle.book_policy.specs.FaultNames.{fault_name}
use Rattle.book_policy.specs.declared.faults.PolicyFault.{PolicyFault}
use Rattle.book_desk_app.specs.Failures.{IsTold, failure_text}
use Rattle.book_desk_app.specs.declared.failures.Failure.{Failure}

abbrev pub policy_text : PolicyFault → List ℕ
policy_text fault = codes "policy: " ++ fault_name fault

-- a text is told: where the writer took each text to its end, it did so before, and got all of this one
pub record Tells (was_whole is_whole : Bool) (held holds : Option (List ℕ)) (text : List ℕ) : Type 0 where
  pub before : IsTrue is_whole → IsTrue was_whole
  pub told : IsTrue is_whole → Appends held holds text

-- the writer got a beginning of the failure's line, and all of it where it took each text to its end
pub record TellsFailure (is_whole : Bool) (held holds : Option (List ℕ)) (failure : Failure) : Type 0 where
  pub front : IsTold (failure_text failure) held holds
  pub line : IsTrue is_whole → Appends held holds (failure_text failure ++ codes "\n")

-- the same of any text
pub record TellsLine (is_whole : Bool) (held holds : Option (List ℕ)) (text : List ℕ) : Type 0 where
  pub front : IsTold text held holds
  pub line : IsTrue is_whole → Appends held holds (text ++ codes "\n")
