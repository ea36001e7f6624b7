-- The faults of a table, each with its place, and the rules of its text.
use Rattle.std.specs.Prelude.{◌≡◌, ◌≤◌, ◌↔◌, ℕ, List, [], length, Some}
use Rattle.toml.specs.Data.{Members}
use Rattle.toml.specs.Parse.{parse_document}
use Rattle.book_limits.specs.declared.TheConstants.{MAX_POLICY_BYTES}
use Rattle.book_policy_values.specs.declared.parts.PolicyTables.{PolicyTables}
use Rattle.book_policy_faults.specs.Laws.{least_of}
use Rattle.book_policy_faults.specs.Placing.{no_faults, noted}
use Rattle.book_policy_faults.specs.Tables.{faults_in}
use Rattle.book_policy.specs.Rules.{IsFaultOf, IsPolicyOf, number}
use Rattle.book_policy.specs.declared.faults.PolicyFault.{PolicyFault}

-- the table of a text within the bound has no fault exactly where the text is a policy, and else the least of its faults is the one that the
-- text has
abbrev pub ChecksAgree : Type 0
ChecksAgree =
    (text : List ℕ) (table : Members) → length text ≤ MAX_POLICY_BYTES → parse_document text ≡ Some table
    → (((policy : PolicyTables) × IsPolicyOf text policy) ↔ (faults_in table ≡ []))
    × ((fault : PolicyFault) → IsFaultOf text fault → number fault ≡ least_of (noted no_faults (faults_in table)))
