-- The answer of a text whose table was read: its policy, or its least fault.
use Rattle.book_policy.proofs.Common.{◌≡◌, ◌≤◌, ℕ, List, length, Some, inr, sym, ap, ◌∙◌, subst, Parts}
use Rattle.std.proofs.Common.{inl}
use Rattle.toml.specs.Data.{Members}
use Rattle.toml.specs.Parse.{parse_document}
use Rattle.book_limits.specs.declared.TheConstants.{MAX_POLICY_BYTES}
use Rattle.book_policy_values.specs.declared.parts.PolicyTables.{PolicyTables}
use Rattle.book_policy_faults.specs.Laws.{least_of}
use Rattle.book_policy_faults.specs.Placing.{no_faults, noted}
use Rattle.book_policy_faults.specs.Tables.{faults_in}
use Rattle.book_policy.specs.Passes.{SpellsPolicy, fault_numbered}
use Rattle.book_policy.specs.Rules.{IsFaultOf, IsPolicyOf, PartsRule, Rule, SpellsParts}
use Rattle.book_policy.specs.Shapes.{has_version_one, parts_in}
use Rattle.book_policy.specs.declared.faults.PolicyFault.{PolicyFault}
use Rattle.book_policy.specs.declared.faults.PolicyFault.TheVariants.{NotToml, OtherVersion, BadKey, BadName, NameTwice, UnknownPrincipal, UnknownResource, UnknownPrivilege, TooMany, Memory}
use Rattle.book_policy.proofs.Agreed.{fault_is}
use Rattle.book_policy.proofs.Least.{same_table}
use Rattle.book_policy.proofs.RulesDecided.{policy_or_fault}
use Rattle.book_policy.proofs.Whole.{numbered, text_policy}

-- a rule of a text is a rule of the parts that it spells
rule_of_parts : (text : List ℕ) (parts : Parts) → SpellsParts text parts → (g : PolicyFault) → Rule text g → PartsRule parts g
rule_of_parts text parts s NotToml r = tt
rule_of_parts text parts s OtherVersion r = tt
rule_of_parts text parts s BadKey r = tt
rule_of_parts text parts s BadName r = r parts s
rule_of_parts text parts s NameTwice r = r parts s
rule_of_parts text parts s UnknownPrincipal r = r parts s
rule_of_parts text parts s UnknownResource r = r parts s
rule_of_parts text parts s UnknownPrivilege r = r parts s
rule_of_parts text parts s TooMany r = r parts s
rule_of_parts text parts s Memory r = tt

module _ (text : List ℕ) (ms : Members) (short : length text ≤ MAX_POLICY_BYTES) (is : parse_document text ≡ Some ms) where
  pub policy_is : (policy : PolicyTables) → SpellsPolicy ms policy → IsPolicyOf text policy
  policy_is policy p = text_policy text p.parts policy short (record { table = ms; toml = is; version = p.version; spelled = p.spelled }) p.is

  spells : (policy : PolicyTables) → IsPolicyOf text policy → SpellsPolicy ms policy
  spells policy p =
      let same : p.spelled.table ≡ ms = same_table text p.spelled.table ms p.spelled.toml is in
      record {
        version = ap has_version_one (sym same) ∙ p.spelled.version;
        parts = p.parts;
        spelled = ap parts_in (sym same) ∙ p.spelled.spelled;
        is = (λ g. rule_of_parts text p.parts p.spelled g (p.rules g), p.is);
      }

  pub fault_found : (fault : PolicyFault) → ((policy : PolicyTables) → SpellsPolicy ms policy → ⊥)
      → fault ≡ fault_numbered (least_of (noted no_faults (faults_in ms))) → IsFaultOf text fault
  fault_found fault none told = elim (policy_or_fault text) [
    | inl p ↦ absurd (none p.0 (spells p.0 p.1))
    | inr it ↦ subst (IsFaultOf text) (sym (told ∙ ap fault_numbered (sym (fault_is text ms is short it.0 it.1)) ∙ numbered it.0)) it.1
  ]
