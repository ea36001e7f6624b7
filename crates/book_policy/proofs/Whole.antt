-- The policy of parts, and of a text.
use Rattle.book_policy.proofs.Common.{◌≡◌, inl, inr, ◌<◌, ◌≤◌, ℕ, List, length, refl, sym, ap, ◌∙◌, subst, arith, true, Some, None, AllByRecursion, added, named_group, named_person, entry_part, Parts, empty, map}
use Rattle.std.proofs.Common.{◌⊎◌, ◌↔◌, Option, Result, Ok, Err, IfOk, IfSome, IfNone, IsSome}
use Rattle.std.proofs.lemmas.Bool.{cases_lt, false≢true}
use Rattle.std.proofs.lemmas.List.Elements.{All-from_recursion, recursion_from_All}
use Rattle.toml.specs.Data.{Members}
use Rattle.book_policy_values.specs.declared.parts.EntryPart.{EntryPart}
use Rattle.book_policy_values.specs.declared.parts.PolicyTables.{PolicyTables}
use Rattle.book_policy_values.specs.Policies.{HoldsSome, IsFaultless, policy_of}
use Rattle.book_policy_values.proofs.Faults.{all_mapped}
use Rattle.book_policy.specs.Passes.{HasPrivileges, IsNoPolicy, IsPolicyOfParts, IsReadable, IsShaped, KeepsNames, SpellsPolicy, fault_numbered}
use Rattle.book_policy.specs.Rules.{ArePrivileges, HasOneFault, HasOnePolicy, IsFaultOf, IsLeastBroken, IsPolicyOf, IsPrivilegeName, PartsRule, PolicyExcludesFault, Rule, SpellsParts, entries_in, number, policy_of_parts}
use Rattle.book_policy.specs.Shapes.{has_version_one, parts_in}
use Rattle.book_policy.specs.declared.faults.PolicyFault.{PolicyFault}
use Rattle.book_policy.specs.declared.faults.PolicyFault.TheVariants.{NotToml, OtherVersion, BadKey, BadName, NameTwice, UnknownPrincipal, UnknownResource, UnknownPrivilege, TooMany, Memory}
use Rattle.book_limits.specs.declared.TheConstants.{MAX_POLICY_BYTES}
use Rattle.book_policy.proofs.Labelled.{forms_of}
use Rattle.book_policy.proofs.Least.{all_rules, lifted, same_parts}
use Rattle.book_policy.proofs.Privileges.{holds_some}
use Rattle.book_policy.proofs.Shaped.{shaped}
use Rattle.book_policy.proofs.Words.{known_spells}

module _ (parts : Parts) where
  -- ---- entries as parts of a policy
  pub are_privileges : AllByRecursion HasPrivileges parts.entries → ArePrivileges parts.entries
  are_privileges h = λ k d within. All-from_recursion IsPrivilegeName _ ((All-from_recursion HasPrivileges parts.entries h) k d within)

  pub not_readable : (AllByRecursion IsReadable parts.entries → ⊥) → PartsRule parts UnknownPrincipal → ArePrivileges parts.entries → ⊥
  not_readable none known privileges =
      let forms = forms_of (added empty (map named_person parts.persons)) (added empty (map named_group parts.groups)) parts.entries known.forms in
      none (recursion_from_All IsReadable parts.entries (λ k d within. (
        known_spells (added empty (map named_person parts.persons)) (added empty (map named_group parts.groups)) _ (forms k d within),
        recursion_from_All IsPrivilegeName _ (privileges k d within),
      )))

  pub faultless_of : IsShaped parts → KeepsNames parts → ArePrivileges parts.entries → PartsRule parts TooMany → IsFaultless parts.persons parts.groups parts.books (entries_in parts)
  faultless_of s h privileges few = record {
    labels = s.labels;
    leaves = all_mapped (λ (e : EntryPart). HoldsSome e.entry.set) entry_part parts.entries (λ k d within. holds_some _ (s.named k d within) (privileges k d within));
    names = h.names;
    once = h.once;
    known = h.known;
    places = h.places;
    few = few;
  }

  -- ---- the policy that was made
  keeps : ((g : PolicyFault) → PartsRule parts g) → KeepsNames parts
  keeps rules = record { names = rules BadName; once = rules NameTwice; known = rules UnknownPrincipal; places = rules UnknownResource }

  pub unread : (AllByRecursion IsReadable parts.entries → ⊥) → IsNoPolicy parts
  unread none rules = not_readable none (rules UnknownPrincipal) (rules UnknownPrivilege)

  module _ (entries : List EntryPart) (are : entries ≡ entries_in parts) where
    pub made_some : {E : Type 0} (r : Result (Option PolicyTables) E) → AllByRecursion HasPrivileges parts.entries
        → IfOk r (λ found. IsSome found ↔ IsFaultless parts.persons parts.groups parts.books entries)
        → IfOk r (λ found. IfSome found (λ policy. policy ≡ policy_of parts.persons parts.groups parts.books entries))
        → IfOk r (λ found. IfSome found (IsPolicyOfParts parts))
    made_some (Ok None) privileges fine is = tt
    made_some (Ok (Some policy)) privileges fine is =
        let f = subst (λ (es : List EntryPart). IsFaultless parts.persons parts.groups parts.books es) are (fine.0 refl) in (
          all_rules parts (record { names = f.names; once = f.once; known = f.known; places = f.places }) (are_privileges privileges) f.few,
          is ∙ ap (λ (es : List EntryPart). policy_of parts.persons parts.groups parts.books es) are,
        )
    made_some (Err e) privileges fine is = tt

    pub made_none : {E : Type 0} (r : Result (Option PolicyTables) E) → IsShaped parts
        → IfOk r (λ found. IsSome found ↔ IsFaultless parts.persons parts.groups parts.books entries) → IfOk r (λ found. IfNone found (IsNoPolicy parts))
    made_none (Ok None) s fine = λ rules.
        let f = faultless_of s (keeps rules) (rules UnknownPrivilege) (rules TooMany) in
        false≢true (fine.1 (subst (λ (es : List EntryPart). IsFaultless parts.persons parts.groups parts.books es) (sym are) f))
    made_none (Ok (Some policy)) s fine = tt
    made_none (Err e) s fine = tt

pub text_policy : (text : List ℕ) (parts : Parts) (policy : PolicyTables) → length text ≤ MAX_POLICY_BYTES → SpellsParts text parts → IsPolicyOfParts parts policy → IsPolicyOf text policy
text_policy text parts policy short s h = record {
  short = short;
  rules = λ g. lifted text parts s g (h.0 g);
  parts = parts;
  spelled = s;
  is = h.1;
}

pub text_fault : (text : List ℕ) (fault : PolicyFault) → length text ≤ MAX_POLICY_BYTES → IsLeastBroken (Rule text) fault → IsFaultOf text fault
text_fault text fault short l = record { long = λ above. absurd (omega arith); least = λ _. l }

module _ (ms : Members) (parts : Parts) (version : has_version_one ms ≡ true) (are : parts_in ms ≡ Some parts) where
  pub spelled_some : {E : Type 0} (r : Result (Option PolicyTables) E) → (IsShaped parts → IfOk r (λ found. IfSome found (IsPolicyOfParts parts)))
      → IfOk r (λ found. IfSome found (SpellsPolicy ms))
  spelled_some r made = by_result r (made (shaped ms parts are))
    where
      by_result : {E : Type 0} (r : Result (Option PolicyTables) E) → IfOk r (λ found. IfSome found (IsPolicyOfParts parts)) → IfOk r (λ found. IfSome found (SpellsPolicy ms))
      by_result (Ok None) h = tt
      by_result (Ok (Some policy)) h = record { version = version; parts = parts; spelled = are; is = h }
      by_result (Err e) h = tt

  pub spelled_none : {E : Type 0} (r : Result (Option PolicyTables) E) → (IsShaped parts → IfOk r (λ found. IfNone found (IsNoPolicy parts)))
      → IfOk r (λ found. IfNone found ((policy : PolicyTables) → SpellsPolicy ms policy → ⊥))
  spelled_none r made = by_result r (made (shaped ms parts are))
    where
      by_result : {E : Type 0} (r : Result (Option PolicyTables) E) → IfOk r (λ found. IfNone found (IsNoPolicy parts))
          → IfOk r (λ found. IfNone found ((policy : PolicyTables) → SpellsPolicy ms policy → ⊥))
      by_result (Ok None) h = λ policy p.
          let same : p.parts ≡ parts = (let e : Some p.parts ≡ Some parts = sym p.spelled ∙ are in cc) in
          h (λ g. subst (λ (q : Parts). PartsRule q g) same (p.is.0 g))
      by_result (Ok (Some policy)) h = tt
      by_result (Err e) h = tt

-- ---- laws
pub one_policy : HasOnePolicy
one_policy text policy other a b = a.is ∙ ap policy_of_parts (same_parts text a.parts b.parts a.spelled b.spelled) ∙ sym b.is

pub numbered : (f : PolicyFault) → fault_numbered (number f) ≡ f
numbered NotToml = refl
numbered OtherVersion = refl
numbered BadKey = refl
numbered BadName = refl
numbered NameTwice = refl
numbered UnknownPrincipal = refl
numbered UnknownResource = refl
numbered UnknownPrivilege = refl
numbered TooMany = refl
numbered Memory = refl

not_below : (K : PolicyFault → Type 0) (f g : PolicyFault) → IsLeastBroken K f → IsLeastBroken K g → number g ≤ number f
not_below K f g a b = not_lt (number f) (number g) (λ lt. a.broken (b.kept f lt))
  where
    not_lt : (m n : ℕ) → (m < n → ⊥) → n ≤ m
    not_lt m n h = omega (arith, h)

one_least : (K : PolicyFault → Type 0) (f g : PolicyFault) → IsLeastBroken K f → IsLeastBroken K g → f ≡ g
one_least K f g a b =
    let le = not_below K f g a b in
    let ge = not_below K g f b a in
    let same : number f ≡ number g = omega (arith, le, ge) in
    sym (numbered f) ∙ ap fault_numbered same ∙ numbered g

pub one_fault : HasOneFault
one_fault text fault other a b = by_length (cases_lt MAX_POLICY_BYTES (length text))
  where
    by_length : (MAX_POLICY_BYTES < length text) ⊎ (length text ≤ MAX_POLICY_BYTES) → fault ≡ other
    by_length (inl long) = a.long long ∙ sym (b.long long)
    by_length (inr short) = one_least (Rule text) fault other (a.least short) (b.least short)

pub policy_no_fault : PolicyExcludesFault
policy_no_fault text policy fault p f = (f.least p.short).broken (p.rules fault)
