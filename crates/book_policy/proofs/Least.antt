-- The least fault of parts, and of a text that spells them.
use Rattle.book_policy.proofs.Common.{◌≡◌, ◌<◌, ◌≤◌, ℕ, List, Some, None, true, false, sym, ◌∙◌, ap, subst, arith, Parts}
use Rattle.std.proofs.Common.{◌≢◌}
use Rattle.toml.specs.Data.{Members}
use Rattle.toml.specs.Parse.{parse_document}
use Rattle.book_policy.specs.Passes.{KeepsNames}
use Rattle.book_policy.specs.Shapes.{has_version_one, parts_in}
use Rattle.book_policy.specs.Rules.{IsLeastBroken, PartsRule, Rule, SpellsParts, number}
use Rattle.book_policy.specs.declared.faults.PolicyFault.{PolicyFault}
use Rattle.book_policy.specs.declared.faults.PolicyFault.TheVariants.{NotToml, OtherVersion, BadKey, BadName, NameTwice, UnknownPrincipal, UnknownResource, UnknownPrivilege, TooMany, Memory}

-- the rules before a fault, each given where it comes before
below : (K : PolicyFault → Type 0) (n : ℕ) → (1 < n → K NotToml) → (2 < n → K OtherVersion) → (3 < n → K BadKey) → (4 < n → K BadName)
    → (5 < n → K NameTwice) → (6 < n → K UnknownPrincipal) → (7 < n → K UnknownResource) → (8 < n → K UnknownPrivilege) → (9 < n → K TooMany)
    → (10 < n → K Memory) → (g : PolicyFault) → number g < n → K g
below K n a b c d e f h i j k NotToml l = a l
below K n a b c d e f h i j k OtherVersion l = b l
below K n a b c d e f h i j k BadKey l = c l
below K n a b c d e f h i j k BadName l = d l
below K n a b c d e f h i j k NameTwice l = e l
below K n a b c d e f h i j k UnknownPrincipal l = f l
below K n a b c d e f h i j k UnknownResource l = h l
below K n a b c d e f h i j k UnknownPrivilege l = i l
below K n a b c d e f h i j k TooMany l = j l
below K n a b c d e f h i j k Memory l = k l

later : {P : Type 0} (n m : ℕ) → m ≤ n → n < m → P
later n m le l = absurd (omega (arith, le, l))

-- ---- parts
module _ (parts : Parts) where
  abbrev K : PolicyFault → Type 0
  K = PartsRule parts

  pub bad_name : (K BadName → ⊥) → IsLeastBroken K BadName
  bad_name not = record {
    broken = not;
    kept = λ g l. below K 4 (λ _. tt) (λ _. tt) (λ _. tt) (λ l. later 4 4 (omega arith) l) (λ l. later 5 4 (omega arith) l) (λ l. later 6 4 (omega arith) l)
        (λ l. later 7 4 (omega arith) l) (λ l. later 8 4 (omega arith) l) (λ l. later 9 4 (omega arith) l) (λ _. tt) g l;
  }

  pub name_twice : K BadName → (K NameTwice → ⊥) → IsLeastBroken K NameTwice
  name_twice n not = record {
    broken = not;
    kept = λ g l. below K 5 (λ _. tt) (λ _. tt) (λ _. tt) (λ _. n) (λ l. later 5 5 (omega arith) l) (λ l. later 6 5 (omega arith) l)
        (λ l. later 7 5 (omega arith) l) (λ l. later 8 5 (omega arith) l) (λ l. later 9 5 (omega arith) l) (λ _. tt) g l;
  }

  pub unknown_principal : K BadName → K NameTwice → (K UnknownPrincipal → ⊥) → IsLeastBroken K UnknownPrincipal
  unknown_principal n o not = record {
    broken = not;
    kept = λ g l. below K 6 (λ _. tt) (λ _. tt) (λ _. tt) (λ _. n) (λ _. o) (λ l. later 6 6 (omega arith) l)
        (λ l. later 7 6 (omega arith) l) (λ l. later 8 6 (omega arith) l) (λ l. later 9 6 (omega arith) l) (λ _. tt) g l;
  }

  pub unknown_resource : K BadName → K NameTwice → K UnknownPrincipal → (K UnknownResource → ⊥) → IsLeastBroken K UnknownResource
  unknown_resource n o k not = record {
    broken = not;
    kept = λ g l. below K 7 (λ _. tt) (λ _. tt) (λ _. tt) (λ _. n) (λ _. o) (λ _. k)
        (λ l. later 7 7 (omega arith) l) (λ l. later 8 7 (omega arith) l) (λ l. later 9 7 (omega arith) l) (λ _. tt) g l;
  }

  pub unknown_privilege : KeepsNames parts → (K UnknownPrivilege → ⊥) → IsLeastBroken K UnknownPrivilege
  unknown_privilege h not = record {
    broken = not;
    kept = λ g l. below K 8 (λ _. tt) (λ _. tt) (λ _. tt) (λ _. h.names) (λ _. h.once) (λ _. h.known) (λ _. h.places)
        (λ l. later 8 8 (omega arith) l) (λ l. later 9 8 (omega arith) l) (λ _. tt) g l;
  }

  pub too_many : KeepsNames parts → K UnknownPrivilege → (K TooMany → ⊥) → IsLeastBroken K TooMany
  too_many h p not = record {
    broken = not;
    kept = λ g l. below K 9 (λ _. tt) (λ _. tt) (λ _. tt) (λ _. h.names) (λ _. h.once) (λ _. h.known) (λ _. h.places) (λ _. p)
        (λ l. later 9 9 (omega arith) l) (λ _. tt) g l;
  }

  pub all_rules : KeepsNames parts → K UnknownPrivilege → K TooMany → (g : PolicyFault) → K g
  all_rules h p f NotToml = tt
  all_rules h p f OtherVersion = tt
  all_rules h p f BadKey = tt
  all_rules h p f BadName = h.names
  all_rules h p f NameTwice = h.once
  all_rules h p f UnknownPrincipal = h.known
  all_rules h p f UnknownResource = h.places
  all_rules h p f UnknownPrivilege = p
  all_rules h p f TooMany = f
  all_rules h p f Memory = tt

-- ---- a text
pub same_table : (text : List ℕ) (t u : Members) → parse_document text ≡ Some t → parse_document text ≡ Some u → t ≡ u
same_table text t u a b = let e : Some t ≡ Some u = sym a ∙ b in cc

pub same_parts : (text : List ℕ) (p q : Parts) → SpellsParts text p → SpellsParts text q → p ≡ q
same_parts text p q a b =
    let t : a.table ≡ b.table = same_table text a.table b.table a.toml b.toml in
    let e : Some p ≡ Some q = sym a.spelled ∙ ap parts_in t ∙ b.spelled in
    cc

module _ (text : List ℕ) (parts : Parts) (s : SpellsParts text parts) where
  -- a rule of the parts is a rule of the text
  of_parts : (f : PolicyFault) → PartsRule parts f → (q : Parts) → SpellsParts text q → PartsRule q f
  of_parts f h q t = subst (λ (x : Parts). PartsRule x f) (same_parts text parts q s t) h

  pub lifted : (g : PolicyFault) → PartsRule parts g → Rule text g
  lifted NotToml h = λ none. let e : Some s.table ≡ None = sym s.toml ∙ none in absurd cc
  lifted OtherVersion h = λ t is. ap has_version_one (same_table text t s.table is s.toml) ∙ s.version
  lifted BadKey h = λ t is none. let e : Some parts ≡ None = sym s.spelled ∙ ap parts_in (same_table text s.table t s.toml is) ∙ none in absurd cc
  lifted BadName h = of_parts BadName h
  lifted NameTwice h = of_parts NameTwice h
  lifted UnknownPrincipal h = of_parts UnknownPrincipal h
  lifted UnknownResource h = of_parts UnknownResource h
  lifted UnknownPrivilege h = of_parts UnknownPrivilege h
  lifted TooMany h = of_parts TooMany h
  lifted Memory h = tt

  still_broken : (f : PolicyFault) → (PartsRule parts f → ⊥) → Rule text f → ⊥
  still_broken NotToml h r = h tt
  still_broken OtherVersion h r = h tt
  still_broken BadKey h r = h tt
  still_broken BadName h r = h (r parts s)
  still_broken NameTwice h r = h (r parts s)
  still_broken UnknownPrincipal h r = h (r parts s)
  still_broken UnknownResource h r = h (r parts s)
  still_broken UnknownPrivilege h r = h (r parts s)
  still_broken TooMany h r = h (r parts s)
  still_broken Memory h r = h tt

  pub least_of_text : (f : PolicyFault) → IsLeastBroken (PartsRule parts) f → IsLeastBroken (Rule text) f
  least_of_text f l = record { broken = still_broken f l.broken; kept = λ g first. lifted g (l.kept g first) }

-- ---- the faults before the parts
pub not_toml : (text : List ℕ) → parse_document text ≡ None → IsLeastBroken (Rule text) NotToml
not_toml text none = record { broken = λ r. r none; kept = λ g l. absurd (nothing_first g l) }
  where
    nothing_first : (g : PolicyFault) → number g < 1 → ⊥
    nothing_first g l = below (λ _. ⊥) 1 (λ l. later 1 1 (omega arith) l) (λ l. later 2 1 (omega arith) l) (λ l. later 3 1 (omega arith) l) (λ l. later 4 1 (omega arith) l)
        (λ l. later 5 1 (omega arith) l) (λ l. later 6 1 (omega arith) l) (λ l. later 7 1 (omega arith) l) (λ l. later 8 1 (omega arith) l) (λ l. later 9 1 (omega arith) l)
        (λ l. later 10 1 (omega arith) l) g l

module _ (text : List ℕ) (table : Members) (is : parse_document text ≡ Some table) where
  toml : parse_document text ≢ None
  toml none = let e : Some table ≡ None = sym is ∙ none in absurd cc

  pub other_version : has_version_one table ≡ false → IsLeastBroken (Rule text) OtherVersion
  other_version wrong = record {
    broken = λ r. let e : true ≡ false = sym (r table is) ∙ wrong in absurd cc;
    kept = λ g l. below (Rule text) 2 (λ _. toml) (λ l. later 2 2 (omega arith) l) (λ l. later 3 2 (omega arith) l) (λ l. later 4 2 (omega arith) l)
        (λ l. later 5 2 (omega arith) l) (λ l. later 6 2 (omega arith) l) (λ l. later 7 2 (omega arith) l) (λ l. later 8 2 (omega arith) l) (λ l. later 9 2 (omega arith) l)
        (λ _. tt) g l;
  }

  pub bad_key : has_version_one table ≡ true → parts_in table ≡ None → IsLeastBroken (Rule text) BadKey
  bad_key version none = record {
    broken = λ r. r table is none;
    kept = λ g l. below (Rule text) 3 (λ _. toml) (λ _. λ t at. ap has_version_one (same_table text t table at is) ∙ version) (λ l. later 3 3 (omega arith) l)
        (λ l. later 4 3 (omega arith) l) (λ l. later 5 3 (omega arith) l) (λ l. later 6 3 (omega arith) l) (λ l. later 7 3 (omega arith) l) (λ l. later 8 3 (omega arith) l)
        (λ l. later 9 3 (omega arith) l) (λ _. tt) g l;
  }
