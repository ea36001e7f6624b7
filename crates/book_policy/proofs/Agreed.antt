-- The faults of a text's table agree with the rules of the text.
use Rattle.std.proofs.Common.{◌≡◌, ◌≢◌, ◌⊎◌, ◌≤◌, ◌<◌, ◌+◌, ℕ, Bool, List, [], ◌∷◌, length, true, Some, None, inl, inr, refl, sym, ap, ◌∙◌, subst, arith}
use Rattle.std.specs.List.{AllByRecursion}
use Rattle.toml.specs.Data.{Members}
use Rattle.toml.specs.Parse.{parse_document}
use Rattle.book_limits.specs.declared.TheConstants.{MAX_POLICY_BYTES}
use Rattle.book_lists.proofs.Decided.{number_or_not}
use Rattle.book_office_values.proofs.OneName.{by_option}
use Rattle.book_policy.specs.Rules.{IsFaultOf, IsLeastBroken, IsPolicyOf, Rule, SpellsParts, number}
use Rattle.book_policy.specs.Shapes.{has_version_one, parts_in}
use Rattle.book_policy.specs.declared.faults.PolicyFault.{PolicyFault}
use Rattle.book_policy.specs.declared.faults.PolicyFault.TheVariants.{NotToml, OtherVersion, BadKey, BadName, NameTwice, UnknownPrincipal, UnknownResource, UnknownPrivilege, TooMany, Memory}
use Rattle.book_policy.specs.declared.parts.Parts.{Parts}
use Rattle.book_policy.proofs.Least.{lifted, same_table}
use Rattle.book_policy.proofs.RulesDecided.{policy_or_fault}
use Rattle.book_policy_values.specs.declared.parts.PolicyTables.{PolicyTables}
use Rattle.book_policy.specs.Agreement.{ChecksAgree}
use Rattle.book_policy_faults.specs.Laws.{HasNumber, least_of, order_of}
use Rattle.book_policy_faults.specs.Placing.{no_faults, noted, order}
use Rattle.book_policy_faults.specs.Tables.{faults_in}
use Rattle.book_policy_faults.specs.declared.places.PlacedFault.{PlacedFault}
use Rattle.book_policy_faults.specs.declared.places.Problem.{Problem}
use Rattle.book_policy_faults.specs.declared.places.Problem.TheVariants as problem
use Rattle.book_policy.proofs.Asked.{Ask, means_whole}
use Rattle.book_policy.proofs.Early.{free_version, version_free}
use Rattle.book_policy.proofs.Free.{Free}
use Rattle.book_policy.proofs.Kept.{few_asked, few_kept, known_asked, known_kept, named_parts, names_asked, names_kept, nothing_bad, once_asked, once_kept, places_asked, places_kept, privileges_asked, privileges_kept}
use Rattle.book_policy_faults.proofs.Told.{least_told}
use Rattle.book_policy.proofs.Tabled.{whole_free, whole_read}

-- ---- every problem is of a table that was read
numbered : (p : Problem) → (g : PolicyFault) × (number g ≡ order p)
numbered problem.UnknownKey = (BadKey, refl)
numbered problem.Missing = (BadKey, refl)
numbered problem.OtherKind = (BadKey, refl)
numbered problem.OtherVersion = (OtherVersion, refl)
numbered problem.LongLabel = (BadKey, refl)
numbered problem.NamesCount = (BadKey, refl)
numbered problem.Both = (BadKey, refl)
numbered problem.BadName = (BadName, refl)
numbered (problem.NameTwice other) = (NameTwice, refl)
numbered problem.UnknownPrincipal = (UnknownPrincipal, refl)
numbered problem.UnknownResource = (UnknownResource, refl)
numbered problem.UnknownPrivilege = (UnknownPrivilege, refl)
numbered problem.TooMany = (TooMany, refl)
numbered problem.LongList = (TooMany, refl)

between : (p : Problem) → (2 ≤ order p) × (order p ≤ 9)
between problem.UnknownKey = (omega arith, omega arith)
between problem.Missing = (omega arith, omega arith)
between problem.OtherKind = (omega arith, omega arith)
between problem.OtherVersion = (omega arith, omega arith)
between problem.LongLabel = (omega arith, omega arith)
between problem.NamesCount = (omega arith, omega arith)
between problem.Both = (omega arith, omega arith)
between problem.BadName = (omega arith, omega arith)
between (problem.NameTwice other) = (omega arith, omega arith)
between problem.UnknownPrincipal = (omega arith, omega arith)
between problem.UnknownResource = (omega arith, omega arith)
between problem.UnknownPrivilege = (omega arith, omega arith)
between problem.TooMany = (omega arith, omega arith)
between problem.LongList = (omega arith, omega arith)

free_outside : (n : ℕ) → (n < 2) ⊎ (9 < n) → (fs : List PlacedFault) → Free n fs
free_outside n out [] = tt
free_outside n out (f ∷ fs) = (λ e. outside (order f.problem) (between f.problem) e out, free_outside n out fs)
  where
    outside : (k : ℕ) → (2 ≤ k) × (k ≤ 9) → k ≡ n → (n < 2) ⊎ (9 < n) → ⊥
    outside k within e (inl below) = omega (arith, within.0, e, below)
    outside k within e (inr above) = omega (arith, within.1, e, above)

-- ---- the least of faults
some_number : (n : ℕ) (fs : List PlacedFault) → (Free n fs → ⊥) → HasNumber n fs
some_number n [] never = absurd (never tt)
some_number n (f ∷ fs) never = elim (number_or_not (order_of f) n) [ inl e ↦ inl e | inr apart ↦ inr (some_number n fs (λ h. never (apart, h))) ]

number_most : (k n : ℕ) (fs : List PlacedFault) → AllByRecursion (λ f. k ≤ order_of f) fs → HasNumber n fs → k ≤ n
number_most k n [] all h = absurd h
number_most k n (f ∷ fs) all (inl e) = let first = all.0 in omega (arith, first, e)
number_most k n (f ∷ fs) all (inr h) = number_most k n fs all.1 h

number_fault : (n : ℕ) (fs : List PlacedFault) → HasNumber n fs → (g : PolicyFault) × (number g ≡ n)
number_fault n [] h = absurd h
number_fault n (f ∷ fs) (inl e) = let it = numbered f.problem in (it.0, it.1 ∙ e)
number_fault n (f ∷ fs) (inr h) = number_fault n fs h

not_free : (n : ℕ) (fs : List PlacedFault) → HasNumber n fs → Free n fs → ⊥
not_free n [] h free = h
not_free n (f ∷ fs) (inl e) free = free.0 e
not_free n (f ∷ fs) (inr h) free = not_free n fs h free.1

none_from : (fs : List PlacedFault) → ((g : PolicyFault) → Free (number g) fs) → fs ≡ []
none_from [] free = refl
none_from (f ∷ fs) free = let it = numbered f.problem in absurd ((free it.0).0 (sym it.1))

not_below : (m n : ℕ) → (m < n → ⊥) → n ≤ m
not_below m n h = omega (arith, h)

module _ (text : List ℕ) (ms : Members) (is : parse_document text ≡ Some ms) where
  abbrev one : Bool
  one = has_version_one ms

  abbrev UpTo : ℕ → Type 0
  UpTo n = (g : PolicyFault) → number g ≤ n → Rule text g

  abbrev Below : ℕ → Type 0
  Below n = (g : PolicyFault) → number g < n → Rule text g

  up_below : (n : ℕ) → UpTo n → Below (n + 1)
  up_below n up g lt = up g (omega (arith, lt))

  below_of : (n : ℕ) (k : ℕ) → k ≤ n → Below n → Below k
  below_of n k le below g lt = below g (omega (arith, le, lt))

  record Spelled : Type 0 where
    parts : Parts
    are : parts_in ms ≡ Some parts
    spells : SpellsParts text parts

  -- a text of version 1 without a bad key spells parts
  spelled : Below 4 → Spelled
  spelled below =
      let version : one ≡ true = below OtherVersion (omega arith) ms is in
      by_option (parts_in ms) (λ none. absurd (below BadKey (omega arith) ms is none)) (λ parts e. record {
        parts = parts;
        are = e;
        spells = record { table = ms; toml = is; version = version; spelled = e };
      })

  from_ask : (n : ℕ) (parts : Parts) → parts_in ms ≡ Some parts → Ask n one parts → Free n (faults_in ms)
  from_ask n parts e a = subst (Free n) (sym (whole_read ms parts e)) ((means_whole n one parts).1 a)

  to_ask : (n : ℕ) (parts : Parts) → parts_in ms ≡ Some parts → Free n (faults_in ms) → Ask n one parts
  to_ask n parts e h = (means_whole n one parts).0 (subst (Free n) (whole_read ms parts e) h)

  -- ---- a rule that is kept
  rule_free : (g : PolicyFault) → UpTo (number g) → Free (number g) (faults_in ms)
  rule_free NotToml up = free_outside 1 (inl (omega arith)) (faults_in ms)
  rule_free OtherVersion up = version_free ms (up OtherVersion (omega arith) ms is)
  rule_free BadKey up = let s = spelled (up_below 3 up) in from_ask 3 s.parts s.are (nothing_bad s.parts one)
  rule_free BadName up =
      let s = spelled (below_of 5 4 (omega arith) (up_below 4 up)) in
      from_ask 4 s.parts s.are (names_asked s.parts one (up BadName (omega arith) s.parts s.spells))
  rule_free NameTwice up =
      let s = spelled (below_of 6 4 (omega arith) (up_below 5 up)) in
      from_ask 5 s.parts s.are (once_asked s.parts (named_parts s.parts (up BadName (omega arith) s.parts s.spells)) one (up NameTwice (omega arith) s.parts s.spells))
  rule_free UnknownPrincipal up =
      let s = spelled (below_of 7 4 (omega arith) (up_below 6 up)) in
      from_ask 6 s.parts s.are (known_asked s.parts (named_parts s.parts (up BadName (omega arith) s.parts s.spells)) one (up UnknownPrincipal (omega arith) s.parts s.spells))
  rule_free UnknownResource up =
      let s = spelled (below_of 8 4 (omega arith) (up_below 7 up)) in
      from_ask 7 s.parts s.are (places_asked s.parts (named_parts s.parts (up BadName (omega arith) s.parts s.spells)) one (up UnknownResource (omega arith) s.parts s.spells))
  rule_free UnknownPrivilege up =
      let s = spelled (below_of 9 4 (omega arith) (up_below 8 up)) in
      from_ask 8 s.parts s.are (privileges_asked s.parts one (up UnknownPrivilege (omega arith) s.parts s.spells))
  rule_free TooMany up =
      let s = spelled (below_of 10 4 (omega arith) (up_below 9 up)) in
      from_ask 9 s.parts s.are
      (few_asked s.parts (named_parts s.parts (up BadName (omega arith) s.parts s.spells)) (up UnknownPrincipal (omega arith) s.parts s.spells)
      (up UnknownResource (omega arith) s.parts s.spells) one (up TooMany (omega arith) s.parts s.spells))
  rule_free Memory up = free_outside 10 (inr (omega arith)) (faults_in ms)

  -- ---- faults that are free of a rule's fault
  free_rule : (g : PolicyFault) → Below (number g) → Free (number g) (faults_in ms) → Rule text g
  free_rule NotToml below h = λ none. let e : Some ms ≡ None = sym is ∙ none in absurd cc
  free_rule OtherVersion below h = λ t at. ap has_version_one (same_table text t ms at is) ∙ free_version ms h
  free_rule BadKey below h = λ t at none.
      let (parts, are) = whole_free ms h in
      let e : Some parts ≡ None = sym are ∙ ap parts_in (same_table text ms t is at) ∙ none in absurd cc
  free_rule BadName below h =
      let s = spelled below in lifted text s.parts s.spells BadName (names_kept s.parts one (to_ask 4 s.parts s.are h))
  free_rule NameTwice below h =
      let s = spelled (below_of 5 4 (omega arith) below) in
      lifted text s.parts s.spells NameTwice (once_kept s.parts (named_parts s.parts (below BadName (omega arith) s.parts s.spells)) one (to_ask 5 s.parts s.are h))
  free_rule UnknownPrincipal below h =
      let s = spelled (below_of 6 4 (omega arith) below) in
      lifted text s.parts s.spells UnknownPrincipal (known_kept s.parts (named_parts s.parts (below BadName (omega arith) s.parts s.spells)) one (to_ask 6 s.parts s.are h))
  free_rule UnknownResource below h =
      let s = spelled (below_of 7 4 (omega arith) below) in
      lifted text s.parts s.spells UnknownResource (places_kept s.parts (named_parts s.parts (below BadName (omega arith) s.parts s.spells)) one (to_ask 7 s.parts s.are h))
  free_rule UnknownPrivilege below h =
      let s = spelled (below_of 8 4 (omega arith) below) in
      lifted text s.parts s.spells UnknownPrivilege (privileges_kept s.parts one (to_ask 8 s.parts s.are h))
  free_rule TooMany below h =
      let s = spelled (below_of 9 4 (omega arith) below) in
      lifted text s.parts s.spells TooMany
      (few_kept s.parts (named_parts s.parts (below BadName (omega arith) s.parts s.spells)) (below UnknownPrincipal (omega arith) s.parts s.spells)
      (below UnknownResource (omega arith) s.parts s.spells) one (to_ask 9 s.parts s.are h))
  free_rule Memory below h = tt

  -- ---- the least fault
  abbrev L : ℕ
  L = least_of (noted no_faults (faults_in ms))

  pub least_is : (f : PolicyFault) → IsLeastBroken (Rule text) f → number f ≡ L
  least_is f l =
      let has = some_number (number f) (faults_in ms) (λ free. l.broken (free_rule f l.kept free)) in
      let top : L ≤ number f = number_most L (number f) (faults_in ms) (least_told (faults_in ms)).0 has in
      let here = (least_told (faults_in ms)).1 (λ e. subst (HasNumber (number f)) e has) in
      let (g, same) = number_fault L (faults_in ms) here in
      let low : number f ≤ L = not_below L (number f) (λ lt.
      not_free L (faults_in ms) here (subst (λ n. Free n (faults_in ms)) same (rule_free g (λ h le. l.kept h (omega (arith, le, same, lt)))))) in
      omega (arith, top, low)

  pub policy_none : (policy : PolicyTables) → IsPolicyOf text policy → faults_in ms ≡ []
  policy_none policy p = none_from (faults_in ms) (λ g. rule_free g (λ h _. p.rules h))

  module _ (short : length text ≤ MAX_POLICY_BYTES) where
    pub fault_is : (fault : PolicyFault) → IsFaultOf text fault → number fault ≡ L
    fault_is fault f = least_is fault (f.least short)

    some_fault : (fault : PolicyFault) → IsFaultOf text fault → faults_in ms ≢ []
    some_fault fault f none =
        let has = some_number (number fault) (faults_in ms) (λ free. (f.least short).broken (free_rule fault (f.least short).kept free)) in
        subst (HasNumber (number fault)) none has

    pub none_policy : faults_in ms ≡ [] → (policy : PolicyTables) × IsPolicyOf text policy
    none_policy none = elim (policy_or_fault text) [ inl p ↦ p | inr it ↦ absurd (some_fault it.0 it.1 none) ]

pub checks_agree : ChecksAgree
checks_agree text ms short is = ((λ p. policy_none text ms is p.0 p.1, λ none. none_policy text ms is short none), λ fault f. fault_is text ms is short fault f)
