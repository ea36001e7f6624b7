-- Each rule on parts is kept or broken, so that each text has a policy or a fault.
use Rattle.book_policy.proofs.Common.{◌≡◌, drop, subst, sym, List, ap, refl, ℕ, [], map, ◌∷◌, arith, inl, inr, length, ◌≤◌, Bool, None, Some, true, false, ◌++◌, All, AllByRecursion, Path, NamesPrincipal, NamesForm, BookPart, GroupPart, EntryText, Parts}
use Rattle.std.proofs.Common.{◌⊎◌, ◌≢◌, Option, codes, filter, if◌then◌else◌}
use Rattle.std.proofs.lemmas.Bool.{and_parts, cases_lt, false≢true}
use Rattle.std.proofs.lemmas.Slice.Eq.{bytes_eq-Decides}
use Rattle.std.specs.FinMap.{get}
use Rattle.std.specs.FinSet as set
use Rattle.toml.specs.Data.{Members}
use Rattle.toml.specs.Parse.{parse_document}
use Rattle.book_limits.specs.declared.TheConstants.{MAX_ENTRIES, MAX_MEMBERS, MAX_NAMED, MAX_POLICY_BYTES}
use Rattle.book_lists.specs.Names.{IsName}
use Rattle.book_lists.specs.declared.entries.Entry.{Entry}
use Rattle.book_lists.specs.declared.entries.Who.{Who}
use Rattle.book_lists.specs.declared.entries.Who.TheVariants.{Href, Everyone, Authenticated, Unauthenticated, Owner, Own}
use Rattle.book_lists.proofs.Elements.{Mem}
use Rattle.book_lists.proofs.Decided.{OrNot, both_or_not, each_in_turn, each_or_not, either_or_not, mem_all, most_or_not, name_or_not, not_or_not, one_of, pairs_or_not, privilege_or_not, same_as, text_or_not, there_or_not, three_or_not}
use Rattle.book_office_values.specs.Names.{NamesTo}
use Rattle.book_office_values.specs.Paths.{IsPath, IsShort, SpellsPath, path_text}
use Rattle.book_office_values.specs.declared.paths.Path.TheVariants as path
use Rattle.book_policy_values.proofs.Paths.{place_spelled, principal_spelled}
use Rattle.book_policy_values.specs.Policies.{AreKnown, AreNames, AreOnce, IsFew, IsKnown, IsPlaceOf, IsPrincipalOf, NamesOwner, NamesPlace, entries_at, entry_of, given_members, memberships, paired, policy_of, spelled, stands_at}
use Rattle.book_policy_values.specs.declared.parts.EntryPart.{EntryPart}
use Rattle.book_policy_values.specs.declared.parts.PersonPart.{PersonPart}
use Rattle.book_policy_values.specs.declared.parts.PolicyBook.{PolicyBook}
use Rattle.book_policy_values.specs.declared.parts.PolicyEntry.{PolicyEntry}
use Rattle.book_policy_values.specs.declared.parts.PolicyTables.{PolicyTables}
use Rattle.book_policy.proofs.Least.{all_rules, bad_key, bad_name, least_of_text, name_twice, not_toml, other_version, too_many, unknown_principal, unknown_privilege, unknown_resource}
use Rattle.book_policy.proofs.Whole.{text_fault, text_policy}
use Rattle.book_policy.specs.Passes.{KeepsNames}
use Rattle.book_policy.specs.Rules.{HasPolicyOrFault, IsFaultOf, IsLeastBroken, IsPolicyOf, IsPrivilegeName, PartsRule, SpellsParts, entries_in, policy_of_parts}
use Rattle.book_policy.specs.Shapes.{has_version_one, parts_in}
use Rattle.book_policy.specs.declared.faults.PolicyFault.{PolicyFault}
use Rattle.book_policy.specs.declared.faults.PolicyFault.TheVariants.{NotToml, OtherVersion, BadKey, BadName, NameTwice, UnknownPrincipal, UnknownResource, UnknownPrivilege, TooMany}

-- ---- paths
path_or_not : (p : Path) → OrNot (IsPath p)
path_or_not path.Root = inl tt
path_or_not path.People = inl tt
path_or_not path.Groups = inl tt
path_or_not path.Books = inl tt
path_or_not (path.Person name) = name_or_not name
path_or_not (path.Group name) = name_or_not name
path_or_not (path.Book name) = name_or_not name
path_or_not (path.Card book name) = both_or_not (name_or_not book) (name_or_not name)

short_or_not : (p : Path) → OrNot (IsShort p)
short_or_not path.Root = inr false≢true
short_or_not path.People = inl refl
short_or_not path.Groups = inl refl
short_or_not path.Books = inl refl
short_or_not (path.Person name) = inl refl
short_or_not (path.Group name) = inl refl
short_or_not (path.Book name) = inl refl
short_or_not (path.Card book name) = inr false≢true

spells_or_not : (text : List ℕ) (p : Path) → OrNot (SpellsPath text p)
spells_or_not text p = either_or_not (text_or_not text (path_text p)) (both_or_not (short_or_not p) (text_or_not text (path_text p ++ codes "/")))

-- a path with a fact that settles its text is one of these, or there is none
module _ (Fact : Path → Type 0) (test : (p : Path) → OrNot (Fact p)) (text : List ℕ) (says : (p : Path) → Fact p → path_text p ≡ text)
    (no_card : (b c : List ℕ) → Fact (path.Card b c) → ⊥) where
  abbrev candidates : List Path
  candidates = path.Root ∷ path.People ∷ path.Groups ∷ path.Books ∷ path.Person (drop 8 text) ∷ path.Group (drop 8 text) ∷ path.Book (drop 7 text) ∷ []

  is_candidate : (p : Path) → Fact p → Mem p candidates
  is_candidate path.Root f = inl refl
  is_candidate path.People f = inr (inl refl)
  is_candidate path.Groups f = inr (inr (inl refl))
  is_candidate path.Books f = inr (inr (inr (inl refl)))
  is_candidate (path.Person name) f = inr (inr (inr (inr (inl (ap (λ t. path.Person (drop 8 t)) (says (path.Person name) f))))))
  is_candidate (path.Group name) f = inr (inr (inr (inr (inr (inl (ap (λ t. path.Group (drop 8 t)) (says (path.Group name) f)))))))
  is_candidate (path.Book name) f = inr (inr (inr (inr (inr (inr (inl (ap (λ t. path.Book (drop 7 t)) (says (path.Book name) f))))))))
  is_candidate (path.Card b c) f = absurd (no_card b c f)

  path_with : OrNot ((p : Path) × Fact p)
  path_with = elim (one_of Fact test candidates) [
    | inl found ↦ inl found
    | inr none ↦ inr (λ it. none it.0 (is_candidate it.0 it.1) it.1)
  ]

module _ (persons groups : NamesTo (List ℕ)) where
  principal_or_not : (p : Path) → OrNot (IsPrincipalOf persons groups p)
  principal_or_not path.Root = inr (λ h. h)
  principal_or_not path.People = inr (λ h. h)
  principal_or_not path.Groups = inr (λ h. h)
  principal_or_not path.Books = inr (λ h. h)
  principal_or_not (path.Person name) = there_or_not (get persons name)
  principal_or_not (path.Group name) = there_or_not (get groups name)
  principal_or_not (path.Book name) = inr (λ h. h)
  principal_or_not (path.Card book name) = inr (λ h. h)

  place_or_not : (books : NamesTo PolicyBook) (p : Path) → OrNot (IsPlaceOf persons groups books p)
  place_or_not books path.Root = inl tt
  place_or_not books path.People = inl tt
  place_or_not books path.Groups = inl tt
  place_or_not books path.Books = inl tt
  place_or_not books (path.Person name) = there_or_not (get persons name)
  place_or_not books (path.Group name) = there_or_not (get groups name)
  place_or_not books (path.Book name) = there_or_not (get books name)
  place_or_not books (path.Card book name) = inr (λ h. h)

  names_principal_or_not : (text : List ℕ) → OrNot (NamesPrincipal persons groups text)
  names_principal_or_not text =
      same_as (λ it. (it.0, it.1.0, it.1.1, it.1.2)) (λ (it : NamesPrincipal persons groups text). (it.0, (it.1, it.2, it.3)))
      (path_with (λ p. IsPath p × SpellsPath text p × IsPrincipalOf persons groups p)
      (λ p. three_or_not (path_or_not p) (spells_or_not text p) (principal_or_not p))
      (spelled text) (λ p f. principal_spelled persons groups text p f.0 f.1 f.2) (λ b c f. f.2))

  names_place_or_not : (books : NamesTo PolicyBook) (text : List ℕ) → OrNot (NamesPlace persons groups books text)
  names_place_or_not books text =
      same_as (λ it. (it.0, it.1.0, it.1.1, it.1.2)) (λ (it : NamesPlace persons groups books text). (it.0, (it.1, it.2, it.3)))
      (path_with (λ p. IsPath p × SpellsPath text p × IsPlaceOf persons groups books p)
      (λ p. three_or_not (path_or_not p) (spells_or_not text p) (place_or_not books p))
      (spelled text) (λ p f. place_spelled persons groups text p f.0 f.1 books f.2) (λ b c f. f.2))

  known_or_not : (principal : List ℕ) → OrNot (IsKnown persons groups principal)
  known_or_not principal =
      same_as (λ it. (it.0, it.1.0, it.1.1, it.1.2)) (λ (it : IsKnown persons groups principal). (it.0, (it.1, it.2, it.3)))
      (path_with (λ p. IsPath p × (principal ≡ path_text p) × IsPrincipalOf persons groups p)
      (λ p. three_or_not (path_or_not p) (text_or_not principal (path_text p)) (principal_or_not p))
      principal (λ p f. sym f.1) (λ b c f. f.2))

  form_or_not : (who : Who) → OrNot (NamesForm persons groups who)
  form_or_not (Href principal) = known_or_not principal
  form_or_not Everyone = inl tt
  form_or_not Authenticated = inl tt
  form_or_not Unauthenticated = inl tt
  form_or_not Owner = inl tt
  form_or_not Own = inl tt

  owner_or_not : (owner : Option (List ℕ)) → OrNot (NamesOwner persons groups owner)
  owner_or_not None = inl tt
  owner_or_not (Some text) = names_principal_or_not text

-- ---- numbers: lists that no entry names are empty
module _ (is_protected : Bool) (at : List ℕ) where
  stands_there : (b : Bool) (e : PolicyEntry) → stands_at b at e ≡ true → at ≡ e.at
  stands_there true e h = (bytes_eq-Decides at e.at).0 (and_parts _ _ h).1
  stands_there false e h = (bytes_eq-Decides at e.at).0 (and_parts _ _ h).1

  named_or_empty : (es : List PolicyEntry) → (entries_at is_protected at es ≡ []) ⊎ ((e : PolicyEntry) × Mem e es × (at ≡ e.at))
  named_or_empty [] = inl refl
  named_or_empty (e ∷ es) =
      elim (stands_at is_protected at e) as (λ b. stands_at is_protected at e ≡ b
      → (map (λ (x : PolicyEntry). x.entry) (if b then e ∷ filter (stands_at is_protected at) es else filter (stands_at is_protected at) es) ≡ [])
      ⊎ ((x : PolicyEntry) × Mem x (e ∷ es) × (at ≡ x.at))) [
        | true ↦ λ t. inr (e, inl refl, stands_there is_protected e t)
        | false ↦ λ _. elim (named_or_empty es) [ inl none ↦ inl none | inr it ↦ inr (it.0, inr it.1, it.2) ]
      ] refl

abbrev Fits : List PolicyEntry → PolicyEntry → Type 0
Fits es e = (length (entries_at true e.at es) ≤ MAX_ENTRIES) × (length (entries_at false e.at es) ≤ MAX_ENTRIES)

fits_by : (es : List PolicyEntry) (e : PolicyEntry) → Fits es e → (b : Bool) → length (entries_at b e.at es) ≤ MAX_ENTRIES
fits_by es e h true = h.0
fits_by es e h false = h.1

few_at : (es : List PolicyEntry) → AllByRecursion (Fits es) es → (b : Bool) (at : List ℕ) → length (entries_at b at es) ≤ MAX_ENTRIES
few_at es all b at = elim (named_or_empty b at es) [
  | inl none ↦ subst (λ (l : List Entry). length l ≤ MAX_ENTRIES) (sym none) (omega arith)
  | inr it ↦ subst (λ a. length (entries_at b a es) ≤ MAX_ENTRIES) (sym it.2) (fits_by es it.0 (mem_all (Fits es) it.0 es all it.1) b)
]

at_few : (es xs : List PolicyEntry) → ((b : Bool) (at : List ℕ) → length (entries_at b at es) ≤ MAX_ENTRIES) → AllByRecursion (Fits es) xs
at_few es [] few = tt
at_few es (x ∷ xs) few = ((few true x.at, few false x.at), at_few es xs few)

few_or_not : (es : List PolicyEntry) → OrNot ((b : Bool) (at : List ℕ) → length (entries_at b at es) ≤ MAX_ENTRIES)
few_or_not es = same_as (few_at es) (at_few es es) (each_in_turn (Fits es) (λ e. both_or_not (most_or_not _ _) (most_or_not _ _)) es)

-- ---- the rules
module _ (parts : Parts) where
  tables : PolicyTables
  tables = policy_of parts.persons parts.groups parts.books (entries_in parts)

  names_rule : OrNot (PartsRule parts BadName)
  names_rule = same_as
      (λ h. record { of_persons = h.0; of_groups = h.1; of_books = h.2 })
      (λ (n : AreNames parts.persons parts.groups parts.books). (n.of_persons, n.of_groups, n.of_books))
      (three_or_not (each_or_not (λ (p : PersonPart). IsName p.name) (λ p. name_or_not p.name) parts.persons)
      (each_or_not (λ (g : GroupPart). IsName g.name) (λ g. name_or_not g.name) parts.groups)
      (each_or_not (λ (b : BookPart). IsName b.name) (λ b. name_or_not b.name) parts.books))

  once_rule : OrNot (PartsRule parts NameTwice)
  once_rule = same_as
      (λ h. record { of_persons = h.0; of_groups = h.1; of_books = h.2 })
      (λ (n : AreOnce parts.persons parts.groups parts.books). (n.of_persons, n.of_groups, n.of_books))
      (three_or_not (pairs_or_not (λ (p q : PersonPart). p.name ≢ q.name) (λ p q. not_or_not (text_or_not p.name q.name)) parts.persons)
      (pairs_or_not (λ (g h : GroupPart). g.name ≢ h.name) (λ g h. not_or_not (text_or_not g.name h.name)) parts.groups)
      (pairs_or_not (λ (b c : BookPart). b.name ≢ c.name) (λ b c. not_or_not (text_or_not b.name c.name)) parts.books))

  known_rule : OrNot (PartsRule parts UnknownPrincipal)
  unfolding tables
  known_rule = same_as
      (λ h. record { members = h.0; owners = h.1; forms = h.2 })
      (λ (n : AreKnown parts.persons parts.groups parts.books (entries_in parts)). (n.members, n.owners, n.forms))
      (three_or_not (each_or_not (λ (g : GroupPart). All (NamesPrincipal tables.persons tables.groups) g.members)
      (λ g. each_or_not (NamesPrincipal tables.persons tables.groups) (names_principal_or_not tables.persons tables.groups) g.members) parts.groups)
      (each_or_not (λ (b : BookPart). NamesOwner tables.persons tables.groups b.owner) (λ b. owner_or_not tables.persons tables.groups b.owner) parts.books)
      (each_or_not (λ (e : EntryPart). NamesForm tables.persons tables.groups e.entry.who) (λ e. form_or_not tables.persons tables.groups e.entry.who) (entries_in parts)))

  places_rule : OrNot (PartsRule parts UnknownResource)
  unfolding tables
  places_rule = each_or_not (λ (e : EntryPart). NamesPlace tables.persons tables.groups tables.books e.at) (λ e. names_place_or_not tables.persons tables.groups tables.books e.at) (entries_in parts)

  privileges_rule : OrNot (PartsRule parts UnknownPrivilege)
  privileges_rule = each_or_not (λ (e : EntryText). All IsPrivilegeName e.names) (λ e. each_or_not IsPrivilegeName privilege_or_not e.names) parts.entries

  few_rule : OrNot (PartsRule parts TooMany)
  few_rule = same_as
      (λ h. record { few_persons = h.0; few_groups = h.1.0; few_books = h.1.1.0; few_members = h.1.1.1.0; few_entries = h.1.1.1.1 })
      (λ (n : IsFew parts.persons parts.groups parts.books (entries_in parts)). (n.few_persons, (n.few_groups, (n.few_books, (n.few_members, n.few_entries)))))
      (both_or_not (most_or_not (length parts.persons) MAX_NAMED)
      (both_or_not (most_or_not (length parts.groups) MAX_NAMED)
      (both_or_not (most_or_not (length parts.books) MAX_NAMED)
      (both_or_not (each_or_not (λ (g : GroupPart). set.len (paired set.empty (memberships (given_members g))) ≤ MAX_MEMBERS) (λ g. most_or_not _ _) parts.groups)
      (few_or_not (map entry_of (entries_in parts)))))))

-- ---- the text
module _ (text : List ℕ) (short : length text ≤ MAX_POLICY_BYTES) where
  abbrev PolicyOrFault : Type 0
  PolicyOrFault = ((policy : PolicyTables) × IsPolicyOf text policy) ⊎ ((fault : PolicyFault) × IsFaultOf text fault)

  module _ (parts : Parts) (s : SpellsParts text parts) where
    broken : (fault : PolicyFault) → IsLeastBroken (PartsRule parts) fault → PolicyOrFault
    broken fault least = inr (fault, text_fault text fault short (least_of_text text parts s fault least))

    after_names : KeepsNames parts → PolicyOrFault
    after_names h = elim (privileges_rule parts) [
      | inr not ↦ broken UnknownPrivilege (unknown_privilege parts h not)
      | inl privileges ↦ elim (few_rule parts) [
        | inr not ↦ broken TooMany (too_many parts h privileges not)
        | inl few ↦ inl (policy_of_parts parts, text_policy text parts (policy_of_parts parts) short s (all_rules parts h privileges few, refl))
      ]
    ]

    by_rules : PolicyOrFault
    by_rules = elim (names_rule parts) [
      | inr not ↦ broken BadName (bad_name parts not)
      | inl names ↦ elim (once_rule parts) [
        | inr not ↦ broken NameTwice (name_twice parts names not)
        | inl once ↦ elim (known_rule parts) [
          | inr not ↦ broken UnknownPrincipal (unknown_principal parts names once not)
          | inl known ↦ elim (places_rule parts) [
            | inr not ↦ broken UnknownResource (unknown_resource parts names once known not)
            | inl places ↦ after_names (record { names = names; once = once; known = known; places = places })
          ]
        ]
      ]
    ]

  by_parts : (table : Members) → parse_document text ≡ Some table → has_version_one table ≡ true → (found : Option Parts) → parts_in table ≡ found → PolicyOrFault
  by_parts table is version None none = inr (BadKey, text_fault text BadKey short (bad_key text table is version none))
  by_parts table is version (Some parts) spelled = by_rules parts (record { table = table; toml = is; version = version; spelled = spelled })

  by_version : (table : Members) → parse_document text ≡ Some table → (b : Bool) → has_version_one table ≡ b → PolicyOrFault
  by_version table is false wrong = inr (OtherVersion, text_fault text OtherVersion short (other_version text table is wrong))
  by_version table is true version = by_parts table is version (parts_in table) refl

  by_document : (found : Option Members) → parse_document text ≡ found → PolicyOrFault
  by_document None none = inr (NotToml, text_fault text NotToml short (not_toml text none))
  by_document (Some table) is = by_version table is (has_version_one table) refl

pub policy_or_fault : HasPolicyOrFault
policy_or_fault text = elim (cases_lt MAX_POLICY_BYTES (length text)) [
  | inl long ↦ inr (TooMany, record { long = λ _. refl; least = λ short. absurd (omega (arith, long, short)) })
  | inr short ↦ by_document text short (parse_document text) refl
]
