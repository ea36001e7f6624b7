-- Each rule on parts is kept exactly where their faults are free of its fault, if the rules before it are kept.
use Rattle.std.proofs.Common.{◌≡◌, ◌↔◌, ◌≤◌, ℕ, List, [], ◌∷◌, Bool, true, false, not, ◌||◌, ◌==◌, nat_le, is_some, map, length, Option, None, Some, option_map, refl, sym, ap, ◌∙◌}
use Rattle.std.specs.List.{All, AllByRecursion, list_any}
use Rattle.std.specs.FinMap.{empty, get-empty}
use Rattle.std.specs.FinSet as set
use Rattle.std.specs.Str.{bytes_eq}
use Rattle.std.proofs.lemmas.Bool.{false≢true, leb-true, le-leb}
use Rattle.std.proofs.lemmas.List.Elements.{All-from_recursion, All-head, All-tail, recursion_from_All}
use Rattle.std.proofs.lemmas.Slice.Eq.{bytes_eq-Decides}
use Rattle.book_limits.specs.declared.TheConstants.{MAX_MEMBERS, MAX_NAMED}
use Rattle.book_lists.specs.Names.{IsName, name_cmp}
use Rattle.book_rights.specs.Privileges.{name_of}
use Rattle.book_rights.specs.declared.privileges.Leaf.TheVariants.{ReadTexts, WriteContent, WriteProperties, Bind, Unbind, ReadAcl, WriteAcl, ReadCurrentUserPrivilegeSet, ReadNames}
use Rattle.book_rights.specs.declared.privileges.Privilege.{Privilege}
use Rattle.book_rights.specs.declared.privileges.Privilege.TheVariants.{One, Read, Write, All as Whole}
use Rattle.book_office_values.proofs.OneName.{by_option}
use Rattle.book_policy_faults.specs.Values.{all_privileges, is_among, is_word}
use Rattle.book_policy.specs.Rules.{IsPrivilegeName, PartsRule, entry_part, who_of}
use Rattle.book_policy.specs.declared.faults.PolicyFault.TheVariants as faults
use Rattle.book_policy.specs.declared.parts.EntryText.{EntryText}
use Rattle.book_policy.specs.declared.parts.Parts.{Parts}
use Rattle.book_policy_faults.specs.declared.places.TableKind.TheVariants.{Person, Group, Book}
use Rattle.book_policy.proofs.Labelled.{forms_of}
use Rattle.book_policy.proofs.Words.{path_known, word_known}
use Rattle.book_policy_values.proofs.Faults.{all_mapped}
use Rattle.book_policy_values.proofs.Names.{all_once, can_add}
use Rattle.book_policy_values.specs.Policies.{NamesForm, NamesOwner, NamesPlace, NamesPrincipal, given_members, memberships, named_book, named_group, named_person, paired, spelled}
use Rattle.book_policy_values.specs.declared.parts.BookPart.{BookPart}
use Rattle.book_policy_values.specs.declared.parts.EntryPart.{EntryPart}
use Rattle.book_policy_values.specs.declared.parts.GroupPart.{GroupPart}
use Rattle.book_policy_values.specs.declared.parts.PersonPart.{PersonPart}
use Rattle.book_policy_faults.specs.Known.{Paths, homes, is_some_principal, known_at}
use Rattle.book_policy_faults.specs.Problems.{is_privilege_name}
use Rattle.book_policy_faults.specs.Tables.{known_path}
use Rattle.book_policy_faults.specs.declared.known.Known.{Known}
use Rattle.book_policy_faults.specs.declared.problems.ItemRule.TheVariants.{Principals, Privileges}
use Rattle.book_policy_faults.specs.declared.tables.Named.{Named}
use Rattle.book_policy.proofs.Asked.{Ask, AskBook, AskEntry, AskGroup, AskItem, AskPerson, owner_ok, who_ok}
use Rattle.book_policy.proofs.Few.{ArePlaced, NotFull, few_full, full_few, members_few}
use Rattle.book_policy.proofs.Free.{Rows, all_changed, all_rows, any_rows, nothing_asked, rows_all, rows_changed}
use Rattle.book_policy.proofs.Naming.{BookAt, GroupAt, NamedParts, PersonAt, all_known, all_sound, books_of, groups_known, groups_of, of_books, of_groups, of_persons, path_is, persons_known, persons_of, place_is, principal_is}
use Rattle.book_policy.proofs.Paths.{Keeps, Twice, kept_all, knows_places, once_rows, rows_once}
use Rattle.book_policy.proofs.Rows.{distinct_texts}
use Rattle.book_policy_faults.proofs.Tests.{is_named, name_is}
use Rattle.book_policy.proofs.Tabled.{counted_parts, full_of, no_counts, parts_named, parts_paths, with_groups, with_persons}
use Rattle.book_office_values.specs.declared.paths.Path.TheVariants as path

-- ---- names of privileges
among_is : (t : List ℕ) (ps : List Privilege) → is_among t (map name_of ps) ≡ true → IsPrivilegeName t
among_is t [] h = absurd (false≢true h)
among_is t (p ∷ ps) h = by_first (λ rest. among_is t ps rest) (bytes_eq t (name_of p)) refl h
  where
    by_first : (is_among t (map name_of ps) ≡ true → IsPrivilegeName t) → (b : Bool) → bytes_eq t (name_of p) ≡ b
        → (b || is_among t (map name_of ps)) ≡ true → IsPrivilegeName t
    by_first later true e _ = (p, (bytes_eq-Decides t (name_of p)).0 e)
    by_first later false e rest = later rest

all_among : (p : Privilege) → is_privilege_name (name_of p) ≡ true
all_among (One ReadTexts) = refl
all_among (One WriteContent) = refl
all_among (One WriteProperties) = refl
all_among (One Bind) = refl
all_among (One Unbind) = refl
all_among (One ReadAcl) = refl
all_among (One WriteAcl) = refl
all_among (One ReadCurrentUserPrivilegeSet) = refl
all_among (One ReadNames) = refl
all_among Read = refl
all_among Write = refl
all_among Whole = refl

privilege_to : (t : List ℕ) → is_privilege_name t ≡ true → IsPrivilegeName t
privilege_to t h = among_is t all_privileges h

privilege_from : (t : List ℕ) → IsPrivilegeName t → is_privilege_name t ≡ true
privilege_from t it = ap is_privilege_name it.1 ∙ all_among it.0

mapped_before : {A B : Type 0} (P : B → Type 0) (f : A → B) (xs : List A) → All P (map f xs) → AllByRecursion (λ x. P (f x)) xs
mapped_before P f [] h = tt
mapped_before P f (x ∷ xs) h = (All-head P (f x) (map f xs) h, mapped_before P f xs (All-tail P (f x) (map f xs) h))

module _ (parts : Parts) where
  abbrev nm : Named
  nm = parts_named parts

  abbrev m : Paths
  m = parts_paths parts

  abbrev ps : List PersonPart
  ps = parts.persons

  abbrev gs : List GroupPart
  gs = parts.groups

  abbrev bs : List BookPart
  bs = parts.books

  abbrev es : List EntryText
  es = parts.entries

  -- ---- names
  pub names_kept : (one : Bool) → Ask 4 one parts → PartsRule parts faults.BadName
  names_kept one h = record {
    of_persons = All-from_recursion (λ (p : PersonPart). IsName p.name) ps (rows_all (AskPerson 4 nm) (λ (p : PersonPart). IsName p.name) (λ n p a. name_is p.name a.0.0) 1 ps h.1.0);
    of_groups = All-from_recursion (λ (g : GroupPart). IsName g.name) gs (rows_all (AskGroup 4 nm) (λ (g : GroupPart). IsName g.name) (λ n g a. name_is g.name a.0.0.0) 1 gs h.1.1.0);
    of_books = All-from_recursion (λ (b : BookPart). IsName b.name) bs (rows_all (AskBook 4 nm) (λ (b : BookPart). IsName b.name) (λ n b a. name_is b.name a.0.0.0) 1 bs h.1.1.1.0);
  }

  pub names_asked : (one : Bool) → PartsRule parts faults.BadName → Ask 4 one parts
  names_asked one r = (
    (tt, (tt, (tt, (tt, tt)))),
    (
      all_rows (AskPerson 4 nm) (λ (p : PersonPart). IsName p.name) (λ n p is. ((is_named p.name is, tt), tt)) 1 ps (recursion_from_All (λ (p : PersonPart). IsName p.name) ps r.of_persons),
      (
        all_rows (AskGroup 4 nm) (λ (g : GroupPart). IsName g.name) (λ n g is. (((is_named g.name is, tt), tt), (nothing_asked g.members, tt))) 1 gs
            (recursion_from_All (λ (g : GroupPart). IsName g.name) gs r.of_groups),
        (
          all_rows (AskBook 4 nm) (λ (b : BookPart). IsName b.name) (λ n b is. (((is_named b.name is, tt), tt), tt)) 1 bs (recursion_from_All (λ (b : BookPart). IsName b.name) bs r.of_books),
          any_rows (AskEntry 4 nm) (λ n e. (tt, (tt, (tt, (nothing_asked e.names, tt))))) 1 es,
        ),
      ),
    ),
  )

  -- ---- nothing is asked
  pub nothing_bad : (one : Bool) → Ask 3 one parts
  nothing_bad one = (
    (tt, (tt, (tt, (tt, tt)))),
    (
      any_rows (AskPerson 3 nm) (λ n p. ((tt, tt), tt)) 1 ps,
      (
        any_rows (AskGroup 3 nm) (λ n g. (((tt, tt), tt), (nothing_asked g.members, tt))) 1 gs,
        (
          any_rows (AskBook 3 nm) (λ n b. (((tt, tt), tt), tt)) 1 bs,
          any_rows (AskEntry 3 nm) (λ n e. (tt, (tt, (tt, (nothing_asked e.names, tt))))) 1 es,
        ),
      ),
    ),
  )

  pub named_parts : PartsRule parts faults.BadName → NamedParts parts
  named_parts r = record {
    persons = recursion_from_All (λ (p : PersonPart). IsName p.name) ps r.of_persons;
    groups = recursion_from_All (λ (g : GroupPart). IsName g.name) gs r.of_groups;
    books = recursion_from_All (λ (b : BookPart). IsName b.name) bs r.of_books;
  }

  module _ (named : NamedParts parts) where
    -- ---- names once
    keeps_books : Keeps (with_groups parts) m
    keeps_books = kept_all named_book Book path.Book (BookAt (persons_of parts named) (groups_of parts named)) (of_books (persons_of parts named) (groups_of parts named)) (with_groups parts) 1 bs named.books

    keeps_groups : Keeps (with_persons parts) m
    keeps_groups t k e =
        keeps_books t k (kept_all named_group Group path.Group (GroupAt (persons_of parts named)) (of_groups (persons_of parts named)) (with_persons parts) 1 gs named.groups t k e)

    abbrev TwicePerson : ℕ → PersonPart → Type 0
    TwicePerson = Twice named_person Person path.Person PersonAt of_persons m

    abbrev TwiceGroup : ℕ → GroupPart → Type 0
    TwiceGroup = Twice named_group Group path.Group (GroupAt (persons_of parts named)) (of_groups (persons_of parts named)) m

    abbrev TwiceBook : ℕ → BookPart → Type 0
    TwiceBook = Twice named_book Book path.Book (BookAt (persons_of parts named) (groups_of parts named)) (of_books (persons_of parts named) (groups_of parts named)) m

    pub once_kept : (one : Bool) → Ask 5 one parts → PartsRule parts faults.NameTwice
    once_kept one h = record {
      of_persons = all_once (λ _. Unit {0}) named_person empty ps
          (rows_once named_person Person path.Person PersonAt of_persons m homes 1 ps named.persons knows_places keeps_groups
          (rows_changed (AskPerson 5 nm) TwicePerson (λ (p : PersonPart). IsName p.name) (λ n p is a. a.0.1 (is_named p.name is)) 1 ps named.persons h.1.0));
      of_groups = all_once (λ _. Unit {0}) named_group empty gs
          (rows_once named_group Group path.Group (GroupAt (persons_of parts named)) (of_groups (persons_of parts named)) m (with_persons parts) 1 gs named.groups
          (persons_known parts named) keeps_books
          (rows_changed (AskGroup 5 nm) TwiceGroup (λ (g : GroupPart). IsName g.name) (λ n g is a. a.0.0.1 (is_named g.name is)) 1 gs named.groups h.1.1.0));
      of_books = all_once (λ _. Unit {0}) named_book empty bs
          (rows_once named_book Book path.Book (BookAt (persons_of parts named) (groups_of parts named)) (of_books (persons_of parts named) (groups_of parts named)) m (with_groups parts) 1 bs named.books
          (groups_known parts named) (λ t k e. e)
          (rows_changed (AskBook 5 nm) TwiceBook (λ (b : BookPart). IsName b.name) (λ n b is a. a.0.0.1 (is_named b.name is)) 1 bs named.books h.1.1.1.0));
    }

    pub once_asked : (one : Bool) → PartsRule parts faults.NameTwice → Ask 5 one parts
    once_asked one r =
        let of_ps : Rows TwicePerson 1 ps = once_rows named_person Person path.Person PersonAt of_persons m homes 1 empty ps named.persons knows_places keeps_groups
        (can_add (λ _. Unit {0}) named_person empty ps (λ k d within. tt) (All-from_recursion (λ (p : PersonPart). IsName p.name) ps named.persons) r.of_persons (λ k d within. get-empty name_cmp _)) in
        let of_gs : Rows TwiceGroup 1 gs = once_rows named_group Group path.Group (GroupAt (persons_of parts named)) (of_groups (persons_of parts named)) m (with_persons parts) 1 empty gs named.groups
        (persons_known parts named) keeps_books
        (can_add (λ _. Unit {0}) named_group empty gs (λ k d within. tt) (All-from_recursion (λ (g : GroupPart). IsName g.name) gs named.groups) r.of_groups (λ k d within. get-empty name_cmp _)) in
        let of_bs : Rows TwiceBook 1 bs = once_rows named_book Book path.Book (BookAt (persons_of parts named) (groups_of parts named)) (of_books (persons_of parts named) (groups_of parts named)) m (with_groups parts) 1 empty bs named.books
        (groups_known parts named) (λ t k e. e)
        (can_add (λ _. Unit {0}) named_book empty bs (λ k d within. tt) (All-from_recursion (λ (b : BookPart). IsName b.name) bs named.books) r.of_books (λ k d within. get-empty name_cmp _)) in (
          (tt, (tt, (tt, (tt, tt)))),
          (
            rows_changed TwicePerson (AskPerson 5 nm) (λ (p : PersonPart). IsName p.name) (λ n p is a. ((tt, λ _. a), tt)) 1 ps named.persons of_ps,
            (
              rows_changed TwiceGroup (AskGroup 5 nm) (λ (g : GroupPart). IsName g.name) (λ n g is a. (((tt, λ _. a), tt), (nothing_asked g.members, tt))) 1 gs named.groups of_gs,
              (
                rows_changed TwiceBook (AskBook 5 nm) (λ (b : BookPart). IsName b.name) (λ n b is a. (((tt, λ _. a), tt), tt)) 1 bs named.books of_bs,
                any_rows (AskEntry 5 nm) (λ n e. (tt, (tt, (tt, (nothing_asked e.names, tt))))) 1 es,
              ),
            ),
          ),
        )

    -- ---- principals and places
    principal : (t : List ℕ) → (is_some_principal (known_at m t) ≡ true) ↔ NamesPrincipal (persons_of parts named) (groups_of parts named) t
    principal = principal_is (persons_of parts named) (groups_of parts named) (books_of parts named) m (all_sound parts named) (all_known parts named)

    place : (t : List ℕ) → (is_some (known_at m t) ≡ true) ↔ NamesPlace (persons_of parts named) (groups_of parts named) (books_of parts named) t
    place = place_is (persons_of parts named) (groups_of parts named) (books_of parts named) m (all_sound parts named) (all_known parts named)

    abbrev IsMember : List ℕ → Type 0
    IsMember = NamesPrincipal (persons_of parts named) (groups_of parts named)

    form : (t : List ℕ) → (who_ok 6 m t ≡ true) ↔ NamesForm (persons_of parts named) (groups_of parts named) (who_of t)
    form t = by_word (is_word t) refl
      where
        by_word : (b : Bool) → is_word t ≡ b → ((b || is_some_principal (known_at m t)) ≡ true) ↔ NamesForm (persons_of parts named) (groups_of parts named) (who_of t)
        by_word true e = (λ _. word_known (persons_of parts named) (groups_of parts named) t e, λ _. refl)
        by_word false e = path_known (persons_of parts named) (groups_of parts named) t (is_some_principal (known_at m t)) e (principal t)

    owner_to : (o : Option (List ℕ)) → owner_ok 6 m o ≡ true → NamesOwner (persons_of parts named) (groups_of parts named) o
    owner_to None h = tt
    owner_to (Some t) h = (principal t).0 h

    owner_from : (o : Option (List ℕ)) → NamesOwner (persons_of parts named) (groups_of parts named) o → owner_ok 6 m o ≡ true
    owner_from None h = refl
    owner_from (Some t) h = (principal t).1 h

    abbrev AreMembers : GroupPart → Type 0
    AreMembers g = All IsMember g.members

    abbrev HasOwner : BookPart → Type 0
    HasOwner b = NamesOwner (persons_of parts named) (groups_of parts named) b.owner

    abbrev HasForm : EntryText → Type 0
    HasForm e = NamesForm (persons_of parts named) (groups_of parts named) (who_of e.who)

    pub known_kept : (one : Bool) → Ask 6 one parts → PartsRule parts faults.UnknownPrincipal
    known_kept one h = record {
      members = All-from_recursion AreMembers gs (rows_all (AskGroup 6 nm) AreMembers (λ n g a.
          All-from_recursion IsMember g.members (all_changed (AskItem 6 m Principals) IsMember (λ t. (principal t).0) g.members a.1.0)) 1 gs h.1.1.0);
      owners = All-from_recursion HasOwner bs (rows_all (AskBook 6 nm) HasOwner (λ n b a. owner_to b.owner a.1) 1 bs h.1.1.1.0);
      forms = all_mapped (λ (e : EntryPart). NamesForm (persons_of parts named) (groups_of parts named) e.entry.who) entry_part es
          (All-from_recursion HasForm es (rows_all (AskEntry 6 nm) HasForm (λ n e a. (form e.who).0 a.1.1.0) 1 es h.1.1.1.1));
    }

    pub known_asked : (one : Bool) → PartsRule parts faults.UnknownPrincipal → Ask 6 one parts
    known_asked one r = (
      (tt, (tt, (tt, (tt, tt)))),
      (
        any_rows (AskPerson 6 nm) (λ n p. ((tt, tt), tt)) 1 ps,
        (
          all_rows (AskGroup 6 nm) AreMembers (λ n g all. (((tt, tt), tt), (all_changed IsMember (AskItem 6 m Principals) (λ t. (principal t).1) g.members (recursion_from_All IsMember g.members all), tt))) 1 gs
              (recursion_from_All AreMembers gs r.members),
          (
            all_rows (AskBook 6 nm) HasOwner (λ n b held. (((tt, tt), tt), owner_from b.owner held)) 1 bs (recursion_from_All HasOwner bs r.owners),
            all_rows (AskEntry 6 nm) HasForm (λ n e is. (tt, (tt, ((form e.who).1 is, (nothing_asked e.names, tt))))) 1 es
                (recursion_from_All HasForm es (forms_of (persons_of parts named) (groups_of parts named) es r.forms)),
          ),
        ),
      ),
    )

    abbrev AtPlace : List ℕ → Type 0
    AtPlace = NamesPlace (persons_of parts named) (groups_of parts named) (books_of parts named)

    pub places_kept : (one : Bool) → Ask 7 one parts → PartsRule parts faults.UnknownResource
    places_kept one h =
        all_mapped (λ (e : EntryPart). AtPlace e.at) entry_part es
        (All-from_recursion (λ (e : EntryText). AtPlace e.at) es (rows_all (AskEntry 7 nm) (λ (e : EntryText). AtPlace e.at) (λ n e a. (place e.at).0 a.0) 1 es h.1.1.1.1))

    pub places_asked : (one : Bool) → PartsRule parts faults.UnknownResource → Ask 7 one parts
    places_asked one r = (
      (tt, (tt, (tt, (tt, tt)))),
      (
        any_rows (AskPerson 7 nm) (λ n p. ((tt, tt), tt)) 1 ps,
        (
          any_rows (AskGroup 7 nm) (λ n g. (((tt, tt), tt), (nothing_asked g.members, tt))) 1 gs,
          (
            any_rows (AskBook 7 nm) (λ n b. (((tt, tt), tt), tt)) 1 bs,
            all_rows (AskEntry 7 nm) (λ (e : EntryText). AtPlace e.at) (λ n e at. ((place e.at).1 at, (tt, (tt, (nothing_asked e.names, tt))))) 1 es
                (mapped_before (λ (e : EntryPart). AtPlace e.at) entry_part es r),
          ),
        ),
      ),
    )

  -- ---- privileges
  pub privileges_kept : (one : Bool) → Ask 8 one parts → PartsRule parts faults.UnknownPrivilege
  privileges_kept one h =
      All-from_recursion (λ (e : EntryText). All IsPrivilegeName e.names) es
      (rows_all (AskEntry 8 nm) (λ (e : EntryText). All IsPrivilegeName e.names) (λ n e a.
      All-from_recursion IsPrivilegeName e.names (all_changed (AskItem 8 m Privileges) IsPrivilegeName privilege_to e.names a.1.1.1.0)) 1 es h.1.1.1.1)

  pub privileges_asked : (one : Bool) → PartsRule parts faults.UnknownPrivilege → Ask 8 one parts
  privileges_asked one r = (
    (tt, (tt, (tt, (tt, tt)))),
    (
      any_rows (AskPerson 8 nm) (λ n p. ((tt, tt), tt)) 1 ps,
      (
        any_rows (AskGroup 8 nm) (λ n g. (((tt, tt), tt), (nothing_asked g.members, tt))) 1 gs,
        (
          any_rows (AskBook 8 nm) (λ n b. (((tt, tt), tt), tt)) 1 bs,
          all_rows (AskEntry 8 nm) (λ (e : EntryText). All IsPrivilegeName e.names) (λ n e all.
              (tt, (tt, (tt, (all_changed IsPrivilegeName (AskItem 8 m Privileges) privilege_from e.names (recursion_from_All IsPrivilegeName e.names all), tt))))) 1 es
              (recursion_from_All (λ (e : EntryText). All IsPrivilegeName e.names) es r),
        ),
      ),
    ),
  )

  -- ---- numbers
  module _ (named : NamedParts parts) (known : PartsRule parts faults.UnknownPrincipal) (placed : PartsRule parts faults.UnknownResource) where
    path_known_at : (t : List ℕ) → is_some (known_at m t) ≡ true → known_path m (Some t) ≡ Some (spelled t)
    path_known_at t h =
        by_option (known_at m t) (λ none. absurd (false≢true (ap is_some (sym none) ∙ h))) (λ k e.
        ap (option_map (λ (x : Known). x.path)) e ∙ ap Some (path_is (persons_of parts named) (groups_of parts named) (books_of parts named) m (all_sound parts named) (all_known parts named) t k e))

    member_there : (t : List ℕ) → IsMember named t → is_some (known_at m t) ≡ true
    member_there t is =
        by_option (known_at m t) (λ none. absurd (false≢true (ap is_some_principal (sym none) ∙ (principal named t).1 is))) (λ k e. ap is_some e)

    abbrev HasPath : List ℕ → Type 0
    HasPath t = known_path m (Some t) ≡ Some (spelled t)

    members_there : AllByRecursion (λ (g : GroupPart). AllByRecursion HasPath g.members) gs
    members_there =
        all_changed (AreMembers named) (λ (g : GroupPart). AllByRecursion HasPath g.members)
        (λ g all. all_changed (IsMember named) HasPath (λ t is. path_known_at t (member_there t is)) g.members (recursion_from_All (IsMember named) g.members all)) gs
        (recursion_from_All (AreMembers named) gs known.members)

    entries_there : ArePlaced m es
    entries_there =
        all_changed (λ (e : EntryText). AtPlace named e.at) (λ (e : EntryText). HasPath e.at) (λ e at. path_known_at e.at ((place named e.at).1 at)) es
        (mapped_before (λ (e : EntryPart). AtPlace named e.at) entry_part es placed)

    abbrev IsFewOf : GroupPart → Type 0
    IsFewOf g = set.len (paired set.empty (memberships (given_members g))) ≤ MAX_MEMBERS

    group_few : (g : GroupPart) → AllByRecursion HasPath g.members → (nat_le (distinct_texts m g.members) MAX_MEMBERS ≡ true) ↔ IsFewOf g
    group_few g there = members_few (given_members g).0 m g.members there

    pub few_kept : (one : Bool) → Ask 9 one parts → PartsRule parts faults.TooMany
    few_kept one h = record {
      few_persons = leb-true (length ps) MAX_NAMED h.0.1.0;
      few_groups = leb-true (length gs) MAX_NAMED h.0.1.1.0;
      few_books = leb-true (length bs) MAX_NAMED h.0.1.1.1.0;
      few_members = All-from_recursion IsFewOf gs (rows_all (λ _ g. IsFewOf g) IsFewOf (λ n g few. few) 1 gs
          (rows_changed (AskGroup 9 nm) (λ _ g. IsFewOf g) (λ (g : GroupPart). AllByRecursion HasPath g.members) (λ n g there a. (group_few g there).0 a.1.1) 1 gs members_there h.1.1.0));
      few_entries = full_few m es entries_there (rows_changed (AskEntry 9 nm) (NotFull m (full_of (counted_parts m no_counts 1 es))) (λ _. Unit {0}) (λ n e _ a. a.1.0) 1 es (nothing_asked es) h.1.1.1.1);
    }

    pub few_asked : (one : Bool) → PartsRule parts faults.TooMany → Ask 9 one parts
    few_asked one r =
        let none : full_of (counted_parts m no_counts 1 es) ≡ [] = few_full m es entries_there r.few_entries in
        let not_full : (n : ℕ) → not (list_any (λ k. k == n) (full_of (counted_parts m no_counts 1 es))) ≡ true = λ n. ap (λ full. not (list_any (λ k. k == n) full)) none in (
          (tt, (le-leb (length ps) MAX_NAMED r.few_persons, (le-leb (length gs) MAX_NAMED r.few_groups, (le-leb (length bs) MAX_NAMED r.few_books, tt)))),
          (
            any_rows (AskPerson 9 nm) (λ n p. ((tt, tt), tt)) 1 ps,
            (
              rows_changed (λ _ g. IsFewOf g) (AskGroup 9 nm) (λ (g : GroupPart). AllByRecursion HasPath g.members)
                  (λ n g there few. (((tt, tt), tt), (nothing_asked g.members, (group_few g there).1 few))) 1 gs members_there
                  (all_rows (λ _ g. IsFewOf g) IsFewOf (λ n g few. few) 1 gs (recursion_from_All IsFewOf gs r.few_members)),
              (
                any_rows (AskBook 9 nm) (λ n b. (((tt, tt), tt), tt)) 1 bs,
                any_rows (AskEntry 9 nm) (λ n e. (tt, (not_full n, (tt, (nothing_asked e.names, tt))))) 1 es,
              ),
            ),
          ),
        )
