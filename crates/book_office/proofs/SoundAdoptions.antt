-- A sound Office that adopts a policy stays sound.
use Rattle.book_office.proofs.Common.{◌≡◌, ◌≢◌, inl, inr, ℕ, ◌+◌, ◌<◌, ◌≤◌, List, [], ◌∷◌, Bool, true, false, not, cond, ◌&&◌, ◌||◌, map, Option, Some, None, refl, sym, ap, ◌∙◌, subst, arith, list_any, get, same_set, bytes_eq, same_Some, members_of, memberships_total, memberships_exact, IsName, Entry, Membership, LAST_NUMBER, Path, same, Book, Office, Properties, taken_over, new_book, same_office, IsMapped, IsOwner, IsSoundList, AreSoundProperties, IsSoundBook, IsSound, some_apart, is_there}
use Rattle.std.proofs.Common.{codes, filter}
use Rattle.std.specs.List.{All}
use Rattle.std.proofs.lemmas.List.Elements.{All-nil, All-cons, All-head, All-tail}
use Rattle.std.specs.FinMap.{len, keys, contains_key-keys}
use Rattle.std.specs.FinSet as set
use Rattle.book_lists.proofs.Pairing.{same_path, path_itself}
use Rattle.book_lists.specs.Principals.{person_path, group_path}
use Rattle.book_lists.specs.declared.entries.Who.{Who}
use Rattle.book_lists.specs.declared.entries.Who.TheVariants.{Href, Everyone, Authenticated, Unauthenticated, Owner, Own}
use Rattle.book_office_values.specs.Paths.{path_text, book_path}
use Rattle.book_policy_values.specs.Policies.{IsPolicy, IsKnown, IsKnownOwner, NamesForm, IsPrincipalOf, entries_at, stands_at}
use Rattle.book_office_values.specs.Texts.{IsLabel}
use Rattle.book_limits.specs.declared.TheConstants.{MAX_MEMBERS, MAX_BOOKS}
use Rattle.book_office_values.specs.declared.paths.Path.TheVariants as path
use Rattle.book_policy_values.specs.declared.parts.PolicyBook.{PolicyBook}
use Rattle.book_policy_values.specs.declared.parts.PolicyEntry.{PolicyEntry}
use Rattle.book_policy_values.specs.declared.parts.PolicyTables.{PolicyTables}
use Rattle.book_office_values.proofs.NameMapLaws.{is_same}
use Rattle.book_office_adopting.specs.Adopting.{labelled_or_new, owned, or_else, is_group_of, adopt}
use Rattle.book_office.specs.Fitting.{AdoptFits}
use Rattle.book_office_adopting.specs.TakingOver.{with_lists_taken, listed_book}
use Rattle.book_office.specs.Sound.{IsKnownForm, IsSoundPair}
use Rattle.book_office_adopting.proofs.Adoptions.{person_after, book_after, person_there, group_there, book_there, contains_adopted}
use Rattle.book_office.proofs.KnownPrincipals.{properties_known, book_known}
use Rattle.book_office.proofs.OneGroup.{one_of, only_new, only_old, among}
use Rattle.book_office.proofs.SoundBooks.{new_book_sound}

module _ (t : PolicyTables) where
  -- persons and groups of either are there afterwards
  kept_after : (at : List ℕ) (label : Option (List ℕ)) (old : Option Properties) → old ≢ None → person_after t at label old ≢ None
  kept_after at label None there = absurd (there refl)
  kept_after at None (Some properties) there = λ e. some_apart e
  kept_after at (Some label) (Some properties) there = λ e. some_apart e

  named_after : (at : List ℕ) (label : Option (List ℕ)) (old : Option Properties) → label ≢ None → person_after t at label old ≢ None
  named_after at None old there = absurd (there refl)
  named_after at (Some label) old there = λ e. some_apart e

  module _ (o : Office) (pol : IsPolicy t) (sound : IsSound o) where
    abbrev p : Office
    p = taken_over t o

    person_kept : (q : List ℕ) → get o.persons q ≢ None → get p.persons q ≢ None
    person_kept q there gone = kept_after (person_path q) (get t.persons q) (get o.persons q) there (sym (person_there t o q) ∙ gone)

    group_kept : (q : List ℕ) → get o.groups q ≢ None → get p.groups q ≢ None
    group_kept q there gone = kept_after (group_path q) (get t.groups q) (get o.groups q) there (sym (group_there t o q) ∙ gone)

    person_named : (q : List ℕ) → get t.persons q ≢ None → get p.persons q ≢ None
    person_named q there gone = named_after (person_path q) (get t.persons q) (get o.persons q) there (sym (person_there t o q) ∙ gone)

    group_named : (q : List ℕ) → get t.groups q ≢ None → get p.groups q ≢ None
    group_named q there gone = named_after (group_path q) (get t.groups q) (get o.groups q) there (sym (group_there t o q) ∙ gone)

    known : (principal : List ℕ) → IsMapped o principal → IsMapped p principal
    known principal (inl person) = inl (person.0, person.1, person_kept person.0 person.2)
    known principal (inr group) = inr (group.0, group.1, group_kept group.0 group.2)

    listed_path : (q : Path) (principal : List ℕ) → principal ≡ path_text q → IsPrincipalOf t.persons t.groups q → IsMapped p principal
    listed_path path.Root principal e h = absurd h
    listed_path path.People principal e h = absurd h
    listed_path path.Groups principal e h = absurd h
    listed_path path.Books principal e h = absurd h
    listed_path (path.Person name) principal e h = inl (name, e, person_named name h)
    listed_path (path.Group name) principal e h = inr (name, e, group_named name h)
    listed_path (path.Book name) principal e h = absurd h
    listed_path (path.Card book name) principal e h = absurd h

    listed_known : (principal : List ℕ) → IsKnown t.persons t.groups principal → IsMapped p principal
    listed_known principal h = listed_path h.0 principal h.2 h.3

    listed_owner : (owner : Option (List ℕ)) → IsKnownOwner t.persons t.groups owner → IsOwner p owner
    listed_owner None h = tt
    listed_owner (Some owner) h = listed_known owner h

    listed_form : (who : Who) → NamesForm t.persons t.groups who → IsKnownForm p who
    listed_form (Href principal) h = listed_known principal h
    listed_form Everyone h = tt
    listed_form Authenticated h = tt
    listed_form Unauthenticated h = tt
    listed_form Owner h = tt
    listed_form Own h = tt

    entries_known : (b : Bool) (at : List ℕ) (es : List PolicyEntry) → All (λ (e : PolicyEntry). NamesForm t.persons t.groups e.entry.who) es
        → All (λ (e : Entry). IsKnownForm p e.who) (entries_at b at es)
    entries_known b at [] h = All-nil _
    entries_known b at (e ∷ es) h = elim (stands_at b at e) as (λ x. All (λ (y : Entry). IsKnownForm p y.who) (map (λ (y : PolicyEntry). y.entry) (cond x (e ∷ filter (stands_at b at) es) (filter (stands_at b at) es)))) [
      | true ↦ All-cons (λ (y : Entry). IsKnownForm p y.who) e.entry (entries_at b at es)
          (listed_form e.entry.who (All-head (λ (y : PolicyEntry). NamesForm t.persons t.groups y.entry.who) e es h)) (entries_known b at es (All-tail (λ (y : PolicyEntry). NamesForm t.persons t.groups y.entry.who) e es h))
      | false ↦ entries_known b at es (All-tail (λ (y : PolicyEntry). NamesForm t.persons t.groups y.entry.who) e es h)
    ]

    policy_list : (b : Bool) (at : List ℕ) → IsSoundList p (entries_at b at t.entries)
    policy_list b at = record { few = pol.few_entries b at; known = entries_known b at t.entries pol.forms }

    own_list : (list old : List Entry) → IsSoundList p list → IsSoundList p old → IsSoundList p (or_else list old)
    own_list [] old h k = k
    own_list (e ∷ es) old h k = h

    listed_sound : (at : List ℕ) (properties : Properties) → IsOwner p properties.owner → IsLabel properties.label → IsSoundList p properties.own → AreSoundProperties p (with_lists_taken t at properties)
    listed_sound at properties owner label own = record {
      owner = owner;
      label = label;
      protected = policy_list true at;
      own = own_list (entries_at false at t.entries) properties.own (policy_list false at) own;
    }

    properties_sound : (at : List ℕ) (properties : Properties) → AreSoundProperties o properties → AreSoundProperties p (with_lists_taken t at properties)
    properties_sound at properties h = let k = properties_known o p known properties h in listed_sound at properties k.owner k.label k.own

    no_entries : IsSoundList p []
    no_entries = record { few = omega arith; known = λ k d l. absurd (omega arith) }

    -- persons and groups
    person_sound : (at name : List ℕ) (label : Option (List ℕ)) (old : Option Properties)
        → ((l : List ℕ) → label ≡ Some l → IsName name × IsLabel l)
        → ((k : Properties) → old ≡ Some k → IsName name × AreSoundProperties o k)
        → (properties : Properties) → person_after t at label old ≡ Some properties → IsName name × AreSoundProperties p properties
    person_sound at name None None fresh before properties e = some_apart (sym e)
    person_sound at name None (Some k) fresh before properties e =
        let h = before k refl in
        (h.0, subst (AreSoundProperties p) (same_Some (with_lists_taken t at k) properties e) (properties_sound at k h.1))
    person_sound at name (Some l) None fresh before properties e =
        let h = fresh l refl in
        (h.0, subst (AreSoundProperties p) (same_Some (with_lists_taken t at (labelled_or_new l None)) properties e) (listed_sound at (labelled_or_new l None) tt h.1 no_entries))
    person_sound at name (Some l) (Some k) fresh before properties e =
        let h = fresh l refl in
        let g = properties_known o p known k (before k refl).1 in
        (h.0, subst (AreSoundProperties p) (same_Some (with_lists_taken t at (labelled_or_new l (Some k))) properties e) (listed_sound at (labelled_or_new l (Some k)) g.owner h.1 g.own))

    -- a book with other properties
    replaced : (book : Book) (properties : Properties) → IsSoundBook p book → AreSoundProperties p properties → IsSoundBook p (record book { properties = properties })
    replaced book properties h good = record {
      properties = good;
      cards = h.cards;
      few = h.few;
      changed = h.changed;
      names = h.names;
      within = h.within;
      different = h.different;
      last = h.last;
    }

    owned_sound : (at : List ℕ) (named : PolicyBook) (book : Book) → IsLabel named.label → IsKnownOwner t.persons t.groups named.owner → IsSoundBook p book
        → IsSoundBook p (listed_book t at (owned named (Some book)))
    owned_sound at named book short owner h =
        replaced (owned named (Some book)) (with_lists_taken t at (owned named (Some book)).properties)
        (replaced book (record book.properties { owner = named.owner; label = named.label }) h
        (record { owner = listed_owner named.owner owner; label = short; protected = h.properties.protected; own = h.properties.own }))
        (listed_sound at (record book.properties { owner = named.owner; label = named.label }) (listed_owner named.owner owner) short h.properties.own)

    book_sound : (at name : List ℕ) (named : Option PolicyBook) (old : Option Book)
        → ((n : PolicyBook) → named ≡ Some n → IsName name × IsLabel n.label × IsKnownOwner t.persons t.groups n.owner)
        → ((k : Book) → old ≡ Some k → IsName name × IsSoundBook o k)
        → (book : Book) → book_after t at named old ≡ Some book → IsName name × IsSoundBook p book
    book_sound at name None None fresh before book e = some_apart (sym e)
    book_sound at name None (Some k) fresh before book e =
        let h = before k refl in
        let g = book_known o p known k h.1 in
        (h.0, subst (IsSoundBook p) (same_Some (listed_book t at k) book e) (replaced k (with_lists_taken t at k.properties) g (listed_sound at k.properties g.properties.owner g.properties.label g.properties.own)))
    book_sound at name (Some n) None fresh before book e =
        let h = fresh n refl in
        (h.0, subst (IsSoundBook p) (same_Some (listed_book t at (owned n None)) book e) (owned_sound at n (new_book None) h.1 h.2 (new_book_sound p None tt)))
    book_sound at name (Some n) (Some k) fresh before book e =
        let h = fresh n refl in
        (h.0, subst (IsSoundBook p) (same_Some (listed_book t at (owned n (Some k))) book e) (owned_sound at n k h.1 h.2 (book_known o p known k (before k refl).1)))

    -- pairs
    pair_sound : (q : Membership) → set.contains p.pairs q ≡ true → IsSoundPair p q
    pair_sound q e = elim (one_of (set.contains o.pairs q) (not (is_group_of t q.group)) (set.contains t.members q) (sym (contains_adopted t o.pairs q) ∙ e)) [
      | inl old ↦
          let h = sound.pairs q old in
          record { group = (h.group.0, h.group.1, group_kept h.group.0 h.group.2); member = known q.member h.member }
      | inr new ↦
          let h = pol.members q new in
          record { group = (h.0.0, h.0.1, group_named h.0.0 h.0.2); member = listed_known q.member h.1 }
    ]

    -- a group that has a listed member is a group of the policy
    any_name : (name : List ℕ) (names : List (List ℕ)) → list_any (same name) names ≡ true → list_any (λ n. bytes_eq (group_path n) (group_path name)) names ≡ true
    any_name name [] e = e
    any_name name (n ∷ ns) e = elim (same name n) as (λ b. same name n ≡ b → (b || list_any (same name) ns) ≡ true → (bytes_eq (group_path n) (group_path name) || list_any (λ k. bytes_eq (group_path k) (group_path name)) ns) ≡ true) [
      | true ↦ λ is _. let here : bytes_eq (group_path n) (group_path name) ≡ true = subst (λ k. bytes_eq (group_path k) (group_path name) ≡ true) (is_same name n is) (path_itself (group_path name)) in
          ap (λ b. b || list_any (λ k. bytes_eq (group_path k) (group_path name)) ns) here
      | false ↦ λ _ rest. either _ _ (any_name name ns rest)
    ] refl e
      where
        either : (a b : Bool) → b ≡ true → (a || b) ≡ true
        either true b h = refl
        either false b h = h

    listed_group : (q : Membership) → set.contains t.members q ≡ true → is_group_of t q.group ≡ true
    listed_group q new =
        let h = pol.members q new in
        subst (λ g. is_group_of t g ≡ true) (sym h.0.1)
        (any_name h.0.0 (keys t.groups) (sym (contains_key-keys t.groups h.0.0) ∙ is_there (get t.groups h.0.0) h.0.2))

    members_few : (group : List ℕ) → set.len (members_of p.pairs group) ≤ MAX_MEMBERS
    members_few group = elim (is_group_of t group) as (λ b. is_group_of t group ≡ b → set.len (members_of p.pairs group) ≤ MAX_MEMBERS) [
      | true ↦ λ is. rw (same_set memberships_total memberships_exact (members_of p.pairs group) (members_of t.members group) (λ q.
          among group p.pairs q ∙ ap (λ b. b && bytes_eq q.group group) (contains_adopted t o.pairs q)
          ∙ only_new (set.contains o.pairs q) (is_group_of t q.group) (set.contains t.members q) (bytes_eq q.group group) (λ e. ap (is_group_of t) (same_path q.group group e) ∙ is)
          ∙ sym (among group t.members q))) (pol.few_members group)
      | false ↦ λ is. rw (same_set memberships_total memberships_exact (members_of p.pairs group) (members_of o.pairs group) (λ q.
          among group p.pairs q ∙ ap (λ b. b && bytes_eq q.group group) (contains_adopted t o.pairs q)
          ∙ only_old (set.contains o.pairs q) (is_group_of t q.group) (set.contains t.members q) (bytes_eq q.group group) (λ e. ap (is_group_of t) (same_path q.group group e) ∙ is) (listed_group q)
          ∙ sym (among group o.pairs q))) (sound.members group)
    ] refl

    pub taken_sound : (epoch : ℕ) → len p.books ≤ MAX_BOOKS → epoch ≤ LAST_NUMBER → IsSound (record p { epoch = epoch })
    taken_sound epoch few low =
        let r : Office = record p { epoch = epoch } in
        let moved : (principal : List ℕ) → IsMapped p principal → IsMapped r principal = λ _ h. h in
        record {
          root = properties_known p r moved (with_lists_taken t (codes "/") o.root) (properties_sound (codes "/") o.root sound.root);
          people = properties_known p r moved (with_lists_taken t (codes "/people") o.people) (properties_sound (codes "/people") o.people sound.people);
          groups_home = properties_known p r moved (with_lists_taken t (codes "/groups") o.groups_home) (properties_sound (codes "/groups") o.groups_home sound.groups_home);
          books_home = properties_known p r moved (with_lists_taken t (codes "/books") o.books_home) (properties_sound (codes "/books") o.books_home sound.books_home);
          persons = λ name properties e.
              let h = person_sound (person_path name) name (get t.persons name) (get o.persons name) (pol.persons name) (sound.persons name) properties (sym (person_there t o name) ∙ e) in
              (h.0, properties_known p r moved properties h.1);
          groups = λ name properties e.
              let h = person_sound (group_path name) name (get t.groups name) (get o.groups name) (pol.groups name) (sound.groups name) properties (sym (group_there t o name) ∙ e) in
              (h.0, properties_known p r moved properties h.1);
          books = λ name book e.
              let h = book_sound (book_path name) name (get t.books name) (get o.books name) (pol.books name) (sound.books name) book (sym (book_there t o name) ∙ e) in
              (h.0, book_known p r moved book h.1);
          few = few;
          pairs = λ pair e. let h = pair_sound pair e in record { group = h.group; member = h.member };
          members = members_few;
          epoch = low;
        }

adopting_sound : (t : PolicyTables) (o : Office) → IsPolicy t → IsSound o → len (adopt t o).books ≤ MAX_BOOKS → o.epoch < LAST_NUMBER → IsSound (adopt t o)
adopting_sound t o pol sound few low = elim (same_office o (taken_over t o)) as (λ b.
    len (cond b (taken_over t o) (record (taken_over t o) { epoch = (taken_over t o).epoch + 1 })).books ≤ MAX_BOOKS
    → IsSound (cond b (taken_over t o) (record (taken_over t o) { epoch = (taken_over t o).epoch + 1 }))) [
      | true ↦ λ f. taken_sound t o pol sound o.epoch f sound.epoch
      | false ↦ λ f. taken_sound t o pol sound (o.epoch + 1) f (omega arith)
    ] few

pub adopt_fits : AdoptFits
adopt_fits o t sound pol few low = record { possible = tt; sound = adopting_sound t o pol sound few low }
