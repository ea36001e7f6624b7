-- A label, an own list or the members of a group, set in a sound Office within the limits, leave a sound Office.
use Rattle.book_office.proofs.Common.{◌≡◌, ◌≢◌, inl, inr, ℕ, ◌+◌, ◌<◌, ◌≤◌, List, [], ◌∷◌, Bool, true, false, not, cond, ◌&&◌, ◌||◌, length, Option, Some, None, refl, sym, ap, ◌∙◌, subst, option_map, option_and_then, le_trans, arith, list_any, false≢true, get, contains-retain, same_set, bytes_eq, same_Some, memberships_total, memberships_exact, Memberships, membership_cmp, members_of, IsName, Entry, Membership, NamesTo, LAST_NUMBER, Book, Office, Properties, Path, changed_at, card_labelled, label_card, label_set, list_set, listed_card, with_book_properties, with_cards, card_in, card_resource, number_of, IsMapped, IsSoundList, AreSoundProperties, IsSoundBook, IsSoundCard, IsSound, some_apart, by_option, where_some, by_changed}
use Rattle.std.specs.List.{All}
use Rattle.std.proofs.lemmas.List.{length-map}
use Rattle.std.proofs.lemmas.List.Elements.{All-head, All-tail}
use Rattle.std.specs.FinSet as set
use Rattle.std.specs.FinSet.{contains-from_list, contains-union, len-empty, len-insert}
use Rattle.std.specs.Ordering.{eq_by_cmp}
use Rattle.std.proofs.lemmas.Cmp.{nat_list_eq_equiv}
use Rattle.book_lists.proofs.Pairing.{same_path, path_itself}
use Rattle.book_limits.specs.declared.TheConstants.{MAX_MEMBERS}
use Rattle.book_office_values.specs.Texts.{IsLabel}
use Rattle.book_office_values.specs.declared.paths.Path.TheVariants as path
use Rattle.book_office.specs.Edits.{members_set, with_properties}
use Rattle.book_office.specs.Fitting.{SetLabelFits, SetListFits, SetMembersFits}
use Rattle.book_office.specs.Resources.{resource_at}
use Rattle.book_office.specs.Sound.{IsMappedGroup, IsSoundPair}
use Rattle.book_office.proofs.FittingEdits.{books_sound, with_book_sound}
use Rattle.book_office.proofs.GroupMembers.{pairs_of}
use Rattle.book_office.proofs.KnownPrincipals.{properties_known, book_known}
use Rattle.book_office.proofs.MovedCards.{card_there}
use Rattle.book_office.proofs.OneGroup.{one_of, only_new, only_old, among}
use Rattle.book_office.proofs.SoundBooks.{placed_sound, card_named}
use Rattle.book_office_values.proofs.NameMapLaws.{tied}
use Rattle.book_office_values.proofs.OneName.{len_changed}

-- what holds of each value holds where one is changed, if the change keeps it
changed_each : {V : Type 0} (m : NamesTo V) (n : List ℕ) (change : V → V) (P : List ℕ → V → Type 0) → ((q : List ℕ) (v : V) → P q v → P q (change v))
    → ((q : List ℕ) (v : V) → get m q ≡ Some v → P q v) → (q : List ℕ) (v : V) → get (changed_at change m n) q ≡ Some v → P q v
changed_each m n change P keeps each q v = by_changed m n change q (λ r. r ≡ Some v → P q v)
    (λ _ after. by_option (get m q)
    (λ none. some_apart (sym after ∙ ap (option_map change) none))
    (λ old at. subst (P q) (same_Some (change old) v (sym (ap (option_map change) at) ∙ after)) (keeps q old (each q old at))))
    (λ _. each q v)

-- names that are there stay there where one value is changed
still_there : {V : Type 0} (m : NamesTo V) (n : List ℕ) (change : V → V) (q : List ℕ) → get m q ≢ None → get (changed_at change m n) q ≢ None
still_there m n change q there = by_changed m n change q (λ r. r ≢ None)
    (λ _. where_some (get m q) there (λ v at none. some_apart (sym (ap (option_map change) at) ∙ none)))
    (λ _. there)

module _ (o : Office) (sound : IsSound o) (epoch : ℕ) (low : epoch ≤ LAST_NUMBER) where
  -- other homes
  homes_sound : (root people groups_home books_home : Properties) → AreSoundProperties o root → AreSoundProperties o people → AreSoundProperties o groups_home
      → AreSoundProperties o books_home
      → IsSound (record o { root = root; people = people; groups_home = groups_home; books_home = books_home; epoch = epoch })
  homes_sound root people groups_home books_home good_root good_people good_groups good_books =
      let p : Office = record o { root = root; people = people; groups_home = groups_home; books_home = books_home; epoch = epoch } in
      let known : (principal : List ℕ) → IsMapped o principal → IsMapped p principal = λ _ h. h in
      record {
        root = properties_known o p known root good_root;
        people = properties_known o p known people good_people;
        groups_home = properties_known o p known groups_home good_groups;
        books_home = properties_known o p known books_home good_books;
        persons = λ name properties e. let h = sound.persons name properties e in (h.0, properties_known o p known properties h.1);
        groups = λ name properties e. let h = sound.groups name properties e in (h.0, properties_known o p known properties h.1);
        books = λ name book e. let h = sound.books name book e in (h.0, book_known o p known book h.1);
        few = sound.few;
        pairs = λ pair e. let h = sound.pairs pair e in record { group = h.group; member = h.member };
        members = sound.members;
        epoch = low;
      }

  -- other persons and groups, where those that were there still are
  principals_sound : (persons groups : NamesTo Properties) → ((q : List ℕ) → get o.persons q ≢ None → get persons q ≢ None) → ((q : List ℕ) → get o.groups q ≢ None → get groups q ≢ None)
      → ((q : List ℕ) (v : Properties) → get persons q ≡ Some v → IsName q × AreSoundProperties o v)
      → ((q : List ℕ) (v : Properties) → get groups q ≡ Some v → IsName q × AreSoundProperties o v)
      → IsSound (record o { persons = persons; groups = groups; epoch = epoch })
  principals_sound persons groups person_kept group_kept each_person each_group =
      let p : Office = record o { persons = persons; groups = groups; epoch = epoch } in
      let known : (principal : List ℕ) → IsMapped o principal → IsMapped p principal = λ principal h. elim h [
        | inl person ↦ inl (person.0, person.1, person_kept person.0 person.2)
        | inr group ↦ inr (group.0, group.1, group_kept group.0 group.2)
      ] in
      record {
        root = properties_known o p known o.root sound.root;
        people = properties_known o p known o.people sound.people;
        groups_home = properties_known o p known o.groups_home sound.groups_home;
        books_home = properties_known o p known o.books_home sound.books_home;
        persons = λ name properties e. let h = each_person name properties e in (h.0, properties_known o p known properties h.1);
        groups = λ name properties e. let h = each_group name properties e in (h.0, properties_known o p known properties h.1);
        books = λ name book e. let h = sound.books name book e in (h.0, book_known o p known book h.1);
        few = sound.few;
        pairs = λ pair e. let h = sound.pairs pair e in record { group = (h.group.0, h.group.1, group_kept h.group.0 h.group.2); member = known pair.member h.member };
        members = sound.members;
        epoch = low;
      }

  -- a change of one book
  changed_book_sound : (b : List ℕ) (change : Book → Book) → ((x : Book) → IsSoundBook o x → IsSoundBook o (change x))
      → IsSound (record o { books = changed_at change o.books b; epoch = epoch })
  changed_book_sound b change keeps = books_sound o (changed_at change o.books b) epoch sound
      (changed_each o.books b change (λ q x. IsName q × IsSoundBook o x) (λ q x h. (h.0, keeps x h.1)) sound.books)
      (rw (len_changed o.books b change) sound.few)
      low

  module _ (change : Properties → Properties) (keeps : (x : Properties) → AreSoundProperties o x → AreSoundProperties o (change x)) where
    book_keeps : (x : Book) → IsSoundBook o x → IsSoundBook o (with_book_properties change x)
    book_keeps x h = record {
      properties = keeps x.properties h.properties;
      cards = h.cards;
      few = h.few;
      changed = h.changed;
      names = h.names;
      within = h.within;
      different = h.different;
      last = h.last;
    }

    principal_keeps : (q : List ℕ) (x : Properties) → IsName q × AreSoundProperties o x → IsName q × AreSoundProperties o (change x)
    principal_keeps q x h = (h.0, keeps x h.1)

    -- a change of the owner, label and lists at a path
    properties_sound : (p : Path) → IsSound (record (with_properties change o p) { epoch = epoch })
    properties_sound path.Root = homes_sound (change o.root) o.people o.groups_home o.books_home (keeps o.root sound.root) sound.people sound.groups_home sound.books_home
    properties_sound path.People = homes_sound o.root (change o.people) o.groups_home o.books_home sound.root (keeps o.people sound.people) sound.groups_home sound.books_home
    properties_sound path.Groups = homes_sound o.root o.people (change o.groups_home) o.books_home sound.root sound.people (keeps o.groups_home sound.groups_home) sound.books_home
    properties_sound path.Books = homes_sound o.root o.people o.groups_home (change o.books_home) sound.root sound.people sound.groups_home (keeps o.books_home sound.books_home)
    properties_sound (path.Person n) = principals_sound (changed_at change o.persons n) o.groups (still_there o.persons n change) (λ _ h. h)
        (changed_each o.persons n change (λ q x. IsName q × AreSoundProperties o x) principal_keeps sound.persons) sound.groups
    properties_sound (path.Group n) = principals_sound o.persons (changed_at change o.groups n) (λ _ h. h) (still_there o.groups n change)
        sound.persons (changed_each o.groups n change (λ q x. IsName q × AreSoundProperties o x) principal_keeps sound.groups)
    properties_sound (path.Book b) = changed_book_sound b (with_book_properties change) book_keeps
    properties_sound (path.Card b c) = homes_sound o.root o.people o.groups_home o.books_home sound.root sound.people sound.groups_home sound.books_home

-- ---- labels

label_keeps : (o : Office) (label : List ℕ) → IsLabel label → (x : Properties) → AreSoundProperties o x → AreSoundProperties o (label_set label x)
label_keeps o label short x h = record { owner = h.owner; label = short; protected = h.protected; own = h.own }

-- a resource of a card is a card
is_card : (found : Option Book) (c : List ℕ) → option_and_then (λ (book : Book). get book.cards c) found ≡ None → option_and_then (λ (book : Book). card_in book c) found ≡ None
is_card None c e = refl
is_card (Some book) c e = ap (option_map (card_resource (number_of book c))) e

card_label_sound : (o : Office) (b c label : List ℕ) → IsSound o → resource_at o (path.Card b c) ≢ None → IsLabel label
    → ((book : Book) → get o.books b ≡ Some book → book.changes.number < LAST_NUMBER)
    → IsSound (record o { books = changed_at (λ (book : Book). label_card c label (get book.cards c) book) o.books b })
card_label_sound o b c label sound there short low =
    card_there o b c (λ none. there (is_card (get o.books b) c none)) (λ book at mapped is. where_some (get book.cards c) mapped (λ card here.
    let good : IsSoundBook o book = (sound.books b book at).1 in
    let old : IsSoundCard o card = good.cards c card here in
    let new : IsSoundCard o (card_labelled label card) = record { owner = old.owner; label = short; own = old.own; text = old.text } in
    with_book_sound o b (λ (x : Book). label_card c label (get x.cards c) x) book sound at
    (subst (λ r. IsSoundBook o (label_card c label r book)) (sym here)
    (placed_sound o book c good (card_labelled label card) (card_named o book c good mapped) new (low book at) (inl mapped)))))

pub set_label_fits : SetLabelFits
set_label_fits o path.Root label sound there short low = record { possible = there; sound = properties_sound o sound o.epoch sound.epoch (label_set label) (label_keeps o label short) path.Root }
set_label_fits o path.People label sound there short low = record { possible = there; sound = properties_sound o sound o.epoch sound.epoch (label_set label) (label_keeps o label short) path.People }
set_label_fits o path.Groups label sound there short low = record { possible = there; sound = properties_sound o sound o.epoch sound.epoch (label_set label) (label_keeps o label short) path.Groups }
set_label_fits o path.Books label sound there short low = record { possible = there; sound = properties_sound o sound o.epoch sound.epoch (label_set label) (label_keeps o label short) path.Books }
set_label_fits o (path.Person n) label sound there short low = record { possible = there; sound = properties_sound o sound o.epoch sound.epoch (label_set label) (label_keeps o label short) (path.Person n) }
set_label_fits o (path.Group n) label sound there short low = record { possible = there; sound = properties_sound o sound o.epoch sound.epoch (label_set label) (label_keeps o label short) (path.Group n) }
set_label_fits o (path.Book b) label sound there short low = record { possible = there; sound = properties_sound o sound o.epoch sound.epoch (label_set label) (label_keeps o label short) (path.Book b) }
set_label_fits o (path.Card b c) label sound there short low = record { possible = there; sound = card_label_sound o b c label sound there short low }

-- ---- own lists

list_keeps : (o : Office) (list : List Entry) → IsSoundList o list → (x : Properties) → AreSoundProperties o x → AreSoundProperties o (list_set list x)
list_keeps o list good x h = record { owner = h.owner; label = h.label; protected = h.protected; own = good }

card_list_keeps : (o : Office) (c : List ℕ) (list : List Entry) → IsSoundList o list → (x : Book) → IsSoundBook o x → IsSoundBook o (with_cards (λ cards. changed_at (listed_card list) cards c) x)
card_list_keeps o c list good x h = record {
  properties = h.properties;
  cards = changed_each x.cards c (listed_card list) (λ _ k. IsSoundCard o k) (λ _ k g. record { owner = g.owner; label = g.label; own = good; text = g.text }) h.cards;
  few = rw (len_changed x.cards c (listed_card list)) h.few;
  changed = changed_each x.cards c (listed_card list) (λ q _. get x.changes.last q ≢ None) (λ _ _ g. g) h.changed;
  names = h.names;
  within = h.within;
  different = h.different;
  last = h.last;
}

pub set_list_fits : SetListFits
set_list_fits o path.Root list sound there good low = record { possible = there; sound = properties_sound o sound (o.epoch + 1) (omega (arith, low)) (list_set list) (list_keeps o list good) path.Root }
set_list_fits o path.People list sound there good low = record { possible = there; sound = properties_sound o sound (o.epoch + 1) (omega (arith, low)) (list_set list) (list_keeps o list good) path.People }
set_list_fits o path.Groups list sound there good low = record { possible = there; sound = properties_sound o sound (o.epoch + 1) (omega (arith, low)) (list_set list) (list_keeps o list good) path.Groups }
set_list_fits o path.Books list sound there good low = record { possible = there; sound = properties_sound o sound (o.epoch + 1) (omega (arith, low)) (list_set list) (list_keeps o list good) path.Books }
set_list_fits o (path.Person n) list sound there good low = record { possible = there; sound = properties_sound o sound (o.epoch + 1) (omega (arith, low)) (list_set list) (list_keeps o list good) (path.Person n) }
set_list_fits o (path.Group n) list sound there good low = record { possible = there; sound = properties_sound o sound (o.epoch + 1) (omega (arith, low)) (list_set list) (list_keeps o list good) (path.Group n) }
set_list_fits o (path.Book b) list sound there good low = record { possible = there; sound = properties_sound o sound (o.epoch + 1) (omega (arith, low)) (list_set list) (list_keeps o list good) (path.Book b) }
set_list_fits o (path.Card b c) list sound there good low = record {
  possible = there;
  sound = changed_book_sound o sound (o.epoch + 1) (omega (arith, low)) b (with_cards (λ cards. changed_at (listed_card list) cards c)) (card_list_keeps o c list good);
}

-- ---- members of groups

-- a set of a list has no more than the list
len_of_list : (list : List Membership) → set.len (set.from_list {R = membership_cmp} list) ≤ length list
len_of_list [] = rw (len-empty membership_cmp) (omega arith)
len_of_list (m ∷ ms) = rw (len-insert memberships_total (set.from_list ms) m)
    (elim (set.contains (set.from_list {R = membership_cmp} ms) m) as (λ b. cond b (set.len (set.from_list {R = membership_cmp} ms)) (set.len (set.from_list {R = membership_cmp} ms) + 1) ≤ length (m ∷ ms)) [
      | true ↦ omega (arith, len_of_list ms)
      | false ↦ omega (arith, len_of_list ms)
    ])

-- a pair of a group and one of the members
module _ (group : List ℕ) where
  each_pair : (P : Membership → Type 0) (members : List (List ℕ)) → All (λ member. P (record { group = group; member = member })) members
      → (q : Membership) → list_any (eq_by_cmp membership_cmp q) (pairs_of group members) ≡ true → P q
  each_pair P [] all q e = absurd (false≢true e)
  each_pair P (member ∷ members) all q e = elim (eq_by_cmp membership_cmp q (record { group = group; member = member })) as (λ b.
      eq_by_cmp membership_cmp q (record { group = group; member = member }) ≡ b → (b || list_any (eq_by_cmp membership_cmp q) (pairs_of group members)) ≡ true → P q) [
        | true ↦ λ is _. subst P (sym (memberships_exact q (record { group = group; member = member }) (tied _ is))) (All-head (λ m. P (record { group = group; member = m })) member members all)
        | false ↦ λ _ rest. each_pair P members (All-tail (λ m. P (record { group = group; member = m })) member members all) q rest
      ] refl e

  module _ (pairs : Memberships) (members : List (List ℕ)) where
    -- which pairs there are: those of other groups, and those of the members
    pub contains_set : (q : Membership) → set.contains (members_set pairs group members) q
        ≡ ((set.contains pairs q && not (bytes_eq q.group group)) || list_any (eq_by_cmp membership_cmp q) (pairs_of group members))
    contains_set q =
        contains-union memberships_total (set.retain pairs (λ (m : Membership). not (bytes_eq m.group group))) (set.from_list (pairs_of group members)) q
        ∙ (λ i. contains-retain pairs (λ (m : Membership). not (bytes_eq m.group group)) q (λ x e. ap (λ (m : Membership). not (bytes_eq m.group group)) (sym (memberships_exact q x e))) i
        || contains-from_list memberships_total (pairs_of group members) q i)

-- a pair of the members is one of the group
of_group : (group : List ℕ) (members : List (List ℕ)) (q : Membership) → list_any (eq_by_cmp membership_cmp q) (pairs_of group members) ≡ true → bytes_eq q.group group ≡ true
of_group group members q e = each_pair group (λ m. bytes_eq m.group group ≡ true) members (λ k d l. path_itself group) q e

-- two truths where the one goes with the other
goes_with : (m e : Bool) → (m ≡ true → e ≡ true) → (m && e) ≡ m
goes_with true e h = h refl
goes_with false e h = refl

module _ (o : Office) (group : List ℕ) (members : List (List ℕ)) (sound : IsSound o) where
  abbrev new : Memberships
  new = members_set o.pairs group members

  pair_sound : IsMappedGroup o group → All (IsMapped o) members → (q : Membership) → set.contains new q ≡ true → IsSoundPair o q
  pair_sound there known q e =
      elim (one_of (set.contains o.pairs q) (not (bytes_eq q.group group)) (list_any (eq_by_cmp membership_cmp q) (pairs_of group members)) (sym (contains_set group o.pairs members q) ∙ e)) [
        | inl old ↦ sound.pairs q old
        | inr one ↦ each_pair group (IsSoundPair o) members (λ k d l. record { group = there; member = known k d l }) q one
      ]

  -- the members of the group are those of the list, those of another group as before
  members_few : length members ≤ MAX_MEMBERS → (g : List ℕ) → set.len (members_of new g) ≤ MAX_MEMBERS
  members_few few g = elim (bytes_eq group g) as (λ b. bytes_eq group g ≡ b → set.len (members_of new g) ≤ MAX_MEMBERS) [
    | true ↦ λ is. rw (same_set memberships_total memberships_exact (members_of new g) (set.from_list (pairs_of group members)) (λ q.
        let same : bytes_eq q.group g ≡ bytes_eq q.group group = ap (bytes_eq q.group) (sym (same_path group g is)) in
        among g new q ∙ ap (λ b. b && bytes_eq q.group g) (contains_set group o.pairs members q)
        ∙ only_new (set.contains o.pairs q) (bytes_eq q.group group) (list_any (eq_by_cmp membership_cmp q) (pairs_of group members)) (bytes_eq q.group g) (λ e. sym same ∙ e)
        ∙ goes_with (list_any (eq_by_cmp membership_cmp q) (pairs_of group members)) (bytes_eq q.group g) (λ e. same ∙ of_group group members q e)
        ∙ sym (contains-from_list memberships_total (pairs_of group members) q))) (le_trans (len_of_list (pairs_of group members)) (rw (length-map {B = Membership} members (λ member. record { group = group; member = member })) few))
    | false ↦ λ apart. rw (same_set memberships_total memberships_exact (members_of new g) (members_of o.pairs g) (λ q.
        among g new q ∙ ap (λ b. b && bytes_eq q.group g) (contains_set group o.pairs members q)
        ∙ only_old (set.contains o.pairs q) (bytes_eq q.group group) (list_any (eq_by_cmp membership_cmp q) (pairs_of group members)) (bytes_eq q.group g)
        (λ e. ap (λ k. bytes_eq k group) (same_path q.group g e) ∙ bytes_sym g group ∙ apart) (of_group group members q)
        ∙ sym (among g o.pairs q))) (sound.members g)
  ] refl
    where
      bytes_sym : (xs ys : List ℕ) → bytes_eq xs ys ≡ bytes_eq ys xs
      bytes_sym xs ys = nat_list_eq_equiv.symm xs ys

  members_sound : IsMappedGroup o group → All (IsMapped o) members → length members ≤ MAX_MEMBERS → o.epoch < LAST_NUMBER → IsSound (record o { pairs = new; epoch = o.epoch + 1 })
  members_sound there known few low =
      let p : Office = record o { pairs = new; epoch = o.epoch + 1 } in
      let same : (principal : List ℕ) → IsMapped o principal → IsMapped p principal = λ _ h. h in
      record {
        root = properties_known o p same o.root sound.root;
        people = properties_known o p same o.people sound.people;
        groups_home = properties_known o p same o.groups_home sound.groups_home;
        books_home = properties_known o p same o.books_home sound.books_home;
        persons = λ name properties e. let h = sound.persons name properties e in (h.0, properties_known o p same properties h.1);
        groups = λ name properties e. let h = sound.groups name properties e in (h.0, properties_known o p same properties h.1);
        books = λ name book e. let h = sound.books name book e in (h.0, book_known o p same book h.1);
        few = sound.few;
        pairs = λ pair e. let h = pair_sound there known pair e in record { group = h.group; member = h.member };
        members = members_few few;
        epoch = omega (arith, low);
      }

pub set_members_fits : SetMembersFits
set_members_fits o group members sound there known few low = record { possible = there; sound = members_sound o group members sound there known few low }
