-- Parts have no fault exactly where each fits after those before it, and then they make a policy.
use Rattle.book_policy_values.proofs.Common.{◌≡◌, ◌≢◌, ℕ, ◌+◌, ◌≤◌, List, [], ◌∷◌, Bool, true, false, length, map, Option, Some, None, refl, sym, ◌∙◌, subst, arith, All, AllByRecursion, All-nil, All-cons, All-head, All-tail, get, empty, IsName, Entry, NamesTo, spelled, named_person, named_group, named_book, given_members, paired, entry_of, NamesPrincipal, IsPlaceOf, CanAdd, PersonsFit, GroupsFit, BookFits, MembersFit, EntryFits, EntriesFit, with_entries}
use Rattle.std.proofs.Common.{option_map}
use Rattle.std.proofs.lemmas.List.Elements.{All-from_recursion, recursion_from_All}
use Rattle.std.specs.FinMap.{get-empty, len-empty}
use Rattle.std.specs.FinSet as set
use Rattle.book_lists.specs.Memberships.{membership_cmp}
use Rattle.book_lists.specs.Names.{name_cmp}
use Rattle.book_lists.specs.Principals.{group_path}
use Rattle.book_lists.specs.declared.memberships.Membership.{Membership}
use Rattle.book_office_values.specs.declared.paths.Path.{Path}
use Rattle.book_office_values.specs.Paths.{IsPath, path_text}
use Rattle.book_limits.specs.declared.TheConstants.{MAX_ENTRIES, MAX_MEMBERS, MAX_NAMED}
use Rattle.book_policy_values.specs.declared.parts.PersonPart.{PersonPart}
use Rattle.book_policy_values.specs.declared.parts.GroupPart.{GroupPart}
use Rattle.book_policy_values.specs.declared.parts.BookPart.{BookPart}
use Rattle.book_policy_values.specs.declared.parts.EntryPart.{EntryPart}
use Rattle.book_policy_values.specs.declared.parts.PolicyBook.{PolicyBook}
use Rattle.book_policy_values.specs.declared.parts.PolicyEntry.{PolicyEntry}
use Rattle.book_policy_values.specs.declared.parts.PolicyTables.{PolicyTables}
use Rattle.book_policy_values.specs.Policies.{memberships, policy_of, entries_at, IsKnown, IsKnownOwner, NamesOwner, NamesForm, HoldsSome, IsFaultless, IsPolicy, AreListed}
use Rattle.book_office_values.specs.Texts.{IsLabel}
use Rattle.book_policy_values.proofs.Lists.{are_listed, AreShort, all_fit, lists_short, entries_fit}
use Rattle.book_policy_values.proofs.Members.{each_paired_all, few_direct}
use Rattle.book_policy_values.proofs.Names.{all_fine, all_named, all_once, can_add, each_added, len_added, all_there}
use Rattle.book_policy_values.proofs.Paths.{principal_spelled, place_spelled}
use Rattle.std.specs.FinSet.{contains-empty}
use Rattle.book_office_values.proofs.OneName.{nothing_in}

none_short : AreShort empty
none_short q = rw (get-empty name_cmp q) (omega arith)

pub known_spelled : (persons groups : NamesTo (List ℕ)) (text : List ℕ) → NamesPrincipal persons groups text → IsKnown persons groups (spelled text)
known_spelled persons groups text h = (h.0, h.1, sym (principal_spelled persons groups text h.0 h.1 h.2 h.3), h.3)

known_owner : (persons groups : NamesTo (List ℕ)) (owner : Option (List ℕ)) → NamesOwner persons groups owner → IsKnownOwner persons groups (option_map spelled owner)
known_owner persons groups None h = tt
known_owner persons groups (Some text) h = known_spelled persons groups text h

pub all_mapped : {A B : Type 0} (P : B → Type 0) (f : A → B) (xs : List A) → All (λ x. P (f x)) xs → All P (map f xs)
all_mapped P f [] h = All-nil P
all_mapped P f (x ∷ xs) h = All-cons P (f x) (map f xs) (All-head (λ y. P (f y)) x xs h) (all_mapped P f xs (All-tail (λ y. P (f y)) x xs h))

members_fit_of : (persons groups : NamesTo (List ℕ)) (gs : List GroupPart)
    → All (λ (g : GroupPart). All (NamesPrincipal persons groups) g.members) gs
    → All (λ (g : GroupPart). set.len (paired set.empty (memberships (given_members g))) ≤ MAX_MEMBERS) gs
    → AllByRecursion (MembersFit persons groups) (map given_members gs)
members_fit_of persons groups [] known few = tt
members_fit_of persons groups (g ∷ gs) known few = (
  (
    recursion_from_All (NamesPrincipal persons groups) g.members (All-head (λ (h : GroupPart). All (NamesPrincipal persons groups) h.members) g gs known),
    All-head (λ (h : GroupPart). set.len (paired set.empty (memberships (given_members h))) ≤ MAX_MEMBERS) g gs few,
  ),
  members_fit_of persons groups gs (All-tail (λ (h : GroupPart). All (NamesPrincipal persons groups) h.members) g gs known)
      (All-tail (λ (h : GroupPart). set.len (paired set.empty (memberships (given_members h))) ≤ MAX_MEMBERS) g gs few),
)

members_known : (persons groups : NamesTo (List ℕ)) (gs : List GroupPart) → AllByRecursion (MembersFit persons groups) (map given_members gs)
    → All (λ (g : GroupPart). All (NamesPrincipal persons groups) g.members) gs
members_known persons groups [] h = All-nil _
members_known persons groups (g ∷ gs) h =
    All-cons (λ (x : GroupPart). All (NamesPrincipal persons groups) x.members) g gs
    (All-from_recursion (NamesPrincipal persons groups) g.members h.0.0) (members_known persons groups gs h.1)

members_few : (persons groups : NamesTo (List ℕ)) (gs : List GroupPart) → AllByRecursion (MembersFit persons groups) (map given_members gs)
    → All (λ (g : GroupPart). set.len (paired set.empty (memberships (given_members g))) ≤ MAX_MEMBERS) gs
members_few persons groups [] h = All-nil _
members_few persons groups (g ∷ gs) h =
    All-cons (λ (x : GroupPart). set.len (paired set.empty (memberships (given_members x))) ≤ MAX_MEMBERS) g gs h.0.1 (members_few persons groups gs h.1)

module _ (persons : List PersonPart) (groups : List GroupPart) (books : List BookPart) (entries : List EntryPart) where
  abbrev t : PolicyTables
  t = policy_of persons groups books entries

  -- ---- parts without a fault fit
  module _ (f : IsFaultless persons groups books entries) where
    pub persons_fit : PersonsFit empty persons
    persons_fit = can_add (λ p. IsLabel p.label) named_person empty persons f.labels.of_persons f.names.of_persons f.once.of_persons (λ k d within. get-empty name_cmp _)

    pub groups_fit : GroupsFit empty groups
    groups_fit = can_add (λ g. IsLabel g.label) named_group empty groups f.labels.of_groups f.names.of_groups f.once.of_groups (λ k d within. get-empty name_cmp _)

    pub books_fit : CanAdd (BookFits t.persons t.groups) named_book empty books
    books_fit = can_add (BookFits t.persons t.groups) named_book empty books (λ k d within. (f.labels.of_books k d within, f.known.owners k d within)) f.names.of_books f.once.of_books (λ k d within. get-empty name_cmp _)

    pub members_fit : AllByRecursion (MembersFit t.persons t.groups) (map given_members groups)
    members_fit = members_fit_of t.persons t.groups groups f.known.members f.few.few_members

    pub all_entries_fit : EntriesFit (EntryFits t.persons t.groups t.books) empty empty entries
    all_entries_fit =
        let listed = are_listed (map entry_of entries) in
        entries_fit (EntryFits t.persons t.groups t.books) empty empty entries (λ k d within. (f.leaves k d within, f.known.forms k d within, f.places k d within))
        (λ q. rw (listed.protected_lists q) (f.few.few_entries true q)) (λ q. rw (listed.own_lists q) (f.few.few_entries false q))

    -- ---- and make a policy
    pub is_policy : IsPolicy t
    is_policy = record {
      persons = each_added (λ p. IsLabel p.label) named_person (λ name label. IsName name × IsLabel label) empty persons (λ q v e. nothing_in q v e) (λ k d within. (f.names.of_persons k d within, f.labels.of_persons k d within));
      groups = each_added (λ g. IsLabel g.label) named_group (λ name label. IsName name × IsLabel label) empty groups (λ q v e. nothing_in q v e) (λ k d within. (f.names.of_groups k d within, f.labels.of_groups k d within));
      books = each_added (BookFits t.persons t.groups) named_book (λ name book. IsName name × IsLabel book.label × IsKnownOwner t.persons t.groups book.owner) empty books (λ q v e. nothing_in q v e)
          (λ k d within. (f.names.of_books k d within, f.labels.of_books k d within, known_owner t.persons t.groups _ (f.known.owners k d within)));
      members = each_paired_all (λ (m : Membership). ((name : List ℕ) × (m.group ≡ group_path name) × (get t.groups name ≢ None)) × IsKnown t.persons t.groups m.member) set.empty groups
          (λ q e. let clash : true ≡ false = sym e ∙ contains-empty membership_cmp q in absurd cc)
          (λ k d within. all_mapped (λ (m : Membership). ((name : List ℕ) × (m.group ≡ group_path name) × (get t.groups name ≢ None)) × IsKnown t.persons t.groups m.member) _ _
          (λ j e inside. ((_, refl, all_there (λ g. IsLabel g.label) named_group empty groups k d within), known_spelled t.persons t.groups _ (f.known.members k d within j e inside))));
      few_members = few_direct MAX_MEMBERS groups f.once.of_groups f.few.few_members;
      leaves = all_mapped (λ (e : PolicyEntry). HoldsSome e.entry.set) entry_of entries f.leaves;
      forms = all_mapped (λ (e : PolicyEntry). NamesForm t.persons t.groups e.entry.who) entry_of entries f.known.forms;
      places = all_mapped (λ (e : PolicyEntry). (p : Path) × IsPath p × (e.at ≡ path_text p) × IsPlaceOf t.persons t.groups t.books p) entry_of entries (λ k d within.
          let h = f.places k d within in
          (h.0, h.1, sym (place_spelled t.persons t.groups _ h.0 h.1 h.2 t.books h.3), h.3));
      few_entries = f.few.few_entries;
      few_persons = few_of f.few.few_persons (len_added (λ p. IsLabel p.label) named_person empty persons) (len-empty name_cmp _);
      few_groups = few_of f.few.few_groups (len_added (λ g. IsLabel g.label) named_group empty groups) (len-empty name_cmp _);
      few_books = few_of f.few.few_books (len_added (BookFits t.persons t.groups) named_book empty books) (len-empty name_cmp _);
    }
      where
        few_of : {n e k : ℕ} → k ≤ MAX_NAMED → n ≤ e + k → e ≡ 0 → n ≤ MAX_NAMED
        few_of a b c = omega (arith, a, b, c)

  -- ---- parts that fit have no fault
  pub faultless : length persons ≤ MAX_NAMED → length groups ≤ MAX_NAMED → length books ≤ MAX_NAMED
      → PersonsFit empty persons → GroupsFit empty groups → CanAdd (BookFits t.persons t.groups) named_book empty books
      → AllByRecursion (MembersFit t.persons t.groups) (map given_members groups)
      → EntriesFit (EntryFits t.persons t.groups t.books) empty empty entries
      → IsFaultless persons groups books entries
  faultless few_persons few_groups few_books ps gs bs ms es =
      let book_fine = all_fine (BookFits t.persons t.groups) named_book empty books bs in
      let fits = all_fit (EntryFits t.persons t.groups t.books) empty empty entries es in
      let short = lists_short (EntryFits t.persons t.groups t.books) empty empty entries none_short none_short es in
      let listed = are_listed (map entry_of entries) in
      record {
        labels = record {
          of_persons = all_fine (λ p. IsLabel p.label) named_person empty persons ps;
          of_groups = all_fine (λ g. IsLabel g.label) named_group empty groups gs;
          of_books = λ k d within. (book_fine k d within).0;
        };
        leaves = λ k d within. (fits k d within).0;
        names = record {
          of_persons = all_named (λ p. IsLabel p.label) named_person empty persons ps;
          of_groups = all_named (λ g. IsLabel g.label) named_group empty groups gs;
          of_books = all_named (BookFits t.persons t.groups) named_book empty books bs;
        };
        once = record {
          of_persons = all_once (λ p. IsLabel p.label) named_person empty persons ps;
          of_groups = all_once (λ g. IsLabel g.label) named_group empty groups gs;
          of_books = all_once (BookFits t.persons t.groups) named_book empty books bs;
        };
        known = record {
          members = members_known t.persons t.groups groups ms;
          owners = λ k d within. (book_fine k d within).1;
          forms = λ k d within. (fits k d within).1;
        };
        places = λ k d within. (fits k d within).2;
        few = record {
          few_persons = few_persons;
          few_groups = few_groups;
          few_books = few_books;
          few_members = members_few t.persons t.groups groups ms;
          few_entries = by_list (λ q. rw (← listed.protected_lists q) (short.0 q)) (λ q. rw (← listed.own_lists q) (short.1 q));
        };
      }
    where
      by_list : ((at : List ℕ) → length (entries_at true at (map entry_of entries)) ≤ MAX_ENTRIES) → ((at : List ℕ) → length (entries_at false at (map entry_of entries)) ≤ MAX_ENTRIES)
          → (b : Bool) (at : List ℕ) → length (entries_at b at (map entry_of entries)) ≤ MAX_ENTRIES
      by_list p o true = p
      by_list p o false = o

  -- ---- what was read
  module _ (ps gs : NamesTo (List ℕ)) (bs : NamesTo PolicyBook) (given : List (List ℕ × List (List ℕ)))
      (p : ps ≡ t.persons) (g : gs ≡ t.groups) (r : given ≡ map given_members groups) where
    pub not_books : (CanAdd (BookFits ps gs) named_book empty books → ⊥) → IsFaultless persons groups books entries → ⊥
    not_books none f = none (rw (p, g) (books_fit f))

    module _ (b : bs ≡ t.books) where
      pub not_entries : (EntriesFit (EntryFits ps gs bs) empty empty entries → ⊥) → IsFaultless persons groups books entries → ⊥
      not_entries none f = none (rw (p, g, b) (all_entries_fit f))

      pub all_read : length persons ≤ MAX_NAMED → length groups ≤ MAX_NAMED → length books ≤ MAX_NAMED
          → PersonsFit empty persons → GroupsFit empty groups → CanAdd (BookFits ps gs) named_book empty books
          → AllByRecursion (MembersFit ps gs) given → EntriesFit (EntryFits ps gs bs) empty empty entries
          → IsFaultless persons groups books entries
      all_read np ng nb fp fg fb fm fe =
          faultless np ng nb fp fg (rw (← p, ← g) fb) (rw (← p, ← g, ← r) fm) (rw (← p, ← g, ← b) fe)

  pub policy_made : (u : PolicyTables) → u.persons ≡ t.persons → u.groups ≡ t.groups → u.books ≡ t.books → u.members ≡ t.members → u.entries ≡ t.entries
      → IsFaultless persons groups books entries → IsPolicy u
  policy_made u p g b m e f =
      let same : u ≡ t = λ i. record { persons = p i; groups = g i; books = b i; members = m i; entries = e i } in
      subst IsPolicy (sym same) (is_policy f)

pub listed_made : (es fs : List PolicyEntry) (protected own : NamesTo (List Entry)) → es ≡ fs
    → protected ≡ with_entries true empty fs → own ≡ with_entries false empty fs → AreListed es protected own
listed_made es fs protected own e p o = rw (e, p, o) (are_listed fs)
