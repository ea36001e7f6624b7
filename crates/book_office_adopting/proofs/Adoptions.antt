-- To adopt a policy twice is to adopt it once.
use Rattle.book_office_adopting.proofs.Common.{◌≡◌, ℕ, ◌+◌, List, [], ◌∷◌, Bool, true, false, not, cond, ◌&&◌, codes, Option, Some, None, option_map, refl, sym, ap, ◌∙◌, nat_list_cmp_total, get, same_map, group_path, Entry, Membership, book_path, PolicyBook, PolicyTables, names_apart, Book, Office, Properties, taken_over, adopt, same_office}
use Rattle.std.proofs.Common.{◌||◌}
use Rattle.std.specs.FinSet as set
use Rattle.std.specs.FinSet.{contains-union, contains-retain, same_set}
use Rattle.book_lists.proofs.Pairing.{memberships_total, memberships_exact}
use Rattle.book_lists.specs.Memberships.{Memberships}
use Rattle.book_lists.specs.Principals.{person_path}
use Rattle.book_policy_values.specs.Policies.{entries_at}
use Rattle.book_office_adopting.specs.Adopting.{labelled_or_new, owned, or_else, is_group_of, adopted_pairs, raised}
use Rattle.book_office_adopting.specs.Laws.{AdoptingTwiceIsOnce, AdoptingMayChangeNothing, AdoptingRaisesTheEpoch}
use Rattle.book_office_adopting.specs.TakingOver.{with_lists_taken, listed_book}
use Rattle.book_office_adopting.proofs.Merges.{made_of, get_merged, get_mapped}
use Rattle.book_office_adopting.proofs.Samenesses.{same_office_is, office_itself}

or_else_twice : (list old : List Entry) → or_else list (or_else list old) ≡ or_else list old
or_else_twice [] old = refl
or_else_twice (e ∷ es) old = refl

module _ (t : PolicyTables) where
  pub listed_twice : (at : List ℕ) (properties : Properties) → with_lists_taken t at (with_lists_taken t at properties) ≡ with_lists_taken t at properties
  listed_twice at properties =
      let same = or_else_twice (entries_at false at t.entries) properties.own in
      λ i. record (with_lists_taken t at properties) { own = same i }

  -- what stands at a name afterwards
  abbrev pub person_after : List ℕ → Option (List ℕ) → Option Properties → Option Properties
  person_after at label old = option_map (with_lists_taken t at) (made_of labelled_or_new label old)

  abbrev pub book_after : List ℕ → Option PolicyBook → Option Book → Option Book
  book_after at named old = option_map (listed_book t at) (made_of owned named old)

  person_twice : (at : List ℕ) (label : Option (List ℕ)) (old : Option Properties) → person_after at label (person_after at label old) ≡ person_after at label old
  person_twice at None None = refl
  person_twice at None (Some properties) = ap Some (listed_twice at properties)
  person_twice at (Some label) None = ap Some (listed_twice at (labelled_or_new label None))
  person_twice at (Some label) (Some properties) = ap Some (listed_twice at (labelled_or_new label (Some properties)))

  book_twice : (at : List ℕ) (named : Option PolicyBook) (old : Option Book) → book_after at named (book_after at named old) ≡ book_after at named old
  book_twice at None None = refl
  book_twice at None (Some book) = ap (λ p. Some (record book { properties = p })) (listed_twice at book.properties)
  book_twice at (Some named) None = ap (λ p. Some (record (owned named None) { properties = p })) (listed_twice at (owned named None).properties)
  book_twice at (Some named) (Some book) = ap (λ p. Some (record (owned named (Some book)) { properties = p })) (listed_twice at (owned named (Some book)).properties)

  two_maps : {A B C : Type 0} (f : B → C) (g : A → B) (r : Option A) → option_map f (option_map g r) ≡ option_map (λ x. f (g x)) r
  two_maps f g None = refl
  two_maps f g (Some x) = refl

  module _ (o : Office) where
    pub person_there : (q : List ℕ) → get (taken_over t o).persons q ≡ person_after (person_path q) (get t.persons q) (get o.persons q)
    person_there q =
        get_mapped _ _ q ∙ ap (option_map _) (get_mapped _ _ q ∙ ap (option_map _) (get_merged labelled_or_new o.persons t.persons q))
        ∙ two_maps _ _ (made_of labelled_or_new (get t.persons q) (get o.persons q))

    pub group_there : (q : List ℕ) → get (taken_over t o).groups q ≡ person_after (group_path q) (get t.groups q) (get o.groups q)
    group_there q =
        get_mapped _ _ q ∙ ap (option_map _) (get_mapped _ _ q ∙ ap (option_map _) (get_merged labelled_or_new o.groups t.groups q))
        ∙ two_maps _ _ (made_of labelled_or_new (get t.groups q) (get o.groups q))

    pub book_there : (q : List ℕ) → get (taken_over t o).books q ≡ book_after (book_path q) (get t.books q) (get o.books q)
    book_there q =
        get_mapped _ _ q ∙ ap (option_map _) (get_mapped _ _ q ∙ ap (option_map _) (get_merged owned o.books t.books q))
        ∙ two_maps _ _ (made_of owned (get t.books q) (get o.books q))

  pub contains_adopted : (pairs : Memberships) (q : Membership)
      → set.contains (adopted_pairs t pairs) q ≡ ((set.contains pairs q && not (is_group_of t q.group)) || set.contains t.members q)
  contains_adopted pairs q =
      contains-union memberships_total (set.retain pairs (λ (m : Membership). not (is_group_of t m.group))) t.members q
      ∙ ap (λ b. b || set.contains t.members q)
      (contains-retain pairs (λ (m : Membership). not (is_group_of t m.group)) q (λ x e. ap (λ (m : Membership). not (is_group_of t m.group)) (sym (memberships_exact q x e))))

  once_more : (a g m : Bool) → ((((a && g) || m) && g) || m) ≡ ((a && g) || m)
  once_more true true m = refl
  once_more true false true = refl
  once_more true false false = refl
  once_more false true true = refl
  once_more false true false = refl
  once_more false false true = refl
  once_more false false false = refl

  pairs_twice : (pairs : Memberships) → adopted_pairs t (adopted_pairs t pairs) ≡ adopted_pairs t pairs
  pairs_twice pairs = same_set memberships_total memberships_exact _ _ (λ q.
      contains_adopted (adopted_pairs t pairs) q
      ∙ ap (λ b. (b && not (is_group_of t q.group)) || set.contains t.members q) (contains_adopted pairs q)
      ∙ once_more (set.contains pairs q) (not (is_group_of t q.group)) (set.contains t.members q)
      ∙ sym (contains_adopted pairs q))

  pub taken_twice : (o : Office) → taken_over t (taken_over t o) ≡ taken_over t o
  taken_twice o =
      let p : Office = taken_over t o in
      let persons : (taken_over t p).persons ≡ p.persons = same_map nat_list_cmp_total names_apart _ _ (λ q.
      person_there p q ∙ ap (person_after (person_path q) (get t.persons q)) (person_there o q)
      ∙ person_twice (person_path q) (get t.persons q) (get o.persons q) ∙ sym (person_there o q)) in
      let groups : (taken_over t p).groups ≡ p.groups = same_map nat_list_cmp_total names_apart _ _ (λ q.
      group_there p q ∙ ap (person_after (group_path q) (get t.groups q)) (group_there o q)
      ∙ person_twice (group_path q) (get t.groups q) (get o.groups q) ∙ sym (group_there o q)) in
      let books : (taken_over t p).books ≡ p.books = same_map nat_list_cmp_total names_apart _ _ (λ q.
      book_there p q ∙ ap (book_after (book_path q) (get t.books q)) (book_there o q)
      ∙ book_twice (book_path q) (get t.books q) (get o.books q) ∙ sym (book_there o q)) in
      let pairs = pairs_twice o.pairs in
      let root = listed_twice (codes "/") o.root in
      let people = listed_twice (codes "/people") o.people in
      let groups_home = listed_twice (codes "/groups") o.groups_home in
      let books_home = listed_twice (codes "/books") o.books_home in
      λ i. record {
        root = root i;
        people = people i;
        groups_home = groups_home i;
        books_home = books_home i;
        persons = persons i;
        groups = groups i;
        books = books i;
        pairs = pairs i;
        epoch = o.epoch;
      }

  abbrev at_epoch : ℕ → Office → Office
  at_epoch n o = record o { epoch = n }

  taken_again : (o : Office) → taken_over t (adopt t o) ≡ adopt t o
  taken_again o = elim (same_office o (taken_over t o)) as (λ b.
      taken_over t (cond b (taken_over t o) (record (taken_over t o) { epoch = (taken_over t o).epoch + 1 }))
      ≡ cond b (taken_over t o) (record (taken_over t o) { epoch = (taken_over t o).epoch + 1 })) [
        | true ↦ taken_twice o
        | false ↦ ap (at_epoch (o.epoch + 1)) (taken_twice o)
      ]

raised_itself : (o : Office) → raised o o ≡ o
raised_itself o = ap (λ b. cond b o (record o { epoch = o.epoch + 1 })) (office_itself o)

pub adopting_twice : AdoptingTwiceIsOnce
adopting_twice t o = ap (raised (adopt t o)) (taken_again t o) ∙ raised_itself (adopt t o)

pub adopting_nothing : AdoptingMayChangeNothing
adopting_nothing t o same = ap (raised o) same ∙ raised_itself o

pub adopting_something : AdoptingRaisesTheEpoch
adopting_something t o other = elim (same_office o (taken_over t o)) as (λ b. same_office o (taken_over t o) ≡ b
    → cond b (taken_over t o) (record (taken_over t o) { epoch = (taken_over t o).epoch + 1 }) ≡ record (taken_over t o) { epoch = o.epoch + 1 }) [
      | true ↦ λ e. absurd (other (sym (same_office_is o (taken_over t o) e)))
      | false ↦ λ _. refl
    ] refl
