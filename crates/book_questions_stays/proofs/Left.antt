-- What is told to stay is left by an adoption as it is.
use Rattle.book_questions_stays.proofs.Common.{◌≡◌, ◌∙◌, ◌∷◌, ◌+◌, [], ℕ, Bool, true, false, List, Option, Some, None, ap, codes, refl, sym, Office}
use Rattle.std.proofs.Common.{◌≢◌, ◌&&◌, ◌||◌, cond, is_some, not, option_and_then, option_map, unwrap_or}
use Rattle.std.specs.FinMap.{get, get-empty}
use Rattle.std.specs.FinSet as set
use Rattle.std.proofs.lemmas.Bool.{false≢true}
use Rattle.book_lists.specs.Names.{name_cmp}
use Rattle.book_lists.specs.Principals.{group_path, person_path}
use Rattle.book_lists.specs.declared.entries.Entry.{Entry}
use Rattle.book_lists.specs.declared.memberships.Membership.{Membership}
use Rattle.book_office.specs.Levels.{own_at}
use Rattle.book_office.specs.Resources.{Resource, book_resource, card_in, card_resource, node_at, node_of, number_of, properties_resource, resource_at}
use Rattle.book_office.specs.declared.nodes.Node.{Node}
use Rattle.book_office_adopting.proofs.Adoptions.{book_after, book_there, contains_adopted, group_there, person_after, person_there}
use Rattle.book_office_adopting.proofs.KeptPairs.{group_named}
use Rattle.book_office_adopting.specs.Adopting.{adopt, adopted_pairs, is_group_of, or_else, owned, taken_over}
use Rattle.book_office_adopting.specs.Sameness.{same_office}
use Rattle.book_office_adopting.specs.TakingOver.{listed_book}
use Rattle.book_office_values.specs.Paths.{book_path, path_text}
use Rattle.book_office_values.specs.declared.offices.Book.{Book}
use Rattle.book_office_values.specs.declared.offices.Properties.{Properties}
use Rattle.book_office_values.specs.declared.paths.Kind.{Kind}
use Rattle.book_office_values.specs.declared.paths.Kind.TheVariants as kind
use Rattle.book_office_values.specs.declared.paths.Path.{Path}
use Rattle.book_office_values.specs.declared.paths.Path.TheVariants as path
use Rattle.book_policy_values.specs.Policies.{IsPolicy, entries_at}
use Rattle.book_policy_values.specs.declared.parts.PolicyBook.{PolicyBook}
use Rattle.book_policy_values.specs.declared.parts.PolicyTables.{PolicyTables}
use Rattle.book_questions_stays.specs.Laws.{WhatStaysIsLeft}
use Rattle.book_questions_stays.specs.Stays.{has_entries, is_given, is_named, member_stays}

abbrev node : Option Resource → Option Node
node r = option_map node_of r

abbrev own : Option Resource → List Entry
own r = unwrap_or (option_map (λ (x : Resource). x.own) r) []

-- where the policy has no own entries, the own list stays
not_given : (list old : List Entry) → has_entries list ≡ false → or_else list old ≡ old
not_given [] old is = refl
not_given (e ∷ es) old is = absurd (false≢true (sym is))

is_there : {A : Type 0} (r : Option A) → r ≢ None → is_some r ≡ true
is_there None h = absurd (h refl)
is_there (Some x) h = refl

-- the epoch is no part of a resource
with_epoch : (o : Office) (n : ℕ) (p : Path) → resource_at (record o { epoch = n }) p ≡ resource_at o p
with_epoch o n path.Root = refl
with_epoch o n path.People = refl
with_epoch o n path.Groups = refl
with_epoch o n path.Books = refl
with_epoch o n (path.Person q) = refl
with_epoch o n (path.Group q) = refl
with_epoch o n (path.Book b) = refl
with_epoch o n (path.Card b c) = refl

module _ (t : PolicyTables) (o : Office) where
  adopted_at : (p : Path) → resource_at (adopt t o) p ≡ resource_at (taken_over t o) p
  adopted_at p = elim (same_office o (taken_over t o)) as (λ b.
      resource_at (cond b (taken_over t o) (record (taken_over t o) { epoch = (taken_over t o).epoch + 1 })) p ≡ resource_at (taken_over t o) p) [
        | true ↦ refl
        | false ↦ with_epoch (taken_over t o) ((taken_over t o).epoch + 1) p
      ]

  person_at : (q : List ℕ) → resource_at (adopt t o) (path.Person q) ≡ option_map (properties_resource kind.Person 0) (person_after t (person_path q) (get t.persons q) (get o.persons q))
  person_at q = adopted_at (path.Person q) ∙ ap (option_map (properties_resource kind.Person 0)) (person_there t o q)

  group_at : (q : List ℕ) → resource_at (adopt t o) (path.Group q) ≡ option_map (properties_resource kind.Group 0) (person_after t (group_path q) (get t.groups q) (get o.groups q))
  group_at q = adopted_at (path.Group q) ∙ ap (option_map (properties_resource kind.Group 0)) (group_there t o q)

  book_at : (b : List ℕ) → resource_at (adopt t o) (path.Book b) ≡ option_map book_resource (book_after t (book_path b) (get t.books b) (get o.books b))
  book_at b = adopted_at (path.Book b) ∙ ap (option_map book_resource) (book_there t o b)

  -- ---- cards
  card_after : (b c : List ℕ) (named : Option PolicyBook) (old : Option Book)
      → option_and_then (λ (book : Book). card_in book c) (book_after t (book_path b) named old) ≡ option_and_then (λ (book : Book). card_in book c) old
  card_after b c None None = refl
  card_after b c None (Some book) = refl
  card_after b c (Some named) None = ap (option_map (card_resource (number_of (listed_book t (book_path b) (owned named None)) c))) (get-empty name_cmp c)
  card_after b c (Some named) (Some book) = refl

  card_left : (b c : List ℕ) → resource_at (adopt t o) (path.Card b c) ≡ resource_at o (path.Card b c)
  card_left b c =
      adopted_at (path.Card b c) ∙ ap (option_and_then (λ (book : Book). card_in book c)) (book_there t o b) ∙ card_after b c (get t.books b) (get o.books b)

  -- ---- what is not named
  unnamed : (k : Kind) (at : List ℕ) (label : Option (List ℕ)) (old : Option Properties) → is_some label ≡ false
      → node (option_map (properties_resource k 0) (person_after t at label old)) ≡ node (option_map (properties_resource k 0) old)
  unnamed k at (Some label) old is = absurd (false≢true (sym is))
  unnamed k at None None is = refl
  unnamed k at None (Some properties) is = refl

  unnamed_book : (at : List ℕ) (named : Option PolicyBook) (old : Option Book) → is_some named ≡ false → node (option_map book_resource (book_after t at named old)) ≡ node (option_map book_resource old)
  unnamed_book at (Some named) old is = absurd (false≢true (sym is))
  unnamed_book at None None is = refl
  unnamed_book at None (Some book) is = refl

  resource_left : (p : Path) → is_named t p ≡ false → node_at (adopt t o) p ≡ node_at o p
  resource_left path.Root is = absurd (false≢true (sym is))
  resource_left path.People is = absurd (false≢true (sym is))
  resource_left path.Groups is = absurd (false≢true (sym is))
  resource_left path.Books is = absurd (false≢true (sym is))
  resource_left (path.Person q) is = ap node (person_at q) ∙ unnamed kind.Person (person_path q) (get t.persons q) (get o.persons q) is
  resource_left (path.Group q) is = ap node (group_at q) ∙ unnamed kind.Group (group_path q) (get t.groups q) (get o.groups q) is
  resource_left (path.Book b) is = ap node (book_at b) ∙ unnamed_book (book_path b) (get t.books b) (get o.books b) is
  resource_left (path.Card b c) is = ap node (card_left b c)

  -- ---- own lists
  own_kept : (k : Kind) (at : List ℕ) (label : Option (List ℕ)) (old : Option Properties) → is_given t at ≡ false
      → own (option_map (properties_resource k 0) (person_after t at label old)) ≡ own (option_map (properties_resource k 0) old)
  own_kept k at None None is = refl
  own_kept k at None (Some properties) is = not_given (entries_at false at t.entries) properties.own is
  own_kept k at (Some label) None is = not_given (entries_at false at t.entries) [] is
  own_kept k at (Some label) (Some properties) is = not_given (entries_at false at t.entries) properties.own is

  own_kept_book : (at : List ℕ) (named : Option PolicyBook) (old : Option Book) → is_given t at ≡ false
      → own (option_map book_resource (book_after t at named old)) ≡ own (option_map book_resource old)
  own_kept_book at None None is = refl
  own_kept_book at None (Some book) is = not_given (entries_at false at t.entries) book.properties.own is
  own_kept_book at (Some named) None is = not_given (entries_at false at t.entries) [] is
  own_kept_book at (Some named) (Some book) is = not_given (entries_at false at t.entries) book.properties.own is

  list_left : (p : Path) → is_given t (path_text p) ≡ false → own_at (adopt t o) p ≡ own_at o p
  list_left path.Root is = ap own (adopted_at path.Root) ∙ not_given (entries_at false (codes "/") t.entries) o.root.own is
  list_left path.People is = ap own (adopted_at path.People) ∙ not_given (entries_at false (codes "/people") t.entries) o.people.own is
  list_left path.Groups is = ap own (adopted_at path.Groups) ∙ not_given (entries_at false (codes "/groups") t.entries) o.groups_home.own is
  list_left path.Books is = ap own (adopted_at path.Books) ∙ not_given (entries_at false (codes "/books") t.entries) o.books_home.own is
  list_left (path.Person q) is = ap own (person_at q) ∙ own_kept kind.Person (person_path q) (get t.persons q) (get o.persons q) is
  list_left (path.Group q) is = ap own (group_at q) ∙ own_kept kind.Group (group_path q) (get t.groups q) (get o.groups q) is
  list_left (path.Book b) is = ap own (book_at b) ∙ own_kept_book (book_path b) (get t.books b) (get o.books b) is
  list_left (path.Card b c) is = ap own (card_left b c)

  -- ---- members of other groups
  adopted_with : (adopt t o).pairs ≡ adopted_pairs t o.pairs
  adopted_with = elim (same_office o (taken_over t o)) as (λ b.
      (cond b (taken_over t o) (record (taken_over t o) { epoch = (taken_over t o).epoch + 1 })).pairs ≡ adopted_pairs t o.pairs) [ true ↦ refl | false ↦ refl ]

  kept_so : (there group member : Bool) → not group ≡ true → member ≡ false → ((there && not group) || member) ≡ there
  kept_so there true member g m = absurd (false≢true g)
  kept_so there false true g m = absurd (false≢true (sym m))
  kept_so true false false g m = refl
  kept_so false false false g m = refl

  member_left : IsPolicy t → (m : Membership) → member_stays t m ≡ true → set.contains (adopt t o).pairs m ≡ set.contains o.pairs m
  member_left policy m is =
      ap (λ pairs. set.contains pairs m) adopted_with ∙ contains_adopted t o.pairs m
      ∙ kept_so (set.contains o.pairs m) (is_group_of t m.group) (set.contains t.members m) is (elim (set.contains t.members m) as (λ b. set.contains t.members m ≡ b → b ≡ false) [
        | false ↦ λ _. refl
        | true ↦ λ e.
            let k = policy.members m e in
            let group : is_group_of t m.group ≡ true = group_named t m.group k.0.0 k.0.1 ∙ is_there (get t.groups k.0.0) k.0.2 in
            absurd (false≢true (sym (ap not group) ∙ is))
      ] refl)

pub left : WhatStaysIsLeft
left t o policy = record { resources = resource_left t o; lists = list_left t o; cards = card_left t o; members = member_left t o policy }
