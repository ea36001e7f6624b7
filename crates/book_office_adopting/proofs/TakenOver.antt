-- What an Office that takes over a policy has, put together from the parts that are made aside.
use Rattle.book_office_adopting.proofs.Common.{◌≡◌, ℕ, ◌+◌, List, [], ◌∷◌, Bool, true, false, cond, codes, Option, Some, None, option_map, refl, sym, ap, ◌∙◌, subst, nat_list_cmp_total, get, empty, len, entries, same_map, group_path, NamesTo, book_path, names_apart, same, PolicyBook, PolicyTables, Book, Office, Properties, taken_over, adopt, same_office, all_inserted, new_properties, old_properties, fresh_book, bare_book, emptied, bare_books, bare, moved}
use Rattle.std.proofs.Common.{T}
use Rattle.std.specs.Ordering.{is_eq}
use Rattle.std.specs.FinMap.{insert, entries_sorted, find, is_sorted, get-entries, get-empty}
use Rattle.std.specs.FinMap.Entries.{below_all}
use Rattle.std.proofs.lemmas.Option.{same_Some}
use Rattle.book_lists.specs.Names.{name_cmp}
use Rattle.book_lists.specs.Principals.{person_path}
use Rattle.book_office_values.proofs.NameMapLaws.{by_same, by_names, put_at}
use Rattle.book_office_adopting.specs.Adopting.{labelled_or_new, owned}
use Rattle.book_office_values.specs.Names.{changed_at}
use Rattle.book_office_adopting.specs.TakingOver.{with_lists_taken, listed_book, relabelled, reowned, with_contents}
use Rattle.book_office_adopting.proofs.Adoptions.{person_after, book_after, person_there, group_there, book_there, adopting_nothing, adopting_something}
use Rattle.book_office_adopting.proofs.Merges.{made_of, get_mapped}
use Rattle.book_office_values.proofs.OneName.{some_apart, changed_here, changed_elsewhere, len_changed}
use Rattle.book_office_adopting.proofs.Samenesses.{same_office_is, office_itself}
use Rattle.book_office_values.proofs.Members.{less, first, second}

-- ---- entries put into a map or changed in it, in turn

-- a name below those of all entries is not among them
none_below : {X : Type 0} (q : List ℕ) (es : List (List ℕ × X)) → T (below_all name_cmp q es) → find name_cmp q es ≡ None
none_below q [] h = refl
none_below q (e ∷ es) h = ap (λ r. cond (is_eq r) (Some e.1) (find name_cmp q es)) (less _ (first _ _ h)) ∙ none_below q es (second _ _ h)

module _ {X V : Type 0} (make : List ℕ → X → V) where
  get_placed_in : (m : NamesTo V) (es : List (List ℕ × X)) → T (is_sorted name_cmp es) → (q : List ℕ)
      → get (all_inserted make m es) q ≡ made_of (λ x _. make q x) (find name_cmp q es) (get m q)
  get_placed_in m [] sorted q = refl
  get_placed_in m (e ∷ es) sorted q =
      get_placed_in (insert m e.0 (make e.0 e.1)) es (second _ _ sorted) q
      ∙ ap (made_of (λ x _. make q x) (find name_cmp q es)) (put_at m e.0 (make e.0 e.1) q)
      ∙ by_same q e.0 (λ b. made_of (λ x _. make q x) (find name_cmp q es) (cond b (Some (make e.0 e.1)) (get m q))
      ≡ made_of (λ x _. make q x) (cond b (Some e.1) (find name_cmp q es)) (get m q))
      (λ is. ap (λ r. made_of (λ x _. make q x) r (Some (make e.0 e.1))) (ap (λ n. find name_cmp n es) is ∙ none_below e.0 es (first _ _ sorted))
      ∙ ap (λ n. Some (make n e.1)) (sym is))
      refl

  -- what stands at a name afterwards
  pub get_placed : (m : NamesTo V) (n : NamesTo X) (q : List ℕ) → get (all_inserted make m (entries n)) q ≡ made_of (λ x _. make q x) (get n q) (get m q)
  get_placed m n q = get_placed_in m (entries n) (entries_sorted n) q ∙ ap (λ r. made_of (λ x _. make q x) r (get m q)) (sym (get-entries n q))

-- the cards and changes that a book is given
abbrev given : Option Book → Book → Book
given None book = book
given (Some old) book = with_contents old book

given_none : (r : Option Book) → option_map (given None) r ≡ r
given_none None = refl
given_none (Some book) = refl

get_changed : {V : Type 0} (f : V → V) (m : NamesTo V) (k q : List ℕ) → get (changed_at f m k) q ≡ cond (same q k) (option_map f (get m q)) (get m q)
get_changed f m k q = by_names q k (λ b. get (changed_at f m k) q ≡ cond b (option_map f (get m q)) (get m q))
    (λ is. subst (λ n. get (changed_at f m k) n ≡ option_map f (get m n)) (sym is) (changed_here m k f))
    (λ apart. changed_elsewhere m k f q apart)

get_moved_in : (m : NamesTo Book) (es : List (List ℕ × Book)) → T (is_sorted name_cmp es) → (q : List ℕ)
    → get (moved m es) q ≡ option_map (given (find name_cmp q es)) (get m q)
get_moved_in m [] sorted q = sym (given_none (get m q))
get_moved_in m (e ∷ es) sorted q =
    get_moved_in (changed_at (with_contents e.1) m e.0) es (second _ _ sorted) q
    ∙ ap (option_map (given (find name_cmp q es))) (get_changed (with_contents e.1) m e.0 q)
    ∙ by_same q e.0 (λ b. option_map (given (find name_cmp q es)) (cond b (option_map (with_contents e.1) (get m q)) (get m q))
    ≡ option_map (given (cond b (Some e.1) (find name_cmp q es))) (get m q))
    (λ is. ap (λ r. option_map (given r) (option_map (with_contents e.1) (get m q))) (ap (λ n. find name_cmp n es) is ∙ none_below e.0 es (first _ _ sorted))
    ∙ given_none (option_map (with_contents e.1) (get m q)))
    refl

pub get_moved : (m n : NamesTo Book) (q : List ℕ) → get (moved m (entries n)) q ≡ option_map (given (get n q)) (get m q)
get_moved m n q = get_moved_in m (entries n) (entries_sorted n) q ∙ ap (λ r. option_map (given r) (get m q)) (sym (get-entries n q))

len_moved : (m : NamesTo Book) (es : List (List ℕ × Book)) → len (moved m es) ≡ len m
len_moved m [] = refl
len_moved m (e ∷ es) = len_moved (changed_at (with_contents e.1) m e.0) es ∙ len_changed m e.0 (with_contents e.1)

-- ---- books without their cards and changes

bare_again : (r : Option Book) → option_map emptied (option_map emptied r) ≡ option_map emptied r
bare_again None = refl
bare_again (Some book) = refl

pub bare_twice : (m : NamesTo Book) → bare_books (bare_books m) ≡ bare_books m
bare_twice m = same_map nat_list_cmp_total names_apart _ _ (λ q.
    get_mapped _ (bare_books m) q ∙ ap (option_map emptied) (get_mapped _ m q) ∙ bare_again (get m q) ∙ sym (get_mapped _ m q))

-- ---- an Office that takes over a policy

module _ (t : PolicyTables) where
  properties_made : (at : List ℕ) (label : Option (List ℕ)) (old : Option Properties)
      → made_of (λ (properties : Properties) (_ : Option Properties). with_lists_taken t at (relabelled label properties)) old (made_of (λ (l : List ℕ) (_ : Option Properties). with_lists_taken t at (labelled_or_new l None)) label None)
      ≡ person_after t at label old
  properties_made at None None = refl
  properties_made at None (Some properties) = refl
  properties_made at (Some label) None = refl
  properties_made at (Some label) (Some properties) = refl

  book_made : (at : List ℕ) (named : Option PolicyBook) (old : Option Book)
      → made_of (λ (book : Book) (_ : Option Book). emptied (record book { properties = with_lists_taken t at (reowned named book.properties) })) old
      (made_of (λ (n : PolicyBook) (_ : Option Book). listed_book t at (owned n None)) named None)
      ≡ option_map emptied (book_after t at named old)
  book_made at None None = refl
  book_made at None (Some book) = refl
  book_made at (Some named) None = refl
  book_made at (Some named) (Some book) = refl

  contents_moved : (at : List ℕ) (named : Option PolicyBook) (old : Option Book)
      → option_map (given old) (option_map emptied (book_after t at named old)) ≡ book_after t at named old
  contents_moved at None None = refl
  contents_moved at None (Some book) = refl
  contents_moved at (Some named) None = refl
  contents_moved at (Some named) (Some book) = refl

  -- a book of which the place stays is as it was
  book_stays : (at : List ℕ) (named : Option PolicyBook) (old : Option Book)
      → option_map emptied (book_after t at named old) ≡ option_map emptied old → book_after t at named old ≡ old
  book_stays at None None e = refl
  book_stays at None (Some book) e = ap (λ (b : Book). Some (record book { properties = b.properties })) (same_Some _ _ e)
  book_stays at (Some named) None e = some_apart e
  book_stays at (Some named) (Some book) e = ap (λ (b : Book). Some (record book { properties = b.properties })) (same_Some _ _ e)

  module _ (o : Office) where
    pub persons_made : all_inserted (old_properties t (codes "/people/") t.persons) (all_inserted (new_properties t (codes "/people/")) empty (entries t.persons)) (entries o.persons)
        ≡ (taken_over t o).persons
    persons_made = same_map nat_list_cmp_total names_apart _ _ (λ q.
        get_placed _ _ o.persons q ∙ ap (made_of _ (get o.persons q)) (get_placed _ empty t.persons q ∙ ap (made_of _ (get t.persons q)) (get-empty name_cmp q))
        ∙ properties_made (person_path q) (get t.persons q) (get o.persons q) ∙ sym (person_there t o q))

    pub groups_made : all_inserted (old_properties t (codes "/groups/") t.groups) (all_inserted (new_properties t (codes "/groups/")) empty (entries t.groups)) (entries o.groups)
        ≡ (taken_over t o).groups
    groups_made = same_map nat_list_cmp_total names_apart _ _ (λ q.
        get_placed _ _ o.groups q ∙ ap (made_of _ (get o.groups q)) (get_placed _ empty t.groups q ∙ ap (made_of _ (get t.groups q)) (get-empty name_cmp q))
        ∙ properties_made (group_path q) (get t.groups q) (get o.groups q) ∙ sym (group_there t o q))

    pub books_made : all_inserted (bare_book t) (all_inserted (fresh_book t) empty (entries t.books)) (entries o.books) ≡ bare_books (taken_over t o).books
    books_made = same_map nat_list_cmp_total names_apart _ _ (λ q.
        get_placed _ _ o.books q ∙ ap (made_of _ (get o.books q)) (get_placed _ empty t.books q ∙ ap (made_of _ (get t.books q)) (get-empty name_cmp q))
        ∙ book_made (book_path q) (get t.books q) (get o.books q) ∙ ap (option_map emptied) (sym (book_there t o q)) ∙ sym (get_mapped _ (taken_over t o).books q))

    pub books_moved : moved (bare_books (taken_over t o).books) (entries o.books) ≡ (taken_over t o).books
    books_moved = same_map nat_list_cmp_total names_apart _ _ (λ q.
        get_moved (bare_books (taken_over t o).books) o.books q
        ∙ ap (option_map (given (get o.books q))) (get_mapped _ (taken_over t o).books q ∙ ap (option_map emptied) (book_there t o q))
        ∙ contents_moved (book_path q) (get t.books q) (get o.books q) ∙ sym (book_there t o q))

    pub len_bare : len (bare_books (taken_over t o).books) ≡ len (taken_over t o).books
    len_bare = sym (len_moved (bare_books (taken_over t o).books) (entries o.books)) ∙ ap len books_moved

    -- an Office that stays as it was but for cards and changes stays as it was
    books_stay : bare_books o.books ≡ bare_books (taken_over t o).books → (taken_over t o).books ≡ o.books
    books_stay e = same_map nat_list_cmp_total names_apart _ _ (λ q.
        book_there t o q ∙ book_stays (book_path q) (get t.books q) (get o.books q)
        (ap (option_map emptied) (sym (book_there t o q)) ∙ sym (get_mapped _ (taken_over t o).books q) ∙ ap (λ m. get m q) (sym e) ∙ get_mapped _ o.books q))

    pub stays : bare o ≡ bare (bare (taken_over t o)) → taken_over t o ≡ o
    stays e =
        let books = books_stay (ap (λ (p : Office). p.books) e ∙ bare_twice (taken_over t o).books) in
        λ i. record (sym e i) { books = books i }

    pub stays_bare : taken_over t o ≡ o → bare o ≡ bare (bare (taken_over t o))
    stays_bare e =
        let books = sym (bare_twice (taken_over t o).books) in
        ap bare (sym e) ∙ (λ i. record (bare (taken_over t o)) { books = books i })

    pub told : (b : Bool) → (b ≡ true → taken_over t o ≡ o) → (taken_over t o ≡ o → b ≡ true) → b ≡ same_office o (taken_over t o)
    told true f g = sym (ap (same_office o) (f refl) ∙ office_itself o)
    told false f g = elim (same_office o (taken_over t o)) as (λ c. same_office o (taken_over t o) ≡ c → false ≡ c) [
      | true ↦ λ e. g (sym (same_office_is o (taken_over t o) e))
      | false ↦ λ _. refl
    ] refl

    pub adopted_nothing : taken_over t o ≡ o → o ≡ adopt t o
    adopted_nothing e = sym (adopting_nothing t o e)

    pub adopted : (taken_over t o ≡ o → ⊥) → record (taken_over t o) { books = moved (bare_books (taken_over t o).books) (entries o.books); epoch = o.epoch + 1 } ≡ adopt t o
    adopted other = (λ i. record (taken_over t o) { books = books_moved i; epoch = o.epoch + 1 }) ∙ sym (adopting_something t o other)
