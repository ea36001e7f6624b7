-- The children of a resource of an Office: their names and what they are, in byte order of their names.
use Rattle.book_tables.proofs.Common.{◌≡◌, inl, inr, ℕ, List, [], ◌∷◌, ◌++◌, map, length, codes, Option, Some, None, option_map, option_and_then, unwrap_or, refl, sym, ap, subst, ◌∙◌, Less, nat_list_cmp_total, get, entries, IsAscending, Has, map-map, ascending-map, name_cmp, NamesTo, Book, StoredCard, Office, Properties, Path, path_text, parent_of, mem_get, get_mem, names_apart, some_apart, by_option, Resource, resource_at, children_at, count_at, properties_resource, book_resource, card_resource, card_in, number_of, text_above, same_Some}
use Rattle.std.specs.FinMap.{len, entries_sorted, len-entries}
use Rattle.book_office_values.specs.declared.paths.Kind.TheVariants as kind
use Rattle.book_office_values.specs.declared.paths.Path.TheVariants as path
use Rattle.book_office_values.proofs.Members.{Mem}
use Rattle.book_office.specs.Resources.{as_listed, listed_cards}
use Rattle.book_tables.specs.Children.{last_name}
use Rattle.book_tables.proofs.SameLists.{has_map, has_mapped, keys_rise}
use Rattle.book_office.proofs.StandingResources.{from_map, from_and_then}
use Rattle.std.proofs.lemmas.List.{length-map}

-- a name, and the resource that has it
abbrev pub Child : Type 0
Child = List ℕ × Resource

abbrev pub cards_of : Book → List (List ℕ × StoredCard) → List Child
cards_of book cards = map (λ e. (e.0, card_resource (number_of book e.0) e.1)) cards

abbrev pub offspring : Office → Path → List Child
offspring o path.Root = (codes "books", properties_resource kind.Home 0 o.books_home) ∷ (codes "groups", properties_resource kind.Home 0 o.groups_home) ∷ (codes "people", properties_resource kind.Home 0 o.people) ∷ []
offspring o path.People = map (λ (e : List ℕ × Properties). (e.0, properties_resource kind.Person 0 e.1)) (entries o.persons)
offspring o path.Groups = map (λ (e : List ℕ × Properties). (e.0, properties_resource kind.Group 0 e.1)) (entries o.groups)
offspring o path.Books = map (λ (e : List ℕ × Book). (e.0, book_resource e.1)) (entries o.books)
offspring o (path.Person n) = []
offspring o (path.Group n) = []
offspring o (path.Book b) = unwrap_or (option_map (λ (book : Book). cards_of book (entries book.cards)) (get o.books b)) []
offspring o (path.Card b c) = []

abbrev pub listed_child : Child → Rattle.book_office.specs.declared.nodes.Listed.Listed
listed_child k = as_listed k.0 k.1

counted : {V : Type 0} (m : NamesTo V) (f : List ℕ × V → Child) → len m ≡ length (map f (entries m))
counted m f = len-entries m ∙ sym (length-map (entries m) f)

-- they are what is counted
pub counted_children : (o : Office) (p : Path) → count_at o p ≡ length (offspring o p)
counted_children o path.Root = refl
counted_children o path.People = counted o.persons _
counted_children o path.Groups = counted o.groups _
counted_children o path.Books = counted o.books _
counted_children o (path.Person n) = refl
counted_children o (path.Group n) = refl
counted_children o (path.Book b) = in_book (get o.books b)
  where
    in_book : (r : Option Book) → unwrap_or (option_map (λ (book : Book). len book.cards) r) 0 ≡ length (unwrap_or (option_map (λ (book : Book). cards_of book (entries book.cards)) r) [])
    in_book None = refl
    in_book (Some book) = counted book.cards _
counted_children o (path.Card b c) = refl

-- they are what is listed
pub listed_children : (o : Office) (p : Path) → children_at o p ≡ map listed_child (offspring o p)
listed_children o path.Root = refl
listed_children o path.People = sym (map-map listed_child (λ (e : List ℕ × Properties). (e.0, properties_resource kind.Person 0 e.1)) (entries o.persons))
listed_children o path.Groups = sym (map-map listed_child (λ (e : List ℕ × Properties). (e.0, properties_resource kind.Group 0 e.1)) (entries o.groups))
listed_children o path.Books = sym (map-map listed_child (λ (e : List ℕ × Book). (e.0, book_resource e.1)) (entries o.books))
listed_children o (path.Person n) = refl
listed_children o (path.Group n) = refl
listed_children o (path.Book b) = in_book (get o.books b)
  where
    in_book : (r : Option Book) → unwrap_or (option_map listed_cards r) [] ≡ map listed_child (unwrap_or (option_map (λ (book : Book). cards_of book (entries book.cards)) r) [])
    in_book None = refl
    in_book (Some book) = sym (map-map listed_child (λ (e : List ℕ × StoredCard). (e.0, card_resource (number_of book e.0) e.1)) (entries book.cards))
listed_children o (path.Card b c) = refl

-- ---- their order

abbrev pub IsBefore : Child → Child → Type 0
IsBefore a b = name_cmp a.0 b.0 ≡ Less

pub one_way : (a b : Child) → IsBefore a b → IsBefore b a → ⊥
one_way a b ab ba = let back = nat_list_cmp_total.antisymm b.0 a.0 in cc

named_by : {V : Type 0} (m : NamesTo V) (f : List ℕ × V → Child) → ((e : List ℕ × V) → (f e).0 ≡ e.0) → IsAscending IsBefore (map f (entries m))
named_by m f keeps = ascending-map IsBefore f (entries m)
    (Rattle.sqlite_keyed.proofs.ListLemmas.ascending_weaker (λ a b. name_cmp a.0 b.0 ≡ Less) (λ a b. IsBefore (f a) (f b)) (λ a b less. (λ i. name_cmp (keeps a i) (keeps b i)) ∙ less) (entries m) (keys_rise name_cmp (entries m) (entries_sorted m)))

pub children_rise : (o : Office) (p : Path) → IsAscending IsBefore (offspring o p)
children_rise o path.Root = ((refl, (refl, tt)), ((refl, tt), (tt, tt)))
children_rise o path.People = named_by o.persons _ (λ e. refl)
children_rise o path.Groups = named_by o.groups _ (λ e. refl)
children_rise o path.Books = named_by o.books _ (λ e. refl)
children_rise o (path.Person n) = tt
children_rise o (path.Group n) = tt
children_rise o (path.Book b) = in_book (get o.books b)
  where
    in_book : (r : Option Book) → IsAscending IsBefore (unwrap_or (option_map (λ (book : Book). cards_of book (entries book.cards)) r) [])
    in_book None = tt
    in_book (Some book) = named_by book.cards _ (λ e. refl)
children_rise o (path.Card b c) = tt

-- ---- which they are

-- the resource at a path right below another, with its last name
pub record IsChild (o : Office) (p : Path) (k : Child) : Type 0 where
  pub at : Path
  pub above : parent_of at ≡ Some p
  pub name : last_name at ≡ k.0
  pub there : resource_at o at ≡ Some k.1

pub mem_has : {A : Type 0} (x : A) (xs : List A) → Mem x xs → Has xs x
mem_has x [] h = absurd h
mem_has x (y ∷ xs) (inl is) = inl is
mem_has x (y ∷ xs) (inr later) = inr (mem_has x xs later)

pub has_mem : {A : Type 0} (x : A) (xs : List A) → Has xs x → Mem x xs
has_mem x [] h = absurd h
has_mem x (y ∷ xs) (inl is) = inl is
has_mem x (y ∷ xs) (inr later) = inr (has_mem x xs later)

pub entry_is : {V : Type 0} (m : NamesTo V) (e : List ℕ × V) → Has (entries m) e → get m e.0 ≡ Some e.1
entry_is m e h = mem_get nat_list_cmp_total names_apart m e.0 e.1 (has_mem e (entries m) h)

pub is_entry : {V : Type 0} (m : NamesTo V) (name : List ℕ) (v : V) → get m name ≡ Some v → Has (entries m) (name, v)
is_entry m name v h = mem_has (name, v) (entries m) (get_mem nat_list_cmp_total names_apart m name v h)

of_entry : {V : Type 0} (m : NamesTo V) (f : List ℕ × V → Child) (k : Child) {P : Type 0} → Has (map f (entries m)) k → ((e : List ℕ × V) → get m e.0 ≡ Some e.1 → k ≡ f e → P) → P
of_entry m f k h use_it = let e = has_mapped f (entries m) k h in use_it e.0 (entry_is m e.0 e.1) e.2

pub are_children : (o : Office) (p : Path) (k : Child) → Has (offspring o p) k → IsChild o p k
are_children o path.Root k (inl is) = record { at = path.Books; above = refl; name = sym (ap (λ c. c.0) is); there = ap (λ c. Some c.1) (sym is) }
are_children o path.Root k (inr (inl is)) = record { at = path.Groups; above = refl; name = sym (ap (λ c. c.0) is); there = ap (λ c. Some c.1) (sym is) }
are_children o path.Root k (inr (inr (inl is))) = record { at = path.People; above = refl; name = sym (ap (λ c. c.0) is); there = ap (λ c. Some c.1) (sym is) }
are_children o path.Root k (inr (inr (inr none))) = absurd none
are_children o path.People k h = of_entry o.persons (λ e. (e.0, properties_resource kind.Person 0 e.1)) k h
    (λ e at is. record { at = path.Person e.0; above = refl; name = sym (ap (λ c. c.0) is); there = ap (option_map (properties_resource kind.Person 0)) at ∙ ap (λ c. Some c.1) (sym is) })
are_children o path.Groups k h = of_entry o.groups (λ e. (e.0, properties_resource kind.Group 0 e.1)) k h
    (λ e at is. record { at = path.Group e.0; above = refl; name = sym (ap (λ c. c.0) is); there = ap (option_map (properties_resource kind.Group 0)) at ∙ ap (λ c. Some c.1) (sym is) })
are_children o path.Books k h = of_entry o.books (λ e. (e.0, book_resource e.1)) k h
    (λ e at is. record { at = path.Book e.0; above = refl; name = sym (ap (λ c. c.0) is); there = ap (option_map book_resource) at ∙ ap (λ c. Some c.1) (sym is) })
are_children o (path.Person n) k h = absurd h
are_children o (path.Group n) k h = absurd h
are_children o (path.Book b) k h = by_option (get o.books b)
    (λ none. absurd (subst (λ r. Has (unwrap_or (option_map (λ (book : Book). cards_of book (entries book.cards)) r) []) k) none h))
    (λ book some. of_entry book.cards (λ e. (e.0, card_resource (number_of book e.0) e.1)) k (subst (λ r. Has (unwrap_or (option_map (λ (book : Book). cards_of book (entries book.cards)) r) []) k) some h)
    (λ e at is. record {
      at = path.Card b e.0;
      above = refl;
      name = sym (ap (λ c. c.0) is);
      there = ap (option_and_then (λ (book : Book). card_in book e.0)) some ∙ ap (option_map (card_resource (number_of book e.0))) at ∙ ap (λ c. Some c.1) (sym is);
    }))
are_children o (path.Card b c) k h = absurd h

in_entries : {V : Type 0} (m : NamesTo V) (f : List ℕ × V → Child) (n : List ℕ) (r : Resource) (v : V) → get m n ≡ Some v → f (n, v) ≡ (n, r) → Has (map f (entries m)) (n, r)
in_entries m f n r v at is = subst (Has (map f (entries m))) is (has_map f (entries m) (n, v) (is_entry m n v at))

at_path : (o : Office) (q : Path) (r : Resource) (p : Path) → parent_of q ≡ Some p → resource_at o q ≡ Some r → Has (offspring o p) (last_name q, r)
at_path o path.Root r p above there = some_apart (sym above)
at_path o path.People r p above there = subst (λ z. Has (offspring o z) (codes "people", r)) (same_Some _ _ above) (inr (inr (inl (ap (λ x. (codes "people", x)) (sym (same_Some _ _ there))))))
at_path o path.Groups r p above there = subst (λ z. Has (offspring o z) (codes "groups", r)) (same_Some _ _ above) (inr (inl (ap (λ x. (codes "groups", x)) (sym (same_Some _ _ there)))))
at_path o path.Books r p above there = subst (λ z. Has (offspring o z) (codes "books", r)) (same_Some _ _ above) (inl (ap (λ x. (codes "books", x)) (sym (same_Some _ _ there))))
at_path o (path.Person n) r p above there = subst (λ z. Has (offspring o z) (n, r)) (same_Some _ _ above)
    (from_map (properties_resource kind.Person 0) (get o.persons n) r there (λ v at is. in_entries o.persons (λ e. (e.0, properties_resource kind.Person 0 e.1)) n r v at (ap (λ x. (n, x)) is)))
at_path o (path.Group n) r p above there = subst (λ z. Has (offspring o z) (n, r)) (same_Some _ _ above)
    (from_map (properties_resource kind.Group 0) (get o.groups n) r there (λ v at is. in_entries o.groups (λ e. (e.0, properties_resource kind.Group 0 e.1)) n r v at (ap (λ x. (n, x)) is)))
at_path o (path.Book n) r p above there = subst (λ z. Has (offspring o z) (n, r)) (same_Some _ _ above)
    (from_map book_resource (get o.books n) r there (λ v at is. in_entries o.books (λ e. (e.0, book_resource e.1)) n r v at (ap (λ x. (n, x)) is)))
at_path o (path.Card b c) r p above there = subst (λ z. Has (offspring o z) (c, r)) (same_Some _ _ above)
    (from_and_then (λ (book : Book). card_in book c) (get o.books b) r there (λ book some here.
    subst (λ x. Has (unwrap_or (option_map (λ (k : Book). cards_of k (entries k.cards)) x) []) (c, r)) (sym some)
    (from_map (card_resource (number_of book c)) (get book.cards c) r here (λ v at is. in_entries book.cards (λ e. (e.0, card_resource (number_of book e.0) e.1)) c r v at (ap (λ x. (c, x)) is)))))

pub children_are : (o : Office) (p : Path) (k : Child) → IsChild o p k → Has (offspring o p) k
children_are o p k c = subst (λ n. Has (offspring o p) (n, k.1)) c.name (at_path o c.at k.1 p c.above c.there)

-- the text of a path right below another is what stands above, and its last name
pub text_below : (q p : Path) → parent_of q ≡ Some p → path_text q ≡ text_above p ++ last_name q
text_below path.Root p above = some_apart (sym above)
text_below path.People p above = ap (λ z. text_above z ++ codes "people") (same_Some _ _ above)
text_below path.Groups p above = ap (λ z. text_above z ++ codes "groups") (same_Some _ _ above)
text_below path.Books p above = ap (λ z. text_above z ++ codes "books") (same_Some _ _ above)
text_below (path.Person n) p above = ap (λ z. text_above z ++ n) (same_Some _ _ above)
text_below (path.Group n) p above = ap (λ z. text_above z ++ n) (same_Some _ _ above)
text_below (path.Book n) p above = ap (λ z. text_above z ++ n) (same_Some _ _ above)
text_below (path.Card b c) p above = ap (λ z. text_above z ++ c) (same_Some _ _ above)
