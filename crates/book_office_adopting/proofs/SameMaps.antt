-- Maps from names in which each value of the one stands in the other are equal.
use Rattle.book_office_adopting.proofs.Common.{◌≡◌, ℕ, List, [], ◌∷◌, Option, Some, None, option_map, refl, sym, ap, ◌∙◌, subst, nat_list_cmp_total, get, entries, same_map, AllByRecursion, NamesTo, names_apart, Book, Properties, emptied, bare_books}
use Rattle.std.proofs.Common.{inl, inr}
use Rattle.std.proofs.lemmas.Option.{same_Some}
use Rattle.book_office_values.proofs.Members.{Mem, mem_get, get_mem}
use Rattle.book_office_adopting.proofs.Merges.{get_mapped}
use Rattle.book_office_values.proofs.OneName.{some_apart, by_option}

-- what holds of all holds of each, and the other way round
all_mem : {A : Type 0} (P : A → Type 0) (xs : List A) → AllByRecursion P xs → (x : A) → Mem x xs → P x
all_mem P [] all x m = absurd m
all_mem P (y ∷ ys) all x m = elim m [ inl is ↦ subst P (sym is) all.0 | inr r ↦ all_mem P ys all.1 x r ]

mem_all : {A : Type 0} (P : A → Type 0) (xs : List A) → ((x : A) → Mem x xs → P x) → AllByRecursion P xs
mem_all P [] h = tt
mem_all P (y ∷ ys) h = (h y (inl refl), mem_all P ys (λ x m. h x (inr m)))

-- ---- places

abbrev Stand : NamesTo Properties → NamesTo Properties → Type 0
Stand m n = AllByRecursion (λ e. get n e.0 ≡ Some e.1) (entries m)

there : (m n : NamesTo Properties) → Stand m n → (q : List ℕ) (v : Properties) → get m q ≡ Some v → get n q ≡ Some v
there m n all q v e = all_mem _ (entries m) all (q, v) (get_mem nat_list_cmp_total names_apart m q v e)

pub same_principals_are : (m n : NamesTo Properties) → Stand m n → Stand n m → m ≡ n
same_principals_are m n f g = same_map nat_list_cmp_total names_apart m n (λ q. by_option (get m q)
    (λ none. by_option (get n q) (λ e. none ∙ sym e) (λ v e. some_apart (sym (there n m g q v e) ∙ none)))
    (λ v e. e ∙ sym (there m n f q v e)))

pub same_principals_stand : (m n : NamesTo Properties) → m ≡ n → Stand m n
same_principals_stand m n same = mem_all _ (entries m) (λ x h. subst (λ k. get k x.0 ≡ Some x.1) same (mem_get nat_list_cmp_total names_apart m x.0 x.1 h))

-- ---- books, but for their cards and changes

abbrev properties_of : Book → Properties
properties_of book = book.properties

abbrev BooksStand : NamesTo Book → NamesTo Book → Type 0
BooksStand m n = AllByRecursion (λ e. option_map (λ (book : Book). book.properties) (get n e.0) ≡ Some e.1.properties) (entries m)

book_there : (m n : NamesTo Book) → BooksStand m n → (q : List ℕ) (v : Book) → get m q ≡ Some v → option_map properties_of (get n q) ≡ Some v.properties
book_there m n all q v e = all_mem _ (entries m) all (q, v) (get_mem nat_list_cmp_total names_apart m q v e)

bare_by_properties : (r : Option Book) (v : Book) → option_map properties_of r ≡ Some v.properties → option_map emptied r ≡ Some (emptied v)
bare_by_properties None v e = some_apart (sym e)
bare_by_properties (Some w) v e = ap (λ p. Some (emptied (record v { properties = p }))) (same_Some w.properties v.properties e)

properties_by_bare : (r : Option Book) (v : Book) → option_map emptied r ≡ Some (emptied v) → option_map properties_of r ≡ Some v.properties
properties_by_bare None v e = some_apart (sym e)
properties_by_bare (Some w) v e = ap (λ (b : Book). Some b.properties) (same_Some (emptied w) (emptied v) e)

pub same_books_are : (m n : NamesTo Book) → BooksStand m n → BooksStand n m → bare_books m ≡ bare_books n
same_books_are m n f g = same_map nat_list_cmp_total names_apart (bare_books m) (bare_books n) (λ q.
    get_mapped _ m q ∙ by_option (get m q)
    (λ none. by_option (get n q) (λ e. ap (option_map emptied) (none ∙ sym e))
    (λ v e. some_apart (sym (book_there n m g q v e) ∙ ap (option_map properties_of) none)))
    (λ v e. ap (option_map emptied) e ∙ sym (bare_by_properties (get n q) v (book_there m n f q v e)))
    ∙ sym (get_mapped _ n q))

pub same_books_stand : (m n : NamesTo Book) → bare_books m ≡ bare_books n → BooksStand m n
same_books_stand m n same = mem_all _ (entries m) (λ x h.
    properties_by_bare (get n x.0) x.1
    (sym (get_mapped _ n x.0) ∙ ap (λ k. get k x.0) (sym same) ∙ get_mapped _ m x.0 ∙ ap (option_map emptied) (mem_get nat_list_cmp_total names_apart m x.0 x.1 h)))
