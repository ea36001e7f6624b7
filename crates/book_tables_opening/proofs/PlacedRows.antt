-- Rows of nodes with their paths, and the maps that are built of those of one sort.
use Rattle.book_tables_opening.proofs.Common.{◌≡◌, ◌≢◌, inl, inr, ℕ, ◌≤◌, Bool, true, false, cond, List, [], ◌∷◌, find, filter, length, Option, Some, None, is_some, option_map, refl, sym, ap, subst, ◌∙◌, true≢false, arith, get, empty, get-empty, AllByRecursion, option_or, same_Some, Row, Has, name_cmp, NamesTo, IsPath, path_text, Path, same, is_same, same_itself, by_names, by_option, some_apart, one_text, is_at, has_text, node_shown, IsNodeRow}
use Rattle.book_office_values.specs.declared.paths.Path.TheVariants as path
use Rattle.book_tables.proofs.RowFacts.{apart, or_none}
use Rattle.book_tables_opening.proofs.NamedMaps.{is_named, named_over, first_named, got_named, first_has}

-- ---- sorts of paths with names

-- how a sort of paths is named: the name of a path of this sort, and the path with a name
pub record Naming : Type 0 where
  pub name_of : Path → Option (List ℕ)
  pub make : List ℕ → Path
  pub back : (p : Path) (name : List ℕ) → name_of p ≡ Some name → p ≡ make name
  pub forth : (name : List ℕ) → name_of (make name) ≡ Some name

abbrev pub person_name : Path → Option (List ℕ)
person_name path.Root = None
person_name path.People = None
person_name path.Groups = None
person_name path.Books = None
person_name (path.Person n) = Some n
person_name (path.Group n) = None
person_name (path.Book n) = None
person_name (path.Card a n) = None

pub person_back : (p : Path) (name : List ℕ) → person_name p ≡ Some name → p ≡ path.Person name
person_back path.Root name h = some_apart (sym h)
person_back path.People name h = some_apart (sym h)
person_back path.Groups name h = some_apart (sym h)
person_back path.Books name h = some_apart (sym h)
person_back (path.Person n) name h = ap path.Person (same_Some n name h)
person_back (path.Group n) name h = some_apart (sym h)
person_back (path.Book n) name h = some_apart (sym h)
person_back (path.Card a n) name h = some_apart (sym h)

abbrev pub group_name : Path → Option (List ℕ)
group_name path.Root = None
group_name path.People = None
group_name path.Groups = None
group_name path.Books = None
group_name (path.Person n) = None
group_name (path.Group n) = Some n
group_name (path.Book n) = None
group_name (path.Card a n) = None

pub group_back : (p : Path) (name : List ℕ) → group_name p ≡ Some name → p ≡ path.Group name
group_back path.Root name h = some_apart (sym h)
group_back path.People name h = some_apart (sym h)
group_back path.Groups name h = some_apart (sym h)
group_back path.Books name h = some_apart (sym h)
group_back (path.Person n) name h = some_apart (sym h)
group_back (path.Group n) name h = ap path.Group (same_Some n name h)
group_back (path.Book n) name h = some_apart (sym h)
group_back (path.Card a n) name h = some_apart (sym h)

abbrev pub book_name : Path → Option (List ℕ)
book_name path.Root = None
book_name path.People = None
book_name path.Groups = None
book_name path.Books = None
book_name (path.Person n) = None
book_name (path.Group n) = None
book_name (path.Book n) = Some n
book_name (path.Card a n) = None

pub book_back : (p : Path) (name : List ℕ) → book_name p ≡ Some name → p ≡ path.Book name
book_back path.Root name h = some_apart (sym h)
book_back path.People name h = some_apart (sym h)
book_back path.Groups name h = some_apart (sym h)
book_back path.Books name h = some_apart (sym h)
book_back (path.Person n) name h = some_apart (sym h)
book_back (path.Group n) name h = some_apart (sym h)
book_back (path.Book n) name h = ap path.Book (same_Some n name h)
book_back (path.Card a n) name h = some_apart (sym h)

abbrev pub card_name : List ℕ → Path → Option (List ℕ)
card_name b path.Root = None
card_name b path.People = None
card_name b path.Groups = None
card_name b path.Books = None
card_name b (path.Person n) = None
card_name b (path.Group n) = None
card_name b (path.Book n) = None
card_name b (path.Card a n) = cond (same a b) (Some n) None

pub card_back : (b : List ℕ) (p : Path) (name : List ℕ) → card_name b p ≡ Some name → p ≡ path.Card b name
card_back b path.Root name h = some_apart (sym h)
card_back b path.People name h = some_apart (sym h)
card_back b path.Groups name h = some_apart (sym h)
card_back b path.Books name h = some_apart (sym h)
card_back b (path.Person n) name h = some_apart (sym h)
card_back b (path.Group n) name h = some_apart (sym h)
card_back b (path.Book n) name h = some_apart (sym h)
card_back b (path.Card a n) name h = of_book (same a b) refl h
  where
    of_book : (t : Bool) → same a b ≡ t → cond t (Some n) None ≡ Some name → path.Card a n ≡ path.Card b name
    of_book true is e = λ i. path.Card (is_same a b is i) (same_Some n name e i)
    of_book false is e = some_apart (sym e)

abbrev pub persons : Naming
persons = record { name_of = person_name; make = path.Person; back = person_back; forth = λ name. refl }

abbrev pub groups : Naming
groups = record { name_of = group_name; make = path.Group; back = group_back; forth = λ name. refl }

abbrev pub books : Naming
books = record { name_of = book_name; make = path.Book; back = book_back; forth = λ name. refl }

-- the cards of the book with a name
abbrev pub cards : List ℕ → Naming
cards b = record { name_of = card_name b; make = path.Card b; back = card_back b; forth = λ name. ap (λ t. cond t (Some name) None) (same_itself b) }

-- a path has the name exactly where its text is that of the path with the name
pub same_text : (sort : Naming) (q : List ℕ) → IsPath (sort.make q) → (p : Path) → IsPath p → is_named q (sort.name_of p) ≡ same (path_text p) (path_text (sort.make q))
same_text sort q is_make p is_p = by_names (path_text p) (path_text (sort.make q)) (λ b. is_named q (sort.name_of p) ≡ b)
    (λ is. ap (is_named q) (ap sort.name_of (one_text p (sort.make q) is_p is_make is) ∙ sort.forth q) ∙ same_itself q)
    (λ differs. other (sort.name_of p) refl differs)
  where
    other : (n : Option (List ℕ)) → sort.name_of p ≡ n → (path_text p ≡ path_text (sort.make q) → ⊥) → is_named q n ≡ false
    other None is differs = refl
    other (Some name) is differs = apart q name (λ same_name. differs (ap path_text (sort.back p name is ∙ ap sort.make (sym same_name))))

-- ---- rows with their paths

abbrev pub Placed : Type 0
Placed = Path × Row

module _ (nodes : List Row) where
  -- a row is one of a node, as it is shown
  abbrev pub IsNodeShown : Row → Type 0
  IsNodeShown row = IsNodeRow nodes (node_shown row)

  abbrev pub placed : (xs : List Row) → AllByRecursion IsNodeShown xs → List Placed
  placed [] all = []
  placed (x ∷ xs) all = (all.0.at, x) ∷ placed xs all.1

  -- a row with its path is one of the rows
  pub placed_has : (xs : List Row) (all : AllByRecursion IsNodeShown xs) (e : Placed) → Has (placed xs all) e → Has xs e.1 × (f : IsNodeShown e.1) × (f.at ≡ e.0)
  placed_has [] all e h = absurd h
  placed_has (x ∷ xs) all e (inl is) = subst (λ (d : Placed). Has (x ∷ xs) d.1 × (f : IsNodeShown d.1) × (f.at ≡ d.0)) (sym is) (inl refl, all.0, refl)
  placed_has (x ∷ xs) all e (inr later) = let rest = placed_has xs all.1 e later in (inr rest.0, rest.1, rest.2)

  module _ (sort : Naming) where
    abbrev pub name_in : Placed → Option (List ℕ)
    name_in e = sort.name_of e.0

    -- the first row with a name is the row at the path with the name
    pub first_placed : (q : List ℕ) → IsPath (sort.make q) → (xs : List Row) (all : AllByRecursion IsNodeShown xs)
        → option_map (λ (e : Placed). e.1) (first_named name_in q (placed xs all)) ≡ find (is_at (path_text (sort.make q))) xs
    first_placed q is_make [] all = refl
    first_placed q is_make (x ∷ xs) all =
        in_head (is_at (path_text (sort.make q)) x)
        (same_text sort q is_make all.0.at all.0.named ∙ sym (has_text 2 x (path_text all.0.at) (path_text (sort.make q)) all.0.path))
        (first_placed q is_make xs all.1)
      where
        in_head : (b : Bool) → is_named q (sort.name_of all.0.at) ≡ b
            → option_map (λ (e : Placed). e.1) (first_named name_in q (placed xs all.1)) ≡ find (is_at (path_text (sort.make q))) xs
            → option_map (λ (e : Placed). e.1) (cond (is_named q (sort.name_of all.0.at)) (Some (all.0.at, x)) (first_named name_in q (placed xs all.1))) ≡ cond b (Some x) (find (is_at (path_text (sort.make q))) xs)
        in_head true is more = ap (λ t. option_map (λ (e : Placed). e.1) (cond t (Some (all.0.at, x)) (first_named name_in q (placed xs all.1)))) is
        in_head false is more = ap (λ t. option_map (λ (e : Placed). e.1) (cond t (Some (all.0.at, x)) (first_named name_in q (placed xs all.1)))) is ∙ more

    -- the name of a row is that of a path
    pub row_named : (xs : List Row) (all : AllByRecursion IsNodeShown xs) (q : List ℕ) (e : Placed) → first_named name_in q (placed xs all) ≡ Some e → IsPath (sort.make q)
    row_named xs all q e is =
        let found = first_has name_in q (placed xs all) e is in
        let row = placed_has xs all e found.0 in
        subst IsPath (row.2 ∙ sort.back e.0 q found.1) row.1.named

    -- there are no more rows with names than rows that pass a test that all of them pass
    pub few_placed : (test : Row → Bool) (xs : List Row) (all : AllByRecursion IsNodeShown xs)
        → ((x : Row) → Has xs x → (f : IsNodeShown x) (name : List ℕ) → f.at ≡ sort.make name → test x ≡ true)
        → length (filter (λ e. is_some (name_in e)) (placed xs all)) ≤ length (filter test xs)
    few_placed test [] all passes = omega arith
    few_placed test (x ∷ xs) all passes =
        in_head (sort.name_of all.0.at) (test x) (λ name is. passes x (inl refl) all.0 name (sort.back all.0.at name is)) (few_placed test xs all.1 (λ y there. passes y (inr there)))
      where
        in_head : (n : Option (List ℕ)) (b : Bool) → ((name : List ℕ) → n ≡ Some name → b ≡ true)
            → length (filter (λ e. is_some (name_in e)) (placed xs all.1)) ≤ length (filter test xs)
            → length (cond (is_some n) ((all.0.at, x) ∷ filter (λ e. is_some (name_in e)) (placed xs all.1)) (filter (λ e. is_some (name_in e)) (placed xs all.1))) ≤ length (cond b (x ∷ filter test xs) (filter test xs))
        in_head None true passes_x more = omega (arith, more)
        in_head None false passes_x more = more
        in_head (Some name) true passes_x more = omega (arith, more)
        in_head (Some name) false passes_x more = absurd (true≢false (sym (passes_x name refl)))

    module _ {V : Type 0} (value : List ℕ → Row → V) (xs : List Row) (all : AllByRecursion IsNodeShown xs) where
      -- the rows of this sort by their names, over a map
      abbrev pub map_over : NamesTo V → NamesTo V
      map_over base = named_over name_in (λ name (e : Placed). value name e.1) base (placed xs all)

      -- the map has at a name what the row at the path with the name gives, and else what was there
      pub map_over_has : (base : NamesTo V) (q : List ℕ) → IsPath (sort.make q) → get (map_over base) q ≡ option_or (option_map (value q) (find (is_at (path_text (sort.make q))) xs)) (get base q)
      map_over_has base q is_make =
          got_named name_in (λ name (e : Placed). value name e.1) base q (placed xs all)
          ∙ ap (λ r. option_or r (get base q)) (twice (first_named name_in q (placed xs all)) ∙ ap (option_map (value q)) (first_placed q is_make xs all))
        where
          twice : (r : Option Placed) → option_map (λ (e : Placed). value q e.1) r ≡ option_map (value q) (option_map (λ (e : Placed). e.1) r)
          twice None = refl
          twice (Some e) = refl

      pub map_has : (q : List ℕ) → IsPath (sort.make q) → get (map_over empty) q ≡ option_map (value q) (find (is_at (path_text (sort.make q))) xs)
      map_has q is_make = map_over_has empty q is_make ∙ ap (option_or (option_map (value q) (find (is_at (path_text (sort.make q))) xs))) (get-empty name_cmp q) ∙ or_none (option_map (value q) (find (is_at (path_text (sort.make q))) xs))

      -- where no row has a name, the map has at it what was there
      pub none_named : (base : NamesTo V) (q : List ℕ) → first_named name_in q (placed xs all) ≡ None → get (map_over base) q ≡ get base q
      none_named base q none =
          got_named name_in (λ name (e : Placed). value name e.1) base q (placed xs all) ∙ ap (λ r. option_or (option_map (λ (e : Placed). value q e.1) r) (get base q)) none

      -- at whatever a map has something, a path has the name
      pub map_named : (q : List ℕ) → get (map_over empty) q ≢ None → IsPath (sort.make q)
      map_named q there = by_option (first_named name_in q (placed xs all))
          (λ none. absurd (there (none_named empty q none ∙ get-empty name_cmp q)))
          (λ e is. row_named xs all q e is)
