-- Which places are compared, and which of the items are added.
use Rattle.book_tables.proofs.Common.{◌≡◌, ◌⊎◌, inl, inr, ℕ, List, [], ◌∷◌, ◌++◌, map, Option, Some, None, option_map, refl, sym, ap, subst, ◌∙◌, nat_list_cmp_total, get, entries, same_Some, Has, NamesTo, Book, Office, Properties, Path, mem_get, get_mem, names_apart, some_apart, properties_at, Compared, compared_in, compared_books}
use Rattle.std.proofs.lemmas.List.{append_assoc, append-nil}
use Rattle.book_office_values.specs.declared.paths.Path.TheVariants as path
use Rattle.book_office_values.proofs.Members.{Mem}
use Rattle.book_tables.specs.Adopting.{Adds, AddsEach, compared, compared_homes, properties_of}
use Rattle.book_tables.proofs.SameLists.{has_map, has_mapped}

-- ---- items that are added

module _ {A X : Type 0} (item : X → A) (Needless : X → Type 0) where
  -- the items of some were added, and those of the others are needless
  pub record Chosen (xs : List X) (old new : List A) : Type 0 where
    pub chosen : List X
    pub is : new ≡ old ++ map item chosen
    pub within : (x : X) → Has chosen x → Has xs x
    pub all : (x : X) → Has xs x → Has chosen x ⊎ Needless x

  pub choose : (xs : List X) (old new : List A) → AddsEach item Needless xs old new → Chosen xs old new
  choose [] old new is = record { chosen = []; is = is ∙ sym (append-nil old); within = λ x there. there; all = λ x there. absurd there }
  choose (x ∷ xs) old new (between, adds, rest) = go (choose xs between new rest) adds
    where
      go : Chosen xs between new → Adds (item x) (Needless x) old between → Chosen (x ∷ xs) old new
      go more (inl added) = record {
        chosen = x ∷ more.chosen;
        is = more.is ∙ ap (λ l. l ++ map item more.chosen) added ∙ append_assoc old (item x ∷ []) (map item more.chosen);
        within = λ y there. elim there [ inl is ↦ inl is | inr later ↦ inr (more.within y later) ];
        all = λ y there. elim there [
          | inl is ↦ inl (inl is)
          | inr later ↦ elim (more.all y later) [ inl chosen ↦ inl (inr chosen) | inr needless ↦ inr needless ]
        ];
      }
      go more (inr (needless, same)) = record {
        chosen = more.chosen;
        is = more.is ∙ ap (λ l. l ++ map item more.chosen) same;
        within = λ y there. inr (more.within y there);
        all = λ y there. elim there [
          | inl is ↦ inr (subst Needless (sym is) needless)
          | inr later ↦ more.all y later
        ];
      }

  -- what is added for two lists, one after the other
  pub adds_both : (xs ys : List X) (old between new : List A) → AddsEach item Needless xs old between → AddsEach item Needless ys between new → AddsEach item Needless (xs ++ ys) old new
  adds_both [] ys old between new first second = subst (λ l. AddsEach item Needless ys l new) first second
  adds_both (x ∷ xs) ys old between new (middle, adds, rest) second = (middle, adds, adds_both xs ys middle between new rest second)

-- ---- the places that are compared

module _ {X : Type 0} where
  pub has_first : (xs ys : List X) (x : X) → Has xs x → Has (xs ++ ys) x
  has_first [] ys x h = absurd h
  has_first (z ∷ xs) ys x (inl is) = inl is
  has_first (z ∷ xs) ys x (inr h) = inr (has_first xs ys x h)

  pub has_last : (xs ys : List X) (x : X) → Has ys x → Has (xs ++ ys) x
  has_last [] ys x h = h
  has_last (z ∷ xs) ys x h = inr (has_last xs ys x h)

  pub has_either : (xs ys : List X) (x : X) → Has (xs ++ ys) x → Has xs x ⊎ Has ys x
  has_either [] ys x h = inr h
  has_either (z ∷ xs) ys x (inl is) = inl (inl is)
  has_either (z ∷ xs) ys x (inr h) = elim (has_either xs ys x h) [ inl first ↦ inl (inr first) | inr last ↦ inr last ]

  mem_of : (xs : List X) (x : X) → Has xs x → Mem x xs
  mem_of [] x h = h
  mem_of (z ∷ xs) x (inl is) = inl is
  mem_of (z ∷ xs) x (inr h) = inr (mem_of xs x h)

  has_of : (xs : List X) (x : X) → Mem x xs → Has xs x
  has_of [] x h = h
  has_of (z ∷ xs) x (inl is) = inl is
  has_of (z ∷ xs) x (inr h) = inr (has_of xs x h)

module _ {V : Type 0} (m : NamesTo V) where
  pub entry_got : (k : List ℕ) (v : V) → Has (entries m) (k, v) → get m k ≡ Some v
  entry_got k v there = mem_get nat_list_cmp_total names_apart m k v (mem_of (entries m) (k, v) there)

  pub got_entry : (k : List ℕ) (v : V) → get m k ≡ Some v → Has (entries m) (k, v)
  got_entry k v is = has_of (entries m) (k, v) (get_mem nat_list_cmp_total names_apart m k v is)

-- both Offices have what is compared at its path
abbrev pub IsCompared : Office → Office → Compared → Type 0
IsCompared old new c = (properties_at new c.path ≡ Some c.new) × (properties_at old c.path ≡ c.old)

module _ (old new : Office) where
  homes_compared : (c : Compared) → Has (compared_homes old new) c → IsCompared old new c
  homes_compared c (inl is) = subst (IsCompared old new) (sym is) (refl, refl)
  homes_compared c (inr (inl is)) = subst (IsCompared old new) (sym is) (refl, refl)
  homes_compared c (inr (inr (inl is))) = subst (IsCompared old new) (sym is) (refl, refl)
  homes_compared c (inr (inr (inr (inl is)))) = subst (IsCompared old new) (sym is) (refl, refl)
  homes_compared c (inr (inr (inr (inr h)))) = absurd h

  persons_compared : (c : Compared) → Has (compared_in path.Person old.persons (entries new.persons)) c → IsCompared old new c
  persons_compared c there =
      let e = has_mapped (λ (e : List ℕ × Properties). record { path = path.Person e.0; old = get old.persons e.0; new = e.1 }) (entries new.persons) c there in
      subst (IsCompared old new) (sym e.2) (entry_got new.persons e.0.0 e.0.1 e.1, refl)

  groups_compared : (c : Compared) → Has (compared_in path.Group old.groups (entries new.groups)) c → IsCompared old new c
  groups_compared c there =
      let e = has_mapped (λ (e : List ℕ × Properties). record { path = path.Group e.0; old = get old.groups e.0; new = e.1 }) (entries new.groups) c there in
      subst (IsCompared old new) (sym e.2) (entry_got new.groups e.0.0 e.0.1 e.1, refl)

  books_compared : (c : Compared) → Has (compared_books old.books (entries new.books)) c → IsCompared old new c
  books_compared c there =
      let e = has_mapped (λ (e : List ℕ × Book). record { path = path.Book e.0; old = option_map properties_of (get old.books e.0); new = e.1.properties }) (entries new.books) c there in
      subst (IsCompared old new) (sym e.2) (ap (option_map properties_of) (entry_got new.books e.0.0 e.0.1 e.1), refl)

  abbrev homes_persons : List Compared
  homes_persons = compared_homes old new ++ compared_in path.Person old.persons (entries new.persons)

  abbrev but_books : List Compared
  but_books = homes_persons ++ compared_in path.Group old.groups (entries new.groups)

  pub is_compared : (c : Compared) → Has (compared old new) c → IsCompared old new c
  is_compared c there = elim (has_either but_books (compared_books old.books (entries new.books)) c there) [
    | inr book ↦ books_compared c book
    | inl others ↦ elim (has_either homes_persons (compared_in path.Group old.groups (entries new.groups)) c others) [
      | inr group ↦ groups_compared c group
      | inl rest ↦ elim (has_either (compared_homes old new) (compared_in path.Person old.persons (entries new.persons)) c rest) [
        | inr person ↦ persons_compared c person
        | inl home ↦ homes_compared c home
      ]
    ]
  ]

  abbrev pub at_path : Path → Properties → Compared
  at_path p properties = record { path = p; old = properties_at old p; new = properties }

  at_home : (c : Compared) → Has (compared_homes old new) c → Has (compared old new) c
  at_home c h = has_first but_books (compared_books old.books (entries new.books)) c (has_first homes_persons (compared_in path.Group old.groups (entries new.groups)) c
      (has_first (compared_homes old new) (compared_in path.Person old.persons (entries new.persons)) c h))

  -- each place of the new Office is compared
  pub each_compared : (p : Path) (properties : Properties) → properties_at new p ≡ Some properties → Has (compared old new) (at_path p properties)
  each_compared path.Root properties is = at_home _ (inl (ap (at_path path.Root) (sym (same_Some _ _ is))))
  each_compared path.People properties is = at_home _ (inr (inl (ap (at_path path.People) (sym (same_Some _ _ is)))))
  each_compared path.Groups properties is = at_home _ (inr (inr (inl (ap (at_path path.Groups) (sym (same_Some _ _ is))))))
  each_compared path.Books properties is = at_home _ (inr (inr (inr (inl (ap (at_path path.Books) (sym (same_Some _ _ is)))))))
  each_compared (path.Person n) properties is =
      has_first but_books (compared_books old.books (entries new.books)) _ (has_first homes_persons (compared_in path.Group old.groups (entries new.groups)) _
      (has_last (compared_homes old new) (compared_in path.Person old.persons (entries new.persons)) _
      (has_map (λ (e : List ℕ × Properties). record { path = path.Person e.0; old = get old.persons e.0; new = e.1 }) (entries new.persons) (n, properties) (got_entry new.persons n properties is))))
  each_compared (path.Group n) properties is =
      has_first but_books (compared_books old.books (entries new.books)) _ (has_last homes_persons (compared_in path.Group old.groups (entries new.groups)) _
      (has_map (λ (e : List ℕ × Properties). record { path = path.Group e.0; old = get old.groups e.0; new = e.1 }) (entries new.groups) (n, properties) (got_entry new.groups n properties is)))
  each_compared (path.Book b) properties is = go (get new.books b) refl is
    where
      go : (r : Option Book) → get new.books b ≡ r → option_map properties_of r ≡ Some properties → Has (compared old new) (at_path (path.Book b) properties)
      go None e h = some_apart (sym h)
      go (Some book) e h = has_last but_books (compared_books old.books (entries new.books)) _
          (subst (λ k. Has (compared_books old.books (entries new.books)) (at_path (path.Book b) k)) (same_Some _ _ h)
          (has_map (λ (e : List ℕ × Book). record { path = path.Book e.0; old = option_map properties_of (get old.books e.0); new = e.1.properties }) (entries new.books) (b, book) (got_entry new.books b book e)))
  each_compared (path.Card b c) properties is = some_apart (sym is)
