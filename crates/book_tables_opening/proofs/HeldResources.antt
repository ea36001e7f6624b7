-- What a sound Office has at a path is sound, and what it maps has a row.
use Rattle.book_tables_opening.proofs.Common.{◌≡◌, ◌≢◌, inl, inr, ℕ, nat_eq, List, [], Option, Some, None, option_map, refl, sym, ap, subst, ◌∙◌, arith, get, same_Some, Row, all_has, Entry, Book, Office, Properties, Kind, Path, IsPath, path_text, kind_of, is_same, one_text, resource_at, properties_resource, book_resource, card_resource, card_in, number_of, IsMapped, IsMappedGroup, IsOwner, IsKnownForm, IsSoundList, AreSoundProperties, IsSound, number_in, Rows, is_at, row_at, kind_code, resource_of, IsNode, Gives, found_has, has_text, from_map, first_shown_at, IsKnown, IsContent, IsChangeNumber, node_shown, whole_nodes}
use Rattle.std.proofs.lemmas.List.Elements.{All-from_recursion}
use Rattle.book_office_values.specs.declared.paths.Kind.TheVariants as kind
use Rattle.book_office_values.specs.declared.paths.Path.TheVariants as path
use Rattle.book_office_values.proofs.OneName.{where_some}
use Rattle.book_office.specs.Resources.{Resource}
use Rattle.book_office.specs.Sound.{IsMappedPerson}
use Rattle.book_tables.specs.Stands.{IsNodeAt}
use Rattle.book_office.proofs.StandingResources.{from_and_then}
use Rattle.book_tables_opening.specs.Opening.{HasPrincipal, HasGroup}
use Rattle.book_tables_opening.specs.Shown.{shown_kind}
use Rattle.book_tables_opening.proofs.ShownNodes.{shown_at, none_shown_at}
use Rattle.book_tables_opening.proofs.SoundResources.{IsSoundResource, row_at_path}

-- ---- what is at a path

-- properties without text and number are those of a resource
of_properties : (o : Office) (p : Path) (k : Kind) (n : ℕ) (its : Properties) → AreSoundProperties o its → IsContent (kind_of p) None → IsChangeNumber (kind_of p) n → IsSoundResource o p (properties_resource k n its)
of_properties o p k n its sound text number = record { owner = sound.owner; label = sound.label; text = text; number = number; protected = sound.protected; own = sound.own }

empty_list : (o : Office) → IsSoundList o []
empty_list o = record { few = omega arith; known = All-from_recursion (λ (e : Entry). IsKnownForm o e.who) [] tt }

pub held_resource : (o : Office) → IsSound o → (p : Path) (r : Resource) → resource_at o p ≡ Some r → IsSoundResource o p r
held_resource o sound path.Root r e = subst (IsSoundResource o path.Root) (same_Some _ _ e) (of_properties o path.Root kind.Root 0 o.root sound.root refl refl)
held_resource o sound path.People r e = subst (IsSoundResource o path.People) (same_Some _ _ e) (of_properties o path.People kind.Home 0 o.people sound.people refl refl)
held_resource o sound path.Groups r e = subst (IsSoundResource o path.Groups) (same_Some _ _ e) (of_properties o path.Groups kind.Home 0 o.groups_home sound.groups_home refl refl)
held_resource o sound path.Books r e = subst (IsSoundResource o path.Books) (same_Some _ _ e) (of_properties o path.Books kind.Home 0 o.books_home sound.books_home refl refl)
held_resource o sound (path.Person n) r e = from_map (properties_resource kind.Person 0) (get o.persons n) r e (λ its at is.
    subst (IsSoundResource o (path.Person n)) is (of_properties o (path.Person n) kind.Person 0 its (sound.persons n its at).1 refl refl))
held_resource o sound (path.Group n) r e = from_map (properties_resource kind.Group 0) (get o.groups n) r e (λ its at is.
    subst (IsSoundResource o (path.Group n)) is (of_properties o (path.Group n) kind.Group 0 its (sound.groups n its at).1 refl refl))
held_resource o sound (path.Book b) r e = from_map book_resource (get o.books b) r e (λ book at is.
    let its = (sound.books b book at).1 in
    subst (IsSoundResource o (path.Book b)) is (of_properties o (path.Book b) kind.Book book.changes.number book.properties its.properties refl its.last))
held_resource o sound (path.Card b c) r e = from_and_then (λ (book : Book). card_in book c) (get o.books b) r e (λ book at in_book.
    from_map (card_resource (number_of book c)) (get book.cards c) r in_book (λ card here is.
    let its = (sound.books b book at).1.cards c card here in
    subst (IsSoundResource o (path.Card b c)) is (record { owner = its.owner; label = its.label; text = (card.text, refl, its.text); number = tt; protected = empty_list o; own = its.own })))

-- ---- what is mapped

module _ (rows : Rows) (o : Office) (gives : Gives rows o) where
  -- a row at the text of a path is the path's
  pub its_path : (p : Path) → IsPath p → (row : Row) → row_at rows (path_text p) ≡ Some row → IsNodeAt rows row p
  its_path p named row found =
      let there = found_has (is_at (path_text p)) rows.nodes row found in
      let it = all_has (IsNode rows) rows.nodes row gives.nodes there.0 in
      let texts = is_same (path_text it.0) (path_text p) (sym (has_text 2 row (path_text it.0) (path_text p) it.1.path) ∙ there.1) in
      subst (IsNodeAt rows row) (one_text it.0 p it.1.named named texts) it.1

  -- what is at a path has a shown row
  pub shown_there : (p : Path) → IsPath p → resource_at o p ≢ None → first_shown_at (whole_nodes rows) (path_text p) ≢ None
  shown_there p named there none = there (sym (gives.resources p named) ∙ ap (option_map (resource_of rows.entries)) (none_shown_at rows (path_text p) none))

  -- the row of a path at which a resource is
  record HasRow (p : Path) : Type 0 where
    row : Row
    found : row_at rows (path_text p) ≡ Some row
    kind_is : number_in (shown_kind (node_shown row)) ≡ kind_code (kind_of p)

  row_there : (p : Path) → IsPath p → (r : Resource) → resource_at o p ≡ Some r → HasRow p
  row_there p named r there = row_at_path rows o gives p named r there (λ row found is. record { row = row; found = found; kind_is = ap number_in (its_path p named row found).kind })

  module _ (sound : IsSound o) where
    person_row : (t : List ℕ) → IsMappedPerson o t → (n : List ℕ) × (t ≡ path_text (path.Person n)) × HasRow (path.Person n)
    person_row t (n, is, there) = where_some (get o.persons n) there (λ its at.
        (n, is, row_there (path.Person n) (sound.persons n its at).0 (properties_resource kind.Person 0 its) (ap (option_map (properties_resource kind.Person 0)) at)))

    group_row : (t : List ℕ) → IsMappedGroup o t → (n : List ℕ) × (t ≡ path_text (path.Group n)) × HasRow (path.Group n)
    group_row t (n, is, there) = where_some (get o.groups n) there (λ its at.
        (n, is, row_there (path.Group n) (sound.groups n its at).0 (properties_resource kind.Group 0 its) (ap (option_map (properties_resource kind.Group 0)) at)))

    -- the shown row of a path
    shown_row : (t : List ℕ) (p : Path) → t ≡ path_text p → (has : HasRow p) → first_shown_at (whole_nodes rows) t ≡ Some (node_shown has.row)
    shown_row t p is has = ap (first_shown_at (whole_nodes rows)) is ∙ shown_at rows (path_text p) ∙ ap (option_map node_shown) has.found

    pub held_group : (t : List ℕ) → IsMappedGroup o t → HasGroup (whole_nodes rows) t
    held_group t mapped =
        let it = group_row t mapped in
        record { node = node_shown it.2.row; there = shown_row t (path.Group it.0) it.1 it.2; kind = ap (λ n. nat_eq n 3) it.2.kind_is }

    pub held_principal : (t : List ℕ) → IsMapped o t → HasPrincipal (whole_nodes rows) t
    held_principal t (inl person) =
        let it = person_row t person in
        record { node = node_shown it.2.row; there = shown_row t (path.Person it.0) it.1 it.2; kind = inl (ap (λ n. nat_eq n 2) it.2.kind_is) }
    held_principal t (inr group) =
        let it = group_row t group in
        record { node = node_shown it.2.row; there = shown_row t (path.Group it.0) it.1 it.2; kind = inr (ap (λ n. nat_eq n 3) it.2.kind_is) }

    pub held_owner : (owner : Option (List ℕ)) → IsOwner o owner → IsKnown (whole_nodes rows) owner
    held_owner None h = tt
    held_owner (Some t) h = held_principal t h
