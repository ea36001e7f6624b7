-- What holds of the row that a path has, and of the resource that an Office of the rows has there.
use Rattle.book_tables_opening.proofs.Common.{◌≡◌, ◌≢◌, ◌⊎◌, inl, inr, ℕ, pos, nat_eq, true, List, [], Option, Some, None, option_map, unwrap_or, refl, sym, ap, subst, ◌∙◌, true≢false, get, AllByRecursion, Value, Int, Row, Has, all_has, IsName, Who, Href, Everyone, Authenticated, Unauthenticated, Owner, Own, Office, Path, IsPath, path_text, parent_of, kind_of, is_same, some_apart, one_text, resource_at, properties_resource, IsMapped, IsMappedGroup, IsOwner, IsKnownForm, node_kind, node_number, node_parent, node_text, number_in, text_in, Rows, is_at, row_at, kind_code, principal_value, resource_of, Gives, found_has, has_text, has_map, is_of_kind, IsKnown, IsBelow, IsContent, IsChangeNumber, IsNodeRow, node_shown, whole_nodes}
use Rattle.book_lists.specs.Principals.{person_path, group_path}
use Rattle.book_office_values.specs.declared.paths.Kind.TheVariants as kind
use Rattle.book_office_values.specs.declared.paths.Path.TheVariants as path
use Rattle.book_office_values.specs.Texts.{IsLabel}
use Rattle.book_office.specs.Sound.{IsMappedPerson}
use Rattle.book_tables_rows.specs.Columns.{node_label, node_owner}
use Rattle.book_tables_opening.specs.Opening.{HasPrincipal, HasGroup}
use Rattle.book_tables_opening.proofs.ShownNodes.{shown_is_at}

-- ---- kinds

person_of : (p : Path) → IsPath p → nat_eq (kind_code (kind_of p)) 2 ≡ true → (n : List ℕ) × IsName n × (p ≡ path.Person n)
person_of path.Root named h = absurd (true≢false (sym h))
person_of path.People named h = absurd (true≢false (sym h))
person_of path.Groups named h = absurd (true≢false (sym h))
person_of path.Books named h = absurd (true≢false (sym h))
person_of (path.Person n) named h = (n, named, refl)
person_of (path.Group n) named h = absurd (true≢false (sym h))
person_of (path.Book b) named h = absurd (true≢false (sym h))
person_of (path.Card b c) named h = absurd (true≢false (sym h))

group_of : (p : Path) → IsPath p → nat_eq (kind_code (kind_of p)) 3 ≡ true → (n : List ℕ) × IsName n × (p ≡ path.Group n)
group_of path.Root named h = absurd (true≢false (sym h))
group_of path.People named h = absurd (true≢false (sym h))
group_of path.Groups named h = absurd (true≢false (sym h))
group_of path.Books named h = absurd (true≢false (sym h))
group_of (path.Person n) named h = absurd (true≢false (sym h))
group_of (path.Group n) named h = (n, named, refl)
group_of (path.Book b) named h = absurd (true≢false (sym h))
group_of (path.Card b c) named h = absurd (true≢false (sym h))

-- ---- the row of a path

-- what holds of the row that a path has
pub record IsRowOf (nodes : List Row) (p : Path) (row : Row) : Type 0 where
  pub parent : IsBelow nodes (parent_of p) (node_parent row)
  pub kind : node_kind row ≡ Int (pos (kind_code (kind_of p)))
  pub owner : IsKnown nodes (text_in (node_owner row))
  pub label : IsLabel (unwrap_or (text_in (node_label row)) [])
  pub text : IsContent (kind_of p) (text_in (node_text row))
  pub natural : node_number row ≡ Int (pos (number_in (node_number row)))
  pub number : IsChangeNumber (kind_of p) (number_in (node_number row))

module _ (rows : Rows) (nodes_are : AllByRecursion (IsNodeRow (whole_nodes rows)) (whole_nodes rows)) where
  pub node_row : (row : Row) → Has rows.nodes row → IsNodeRow (whole_nodes rows) (node_shown row)
  node_row row there = all_has (IsNodeRow (whole_nodes rows)) (whole_nodes rows) (node_shown row) nodes_are (has_map node_shown rows.nodes row there)

  -- a row at a text is that of a path with this text
  pub named_by_text : (t : List ℕ) (row : Row) → row_at rows t ≡ Some row → (p : Path) × IsPath p × (path_text p ≡ t) × IsRowOf (whole_nodes rows) p row
  named_by_text t row found =
      let there = found_has (is_at t) rows.nodes row found in
      let it = node_row row there.0 in (
        it.at,
        it.named,
        is_same (path_text it.at) t (sym (has_text 2 row (path_text it.at) t it.path) ∙ there.1),
        record { parent = it.parent; kind = it.kind; owner = it.owner; label = it.label; text = it.text; natural = it.natural; number = it.number },
      )

  pub row_of : (p : Path) → IsPath p → (row : Row) → row_at rows (path_text p) ≡ Some row → IsRowOf (whole_nodes rows) p row
  row_of p named row found =
      let it = named_by_text (path_text p) row found in
      subst (λ q. IsRowOf (whole_nodes rows) q row) (one_text it.0 p it.1 named it.2) it.3

  -- ---- principals

  module _ (o : Office) (gives : Gives rows o) where
    -- what has a row is there
    pub row_there : (p : Path) → IsPath p → (row : Row) → row_at rows (path_text p) ≡ Some row → resource_at o p ≡ Some (resource_of rows.entries row)
    row_there p named row found = sym (gives.resources p named) ∙ ap (option_map (resource_of rows.entries)) found

    person_there : (n : List ℕ) → IsName n → (row : Row) → row_at rows (person_path n) ≡ Some row → get o.persons n ≢ None
    person_there n named row found none =
        some_apart (sym (row_there (path.Person n) named row found) ∙ ap (option_map (properties_resource kind.Person 0)) none)

    group_there : (n : List ℕ) → IsName n → (row : Row) → row_at rows (group_path n) ≡ Some row → get o.groups n ≢ None
    group_there n named row found none =
        some_apart (sym (row_there (path.Group n) named row found) ∙ ap (option_map (properties_resource kind.Group 0)) none)

    mapped_person : (t : List ℕ) (row : Row) → row_at rows t ≡ Some row → is_of_kind 2 (node_shown row) ≡ true → IsMappedPerson o t
    mapped_person t row found passes =
        let it = named_by_text t row found in
        let one = person_of it.0 it.1 (ap (λ v. nat_eq (number_in v) 2) (sym it.3.kind) ∙ passes) in
        let text : t ≡ person_path one.0 = sym it.2 ∙ ap path_text one.2 in
        (one.0, text, person_there one.0 one.1 row (ap (row_at rows) (sym text) ∙ found))

    mapped_row : (t : List ℕ) (row : Row) → row_at rows t ≡ Some row → is_of_kind 3 (node_shown row) ≡ true → IsMappedGroup o t
    mapped_row t row found passes =
        let it = named_by_text t row found in
        let one = group_of it.0 it.1 (ap (λ v. nat_eq (number_in v) 3) (sym it.3.kind) ∙ passes) in
        let text : t ≡ group_path one.0 = sym it.2 ∙ ap path_text one.2 in
        (one.0, text, group_there one.0 one.1 row (ap (row_at rows) (sym text) ∙ found))

    pub mapped_group : (t : List ℕ) → HasGroup (whole_nodes rows) t → IsMappedGroup o t
    mapped_group t it =
        let row = shown_is_at rows t it.node it.there in
        mapped_row t row.0 row.1 (ap (is_of_kind 3) (sym row.2) ∙ it.kind)

    pub mapped : (t : List ℕ) → HasPrincipal (whole_nodes rows) t → IsMapped o t
    mapped t it = by_kind it.kind
      where
        row : (row : Row) × (row_at rows t ≡ Some row) × (it.node ≡ node_shown row)
        row = shown_is_at rows t it.node it.there

        by_kind : (is_of_kind 2 it.node ≡ true) ⊎ (is_of_kind 3 it.node ≡ true) → IsMapped o t
        by_kind (inl person) = inl (mapped_person t row.0 row.1 (ap (is_of_kind 2) (sym row.2) ∙ person))
        by_kind (inr group) = inr (mapped_row t row.0 row.1 (ap (is_of_kind 3) (sym row.2) ∙ group))

    pub owner_known : (owner : Option (List ℕ)) → IsKnown (whole_nodes rows) owner → IsOwner o owner
    owner_known None h = tt
    owner_known (Some t) h = mapped t h

    pub form_known : (who : Who) (value : Value) → value ≡ principal_value who → IsKnown (whole_nodes rows) (text_in value) → IsKnownForm o who
    form_known (Href t) value is h = mapped t (subst (λ v. IsKnown (whole_nodes rows) (text_in v)) is h)
    form_known Everyone value is h = tt
    form_known Authenticated value is h = tt
    form_known Unauthenticated value is h = tt
    form_known Owner value is h = tt
    form_known Own value is h = tt
