-- The rows of a sound Office pass as those of an Office: each member, each removed name, and version and epoch.
use Rattle.book_tables_opening.proofs.Common.{◌≡◌, ◌≢◌, ℕ, true, false, ◌&&◌, nat_eq, List, [], ◌∷◌, ◌++◌, codes, map, drop, find, Option, Some, None, option_map, unwrap_or, refl, sym, ap, subst, ◌∙◌, true≢false, get, AllByRecursion, and_parts, Value, Null, Int, Real, Text, Blob, Database, IsDatabase, Row, rowid, Has, all_has, IsName, Membership, book_path, card_path, Book, Office, StoredCard, same_itself, some_apart, resource_at, removed_at, unless_mapped, IsSound, gone_shown, meta_shown, gone_book, gone_book_place, gone_name_place, gone_number, member_group, member_group_place, member_member, meta_epoch, meta_version, pairs_of, number_in, text_in, has, IsBook, book_schema, is_at, is_gone, row_at, is_member, removed_from, resource_of, IsRemoved, Gives, found_has, has_text, first_shown_at, node_shown, IsMemberRow, IsGoneRow, IsMetaRows}
use Rattle.std.proofs.Common.{not}
use Rattle.std.proofs.lemmas.Bool.{not-true}
use Rattle.sqlite.specs.Kind.TheVariants as kinds
use Rattle.sqlite.specs.Ops.{is_null}
use Rattle.sqlite_catalog.specs.Listing.{IsSound as IsTyped}
use Rattle.sqlite_schema.specs.Rules.{is_of, are_typed, are_present, has_computed}
use Rattle.sqlite_schema.specs.declared.schema.Constraint.TheVariants.{Datatype, NotNull}
use Rattle.book_office_values.specs.declared.paths.Path.TheVariants as path
use Rattle.book_office_values.proofs.OneName.{where_some, is_there}
use Rattle.book_office.proofs.StandingResources.{removed_names_are_free}
use Rattle.book_tables_rows.specs.Columns.{member_member_place}
use Rattle.book_tables_rows.specs.Schema.{member_columns, member_table}
use Rattle.book_tables_rows.proofs.Typing.{typed_at, past_first}
use Rattle.book_office.proofs.StandingResources.{from_and_then}
use Rattle.book_tables_opening.proofs.HeldResources.{its_path, held_group, held_principal}
use Rattle.book_tables_opening.proofs.NumberedRows.{mapped_all, one_is_found, shown_node, has_number}
use Rattle.book_tables_opening.proofs.RowForms.{rows, nodes, name_shown}
use Rattle.book_tables_opening.proofs.ShownNodes.{shown_at}

-- ---- texts that are there

text_there : (v : Value) → is_of kinds.Text v ≡ true → is_null v ≡ false → (t : List ℕ) × (v ≡ Text t)
text_there Null typed there = absurd (true≢false there)
text_there (Int n) typed there = absurd (true≢false (sym typed))
text_there (Real x) typed there = absurd (true≢false (sym typed))
text_there (Text t) typed there = (t, refl)
text_there (Blob b) typed there = absurd (true≢false (sym typed))

abbrev pub pair_shown : Row → Row
pair_shown row = member_group row ∷ member_member row ∷ []

module _ (db : Database) (book : IsBook db) where
  typed_rows : IsTyped book_schema db.trees
  typed_rows = subst (λ k. IsDatabase (record { schema = k; trees = db.trees })) book.schema book.rules

  member_typed : (row : Row) → Has (rows db book).members row → (is_of kinds.Text (member_group row) ≡ true) × (is_of kinds.Text (member_member row) ≡ true)
  member_typed row there =
      let typed = (and_parts (are_typed None 0 member_columns (drop 1 row)) (has_computed member_table row) (all_has _ (rows db book).members row (typed_rows.obeys.rules Datatype).1.1.0 there)).0 in (
        ap (is_of kinds.Text) (sym (past_first row 0)) ∙ typed_at None 0 member_columns (drop 1 row) 0 _ typed refl refl refl,
        ap (is_of kinds.Text) (sym (past_first row 1)) ∙ typed_at None 0 member_columns (drop 1 row) 1 _ typed refl refl refl,
      )

  member_present : (row : Row) → Has (rows db book).members row → (is_null (member_group row) ≡ false) × (is_null (member_member row) ≡ false)
  member_present row there =
      let present : are_present None 0 member_columns row ≡ true = all_has _ (rows db book).members row (typed_rows.obeys.rules NotNull).1.1.0 there in
      let first = and_parts (not (is_null (member_group row))) (not (is_null (member_member row)) && true) present in
      (not-true (is_null (member_group row)) first.0, not-true (is_null (member_member row)) (and_parts (not (is_null (member_member row))) true first.1).0)

  -- the columns of a row of members are texts
  pub member_texts : (row : Row) → Has (rows db book).members row → (m : Membership) × (member_group row ≡ Text m.group) × (member_member row ≡ Text m.member)
  member_texts row there =
      let typed = member_typed row there in
      let present = member_present row there in
      let group = text_there (member_group row) typed.0 present.0 in
      let member = text_there (member_member row) typed.1 present.1 in
      (record { group = group.0; member = member.0 }, group.1, member.1)

module _ (db : Database) (book : IsBook db) (o : Office) (gives : Gives (rows db book) o) (sound : IsSound o) where
  -- ---- members

  member_row : (row : Row) → Has (rows db book).members row → IsMemberRow (nodes db book) (pair_shown row)
  member_row row there =
      let m = member_texts db book row there in
      let group : has member_group_place (Text m.0.group) row ≡ true = has_text 1 row m.0.group m.0.group m.1 ∙ same_itself m.0.group in
      let member : has member_member_place (Text m.0.member) row ≡ true = has_text 2 row m.0.member m.0.member m.2 ∙ same_itself m.0.member in
      let told = is_there (find (is_member m.0) (rows db book).members) (one_is_found (is_member m.0) (rows db book).members row there (λ i. group i && member i)) in
      let pair = sound.pairs m.0 (sym (gives.members m.0) ∙ told) in
      record {
        group = m.0.group;
        group_is = m.1;
        group_there = held_group (rows db book) o gives sound m.0.group pair.group;
        member = m.0.member;
        member_is = m.2;
        member_there = held_principal (rows db book) o gives sound m.0.member pair.member;
      }

  pub each_member : AllByRecursion (IsMemberRow (nodes db book)) (pairs_of (rows db book))
  each_member = mapped_all pair_shown (IsMemberRow (nodes db book)) (rows db book).members member_row

  -- ---- removed names

  -- a removed name is a name
  name_of_removed : (b name : List ℕ) (n : ℕ) → removed_at o b name ≡ Some n → IsName name
  name_of_removed b name n removed = from_and_then (λ (k : Book). unless_mapped (get k.cards name) (get k.changes.last name)) (get o.books b) n removed (λ k at is.
      (sound.books b k at).1.names name n (last_is (get k.cards name) (get k.changes.last name) is))
    where
      last_is : (card : Option StoredCard) (last : Option ℕ) → unless_mapped card last ≡ Some n → last ≡ Some n
      last_is None last e = e
      last_is (Some card) last e = some_apart (sym e)

  -- where an Office has nothing at a card's path, no shown row has it
  none_at_card : (b name : List ℕ) → IsName b → IsName name → resource_at o (path.Card b name) ≡ None → first_shown_at (nodes db book) (card_path b name) ≡ None
  none_at_card b name named_b named none =
      shown_at (rows db book) (card_path b name) ∙ ap (option_map node_shown) (of_row (row_at (rows db book) (card_path b name)) (gives.resources (path.Card b name) (named_b, named) ∙ none))
    where
      of_row : (r : Option Row) → option_map (resource_of (rows db book).entries) r ≡ None → r ≡ None
      of_row None e = refl
      of_row (Some row) e = some_apart e

  gone_row : (x : Row) → Has (rows db book).gone x → IsRemoved (rows db book) x → IsGoneRow (nodes db book) (name_shown x)
  gone_row x there it =
      let book_row : Row = it.there.0 in
      let at_book : row_at (rows db book) (book_path it.book) ≡ Some book_row = it.there.1 in
      let in_nodes = (found_has (is_at (book_path it.book)) (rows db book).nodes book_row at_book).0 in
      let its = its_path (rows db book) o gives (path.Book it.book) it.named book_row at_book in
      let own : has gone_book_place (rowid book_row) x ≡ true = has_number db book 1 x book_row in_nodes it.there.2 in
      let spelled : has gone_name_place (Text it.name) x ≡ true = has_text 2 x it.name it.name it.spelled ∙ same_itself it.name in
      let found = one_is_found (is_gone (rowid book_row) it.name) (rows db book).gone x there (λ i. own i && spelled i) in
      let removed : removed_at o it.book it.name ≢ None = still_there book_row it.name found (ap (removed_from (rows db book).gone it.name) (sym at_book) ∙ gives.gone it.book it.name it.named) in
      let named : IsName it.name = where_some (removed_at o it.book it.name) removed (λ n is. name_of_removed it.book it.name n is) in
      let free = none_at_card it.book it.name it.named named (removed_names_are_free o it.book it.name removed).1 in
      record {
        book = node_shown book_row;
        there = shown_node db book (gone_book x) book_row in_nodes it.there.2;
        kind = ap (λ v. nat_eq (number_in v) 4) its.kind;
        name = it.name;
        named = named;
        name_is = it.spelled;
        free = ap (λ v. first_shown_at (nodes db book) (unwrap_or (text_in v) [] ++ codes "/" ++ it.name)) its.path ∙ free;
        natural = it.number;
      }
    where
      still_there : (book_row : Row) (name : List ℕ) → find (is_gone (rowid book_row) name) (rows db book).gone ≢ None → {r : Option ℕ} → removed_from (rows db book).gone name (Some book_row) ≡ r → r ≢ None
      still_there book_row name found is none = where_some (find (is_gone (rowid book_row) name) (rows db book).gone) found (λ row at.
          some_apart (sym (ap (option_map (λ (y : Row). number_in (gone_number y))) at) ∙ is ∙ none))

  pub each_gone : AllByRecursion (IsGoneRow (nodes db book)) (gone_shown (rows db book))
  each_gone = mapped_all name_shown (IsGoneRow (nodes db book)) (rows db book).gone (λ x there. gone_row x there (all_has (IsRemoved (rows db book)) (rows db book).gone x gives.removed there))

  -- ---- version and epoch

  pub meta_rows : IsMetaRows (meta_shown (rows db book))
  meta_rows = record { epoch = o.epoch; rows = ap (map (λ row. meta_version row ∷ meta_epoch row ∷ [])) gives.meta.1; last = sound.epoch }
