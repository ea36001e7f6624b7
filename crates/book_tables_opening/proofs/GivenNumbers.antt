-- The numbers of a sound Office's rows are from one to their books', and all different in each.
use Rattle.book_tables_opening.proofs.Common.{◌≡◌, ◌+◌, ◌≤◌, Bool, true, List, filter, length, option_map, sym, ap, ◌∙◌, arith, AllByRecursion, Int, Text, Database, Row, rowid, Has, all_from, Office, book_path, card_path, same_itself, some_apart, resource_at, IsSound, Rows, rows_of, has, IsBook, is_at, is_gone, gone_shown, resource_of, Gives, nodes_of, its_resource, found_has, has_text, is_of_kind, shown_with, Key, same_key, AreAtMost, IsWithinBook, card_changes, gone_change, gone_changes, change_keys, node_shown, whole_nodes}
use Rattle.sqlite_rules.proofs.ListLemmas.{has_kept, has_either}
use Rattle.book_office_values.specs.declared.paths.Path.TheVariants as path
use Rattle.book_office.proofs.StandingResources.{numbers_are_within, removed_names_are_free}
use Rattle.book_tables.proofs.GoneOnce.{gone_once}
use Rattle.book_tables_opening.specs.Opening.{card_change}
use Rattle.book_tables_opening.specs.Shown.{shown_path_place}
use Rattle.book_tables_opening.proofs.ChangeRows.{gone_row_shown, IsChange, card_changed, gone_changed, removed_is, changed_card, is_its_name, removed_there, each_change, one_name}
use Rattle.book_tables_opening.proofs.CountedRows.{count_shown, count_cases, count_bounded, count_once, count_weaker, count_picked, count_append, are_at_most}
use Rattle.book_tables_opening.proofs.Counts.{is_key}
use Rattle.book_tables_opening.proofs.NumberedRows.{shown_node}

module _ (db : Database) (book : IsBook db) (o : Office) (gives : Gives (rows_of db.trees) o) (sound : IsSound o) where
  abbrev rows : Rows
  rows = rows_of db.trees

  -- ---- from one to the book's number

  change_within : (key : Key) → IsChange db book o gives sound key → IsWithinBook (whole_nodes rows) key
  change_within key change =
      let there = found_has (is_at (book_path change.b)) rows.nodes change.book_row change.found in
      let resource = sym (gives.resources (path.Book change.b) change.named) ∙ ap (option_map (resource_of rows.entries)) change.found in
      let within = numbers_are_within o sound change.b (resource_of rows.entries change.book_row) resource change.name change.number change.has in
      record {
        book = node_shown change.book_row;
        there = ap (λ (k : Key). shown_with (whole_nodes rows) (Int k.0)) change.key_is ∙ shown_node db book (Int change.id) change.book_row there.0 (sym change.id_is);
        number = change.number;
        number_is = ap (λ k. k.1) change.key_is;
        from_one = within.0;
        to_last = within.1;
      }

  pub within : AllByRecursion (IsWithinBook (whole_nodes rows)) (change_keys (whole_nodes rows) (gone_shown rows))
  within = all_from (IsWithinBook (whole_nodes rows)) (change_keys (whole_nodes rows) (gone_shown rows)) (λ key there.
      change_within key (each_change db book o gives sound key (has_either (card_changes (whole_nodes rows)) (gone_changes (gone_shown rows)) key there)))

  -- ---- all different

  module _ (k : Key) where
    abbrev of_card : Row → Bool
    of_card z = same_key k (card_change z)

    abbrev of_gone : Row → Bool
    of_gone x = same_key k (gone_change (gone_row_shown x))

    abbrev cards : List Row
    cards = filter (is_of_kind 5) (whole_nodes rows)

    -- a card with the key is at the path of another
    same_card : (z w : Row) (in_z : Has cards z) → Has cards w → of_card z ≡ true → of_card w ≡ true → has shown_path_place (Text (card_path (changed_card db book o gives sound z in_z).3.b (changed_card db book o gives sound z in_z).3.c)) w ≡ true
    unfolding card_changed changed_card
    same_card z w in_z in_w passes also =
        let x = changed_card db book o gives sound z in_z in
        let y = changed_card db book o gives sound w in_w in
        let one = one_name db book o gives sound k (card_changed db book o gives sound k x.0 x.1 x.3 (is_key k _ passes ∙ ap card_change x.2)) (card_changed db book o gives sound k y.0 y.1 y.3 (is_key k _ also ∙ ap card_change y.2)) in
        let text : card_path y.3.b y.3.c ≡ card_path x.3.b x.3.c = λ i. card_path (sym one.books i) (sym one.names i) in
        ap (has shown_path_place (Text (card_path x.3.b x.3.c))) y.2 ∙ has_text 2 y.0 (card_path x.3.b x.3.c) (card_path x.3.b x.3.c) (y.3.at.path ∙ ap Text text) ∙ same_itself (card_path x.3.b x.3.c)

    one_card : length (filter of_card cards) ≤ 1
    one_card = count_bounded of_card 1 cards (λ z in_z passes.
        let x = changed_card db book o gives sound z in_z in
        let t = card_path x.3.b x.3.c in
        let fewer = count_picked (is_of_kind 5) of_card (has shown_path_place (Text (card_path x.3.b x.3.c))) (whole_nodes rows)
        (λ w there its_kind also. same_card z w in_z (has_kept (is_of_kind 5) (whole_nodes rows) w there its_kind) passes also) in
        let shown = count_shown node_shown (has shown_path_place (Text (card_path x.3.b x.3.c))) rows.nodes in
        let once = count_once (is_at (card_path x.3.b x.3.c)) rows.nodes ((nodes_of db book).once (card_path x.3.b x.3.c)) in
        omega (arith, fewer, shown, once))

    one_gone : length (filter of_gone rows.gone) ≤ 1
    unfolding gone_changed removed_is
    one_gone = count_bounded of_gone 1 rows.gone (λ x in_x passes.
        let it = removed_is db book o gives sound x in_x in
        let a = gone_changed db book o gives sound k x in_x (is_key k _ passes) in
        let fewer = count_weaker of_gone (is_gone (rowid it.there.0) it.name) rows.gone (λ y in_y also.
        let one = one_name db book o gives sound k a (gone_changed db book o gives sound k y in_y (is_key k _ also)) in
        (λ i. is_gone (one.rows_are i) (one.names i) y) ∙ is_its_name db book o gives sound y in_y) in
        let once = count_once (is_gone (rowid it.there.0) it.name) rows.gone (gone_once db book (rowid it.there.0) it.name) in
        omega (arith, fewer, once))

    -- no card has the key of a removed name
    not_both : (z x : Row) → Has cards z → Has rows.gone x → of_card z ≡ true → of_gone x ≡ true → ⊥
    unfolding gone_changed removed_is changed_card card_changed
    not_both z x in_z in_x passes also =
        let y = changed_card db book o gives sound z in_z in
        let one = one_name db book o gives sound k (card_changed db book o gives sound k y.0 y.1 y.3 (is_key k _ passes ∙ ap card_change y.2)) (gone_changed db book o gives sound k x in_x (is_key k _ also)) in
        let it = removed_is db book o gives sound x in_x in
        let free = (removed_names_are_free o it.book it.name (λ none. some_apart (sym (removed_there db book o gives sound x in_x) ∙ none))).1 in
        let there = its_resource rows o gives (nodes_of db book) sound (path.Card y.3.b y.3.c) y.3.at.named y.0 (path.Card y.3.b y.3.c) y.1 y.3.at in
        some_apart (sym there ∙ (λ i. resource_at o (path.Card (one.books i) (one.names i))) ∙ free)

    one_change : length (filter of_card cards) + length (filter of_gone rows.gone) ≤ 1
    one_change = count_cases of_card cards
        (λ none. let few = one_gone in omega (arith, none, few))
        (λ z in_z passes.
        let no_gone = count_bounded of_gone 0 rows.gone (λ x in_x also. absurd (not_both z x in_z in_x passes also)) in
        let few = one_card in
        omega (arith, no_gone, few))

    one_key : length (filter (same_key k) (change_keys (whole_nodes rows) (gone_shown rows))) ≤ 1
    one_key =
        let both = count_append (same_key k) (card_changes (whole_nodes rows)) (gone_changes (gone_shown rows)) in
        let its_cards = count_shown card_change (same_key k) cards in
        let its_gone = count_shown gone_change (same_key k) (gone_shown rows) ∙ count_shown gone_row_shown (λ z. same_key k (gone_change z)) rows.gone in
        let few = one_change in
        omega (arith, both, its_cards, its_gone, few)

  pub different : AreAtMost 1 (change_keys (whole_nodes rows) (gone_shown rows))
  different = are_at_most 1 (change_keys (whole_nodes rows) (gone_shown rows)) one_key
