-- Children that an open connection shows are those of the Office for which it stands.
use Rattle.book_tables.proofs.Common.{◌≡◌, inl, inr, true, false, List, [], ◌∷◌, map, filter, Option, Some, None, option_map, unwrap_or, refl, sym, ap, ◌∙◌, id_in, Row, State, rowid, Has, has_filtered, sort_by, map-map, Office, Path, IsPath, path_text, Listed, children_at, node_label, node_number, node_path, by_path, Rows, rows_of, is_at, is_under, ShowsListing, child_shown, text_above, row_at, StandsFor}
use Rattle.book_tables.specs.Stands.{IsKept}
use Rattle.book_tables_rows.specs.Columns.{node_kind, node_owner}
use Rattle.book_tables_rows.specs.Lists as lists
use Rattle.book_tables.proofs.RowFacts.{row_number}
use Rattle.book_tables.proofs.Acting.{AreNodes, nodes_of}
use Rattle.book_tables.proofs.ChildRows.{by_path_total, told_child, rows_are_children, none_below}
use Rattle.book_tables.proofs.Looking.{found_has}
use Rattle.book_tables.proofs.OfficeChildren.{listed_child, listed_children}
use Rattle.book_tables.proofs.SameLists.{has_sorted}

pub map_within : {X Y : Type 0} (f g : X → Y) (xs : List X) → ((x : X) → Has xs x → f x ≡ g x) → map f xs ≡ map g xs
map_within f g [] same = refl
map_within f g (x ∷ xs) same = (λ i. same x (inl refl) i ∷ map_within f g xs (λ y h. same y (inr h)) i)

-- what is shown of a child's row
abbrev pub columns : Row → Row
columns row = rowid row ∷ node_path row ∷ node_kind row ∷ node_owner row ∷ node_label row ∷ node_number row ∷ []

pub children_told : (s : State) (p : Path) → IsPath p → (children : List Listed) → ShowsListing s (path_text p) (text_above p) children → (o : Office) → StandsFor s o → children ≡ children_at o p
children_told s p is_path children shows o stands = shows.1 st.book ∙ go (row_at rows (path_text p)) refl
  where
    st : IsKept s.now o
    st = stands.0 shows.0

    rows : Rows
    rows = rows_of s.now.trees

    nodes : AreNodes rows
    nodes = nodes_of s.now st.book

    alike : (node : Row) (x : Row) → Has (sort_by by_path (filter (is_under (rowid node)) rows.nodes)) x → child_shown rows (text_above p) (columns x) ≡ listed_child (told_child (text_above p) rows.entries x)
    alike node x h =
        let there = (has_filtered (is_under (rowid node)) rows.nodes x (has_sorted by_path by_path_total (filter (is_under (rowid node)) rows.nodes) x h)).0 in
        ap (λ v. record (child_shown rows (text_above p) (columns x)) {
          protected = Rattle.book_tables.specs.Rows.list_in rows.entries v true;
          own = Rattle.book_tables.specs.Rows.list_in rows.entries v false;
        }) (row_number rows nodes.shaped x there)

    go : (r : Option Row) → row_at rows (path_text p) ≡ r → unwrap_or (option_map (λ node. map (child_shown rows (text_above p)) (lists.children_of (id_in (rowid node)) rows)) r) [] ≡ children_at o p
    go None e = sym (listed_children o p ∙ ap (map listed_child) (none_below rows o st.gives nodes st.sound p is_path e))
    go (Some node) e =
        let number = row_number rows nodes.shaped node (found_has (is_at (path_text p)) rows.nodes node e).0 in
        let under = filter (is_under (rowid node)) rows.nodes in
        ap (λ v. map (child_shown rows (text_above p)) (map columns (sort_by by_path (filter (is_under v) rows.nodes)))) number
        ∙ map-map (child_shown rows (text_above p)) columns (sort_by by_path under)
        ∙ map_within (λ x. child_shown rows (text_above p) (columns x)) (λ x. listed_child (told_child (text_above p) rows.entries x)) (sort_by by_path under) (alike node)
        ∙ sym (map-map listed_child (told_child (text_above p) rows.entries) (sort_by by_path under))
        ∙ ap (map listed_child) (rows_are_children rows o st.gives nodes st.sound p is_path node e) ∙ sym (listed_children o p)
