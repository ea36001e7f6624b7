-- A count of children tells how many the resource has.
use Rattle.book_tables.proofs.Common.{◌≡◌, ℕ, length, filter, Option, Some, None, option_map, unwrap_or, refl, sym, ap, ◌∙◌, Row, State, rowid, Office, Path, IsPath, path_text, count_at, rows_of, is_under, row_at, StandsFor}
use Rattle.book_tables.specs.Children.{ShowsChildCount}
use Rattle.book_tables.proofs.Acting.{nodes_of}
use Rattle.book_tables.proofs.ChildRows.{count_is, none_below}
use Rattle.book_tables.proofs.OfficeChildren.{counted_children}

pub count_told : (s : State) (p : Path) → IsPath p → (count : ℕ) → ShowsChildCount s (path_text p) count → (o : Office) → StandsFor s o → count ≡ count_at o p
count_told s p is_path count shows o stands =
    let st = stands.0 shows.0 in
    shows.1 st.book ∙ go (row_at (rows_of s.now.trees) (path_text p)) refl
  where
    go : (r : Option Row) → row_at (rows_of s.now.trees) (path_text p) ≡ r → unwrap_or (option_map (λ node. length (filter (is_under (rowid node)) (rows_of s.now.trees).nodes)) r) 0 ≡ count_at o p
    go None e = let st = stands.0 shows.0 in sym (counted_children o p ∙ ap length (none_below (rows_of s.now.trees) o st.gives (nodes_of s.now st.book) st.sound p is_path e))
    go (Some node) e = let st = stands.0 shows.0 in count_is (rows_of s.now.trees) o st.gives (nodes_of s.now st.book) st.sound p is_path node e
