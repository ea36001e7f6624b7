-- Rows of lists tell the lists of an Office.
use Rattle.book_tables.proofs.Common.{◌≡◌, ℕ, Bool, true, false, List, [], ◌∷◌, ◌++◌, map, filter, Option, Some, None, option_map, unwrap_or, refl, sym, ap, ◌∙◌, AllByRecursion, Value, id_in, Database, Row, State, rowid, sort_by, Office, Path, IsPath, path_text, levels, lists_at, Resource, resource_at, Lists, ace_node_place, Rows, rows_of, has, IsBook, is_at, level_told, list_among, list_in, row_at, resource_of, Gives, StandsFor}
use Rattle.std.proofs.Common.{append_assoc}
use Rattle.book_office_values.specs.declared.paths.Path.TheVariants as path
use Rattle.book_office.specs.Levels.{level_at}
use Rattle.book_office.specs.declared.nodes.Level.{Level}
use Rattle.book_tables_rows.specs.Lists.{by_list, listed_columns}
use Rattle.book_tables.specs.Levels.{list_told, ShowsLevel, ShowsLists}
use Rattle.book_tables.proofs.Acting.{nodes_of}
use Rattle.book_tables.proofs.ChildShares.{list_is_told}
use Rattle.book_tables.proofs.LabelledNodes.{map_twice}
use Rattle.book_tables.proofs.Looking.{found_has}
use Rattle.book_tables.proofs.RowFacts.{row_number}

module _ (db : Database) (book : IsBook db) (o : Office) (gives : Gives (rows_of db.trees) o) where
  abbrev rows : Rows
  rows = rows_of db.trees

  -- the list of the row at a path, among the entries that are shown and as the node's
  list_is : (t : List ℕ) (protected : Bool) → list_told rows t protected ≡ unwrap_or (option_map (λ node. list_in rows.entries (rowid node) protected) (row_at rows t)) []
  list_is t protected = go (row_at rows t) refl
    where
      go : (r : Option Row) → row_at rows t ≡ r
          → list_among protected (unwrap_or (option_map (λ node. map listed_columns (sort_by by_list (filter (has ace_node_place (rowid node)) rows.entries))) r) [])
          ≡ unwrap_or (option_map (λ node. list_in rows.entries (rowid node) protected) r) []
      go None e = refl
      go (Some node) e =
          let number = row_number rows (nodes_of db book).shaped node (found_has (is_at t) rows.nodes node e).0 in
          ap (λ (id : Value). list_among protected (map listed_columns (sort_by by_list (filter (has ace_node_place id) rows.entries)))) (sym number)
          ∙ list_is_told db book (id_in (rowid node)) protected ∙ ap (λ (id : Value). list_in rows.entries id protected) number

  -- what the row at a path gives of its resource
  read_is : {A : Type 0} (read : Resource → A) (none : A) (q : Path) → IsPath q
      → unwrap_or (option_map (λ node. read (resource_of rows.entries node)) (row_at rows (path_text q))) none ≡ unwrap_or (option_map read (resource_at o q)) none
  read_is read none q is_path =
      ap (λ r. unwrap_or r none) (sym (map_twice (resource_of rows.entries) read (row_at rows (path_text q))) ∙ ap (option_map read) (gives.resources q is_path))

  level_is : (q : Path) → IsPath q → level_told rows q ≡ level_at o q
  level_is q is_path = λ i. record {
    path = q;
    protected = (list_is (path_text q) true ∙ read_is (λ (r : Resource). r.protected) [] q is_path) i;
    own = (list_is (path_text q) false ∙ read_is (λ (r : Resource). r.own) [] q is_path) i;
  }

  levels_are : (ps : List Path) → AllByRecursion IsPath ps → map (level_told rows) ps ≡ map (level_at o) ps
  levels_are [] paths = refl
  levels_are (q ∷ ps) paths = λ i. level_is q paths.0 i ∷ levels_are ps paths.1 i

above_are : (p : Path) → IsPath p → AllByRecursion IsPath (levels p)
above_are path.Root is = (is, tt)
above_are path.People is = (is, (tt, tt))
above_are path.Groups is = (is, (tt, tt))
above_are path.Books is = (is, (tt, tt))
above_are (path.Person n) is = (is, (tt, (tt, tt)))
above_are (path.Group n) is = (is, (tt, (tt, tt)))
above_are (path.Book b) is = (is, (tt, (tt, tt)))
above_are (path.Card b c) is = (is, (is.0, (tt, (tt, tt))))

pub lists_are : (s : State) (p : Path) → IsPath p → (found : Lists) → ShowsLists s p found → (o : Office) → StandsFor s o → found ≡ lists_at o p
lists_are s p is_path found shows o stands =
    let st = stands.0 shows.0 in
    shows.1 st.book ∙ (λ i. record { levels = levels_are s.now st.book o st.gives (levels p) (above_are p is_path) i })

pub level_is_at : (s : State) (p : Path) → IsPath p → (found : Level) → ShowsLevel s p found → (o : Office) → StandsFor s o → found ≡ level_at o p
level_is_at s p is_path found shows o stands =
    let st = stands.0 shows.0 in
    shows.1 st.book ∙ level_is s.now st.book o st.gives p is_path

-- one more level is told
pub one_more_level : (f : Path → Level) (told : List Level) (level : Level) (q : Path) (rest : List Path) (all : List Level)
    → told ++ map f (q ∷ rest) ≡ all → level ≡ f q → (told ++ level ∷ []) ++ map f rest ≡ all
one_more_level f told level q rest all so_far is = append_assoc told (level ∷ []) (map f rest) ∙ ap (λ (l : Level). told ++ l ∷ map f rest) is ∙ so_far
