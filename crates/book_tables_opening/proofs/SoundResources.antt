-- What an Office of the rows has at a path is sound.
use Rattle.book_tables_opening.proofs.Common.{◌≡◌, ℕ, List, Some, option_map, option_and_then, sym, ap, subst, ◌∙◌, true, false, get, AllByRecursion, same_Some, Row, IsShaped, MAX_ENTRIES, IsName, Book, Office, Properties, StoredCard, Kind, Path, IsPath, path_text, kind_of, resource_at, properties_resource, card_resource, card_in, number_of, IsOwner, IsSoundList, AreSoundProperties, Rows, is_at, entries_shown, row_at, resource_of, Gives, found_has, from_map, IsContent, IsChangeNumber, IsNodeRow, IsEntryRow, AreAtMost, list_keys, whole_nodes}
use Rattle.sqlite_trees.specs.declared.store.Shape.TheVariants.{Table as TableShape}
use Rattle.book_office_values.specs.declared.paths.Path.TheVariants as path
use Rattle.book_office_values.specs.Texts.{IsLabel, IsCardText}
use Rattle.book_office.specs.Resources.{Resource}
use Rattle.book_office.specs.Sound.{IsSoundCard}
use Rattle.book_tables_opening.proofs.RowsOfPaths.{row_of, owner_known}
use Rattle.book_tables_opening.proofs.ListRows.{sound_list}

-- what holds of a resource by its path
pub record IsSoundResource (o : Office) (p : Path) (r : Resource) : Type 0 where
  pub owner : IsOwner o r.owner
  pub label : IsLabel r.label
  pub text : IsContent (kind_of p) r.text
  pub number : IsChangeNumber (kind_of p) r.number
  pub protected : IsSoundList o r.protected
  pub own : IsSoundList o r.own

-- what an Office has at a path, a row has
pub row_at_path : (rows : Rows) (o : Office) → Gives rows o → {P : Type 0} (p : Path) → IsPath p → (r : Resource) → resource_at o p ≡ Some r
    → ((row : Row) → row_at rows (path_text p) ≡ Some row → resource_of rows.entries row ≡ r → P) → P
row_at_path rows o gives p named r there use_it = from_map (resource_of rows.entries) (row_at rows (path_text p)) r (gives.resources p named ∙ there) use_it

-- the resource of a card
pub card_there : (o : Office) (b c : List ℕ) (book : Book) (card : StoredCard) → get o.books b ≡ Some book → get book.cards c ≡ Some card
    → resource_at o (path.Card b c) ≡ Some (card_resource (number_of book c) card)
card_there o b c book card here at = ap (option_and_then (λ (book : Book). card_in book c)) here ∙ ap (option_map (card_resource (number_of book c))) at

module _ (rows : Rows) (o : Office) (gives : Gives rows o) (shaped : IsShaped TableShape rows.nodes)
    (nodes_are : AllByRecursion (IsNodeRow (whole_nodes rows)) (whole_nodes rows))
    (entries_are : AllByRecursion (IsEntryRow (whole_nodes rows)) (entries_shown rows)) (lists : AreAtMost MAX_ENTRIES (list_keys (entries_shown rows))) where
  pub sound_resource : (p : Path) → IsPath p → (r : Resource) → resource_at o p ≡ Some r → IsSoundResource o p r
  sound_resource p named r there = row_at_path rows o gives p named r there (λ row found is.
      let it = row_of rows nodes_are p named row found in
      let list = sound_list rows o gives shaped nodes_are entries_are lists row (found_has (is_at (path_text p)) rows.nodes row found).0 in
      subst (IsSoundResource o p) is (record {
        owner = owner_known rows nodes_are o gives _ it.owner;
        label = it.label;
        text = it.text;
        number = it.number;
        protected = list true;
        own = list false;
      }))

  pub sound_properties : (p : Path) → IsPath p → (k : Kind) (n : ℕ) (properties : Properties) → resource_at o p ≡ Some (properties_resource k n properties) → AreSoundProperties o properties
  sound_properties p named k n properties there =
      let it = sound_resource p named (properties_resource k n properties) there in
      record { owner = it.owner; label = it.label; protected = it.protected; own = it.own }

  pub sound_card : (b c : List ℕ) → IsName b → IsName c → (book : Book) (card : StoredCard) → get o.books b ≡ Some book → get book.cards c ≡ Some card → IsSoundCard o card
  sound_card b c named_b named_c book card here at =
      let it = sound_resource (path.Card b c) (named_b, named_c) (card_resource (number_of book c) card) (card_there o b c book card here at) in
      record { owner = it.owner; label = it.label; own = it.own; text = subst IsCardText (sym (same_Some _ _ it.text.1)) it.text.2 }
