-- The rows of a new store give the empty Office.
use Rattle.book_tables.proofs.Common.{◌≡◌, ◌⊎◌, inl, inr, ℕ, ℤ, pos, cond, List, [], codes, Some, None, Result, Ok, Err, option_map, option_and_then, refl, sym, ap, subst, ◌∙◌, IsTrue, get, empty, get-empty, Null, Int, Database, Row, State, HasCleanDisk, Survives, Trees, membership_cmp, name_cmp, group_path, same, Book, Path, IsPath, path_text, book_path, card_path, resource_at, removed_at, properties_resource, book_resource, card_in, unless_mapped, rows_of, IsBook, in_store, Stays, Rows, row_at, resource_of, resource_in, removed_from, removed_in, Gives}
use Rattle.std.proofs.lemmas.Bool.{false≢true}
use Rattle.std.specs.FinSet as set
use Rattle.sqlite.specs.declared.error.Error.{Error}
use Rattle.book_lists.specs.Principals.{person_path}
use Rattle.book_office_values.specs.declared.paths.Kind.TheVariants as kind
use Rattle.book_office_values.specs.declared.paths.Path.TheVariants as path
use Rattle.book_office.specs.Edits.{empty_office}
use Rattle.book_office.proofs.NewOffices.{empty_sound}
use Rattle.book_tables_schema.specs.Founding.{IsFounded, MayFound, first_rows, bare_node}
use Rattle.book_tables.specs.declared.opening.OpenFault.TheVariants.{Store}
use Rattle.book_tables.specs.Opened.{StandsAlone, IsUnfounded, open_fault}
use Rattle.book_tables.proofs.Looking.{has_text}
use Rattle.book_tables.specs.Reach.{HoldsReach}
use Rattle.book_tables.specs.Stands.{IsKept, LeftBy}
use Rattle.book_tables.proofs.OneOffice.{kept_stands, only_left}

none_of : {V : Type 0} (q : List ℕ) → get (empty {X = V} {R = name_cmp}) q ≡ None
none_of q = get-empty name_cmp q

abbrev root_row : Row
root_row = bare_node (pos 1) (codes "/") Null 0

abbrev home_row : ℤ → List ℕ → Row
home_row id path = bare_node id path (Int (pos 1)) 1

-- which of the first rows has a path
first_at : (t : List ℕ) → row_at first_rows t
    ≡ cond (same (codes "/") t) (Some root_row) (cond (same (codes "/people") t) (Some (home_row (pos 2) (codes "/people"))) (cond (same (codes "/groups") t) (Some (home_row (pos 3) (codes "/groups")))
    (cond (same (codes "/books") t) (Some (home_row (pos 4) (codes "/books"))) None)))
first_at t =
    let root = has_text 2 root_row (codes "/") t refl in
    let people = has_text 2 (home_row (pos 2) (codes "/people")) (codes "/people") t refl in
    let groups = has_text 2 (home_row (pos 3) (codes "/groups")) (codes "/groups") t refl in
    let books = has_text 2 (home_row (pos 4) (codes "/books")) (codes "/books") t refl in
    λ i. cond (root i) (Some root_row) (cond (people i) (Some (home_row (pos 2) (codes "/people"))) (cond (groups i) (Some (home_row (pos 3) (codes "/groups")))
    (cond (books i) (Some (home_row (pos 4) (codes "/books"))) None)))

first_resource : (t : List ℕ) → resource_in first_rows t ≡ option_map (resource_of []) (row_at first_rows t)
first_resource t = refl

first_resources : (p : Path) → IsPath p → resource_in first_rows (path_text p) ≡ resource_at empty_office p
first_resources path.Root named = ap (option_map (resource_of [])) (first_at (codes "/"))
first_resources path.People named = ap (option_map (resource_of [])) (first_at (codes "/people"))
first_resources path.Groups named = ap (option_map (resource_of [])) (first_at (codes "/groups"))
first_resources path.Books named = ap (option_map (resource_of [])) (first_at (codes "/books"))
first_resources (path.Person n) named = ap (option_map (resource_of [])) (first_at (person_path n)) ∙ sym (ap (option_map (properties_resource kind.Person 0)) (none_of n))
first_resources (path.Group n) named = ap (option_map (resource_of [])) (first_at (group_path n)) ∙ sym (ap (option_map (properties_resource kind.Group 0)) (none_of n))
first_resources (path.Book b) named = ap (option_map (resource_of [])) (first_at (book_path b)) ∙ sym (ap (option_map book_resource) (none_of b))
first_resources (path.Card b c) named = ap (option_map (resource_of [])) (first_at (card_path b c)) ∙ sym (ap (option_and_then (λ (book : Book). card_in book c)) (none_of b))

first_removed : (b name : List ℕ) → removed_in first_rows b name ≡ removed_at empty_office b name
first_removed b name = ap (removed_from [] name) (first_at (book_path b)) ∙ sym (ap (option_and_then (λ (book : Book). unless_mapped (get book.cards name) (get book.changes.last name))) (none_of b))

pub founded_gives : Gives first_rows empty_office
founded_gives = record {
  nodes = (
    (path.Root, record { named = tt; path = refl; parent = refl; kind = refl; number = refl }),
    (
      (path.People, record { named = tt; path = refl; parent = (root_row, first_at (codes "/"), refl); kind = refl; number = refl }),
      (
        (path.Groups, record { named = tt; path = refl; parent = (root_row, first_at (codes "/"), refl); kind = refl; number = refl }),
        ((path.Books, record { named = tt; path = refl; parent = (root_row, first_at (codes "/"), refl); kind = refl; number = refl }), tt),
      ),
    ),
  );
  entries = tt;
  removed = tt;
  resources = first_resources;
  members = λ m. sym (set.contains-empty membership_cmp m);
  gone = λ b name named. first_removed b name;
  meta = (_, refl);
}

-- nobody is in a group
none_reached : HoldsReach [] set.empty
none_reached m = (λ h. absurd (false≢true h), λ chain. absurd (false≢true (sym (set.contains-empty membership_cmp _) ∙ chain.2.0)))

pub founded_stands : (db : Database) → IsBook db → rows_of db.trees ≡ first_rows → IsKept db empty_office
founded_stands db book rows = record {
  book = book;
  gives = subst (λ r. Gives r empty_office) (sym rows) founded_gives;
  sound = empty_sound;
  reach = subst (λ (r : Rows). HoldsReach r.reach set.empty) (sym rows) none_reached;
}

-- a store that was founded stands for the empty Office
pub stands_founded : (old new : State) → ((trees : Trees) → IsTrue new.is_open → new.may_leave trees → trees ≡ new.committed.trees) → IsFounded old new → StandsAlone new empty_office
stands_founded old new settled founded =
    let st = founded_stands new.now founded.book founded.rows in
    record {
      stands = (λ _. st, empty_sound);
      left = λ x left.
          let same : left.0 ≡ new.now.trees = settled left.0 founded.is_open left.1 ∙ ap (λ (d : Database). d.trees) founded.committed in
          only_left new.now empty_office x (kept_stands new.now empty_office st) (subst (λ t. LeftBy t x) same left.2);
    }

pub still_unfounded : (old new : State) → HasCleanDisk new → Survives old new (MayFound old) → Stays old new → IsUnfounded old new empty_office
still_unfounded old new clean survives stays = record {
  stays = stays;
  left = λ x left. elim (survives.crash clean left.0 left.1) [
    | inl kept ↦ inl (left.0, kept, left.2)
    | inr made ↦ inr (made.was_empty, only_left (in_store left.0) empty_office x (kept_stands (in_store left.0) empty_office (founded_stands (in_store left.0) made.book made.rows)) left.2)
  ];
}

abbrev error_of : Result (Unit {0}) Error → Error → Error
error_of (Ok done) other = other
error_of (Err error) other = error

abbrev failed : Error → Result (Unit {0}) Error
failed error = Err error

-- one or the other, each is a failure of the store
pub either_is_store : (error first second : Error) → open_fault first ≡ Store → open_fault second ≡ Store → (failed error ≡ failed first) ⊎ (failed error ≡ failed second) → open_fault error ≡ Store
either_is_store error first second one two (inl is) = let same : error ≡ first = ap (λ r. error_of r first) is in ap open_fault same ∙ one
either_is_store error first second one two (inr is) = let same : error ≡ second = ap (λ r. error_of r second) is in ap open_fault same ∙ two
