-- The faults of a whole table of the right shape, and the parts that a table without a fault of shape spells.
use Rattle.std.proofs.Common.{◌≡◌, ℕ, ◌+◌, List, [], ◌∷◌, ◌++◌, Bool, true, cond, length, codes, Option, None, Some, refl, ap, ◌∙◌}
use Rattle.std.specs.FinMap.{empty}
use Rattle.toml.specs.Data.{Data, Items, no_items, item, Members, get_member}
use Rattle.book_limits.specs.declared.TheConstants.{MAX_NAMED}
use Rattle.book_policy.specs.Shapes.{array_of, book_of, entry_text_of, group_of, has_only, has_version_one, parts_in, parts_with, person_of}
use Rattle.book_policy_faults.specs.Values.{keys_of}
use Rattle.book_policy.specs.declared.parts.EntryText.{EntryText}
use Rattle.book_policy.specs.declared.parts.Parts.{Parts}
use Rattle.book_policy_faults.specs.declared.places.TableKind.TheVariants.{Top, Person, Group, Book, Entry}
use Rattle.book_policy_values.specs.declared.parts.BookPart.{BookPart}
use Rattle.book_policy_values.specs.declared.parts.GroupPart.{GroupPart}
use Rattle.book_policy_values.specs.declared.parts.PersonPart.{PersonPart}
use Rattle.book_policy_faults.specs.Known.{Paths, homes, paths_of, rows_of, with_paths}
use Rattle.book_policy_faults.specs.Placing.{placed}
use Rattle.book_policy_faults.specs.Problems.{array_problem, many, unless, version_problem}
use Rattle.book_policy_faults.specs.Tables.{array_faults, counted_all, counted_place, faults_in, full_lists, known_path, named_of, rows_at, spot_at, top_faults, unknown_keys}
use Rattle.book_policy_faults.specs.declared.places.Key.{Key}
use Rattle.book_policy_faults.specs.declared.places.Key.TheVariants as key
use Rattle.book_policy_faults.specs.declared.places.PlacedFault.{PlacedFault}
use Rattle.book_policy_faults.specs.declared.places.Problem.TheVariants.{OtherVersion}
use Rattle.book_policy_faults.specs.declared.tables.Counts.{Counts}
use Rattle.book_policy_faults.specs.declared.tables.Named.{Named}
use Rattle.book_policy.proofs.Free.{Free, free_parts, placed_free, rows}
use Rattle.book_policy.proofs.Read.{Reads, array_free, array_is, array_reads, keys_free, keys_read, none_some, one_some, paths_read, rows_free, rows_read, tested, with_parts}
use Rattle.book_policy.proofs.Rows.{book_free, book_reads, book_row, entry_free, entry_placed, entry_reads, entry_row, group_free, group_reads, group_row, person_free, person_reads, person_row}

-- ---- what parts name
abbrev pub person_name : PersonPart → List ℕ
person_name p = p.name

abbrev pub group_name : GroupPart → List ℕ
group_name g = g.name

abbrev pub book_name : BookPart → List ℕ
book_name b = b.name

abbrev pub with_persons : Parts → Paths
with_persons parts = with_parts person_name homes Person 1 parts.persons

abbrev pub with_groups : Parts → Paths
with_groups parts = with_parts group_name (with_persons parts) Group 1 parts.groups

abbrev pub parts_paths : Parts → Paths
parts_paths parts = with_parts book_name (with_groups parts) Book 1 parts.books

abbrev pub counted_parts : Paths → Counts → ℕ → List EntryText → Counts
counted_parts m c n [] = c
counted_parts m c n (e ∷ es) = counted_parts m (counted_place c n e.protected (known_path m (Some e.at))) (n + 1) es

abbrev pub no_counts : Counts
no_counts = record { protected = empty; own = empty; full = [] }

abbrev pub full_of : Counts → List ℕ
full_of c = c.full

abbrev pub parts_named : Parts → Named
parts_named parts = record { paths = parts_paths parts; full = full_of (counted_parts (parts_paths parts) no_counts 1 parts.entries) }

-- ---- the faults of parts
abbrev pub count_row : {A : Type 0} → Key → List A → List PlacedFault
count_row k xs = placed (spot_at Top 0 k) (many (Some MAX_NAMED) (length xs))

abbrev pub tables_rows : Named → Parts → List PlacedFault
tables_rows named parts =
    rows (person_row named) 1 parts.persons
    ++ (rows (group_row named) 1 parts.groups ++ (rows (book_row named) 1 parts.books ++ rows (entry_row named) 1 parts.entries))

abbrev pub counts_rows : Parts → List PlacedFault
counts_rows parts = count_row key.Persons parts.persons ++ (count_row key.Groups parts.groups ++ (count_row key.Books parts.books ++ []))

abbrev pub whole_faults : Bool → Parts → List PlacedFault
whole_faults one parts =
    (placed (spot_at Top 0 key.Version) (unless one OtherVersion) ++ counts_rows parts) ++ tables_rows (parts_named parts) parts

-- ---- the parts of a table
record ArraysOf (persons : Option (List PersonPart)) (groups : Option (List GroupPart)) (books : Option (List BookPart)) (entries : Option (List EntryText)) (parts : Parts) : Type 0 where
  of_persons : persons ≡ Some parts.persons
  of_groups : groups ≡ Some parts.groups
  of_books : books ≡ Some parts.books
  of_entries : entries ≡ Some parts.entries

arrays_of : (persons : Option (List PersonPart)) (groups : Option (List GroupPart)) (books : Option (List BookPart)) (entries : Option (List EntryText)) (parts : Parts)
    → parts_with persons groups books entries ≡ Some parts → ArraysOf persons groups books entries parts
arrays_of None groups books entries parts h = none_some h
arrays_of (Some ps) None books entries parts h = none_some h
arrays_of (Some ps) (Some gs) None entries parts h = none_some h
arrays_of (Some ps) (Some gs) (Some bs) None parts h = none_some h
arrays_of (Some ps) (Some gs) (Some bs) (Some es) parts h = record {
  of_persons = ap (λ (x : Parts). Some x.persons) (one_some h);
  of_groups = ap (λ (x : Parts). Some x.groups) (one_some h);
  of_books = ap (λ (x : Parts). Some x.books) (one_some h);
  of_entries = ap (λ (x : Parts). Some x.entries) (one_some h);
}

counted_read : (m : Paths) (c : Counts) (n : ℕ) (ds : Items) (es : List EntryText) → Reads entry_text_of ds es → counted_all m c n ds ≡ counted_parts m c n es
counted_read m c n no_items [] r = refl
counted_read m c n no_items (e ∷ es) r = absurd r
counted_read m c n (item d ds) [] r = absurd r
counted_read m c n (item d ds) (e ∷ es) r =
    let (place, protects) = entry_placed m d e r.0 in
    (λ i. counted_all m (counted_place c n (protects i) (place i)) (n + 1) ds)
    ∙ counted_read m (counted_place c n e.protected (known_path m (Some e.at))) (n + 1) ds es r.1

module _ (ms : Members) where
  abbrev P : Option Data
  P = get_member (codes "person") ms

  abbrev G : Option Data
  G = get_member (codes "group") ms

  abbrev B : Option Data
  B = get_member (codes "book") ms

  abbrev E : Option Data
  E = get_member (codes "entry") ms

  abbrev named_with : Paths → Named
  named_with m = record { paths = m; full = full_lists m (rows_of E) }

  module _ (parts : Parts) (a : ArraysOf (array_of person_of P) (array_of group_of G) (array_of book_of B) (array_of entry_text_of E) parts) where
    paths_are : paths_of ms ≡ parts_paths parts
    paths_are =
        ap (λ (m : Paths). with_paths (with_paths m Group 1 (rows_of G)) Book 1 (rows_of B))
        (paths_read person_of person_name (λ d p h. (person_reads (named_of ms) 1 d p h).1) homes Person 1 (rows_of P) parts.persons
        (array_reads person_of P parts.persons a.of_persons))
        ∙ ap (λ (m : Paths). with_paths m Book 1 (rows_of B))
        (paths_read group_of group_name (λ d g h. (group_reads (named_of ms) 1 d g h).1) (with_persons parts) Group 1 (rows_of G) parts.groups
        (array_reads group_of G parts.groups a.of_groups))
        ∙ paths_read book_of book_name (λ d b h. (book_reads (named_of ms) 1 d b h).1) (with_groups parts) Book 1 (rows_of B) parts.books
        (array_reads book_of B parts.books a.of_books)

    named_is : named_of ms ≡ parts_named parts
    named_is =
        ap named_with paths_are
        ∙ ap (λ (c : Counts). record { paths = parts_paths parts; full = full_of c })
        (counted_read (parts_paths parts) no_counts 1 (rows_of E) parts.entries (array_reads entry_text_of E parts.entries a.of_entries))

    tables_are : (named : Named) → rows_at named Person key.Persons ms
        ++ (rows_at named Group key.Groups ms ++ (rows_at named Book key.Books ms ++ rows_at named Entry key.Entries ms)) ≡ tables_rows named parts
    tables_are named = λ i.
        rows_read person_of named Person (person_row named) (λ n d p h. (person_reads named n d p h).0) 1 (rows_of P) parts.persons (array_reads person_of P parts.persons a.of_persons) i
        ++ (rows_read group_of named Group (group_row named) (λ n d g h. (group_reads named n d g h).0) 1 (rows_of G) parts.groups (array_reads group_of G parts.groups a.of_groups) i
        ++ (rows_read book_of named Book (book_row named) (λ n d b h. (book_reads named n d b h).0) 1 (rows_of B) parts.books (array_reads book_of B parts.books a.of_books) i
        ++ rows_read entry_text_of named Entry (entry_row named) (entry_reads named) 1 (rows_of E) parts.entries (array_reads entry_text_of E parts.entries a.of_entries) i))

    top_is : has_only (keys_of Top) ms ≡ true → top_faults ms ≡ placed (spot_at Top 0 key.Version) (unless (has_version_one ms) OtherVersion) ++ counts_rows parts
    top_is keys = λ i.
        keys_read Top 0 1 ms keys i
        ++ (placed (spot_at Top 0 key.Version) (unless (has_version_one ms) OtherVersion)
        ++ (placed (spot_at Top 0 key.Persons) (array_is person_of P parts.persons (Some MAX_NAMED) a.of_persons i)
        ++ (placed (spot_at Top 0 key.Groups) (array_is group_of G parts.groups (Some MAX_NAMED) a.of_groups i)
        ++ (placed (spot_at Top 0 key.Books) (array_is book_of B parts.books (Some MAX_NAMED) a.of_books i)
        ++ placed (spot_at Top 0 key.Entries) (array_is entry_text_of E parts.entries None a.of_entries i)))))

  pub whole_read : (parts : Parts) → parts_in ms ≡ Some parts → faults_in ms ≡ whole_faults (has_version_one ms) parts
  whole_read parts h =
      let (keys, whole) = tested (has_only (keys_of Top) ms) (parts_with (array_of person_of P) (array_of group_of G) (array_of book_of B) (array_of entry_text_of E)) parts h in
      let a = arrays_of (array_of person_of P) (array_of group_of G) (array_of book_of B) (array_of entry_text_of E) parts whole in
      (λ i. top_is parts a keys i ++ tables_are parts a (named_of ms) i)
      ∙ ap (λ (named : Named). (placed (spot_at Top 0 key.Version) (unless (has_version_one ms) OtherVersion) ++ counts_rows parts) ++ tables_rows named parts) (named_is parts a)

  -- ---- a table without a fault of shape
  pub whole_free : Free 3 (faults_in ms) → (parts : Parts) × (parts_in ms ≡ Some parts)
  whole_free h =
      let named = named_of ms in
      let of_entries = array_faults key.Entries None ms in
      let from_books = array_faults key.Books (Some MAX_NAMED) ms ++ of_entries in
      let from_groups = array_faults key.Groups (Some MAX_NAMED) ms ++ from_books in
      let from_persons = array_faults key.Persons (Some MAX_NAMED) ms ++ from_groups in
      let version = placed (spot_at Top 0 key.Version) (version_problem (get_member (codes "version") ms)) in
      let later_books = rows_at named Book key.Books ms ++ rows_at named Entry key.Entries ms in
      let later_groups = rows_at named Group key.Groups ms ++ later_books in
      let (top, tables) = free_parts 3 (top_faults ms) (rows_at named Person key.Persons ms ++ later_groups) h in
      let (keys, after_keys) = free_parts 3 (unknown_keys Top 0 1 ms) (version ++ from_persons) top in
      let (_, after_version) = free_parts 3 version from_persons after_keys in
      let (p, after_persons) = free_parts 3 (array_faults key.Persons (Some MAX_NAMED) ms) from_groups after_version in
      let (g, after_groups) = free_parts 3 (array_faults key.Groups (Some MAX_NAMED) ms) from_books after_persons in
      let (b, e) = free_parts 3 (array_faults key.Books (Some MAX_NAMED) ms) of_entries after_groups in
      let (ps, rows_later) = free_parts 3 (rows_at named Person key.Persons ms) later_groups tables in
      let (gs, rows_last) = free_parts 3 (rows_at named Group key.Groups ms) later_books rows_later in
      let (bs, es) = free_parts 3 (rows_at named Book key.Books ms) (rows_at named Entry key.Entries ms) rows_last in
      let only = keys_free Top 0 1 ms keys in
      let (persons, persons_are) = array_free person_of P (Some MAX_NAMED) (placed_free 3 (spot_at Top 0 key.Persons) (array_problem P (Some MAX_NAMED)) p)
      (rows_free person_of named Person (person_free named) 1 (rows_of P) ps) in
      let (groups, groups_are) = array_free group_of G (Some MAX_NAMED) (placed_free 3 (spot_at Top 0 key.Groups) (array_problem G (Some MAX_NAMED)) g)
      (rows_free group_of named Group (group_free named) 1 (rows_of G) gs) in
      let (books, books_are) = array_free book_of B (Some MAX_NAMED) (placed_free 3 (spot_at Top 0 key.Books) (array_problem B (Some MAX_NAMED)) b)
      (rows_free book_of named Book (book_free named) 1 (rows_of B) bs) in
      let (entries, entries_are) = array_free entry_text_of E None (placed_free 3 (spot_at Top 0 key.Entries) (array_problem E None) e)
      (rows_free entry_text_of named Entry (entry_free named) 1 (rows_of E) es) in (
        record { persons = persons; groups = groups; books = books; entries = entries },
        λ i. cond (only i) (parts_with (persons_are i) (groups_are i) (books_are i) (entries_are i)) None,
      )
