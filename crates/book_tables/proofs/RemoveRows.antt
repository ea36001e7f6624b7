-- The rows without a book give the Office without it.
use Rattle.book_tables.proofs.Common.{◌≡◌, ◌≢◌, ℕ, ℤ, ◌+◌, Bool, true, false, ◌&&◌, List, find, filter, map, Option, Some, None, option_map, option_and_then, refl, sym, ap, subst, ◌∙◌, true≢false, and_parts, false_from_ne_true, get, same_Some, Value, Int, Row, rowid, IsShaped, Has, all_has, update_where, delete_where, sort_by, IsName, Book, Office, Path, IsPath, path_text, parent_of, book_path, card_path, one_text, is_same, by_names, removed_here, removed_elsewhere, resource_at, removed_at, book_resource, card_in, unless_mapped, ace_node_place, gone_book, gone_book_place, gone_number, node_parent, node_path, rowid_place, Rows, has, number_in, is_at, is_under, is_gone, is_entry, by_place, with_epoch, PassesOnce, key, key_is, row_at, resource_in, resource_of, entry_of, removed_in, IsParent, IsNodeAt, IsNode, IsEntry, IsRemoved, Gives, in_left, int_itself}
use Rattle.sqlite.specs.Collation.TheVariants.{Binary}
use Rattle.sqlite_schema.specs.Rules.{equal}
use Rattle.sqlite_trees.specs.declared.store.Shape.TheVariants.{Table as TableShape}
use Rattle.sqlite_keyed.proofs.ListLemmas.{any_from_none}
use Rattle.book_office_values.specs.declared.paths.Path.TheVariants as path
use Rattle.book_office.specs.Edits.{remove_book}
use Rattle.book_tables_rows.specs.Columns.{ace_node, node_parent_place}
use Rattle.book_tables_rows.specs.Writes.{is_below, AreFree}
use Rattle.book_tables_rows.specs.Writes as writes
use Rattle.book_tables.proofs.Looking.{found_has, find-delete_where, find-deleted, has_text, has_int, same_ints}
use Rattle.book_tables.proofs.RowFacts.{same_rowid, all_from_has, found_at, number_of_row, numbers_apart}
use Rattle.book_tables.proofs.LeftRows.{none_stays, stays_in, filter-delete_where, one_found, any_has, has_null, same_words, card_book, book_name, book_or_card}

module _ (rows : Rows) (o : Office) (gives : Gives rows o) (shaped : IsShaped TableShape rows.nodes) (once : (t : List ℕ) → PassesOnce (is_at t) rows.nodes)
    (b : List ℕ) (named : IsName b) (book_row : Row) (at_book : row_at rows (book_path b) ≡ Some book_row) (k : ℤ) (k_is : rowid book_row ≡ Int k) where
  abbrev id : Value
  id = Int k

  parent_is_book : (r : Row) (q : Path) → IsPath q → is_under id r ≡ true → IsParent rows (node_parent r) (Some q) → q ≡ path.Book b
  parent_is_book r q named_q under (s, found, is) =
      let ks = number_of_row rows gives.nodes shaped (path_text q) s found in
      let same_number = same_ints 3 r ks.0 k (is ∙ ks.1) under in
      one_text q (path.Book b) named_q named (numbers_apart rows gives.nodes shaped (path_text q) (book_path b) s book_row found at_book (ks.1 ∙ ap Int same_number ∙ sym k_is))

  -- what stands under the book is a card of it
  under_card : (r : Row) (p : Path) → IsPath p → IsParent rows (node_parent r) (parent_of p) → is_under id r ≡ true → (c : List ℕ) × (p ≡ path.Card b c)
  under_card r path.Root x h under = absurd (true≢false (sym under ∙ has_null 3 r k h))
  under_card r path.People x h under = absurd (let e = parent_is_book r path.Root tt under h in cc)
  under_card r path.Groups x h under = absurd (let e = parent_is_book r path.Root tt under h in cc)
  under_card r path.Books x h under = absurd (let e = parent_is_book r path.Root tt under h in cc)
  under_card r (path.Person m) x h under = absurd (let e = parent_is_book r path.People tt under h in cc)
  under_card r (path.Group m) x h under = absurd (let e = parent_is_book r path.Groups tt under h in cc)
  under_card r (path.Book m) x h under = absurd (let e = parent_is_book r path.Books tt under h in cc)
  under_card r (path.Card a c) x h under = (c, ap (λ z. path.Card z c) (book_name (parent_is_book r (path.Book a) x.0 under h)))

  not_under : (r : Row) (p : Path) → IsNodeAt rows r p → ((c : List ℕ) → p ≢ path.Card b c) → is_under id r ≡ false
  not_under r p n no_card = false_from_ne_true (is_under id r) (λ under. let it = under_card r p n.named n.parent under in no_card it.0 it.1)

  -- a card's row stands under it
  card_under : (r : Row) (c : List ℕ) → IsNodeAt rows r (path.Card b c) → is_under id r ≡ true
  card_under r c n =
      let s = n.parent in
      let same_row : s.0 ≡ book_row = same_Some _ _ (sym s.1 ∙ at_book) in
      has_int 3 r k k (s.2 ∙ ap rowid same_row ∙ k_is) ∙ int_itself k

  own_row : (r : Row) → Has rows.nodes r → has rowid_place id r ≡ true → r ≡ book_row
  own_row r there own =
      let n = key_is r (all_has _ rows.nodes r shaped.1 there) in
      same_rowid rows.nodes r book_row shaped.0 there (found_has (is_at (book_path b)) rows.nodes book_row at_book).0
      (n ∙ ap Int (same_ints 0 r _ k n own) ∙ sym k_is)

  not_own : (r : Row) (p : Path) → Has rows.nodes r → IsNodeAt rows r p → p ≢ path.Book b → has rowid_place id r ≡ false
  not_own r p there n no_book = false_from_ne_true (has rowid_place id r) (λ own.
      let texts = same_words (path_text p) (book_path b) (sym n.path ∙ ap node_path (own_row r there own) ∙ found_at rows gives.nodes shaped (book_path b) book_row at_book) in
      no_book (one_text p (path.Book b) n.named named texts))

  abbrev inner : List Row
  inner = delete_where (is_under id) rows.nodes

  abbrev nodes_after : List Row
  nodes_after = delete_where (has rowid_place id) inner

  -- the path of a row that is found by its text
  path_of : (p : Path) → IsPath p → (r : Row) → Has rows.nodes r → is_at (path_text p) r ≡ true → IsNodeAt rows r p
  path_of p is_path r there at =
      let n = all_has (IsNode rows) rows.nodes r gives.nodes there in
      let texts = is_same (path_text n.0) (path_text p) (sym (has_text 2 r (path_text n.0) (path_text p) n.1.path) ∙ at) in
      subst (IsNodeAt rows r) (one_text n.0 p n.1.named is_path texts) n.1

  found_elsewhere : (p : Path) → IsPath p → p ≢ path.Book b → ((c : List ℕ) → p ≢ path.Card b c) → find (is_at (path_text p)) nodes_after ≡ row_at rows (path_text p)
  found_elsewhere p is_path no_book no_card =
      find-delete_where (is_at (path_text p)) (has rowid_place id) inner (all_from_has _ inner (λ x there at.
      let left = (in_left (is_under id) rows.nodes x there).0 in not_own x p left (path_of p is_path x left at) no_book))
      ∙ find-delete_where (is_at (path_text p)) (is_under id) rows.nodes (all_from_has _ rows.nodes (λ x there at. not_under x p (path_of p is_path x there at) no_card))

  no_card_left : (c : List ℕ) → IsName c → find (is_at (card_path b c)) nodes_after ≡ None
  no_card_left c named_c =
      none_stays (is_at (card_path b c)) (has rowid_place id) inner
      (find-deleted (is_at (card_path b c)) (is_under id) rows.nodes (all_from_has _ rows.nodes (λ x there at. card_under x c (path_of (path.Card b c) (named, named_c) x there at))))

  no_book_left : find (is_at (book_path b)) nodes_after ≡ None
  no_book_left = find-deleted (is_at (book_path b)) (has rowid_place id) inner (all_from_has _ inner (λ x there at.
      let left = (in_left (is_under id) rows.nodes x there).0 in
      let only : x ≡ book_row = one_found (is_at (book_path b)) rows.nodes x book_row (once (book_path b)) at_book left at in
      has_int 0 x k k (ap rowid only ∙ k_is) ∙ int_itself k))

  -- ---- the lists of the nodes that stay

  abbrev entries_inner : List Row
  entries_inner = delete_where (is_below id rows.nodes) rows.entries

  abbrev entries_after : List Row
  entries_after = delete_where (has ace_node_place id) entries_inner

  -- an entry of a node that stays is neither the book's nor a card's
  not_below : (r e : Row) (n : ℤ) → Has rows.nodes r → rowid r ≡ Int n → is_under id r ≡ false → ace_node e ≡ Int n → is_below id rows.nodes e ≡ false
  not_below r e n there r_is out its = any_from_none (λ child. is_under id child && equal Binary (rowid child) (ace_node e)) rows.nodes (all_from_has _ rows.nodes (λ child in_nodes.
      elim (is_under id child) as (λ t. is_under id child ≡ t → (t && equal Binary (rowid child) (ace_node e)) ≡ false) [
        | true ↦ λ under. false_from_ne_true (equal Binary (rowid child) (ace_node e)) (λ same.
            let m = key_is child (all_has _ rows.nodes child shaped.1 in_nodes) in
            let numbers = same_ints 0 child _ n m (ap (equal Binary (rowid child)) (sym its) ∙ same) in
            let one = same_rowid rows.nodes child r shaped.0 in_nodes there (m ∙ ap Int numbers ∙ sym r_is) in
            true≢false (sym under ∙ ap (is_under id) one ∙ out))
        | false ↦ λ _. refl
      ] refl))

  list_stays : (r : Row) (p : Path) → Has rows.nodes r → IsNodeAt rows r p → p ≢ path.Book b → ((c : List ℕ) → p ≢ path.Card b c) → (pr : Bool)
      → filter (is_entry (rowid r) pr) entries_after ≡ filter (is_entry (rowid r) pr) rows.entries
  list_stays r p there n no_book no_card pr =
      let r_is = key_is r (all_has _ rows.nodes r shaped.1 there) in
      let its = λ (e : Row) (in_entries : Has rows.entries e) (passes : is_entry (rowid r) pr e ≡ true).
      let it = all_has (IsEntry rows) rows.entries e gives.entries in_entries in
      let m = key_is it.node (all_has _ rows.nodes it.node shaped.1 it.there) in
      it.its ∙ m ∙ ap Int (same_ints 1 e _ _ (it.its ∙ m) (ap (λ v. has ace_node_place v e) (sym r_is) ∙ (and_parts _ _ passes).0)) in
      filter-delete_where (is_entry (rowid r) pr) (has ace_node_place id) entries_inner (all_from_has _ entries_inner (λ e in_left_entries passes.
      let in_entries = (in_left (is_below id rows.nodes) rows.entries e in_left_entries).0 in
      has_int 1 e _ k (its e in_entries passes) ∙ sym (has_int 0 r _ k r_is) ∙ not_own r p there n no_book))
      ∙ filter-delete_where (is_entry (rowid r) pr) (is_below id rows.nodes) rows.entries (all_from_has _ rows.entries (λ e in_entries passes.
      not_below r e _ there r_is (not_under r p n no_card) (its e in_entries passes)))

  resource_stays : (p : Path) (found : Option Row) → row_at rows (path_text p) ≡ found → IsPath p → p ≢ path.Book b → ((c : List ℕ) → p ≢ path.Card b c)
      → option_map (resource_of entries_after) found ≡ option_map (resource_of rows.entries) found
  resource_stays p None is is_path no_book no_card = refl
  resource_stays p (Some r) is is_path no_book no_card =
      let f = found_has (is_at (path_text p)) rows.nodes r is in
      let lists = λ (pr : Bool). ap (λ es. map entry_of (sort_by by_place es)) (list_stays r p f.0 (path_of p is_path r f.0 f.1) no_book no_card pr) in
      ap Some (λ i. record (resource_of rows.entries r) { protected = lists true i; own = lists false i })

  -- ---- the Office without the book

  abbrev o' : Office
  o' = remove_book b o

  abbrev after : Rows
  after = writes.remove_book_rows id (o.epoch + 1) rows

  at_elsewhere : (p : Path) → IsPath p → p ≢ path.Book b → ((c : List ℕ) → p ≢ path.Card b c) → resource_in after (path_text p) ≡ resource_at o p
  at_elsewhere p is_path no_book no_card =
      ap (option_map (resource_of entries_after)) (found_elsewhere p is_path no_book no_card)
      ∙ resource_stays p (row_at rows (path_text p)) refl is_path no_book no_card ∙ gives.resources p is_path

  at_removed : (p : Path) → IsPath p → resource_in after (path_text p) ≡ resource_at o' p
  at_removed path.Root x = at_elsewhere path.Root x (λ e. cc) (λ c e. cc)
  at_removed path.People x = at_elsewhere path.People x (λ e. cc) (λ c e. cc)
  at_removed path.Groups x = at_elsewhere path.Groups x (λ e. cc) (λ c e. cc)
  at_removed path.Books x = at_elsewhere path.Books x (λ e. cc) (λ c e. cc)
  at_removed (path.Person m) x = at_elsewhere (path.Person m) x (λ e. cc) (λ c e. cc)
  at_removed (path.Group m) x = at_elsewhere (path.Group m) x (λ e. cc) (λ c e. cc)
  at_removed (path.Book a) x = by_names a b (λ _. resource_in after (book_path a) ≡ resource_at o' (path.Book a))
      (λ is. ap (λ z. resource_in after (book_path z)) is ∙ ap (option_map (resource_of entries_after)) no_book_left
      ∙ sym (ap (option_map book_resource) (removed_here o.books b)) ∙ ap (λ z. resource_at o' (path.Book z)) (sym is))
      (λ differs. at_elsewhere (path.Book a) x (λ e. differs (book_name e)) (λ c e. cc) ∙ sym (ap (option_map book_resource) (removed_elsewhere o.books b a differs)))
  at_removed (path.Card a c) x = by_names a b (λ _. resource_in after (card_path a c) ≡ resource_at o' (path.Card a c))
      (λ is. ap (λ z. resource_in after (card_path z c)) is ∙ ap (option_map (resource_of entries_after)) (no_card_left c x.1)
      ∙ sym (ap (option_and_then (λ (book : Book). card_in book c)) (removed_here o.books b)) ∙ ap (λ z. resource_at o' (path.Card z c)) (sym is))
      (λ differs. at_elsewhere (path.Card a c) x (λ e. cc) (λ d e. differs (card_book e)) ∙ sym (ap (option_and_then (λ (book : Book). card_in book c)) (removed_elsewhere o.books b a differs)))

  -- ---- the rows that stay

  up : (v : Value) (q : Path) → IsPath q → q ≢ path.Book b → ((c : List ℕ) → q ≢ path.Card b c) → IsParent rows v (Some q) → IsParent after v (Some q)
  up v q is_path no_book no_card (s, found, is) = (s, found_elsewhere q is_path no_book no_card ∙ found, is)

  parent_stays : (r : Row) (p : Path) → IsPath p → is_under id r ≡ false → IsParent rows (node_parent r) (parent_of p) → IsParent after (node_parent r) (parent_of p)
  parent_stays r path.Root x out h = h
  parent_stays r path.People x out h = up (node_parent r) path.Root tt (λ e. cc) (λ c e. cc) h
  parent_stays r path.Groups x out h = up (node_parent r) path.Root tt (λ e. cc) (λ c e. cc) h
  parent_stays r path.Books x out h = up (node_parent r) path.Root tt (λ e. cc) (λ c e. cc) h
  parent_stays r (path.Person m) x out h = up (node_parent r) path.People tt (λ e. cc) (λ c e. cc) h
  parent_stays r (path.Group m) x out h = up (node_parent r) path.Groups tt (λ e. cc) (λ c e. cc) h
  parent_stays r (path.Book m) x out h = up (node_parent r) path.Books tt (λ e. cc) (λ c e. cc) h
  parent_stays r (path.Card a c) x out h = up (node_parent r) (path.Book a) x.0 (λ e.
      let same_row : h.0 ≡ book_row = same_Some _ _ (sym (ap (λ z. row_at rows (book_path z)) (sym (book_name e)) ∙ h.1) ∙ at_book) in
      true≢false (sym (has_int 3 r k k (h.2 ∙ ap rowid same_row ∙ k_is) ∙ int_itself k) ∙ out)) (λ d e. cc) h

  nodes_left : (r : Row) → Has nodes_after r → IsNode after r
  nodes_left r there =
      let first = in_left (has rowid_place id) inner r there in
      let second = in_left (is_under id) rows.nodes r first.0 in
      let n = all_has (IsNode rows) rows.nodes r gives.nodes second.0 in
      (n.0, record { named = n.1.named; path = n.1.path; parent = parent_stays r n.0 n.1.named second.1 n.1.parent; kind = n.1.kind; number = n.1.number })

  entries_left : (e : Row) → Has entries_after e → IsEntry after e
  entries_left e there =
      let first = in_left (has ace_node_place id) entries_inner e there in
      let second = in_left (is_below id rows.nodes) rows.entries e first.0 in
      let it = all_has (IsEntry rows) rows.entries e gives.entries second.0 in
      let m = key_is it.node (all_has _ rows.nodes it.node shaped.1 it.there) in
      let out : is_under id it.node ≡ false = false_from_ne_true (is_under id it.node) (λ under.
      let hit : (is_under id it.node && equal Binary (rowid it.node) (ace_node e)) ≡ true = rw under (ap (equal Binary (rowid it.node)) (it.its ∙ m) ∙ has_int 0 it.node (key it.node) (key it.node) m ∙ int_itself (key it.node)) in
      true≢false (sym (any_has (λ child. is_under id child && equal Binary (rowid child) (ace_node e)) rows.nodes it.node it.there hit) ∙ second.1)) in
      let other : has rowid_place id it.node ≡ false = has_int 0 it.node _ k m ∙ sym (has_int 1 e _ k (it.its ∙ m)) ∙ first.1 in
      record { node = it.node; there = stays_in (has rowid_place id) inner it.node (stays_in (is_under id) rows.nodes it.node it.there out) other; its = it.its; list = it.list; protected = it.protected; place = it.place; spelled = it.spelled }

  removed_left : (g : Row) → Has (delete_where (has gone_book_place id) rows.gone) g → IsRemoved after g
  removed_left g there =
      let left = in_left (has gone_book_place id) rows.gone g there in
      let it = all_has (IsRemoved rows) rows.gone g gives.removed left.0 in
      let differs : path.Book it.book ≢ path.Book b = λ e.
      let same_row : it.there.0 ≡ book_row = same_Some _ _ (sym (ap (λ z. row_at rows (book_path z)) (sym (book_name e)) ∙ it.there.1) ∙ at_book) in
      true≢false (sym (has_int 1 g k k (it.there.2 ∙ ap rowid same_row ∙ k_is) ∙ int_itself k) ∙ left.1) in
      record { book = it.book; named = it.named; there = up (gone_book g) (path.Book it.book) it.named differs (λ c e. cc) it.there; name = it.name; spelled = it.spelled; number = it.number }

  -- ---- removed names

  abbrev told : List ℕ → List Row → Option Row → Option ℕ
  told name gone found = option_and_then (λ row. option_map (λ g. number_in (gone_number g)) (find (is_gone (rowid row) name) gone)) found

  gone_elsewhere : (a name : List ℕ) → IsName a → a ≢ b → (found : Option Row) → row_at rows (book_path a) ≡ found → told name (delete_where (has gone_book_place id) rows.gone) found ≡ told name rows.gone found
  gone_elsewhere a name named_a differs None is = refl
  gone_elsewhere a name named_a differs (Some r) is =
      let f = found_has (is_at (book_path a)) rows.nodes r is in
      let r_is = key_is r (all_has _ rows.nodes r shaped.1 f.0) in
      ap (option_map (λ g. number_in (gone_number g))) (find-delete_where (is_gone (rowid r) name) (has gone_book_place id) rows.gone (all_from_has _ rows.gone (λ x in_gone passes.
      let it = all_has (IsRemoved rows) rows.gone x gives.removed in_gone in
      let ky = number_of_row rows gives.nodes shaped (book_path it.book) it.there.0 it.there.1 in
      let its : gone_book x ≡ Int _ = it.there.2 ∙ ky.1 ∙ ap Int (same_ints 1 x ky.0 _ (it.there.2 ∙ ky.1) (ap (λ v. has gone_book_place v x) (sym r_is) ∙ (and_parts _ _ passes).0)) in
      has_int 1 x _ k its ∙ sym (has_int 0 r _ k r_is) ∙ not_own r (path.Book a) f.0 (path_of (path.Book a) named_a r f.0 f.1) (λ e. differs (book_name e)))))

  gone_removed : (a name : List ℕ) → IsName a → removed_in after a name ≡ removed_at o' a name
  gone_removed a name named_a = by_names a b (λ _. removed_in after a name ≡ removed_at o' a name)
      (λ is. ap (λ z. removed_in after z name) is ∙ ap (told name (delete_where (has gone_book_place id) rows.gone)) no_book_left
      ∙ sym (ap (option_and_then (λ (book : Book). unless_mapped (get book.cards name) (get book.changes.last name))) (removed_here o.books b)) ∙ ap (λ z. removed_at o' z name) (sym is))
      (λ differs. ap (told name (delete_where (has gone_book_place id) rows.gone)) (found_elsewhere (path.Book a) named_a (λ e. differs (book_name e)) (λ c e. cc))
      ∙ gone_elsewhere a name named_a differs (row_at rows (book_path a)) refl ∙ gives.gone a name named_a
      ∙ sym (ap (option_and_then (λ (book : Book). unless_mapped (get book.cards name) (get book.changes.last name))) (removed_elsewhere o.books b a differs)))

  pub gives_removed : Gives after o'
  gives_removed = record {
    nodes = all_from_has (IsNode after) nodes_after nodes_left;
    entries = all_from_has (IsEntry after) entries_after entries_left;
    removed = all_from_has (IsRemoved after) (delete_where (has gone_book_place id) rows.gone) removed_left;
    resources = at_removed;
    members = gives.members;
    gone = gone_removed;
    meta = (gives.meta.0, ap (update_where (λ _. true) (with_epoch (o.epoch + 1))) gives.meta.1);
  }

  -- ---- the premises of the two DELETEs of nodes

  node_number : (r : Row) → Has rows.nodes r → rowid r ≡ Int (key r)
  node_number r there = key_is r (all_has _ rows.nodes r shaped.1 there)

  -- a card of the book is no node's parent
  no_parent : (child node : Row) (n : ℤ) (c : List ℕ) → Has rows.nodes node → rowid node ≡ Int n → IsNodeAt rows node (path.Card b c) → has node_parent_place (Int n) child ≡ true
      → (above : Path) → IsPath above → ((a d : List ℕ) → above ≢ path.Card a d) → IsParent rows (node_parent child) (Some above) → ⊥
  no_parent child node n c there node_is at_card hit above is_path no_card (s, found, is) =
      let f = found_has (is_at (path_text above)) rows.nodes s found in
      let ks = node_number s f.0 in
      let numbers = same_ints 3 child (key s) n (is ∙ ks) hit in
      let one = same_rowid rows.nodes s node shaped.0 f.0 there (ks ∙ ap Int numbers ∙ sym node_is) in
      let texts = same_words (path_text above) (card_path b c) (sym (found_at rows gives.nodes shaped (path_text above) s found) ∙ ap node_path one ∙ at_card.path) in
      no_card b c (one_text above (path.Card b c) is_path at_card.named texts)

  parents_apart : (child node : Row) (n : ℤ) (c : List ℕ) → Has rows.nodes node → rowid node ≡ Int n → IsNodeAt rows node (path.Card b c) → has node_parent_place (Int n) child ≡ true
      → (q : Path) → IsPath q → IsParent rows (node_parent child) (parent_of q) → ⊥
  parents_apart child node n c there is at hit path.Root x h = true≢false (sym hit ∙ has_null 3 child n h)
  parents_apart child node n c there is at hit path.People x h = no_parent child node n c there is at hit path.Root tt (λ a d e. cc) h
  parents_apart child node n c there is at hit path.Groups x h = no_parent child node n c there is at hit path.Root tt (λ a d e. cc) h
  parents_apart child node n c there is at hit path.Books x h = no_parent child node n c there is at hit path.Root tt (λ a d e. cc) h
  parents_apart child node n c there is at hit (path.Person m) x h = no_parent child node n c there is at hit path.People tt (λ a d e. cc) h
  parents_apart child node n c there is at hit (path.Group m) x h = no_parent child node n c there is at hit path.Groups tt (λ a d e. cc) h
  parents_apart child node n c there is at hit (path.Book m) x h = no_parent child node n c there is at hit path.Books tt (λ a d e. cc) h
  parents_apart child node n c there is at hit (path.Card a d) x h = no_parent child node n c there is at hit (path.Book a) x.0 (λ a d e. cc) h

  -- the row of a card of the book
  card_of : (node : Row) → Has rows.nodes node → is_under id node ≡ true → (c : List ℕ) × IsNodeAt rows node (path.Card b c)
  card_of node there under =
      let n = all_has (IsNode rows) rows.nodes node gives.nodes there in
      let c = under_card node n.0 n.1.named n.1.parent under in
      (c.0, subst (IsNodeAt rows node) c.1 n.1)

  pub free_children : AreFree (is_under id) (record rows { entries = entries_inner; gone = delete_where (has gone_book_place id) rows.gone })
  free_children = record {
    nodes = λ node child there under in_nodes out.
        let at = card_of node there under in
        let m = node_number node there in
        let c = all_has (IsNode rows) rows.nodes child gives.nodes in_nodes in
        ap (λ v. has node_parent_place v child) m ∙ false_from_ne_true (has node_parent_place (Int (key node)) child) (λ hit. parents_apart child node (key node) at.0 there m at.1 hit c.0 c.1.named c.1.parent);
    entries = λ node entry there under in_entries.
        let m = node_number node there in
        let left = in_left (is_below id rows.nodes) rows.entries entry in_entries in
        let it = all_has (IsEntry rows) rows.entries entry gives.entries left.0 in
        let its = it.its ∙ node_number it.node it.there in
        ap (λ v. has ace_node_place v entry) m ∙ false_from_ne_true (has ace_node_place (Int (key node)) entry) (λ hit.
        let numbers = same_ints 1 entry (key it.node) (key node) its hit in
        let same_number : (is_under id node && equal Binary (rowid node) (ace_node entry)) ≡ true =
        rw under (ap (equal Binary (rowid node)) (its ∙ ap Int numbers) ∙ has_int 0 node (key node) (key node) m ∙ int_itself (key node)) in
        true≢false (sym (any_has (λ child. is_under id child && equal Binary (rowid child) (ace_node entry)) rows.nodes node there same_number) ∙ left.1));
    gone = λ node name there under in_gone.
        let m = node_number node there in
        let at = card_of node there under in
        let it = all_has (IsRemoved rows) rows.gone name gives.removed (in_left (has gone_book_place id) rows.gone name in_gone).0 in
        let f = found_has (is_at (book_path it.book)) rows.nodes it.there.0 it.there.1 in
        let its = it.there.2 ∙ node_number it.there.0 f.0 in
        ap (λ v. has gone_book_place v name) m ∙ false_from_ne_true (has gone_book_place (Int (key node)) name) (λ hit.
        let numbers = same_ints 1 name (key it.there.0) (key node) its hit in
        let one = same_rowid rows.nodes it.there.0 node shaped.0 f.0 there (node_number it.there.0 f.0 ∙ ap Int numbers ∙ sym m) in
        let texts = same_words (book_path it.book) (card_path b at.0) (sym (found_at rows gives.nodes shaped (book_path it.book) it.there.0 it.there.1) ∙ ap node_path one ∙ at.1.path) in
        let paths : path.Book it.book ≡ path.Card b at.0 = one_text (path.Book it.book) (path.Card b at.0) it.named at.1.named texts in
        book_or_card paths);
  }

  pub free_book : AreFree (has rowid_place id) (record rows { nodes = inner; entries = entries_after; gone = delete_where (has gone_book_place id) rows.gone })
  free_book = record {
    nodes = λ node child there own in_nodes out.
        ap (λ v. has node_parent_place v child) (ap rowid (own_row node (in_left (is_under id) rows.nodes node there).0 own) ∙ k_is) ∙ (in_left (is_under id) rows.nodes child in_nodes).1;
    entries = λ node entry there own in_entries.
        ap (λ v. has ace_node_place v entry) (ap rowid (own_row node (in_left (is_under id) rows.nodes node there).0 own) ∙ k_is) ∙ (in_left (has ace_node_place id) entries_inner entry in_entries).1;
    gone = λ node name there own in_gone.
        ap (λ v. has gone_book_place v name) (ap rowid (own_row node (in_left (is_under id) rows.nodes node there).0 own) ∙ k_is) ∙ (in_left (has gone_book_place id) rows.gone name in_gone).1;
  }
