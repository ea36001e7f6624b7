-- The changes that rows tell are those of the Office that they give.
use Rattle.book_tables.proofs.Common.{◌≡◌, inl, inr, ℕ, pos, ◌<ℤ◌, ◌<◌, ◌≤◌, Bool, true, false, ◌&&◌, List, [], ◌∷◌, ◌++◌, map, filter, find, codes, Some, None, option_map, option_and_then, unwrap_or, refl, sym, ap, subst, ◌∙◌, arith, Ordering, Less, Equal, Greater, is_gt, int_cmp, true≢false, and_parts, ints, get, same_Some, Value, Int, Text, id_in, Row, column, rowid, Has, all_has, has_filtered, has_kept, value_cmp-Int, LAST_NUMBER, IsName, Book, StoredCard, Office, Path, changes_after, book_path, parent_of, is_same, same_itself, some_apart, by_option, where_some, Changed, Resource, resource_at, card_resource, card_in, number_of, unless_mapped, changed_in, IsSound, IsSoundBook, gone_book_place, gone_name_place, gone_number, node_label, node_number, node_path, number_in, text_in, Rows, has, is_at, is_under, is_gone, PassesOnce, row_at, resource_of, removed_from, IsNodeAt, IsRemoved, Gives, card_shown, removed_shown}
use Rattle.std.proofs.Common.{nat_lt}
use Rattle.std.proofs.lemmas.Bool.{and_from}
use Rattle.std.proofs.lemmas.Bool.Decides.{nat_tests}
use Rattle.std.proofs.lemmas.Cmp.{int_ranked}
use Rattle.sqlite.specs.Ops.{binary, is_true, from_truth}
use Rattle.sqlite_rules.proofs.ListLemmas.{has_left, has_right, has_either}
use Rattle.book_office_values.specs.declared.paths.Path.TheVariants as path
use Rattle.book_tables_rows.specs.Columns.{gone_name, gone_number_place, node_number_place, node_owner, node_text}
use Rattle.book_tables_rows.specs.Lists as lists
use Rattle.book_tables_rows.specs.Lists.{is_above}
use Rattle.book_tables.proofs.RowFacts.{row_number}
use Rattle.book_tables.proofs.Acting.{AreNodes}
use Rattle.book_tables.proofs.BookChanges.{IsChange, are_changes, changes_are}
use Rattle.book_tables.proofs.ChildRows.{found_once, row_of, its_resource, its_name, under_is, child_row}
use Rattle.book_tables.proofs.Looking.{found_has, has_text}
use Rattle.book_tables.proofs.LeftRows.{book_name}
use Rattle.book_tables.proofs.SameLists.{has_map, has_mapped}
use Rattle.book_office.proofs.StandingResources.{from_map, removed_unmapped}

-- the changes above a number of the book whose row this is
abbrev pub changes_of : Rows → List ℕ → ℕ → Row → List Changed
changes_of rows front number book =
    map (card_shown rows front) (lists.changed_rows (id_in (rowid book)) number rows) ++ map removed_shown (lists.gone_after (id_in (rowid book)) number rows)

-- ---- a number above another

told : (o : Ordering) → is_true (from_truth (Some (is_gt o))) ≡ is_gt o
told Less = refl
told Equal = refl
told Greater = refl

above_is : (place m k : ℕ) (x : Row) → column x place ≡ Int (pos k) → is_above place m x ≡ is_gt (int_cmp (pos k) (pos m))
unfolding binary
above_is place m k x is = rw (is, value_cmp-Int (pos k) (pos m)) (told (int_cmp (pos k) (pos m)))

greater : (m k : ℕ) (o : Ordering) → o ≡ int_cmp (pos k) (pos m) → is_gt o ≡ true → m < k
greater m k Less e h = absurd (true≢false (sym h))
greater m k Equal e h = absurd (true≢false (sym h))
greater m k Greater e h = let l : pos m <ℤ pos k = int_ranked (pos k) (pos m) Greater e in grind (arith, ints)

is_greater : (m k : ℕ) (o : Ordering) → o ≡ int_cmp (pos k) (pos m) → m < k → is_gt o ≡ true
is_greater m k Less e h = absurd (let l : pos k <ℤ pos m = int_ranked (pos k) (pos m) Less e in let r : k < m = grind (arith, ints) in omega (arith, r, h))
is_greater m k Equal e h = absurd (let l : pos k ≡ pos m = int_ranked (pos k) (pos m) Equal e in let r : k ≡ m = ap (λ z. number_in (Int z)) l in omega (arith, r, h))
is_greater m k Greater e h = refl

below : (a b : ℕ) → nat_lt a b ≡ true → a < b
below a b h = grind (arith, nat_tests)

not_below : (a b : ℕ) → nat_lt a b ≡ false → b ≤ a
not_below a b h = grind (arith, nat_tests)

pub not_greater : (m k : ℕ) → is_gt (int_cmp (pos k) (pos m)) ≡ false → k ≤ m
not_greater m k h = go (nat_lt m k) refl
  where
    go : (t : Bool) → nat_lt m k ≡ t → k ≤ m
    go true e = absurd (true≢false (sym (is_greater m k _ refl (below m k e)) ∙ h))
    go false e = not_below m k e

means_above : (place m k : ℕ) (x : Row) → column x place ≡ Int (pos k) → is_above place m x ≡ true → m < k
means_above place m k x is h = greater m k _ refl (sym (above_is place m k x is) ∙ h)

above_means : (place m k : ℕ) (x : Row) → column x place ≡ Int (pos k) → m < k → is_above place m x ≡ true
above_means place m k x is h = above_is place m k x is ∙ is_greater m k _ refl h

-- ---- small facts

card_below : (q : Path) (b : List ℕ) → parent_of q ≡ Some (path.Book b) → (c : List ℕ) × (q ≡ path.Card b c)
card_below path.Root b e = some_apart (sym e)
card_below path.People b e = absurd (let is = same_Some _ _ e in cc)
card_below path.Groups b e = absurd (let is = same_Some _ _ e in cc)
card_below path.Books b e = absurd (let is = same_Some _ _ e in cc)
card_below (path.Person n) b e = absurd (let is = same_Some _ _ e in cc)
card_below (path.Group n) b e = absurd (let is = same_Some _ _ e in cc)
card_below (path.Book n) b e = absurd (let is = same_Some _ _ e in cc)
card_below (path.Card a c) b e = (c, ap (λ z. path.Card z c) (book_name (same_Some _ _ e)))

module _ (rows : Rows) (o : Office) (gives : Gives rows o) (nodes : AreNodes rows) (sound : IsSound o) (once : (id : Value) (name : List ℕ) → PassesOnce (is_gone id name) rows.gone)
    (b : List ℕ) (named : IsName b) (node : Row) (found : row_at rows (book_path b) ≡ Some node) (book : Book) (at_book : get o.books b ≡ Some book)
    (m n : ℕ) (less : (k : ℕ) → k ≤ LAST_NUMBER → m < k → n < k) (more : (k : ℕ) → k ≤ LAST_NUMBER → n < k → m < k) where
  abbrev front : List ℕ
  front = book_path b ++ codes "/"

  sound_book : IsSoundBook o book
  sound_book = (sound.books b book at_book).1

  last_number : (name : List ℕ) (k : ℕ) → get book.changes.last name ≡ Some k → k ≤ LAST_NUMBER
  last_number name k at = omega (arith, (sound_book.within name k at).1, sound_book.last)

  -- the number of a row
  book_number : Int (id_in (rowid node)) ≡ rowid node
  book_number = row_number rows nodes.shaped node (found_has (is_at (book_path b)) rows.nodes node found).0

  abbrev is_changed : Row → Bool
  is_changed row = is_under (Int (id_in (rowid node))) row && is_above node_number_place m row

  abbrev is_removed : Row → Bool
  is_removed row = has gone_book_place (Int (id_in (rowid node))) row && is_above gone_number_place m row

  abbrev card_columns : Row → Row
  card_columns row = rowid row ∷ node_path row ∷ node_owner row ∷ node_label row ∷ node_text row ∷ node_number row ∷ []

  abbrev name_columns : Row → Row
  name_columns row = gone_name row ∷ gone_number row ∷ []

  card_at : (c : List ℕ) → resource_at o (path.Card b c) ≡ card_in book c
  card_at c = ap (option_and_then (λ (k : Book). card_in k c)) at_book

  -- what the row of a card shows is its last change
  shows_card : (x : Row) (c : List ℕ) (card : StoredCard) (k : ℕ) → Has rows.nodes x → IsNodeAt rows x (path.Card b c) → get book.cards c ≡ Some card → get book.changes.last c ≡ Some k
      → resource_of rows.entries x ≡ card_resource (number_of book c) card → card_shown rows front (card_columns x) ≡ record { number = k; name = c; card = Some card }
  shows_card x c card k there at here last is =
      let number : number_in (node_number x) ≡ k = ap (λ (r : Resource). r.number) is ∙ ap (λ r. unwrap_or r 0) last in
      let name = its_name rows o gives nodes sound (path.Book b) named node found x (path.Card b c) at refl in
      let own = ap (λ v. Rattle.book_tables.specs.Rows.list_in rows.entries v false) (row_number rows nodes.shaped x there) ∙ ap (λ (r : Resource). r.own) is in
      λ i. record {
        number = number i;
        name = name i;
        card = Some (record { owner = (is i).owner; label = (is i).label; own = own i; text = unwrap_or (is i).text [] });
      }

  -- the number of a changed card's row, and of a removed name's, is a number
  pub card_number : (x : Row) → Has (filter is_changed rows.nodes) x → node_number x ≡ Int (pos (number_in (node_number x)))
  card_number x h =
      let f = has_filtered is_changed rows.nodes x h in
      let two = and_parts _ _ f.1 in
      let under = ap (λ v. is_under v x) (sym book_number) ∙ two.0 in
      let q = child_row rows o gives nodes sound (path.Book b) named node found x (has_kept (is_under (rowid node)) rows.nodes x f.0 under) in
      q.1.number

  pub name_number : (x : Row) → Has (filter is_removed rows.gone) x → gone_number x ≡ Int (pos (number_in (gone_number x)))
  name_number x h = (all_has (IsRemoved rows) rows.gone x gives.removed (has_filtered is_removed rows.gone x h).0).number

  card_told : (x : Row) → Has (filter is_changed rows.nodes) x → IsChange book n (card_shown rows front (card_columns x))
  card_told x h =
      let f = has_filtered is_changed rows.nodes x h in
      let two = and_parts _ _ f.1 in
      let under = ap (λ v. is_under v x) (sym book_number) ∙ two.0 in
      let q = child_row rows o gives nodes sound (path.Book b) named node found x (has_kept (is_under (rowid node)) rows.nodes x f.0 under) in
      let c = card_below q.0 b q.2 in
      let at = subst (IsNodeAt rows x) c.1 q.1 in
      let is_there = sym (card_at c.0) ∙ its_resource rows o gives nodes sound (path.Book b) named x (path.Card b c.0) f.0 at in
      from_map (card_resource (number_of book c.0)) (get book.cards c.0) (resource_of rows.entries x) is_there (λ card here is.
      where_some (get book.changes.last c.0) (sound_book.changed c.0 card here) (λ k last.
      let whole = shows_card x c.0 card k f.0 at here last (sym is) in
      let number : node_number x ≡ Int (pos k) = at.number ∙ ap (λ (z : Changed). Int (pos z.number)) whole in
      subst (IsChange book n) (sym whole) (record { number = last; above = less k (last_number c.0 k last) (means_above 8 m k x number two.1); card = sym here })))

  removed_is : (name : List ℕ) → unless_mapped (get book.cards name) (get book.changes.last name) ≡ option_map (λ row. number_in (gone_number row)) (find (is_gone (rowid node) name) rows.gone)
  removed_is name =
      sym (ap (option_and_then (λ (k : Book). unless_mapped (get k.cards name) (get k.changes.last name))) at_book) ∙ sym (gives.gone b name named) ∙ ap (removed_from rows.gone name) found

  name_told : (x : Row) → Has (filter is_removed rows.gone) x → IsChange book n (removed_shown (name_columns x))
  name_told x h =
      let f = has_filtered is_removed rows.gone x h in
      let two = and_parts _ _ f.1 in
      let it = all_has (IsRemoved rows) rows.gone x gives.removed f.0 in
      let own = ap (λ v. has gone_book_place v x) (sym book_number) ∙ two.0 in
      let name_is : has gone_name_place (Text it.name) x ≡ true = has_text 2 x it.name it.name it.spelled ∙ same_itself it.name in
      let gone = found_once (is_gone (rowid node) it.name) rows.gone x (once (rowid node) it.name) f.0 (and_from _ _ own name_is) in
      let last = removed_unmapped _ _ _ (removed_is it.name ∙ ap (option_map (λ row. number_in (gone_number row))) gone) in
      let whole : removed_shown (name_columns x) ≡ record { number = number_in (gone_number x); name = it.name; card = None } =
      (λ i. record { number = number_in (gone_number x); name = unwrap_or (text_in (it.spelled i)) []; card = None }) in
      subst (IsChange book n) (sym whole)
      (record { number = last.1; above = less _ (last_number it.name _ last.1) (means_above 3 m _ x it.number two.1); card = sym last.0 })

  pub rows_tell : (c : Changed) → Has (changes_of rows front m node) c → Has (changed_in book (changes_after book.changes.last n)) c
  rows_tell c h = changes_are book sound_book.different n c (go (has_either (map (card_shown rows front) (lists.changed_rows (id_in (rowid node)) m rows)) (map removed_shown (lists.gone_after (id_in (rowid node)) m rows)) c h))
    where
      go : Rattle.std.proofs.Common.◌⊎◌ (Has (map (card_shown rows front) (lists.changed_rows (id_in (rowid node)) m rows)) c) (Has (map removed_shown (lists.gone_after (id_in (rowid node)) m rows)) c) → IsChange book n c
      go (inl left) =
          let shown = has_mapped (card_shown rows front) (lists.changed_rows (id_in (rowid node)) m rows) c left in
          let row = has_mapped card_columns (filter is_changed rows.nodes) shown.0 shown.1 in
          subst (IsChange book n) (sym (shown.2 ∙ ap (card_shown rows front) row.2)) (card_told row.0 row.1)
      go (inr right) =
          let shown = has_mapped removed_shown (lists.gone_after (id_in (rowid node)) m rows) c right in
          let row = has_mapped name_columns (filter is_removed rows.gone) shown.0 shown.1 in
          subst (IsChange book n) (sym (shown.2 ∙ ap removed_shown row.2)) (name_told row.0 row.1)

  -- the row of a change of a card
  in_cards : (c : Changed) → IsChange book n c → (card : StoredCard) → get book.cards c.name ≡ Some card → Has (changes_of rows front m node) c
  in_cards c is card here =
      let resource : resource_at o (path.Card b c.name) ≡ Some (card_resource (number_of book c.name) card) = card_at c.name ∙ ap (option_map (card_resource (number_of book c.name))) here in
      let x = row_of rows o gives nodes sound (path.Book b) named (path.Card b c.name) (named, sound_book.names c.name c.number is.number) _ resource in
      let whole = shows_card x.0 c.name card c.number x.1 x.2 here is.number x.3 in
      let under = ap (λ v. is_under v x.0) book_number ∙ under_is rows o gives nodes sound (path.Book b) named node found x.0 (path.Card b c.name) x.2 refl in
      let number : node_number x.0 ≡ Int (pos c.number) = x.2.number ∙ ap (λ (z : Changed). Int (pos z.number)) whole in
      let high = above_means 8 m c.number x.0 number (more c.number (last_number c.name c.number is.number) is.above) in
      let kept = has_kept is_changed rows.nodes x.0 x.1 (and_from _ _ under high) in
      let shown = has_map (card_shown rows front) (lists.changed_rows (id_in (rowid node)) m rows) (card_columns x.0) (has_map card_columns (filter is_changed rows.nodes) x.0 kept) in
      let same : card_shown rows front (card_columns x.0) ≡ c = whole ∙ (λ i. record { number = c.number; name = c.name; card = sym (is.card ∙ here) i }) in
      has_left (map (card_shown rows front) (lists.changed_rows (id_in (rowid node)) m rows)) (map removed_shown (lists.gone_after (id_in (rowid node)) m rows)) c
      (subst (Has (map (card_shown rows front) (lists.changed_rows (id_in (rowid node)) m rows))) same shown)

  -- the row of a change of a removed name
  in_names : (c : Changed) → IsChange book n c → get book.cards c.name ≡ None → Has (changes_of rows front m node) c
  in_names c is none =
      let removed : option_map (λ row. number_in (gone_number row)) (find (is_gone (rowid node) c.name) rows.gone) ≡ Some c.number =
      sym (removed_is c.name) ∙ ap (λ r. unless_mapped r (get book.changes.last c.name)) none ∙ is.number in
      from_map (λ row. number_in (gone_number row)) (find (is_gone (rowid node) c.name) rows.gone) c.number removed (λ x at number_is.
      let f = found_has (is_gone (rowid node) c.name) rows.gone x at in
      let two = and_parts _ _ f.1 in
      let it = all_has (IsRemoved rows) rows.gone x gives.removed f.0 in
      let name : it.name ≡ c.name = is_same it.name c.name (sym (has_text 2 x it.name c.name it.spelled) ∙ two.1) in
      let number : gone_number x ≡ Int (pos c.number) = it.number ∙ ap (λ k. Int (pos k)) number_is in
      let high = above_means 3 m c.number x number (more c.number (last_number c.name c.number is.number) is.above) in
      let kept = has_kept is_removed rows.gone x f.0 (and_from _ _ (ap (λ v. has gone_book_place v x) book_number ∙ two.0) high) in
      let shown = has_map removed_shown (lists.gone_after (id_in (rowid node)) m rows) (name_columns x) (has_map name_columns (filter is_removed rows.gone) x kept) in
      let spelled : gone_name x ≡ Text c.name = it.spelled ∙ ap Text name in
      let same : removed_shown (name_columns x) ≡ c = (λ i. record { number = number_is i; name = unwrap_or (text_in (spelled i)) []; card = sym (is.card ∙ none) i }) in
      has_right (map (card_shown rows front) (lists.changed_rows (id_in (rowid node)) m rows)) (map removed_shown (lists.gone_after (id_in (rowid node)) m rows)) c
      (subst (Has (map removed_shown (lists.gone_after (id_in (rowid node)) m rows))) same shown))

  pub tell_rows : (c : Changed) → Has (changed_in book (changes_after book.changes.last n)) c → Has (changes_of rows front m node) c
  tell_rows c h =
      let is = are_changes book n c h in
      by_option (get book.cards c.name) (λ none. in_names c is none) (λ card here. in_cards c is card here)
