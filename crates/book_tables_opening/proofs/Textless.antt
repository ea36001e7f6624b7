-- Rows without their texts are those of a sound Office, but for the texts, where the rows are, and each has the text of its kind.
use Rattle.book_tables_opening.proofs.Common.{◌≡◌, ◌⊎◌, ℕ, suc, ℤ, pos, Bool, true, false, cond, nat_eq, codes, List, [], ◌∷◌, ◌++◌, map, filter, length, Option, Some, None, option_map, unwrap_or, refl, sym, ap, subst, ◌∙◌, ◌≤◌, IsTrue, AllByRecursion, Value, Null, Int, Real, Text, Blob, id_in, Row, kind_code, kind_of, text_in, number_in, Path, path_text, is_of_kind, first_shown_at, node_numbered, number_at, shown_with, is_int_of, is_text_of, shown_id, shown_path, shown_parent, Key, change_keys, gone_changes, IsBelow, IsContent, IsKnown, IsNodeRow, IsEntryRow, IsMemberRow, IsGoneRow, IsWithinBook, AreAtMost, AreOfficeRows, MAX_MEMBERS, MAX_CARDS, MAX_BOOKS}
use Rattle.book_office_values.specs.declared.paths.Kind.{Kind}
use Rattle.book_office_values.specs.declared.paths.Kind.TheVariants as kind
use Rattle.book_tables_rows.proofs.Statements.{map-map}
use Rattle.book_tables_opening.specs.Opening.{AreTextlessRows, HasGroup, HasHomes, HasPrincipal, IsTextFor, IsTextlessRow, card_change, card_keys, group_keys}
use Rattle.book_tables_opening.specs.Shown.{shown_group, shown_number, shown_text}
use Rattle.book_tables_opening.specs.WholeNodes.{without_text}
use Rattle.book_tables_opening.proofs.ShownNodes.{found_mapped}

-- the row has the text of its kind
abbrev pub HasOwnText : Row → Type 0
HasOwnText row = IsTextFor (is_of_kind 5 row) (text_in (shown_text row))

-- ---- lists

module _ (P Q R : Row → Type 0) where
  all_textless : ((row : Row) → P row → Q (without_text row)) → (xs : List Row) → AllByRecursion P xs → AllByRecursion Q (map without_text xs)
  all_textless step [] all = tt
  all_textless step (x ∷ xs) all = (step x all.0, all_textless step xs all.1)

  all_back : ((row : Row) → Q (without_text row) → R row → P row) → (xs : List Row) → AllByRecursion Q (map without_text xs) → AllByRecursion R xs → AllByRecursion P xs
  all_back step [] all more = tt
  all_back step (x ∷ xs) all more = (step x all.0 more.0, all_back step xs all.1 more.1)

all_same : {X : Type 0} (P Q : X → Type 0) → ((x : X) → P x → Q x) → (xs : List X) → AllByRecursion P xs → AllByRecursion Q xs
all_same P Q step [] all = tt
all_same P Q step (x ∷ xs) all = (step x all.0, all_same P Q step xs all.1)

kept : (code : ℕ) (xs : List Row) → filter (is_of_kind code) (map without_text xs) ≡ map without_text (filter (is_of_kind code) xs)
kept code [] = refl
kept code (x ∷ xs) = go (kept code xs) (is_of_kind code x)
  where
    go : filter (is_of_kind code) (map without_text xs) ≡ map without_text (filter (is_of_kind code) xs) → (b : Bool)
        → cond b (without_text x ∷ filter (is_of_kind code) (map without_text xs)) (filter (is_of_kind code) (map without_text xs)) ≡ map without_text (cond b (x ∷ filter (is_of_kind code) xs) (filter (is_of_kind code) xs))
    go more true = ap (λ l. without_text x ∷ l) more
    go more false = more

as_many : (xs : List Row) → length (map without_text xs) ≡ length xs
as_many [] = refl
as_many (x ∷ xs) = ap suc (as_many xs)

-- ---- a text for a kind

for_kind : (k : Kind) (text : Option (List ℕ)) → IsContent k text → IsTextFor (nat_eq (kind_code k) 5) text
for_kind kind.Root text h = h
for_kind kind.Home text h = h
for_kind kind.Person text h = h
for_kind kind.Group text h = h
for_kind kind.Book text h = h
for_kind kind.Card text h = h

of_kind : (k : Kind) (text : Option (List ℕ)) → IsTextFor (nat_eq (kind_code k) 5) text → IsContent k text
of_kind kind.Root text h = h
of_kind kind.Home text h = h
of_kind kind.Person text h = h
of_kind kind.Group text h = h
of_kind kind.Book text h = h
of_kind kind.Card text h = h

-- ---- what is found

found_back : (r : Option Row) (n : Row) → option_map without_text r ≡ Some n → (row : Row) × (r ≡ Some row) × (n ≡ without_text row)
found_back None n e = absurd cc
found_back (Some row) n e = (row, refl, (let same : without_text row ≡ n = cc in sym same))

none_back : (r : Option Row) → option_map without_text r ≡ None → r ≡ None
none_back None e = refl
none_back (Some row) e = absurd cc

module _ (nodes : List Row) where
  abbrev bare : List Row
  bare = map without_text nodes

  at_bare : (t : List ℕ) → first_shown_at bare t ≡ option_map without_text (first_shown_at nodes t)
  at_bare t = found_mapped without_text (λ row. is_text_of t (shown_path row)) (λ row. is_text_of t (shown_path row)) (λ row. refl) nodes

  numbered_bare : (id : ℤ) → node_numbered bare id ≡ option_map without_text (node_numbered nodes id)
  numbered_bare id = found_mapped without_text (λ row. is_int_of id (shown_id row)) (λ row. is_int_of id (shown_id row)) (λ row. refl) nodes

  with_bare : (v : Value) → shown_with bare v ≡ option_map without_text (shown_with nodes v)
  with_bare Null = refl
  with_bare (Int id) = numbered_bare id
  with_bare (Real x) = refl
  with_bare (Text t) = refl
  with_bare (Blob b) = refl

  number_bare : (t : List ℕ) → number_at bare t ≡ number_at nodes t
  number_bare t = ap (option_map (λ row. id_in (shown_id row))) (at_bare t) ∙ twice (first_shown_at nodes t)
    where
      twice : (r : Option Row) → option_map (λ row. id_in (shown_id row)) (option_map without_text r) ≡ option_map (λ row. id_in (shown_id row)) r
      twice None = refl
      twice (Some row) = refl

  -- what is found among the bare rows is found among the rows
  at_back : (t : List ℕ) (n : Row) → first_shown_at bare t ≡ Some n → (row : Row) × (first_shown_at nodes t ≡ Some row) × (n ≡ without_text row)
  at_back t n h = found_back (first_shown_at nodes t) n (sym (at_bare t) ∙ h)

  with_back : (v : Value) (n : Row) → shown_with bare v ≡ Some n → (row : Row) × (shown_with nodes v ≡ Some row) × (n ≡ without_text row)
  with_back v n h = found_back (shown_with nodes v) n (sym (with_bare v) ∙ h)

  free_bare : (t : List ℕ) → first_shown_at nodes t ≡ None → first_shown_at bare t ≡ None
  free_bare t h = at_bare t ∙ ap (option_map without_text) h

  free_back : (t : List ℕ) → first_shown_at bare t ≡ None → first_shown_at nodes t ≡ None
  free_back t h = none_back (first_shown_at nodes t) (sym (at_bare t) ∙ h)

  -- ---- principals

  principal_bare : (t : List ℕ) → HasPrincipal nodes t → HasPrincipal bare t
  principal_bare t h = record { node = without_text h.node; there = at_bare t ∙ ap (option_map without_text) h.there; kind = h.kind }

  principal_back : (t : List ℕ) → HasPrincipal bare t → HasPrincipal nodes t
  principal_back t h =
      let found = at_back t h.node h.there in
      record { node = found.0; there = found.1; kind = subst (λ n. IsTrue (is_of_kind 2 n) ⊎ IsTrue (is_of_kind 3 n)) found.2 h.kind }

  group_bare : (t : List ℕ) → HasGroup nodes t → HasGroup bare t
  group_bare t h = record { node = without_text h.node; there = at_bare t ∙ ap (option_map without_text) h.there; kind = h.kind }

  group_back : (t : List ℕ) → HasGroup bare t → HasGroup nodes t
  group_back t h =
      let found = at_back t h.node h.there in
      record { node = found.0; there = found.1; kind = subst (λ n. IsTrue (is_of_kind 3 n)) found.2 h.kind }

  known_bare : (named : Option (List ℕ)) → IsKnown nodes named → IsKnown bare named
  known_bare None h = h
  known_bare (Some t) h = principal_bare t h

  known_back : (named : Option (List ℕ)) → IsKnown bare named → IsKnown nodes named
  known_back None h = h
  known_back (Some t) h = principal_back t h

  -- ---- nodes

  below_bare : (above : Option Path) (v : Value) → IsBelow nodes above v → IsBelow bare above v
  below_bare None v h = h
  below_bare (Some p) v h = (h.0, number_bare (path_text p) ∙ h.1, h.2)

  below_back : (above : Option Path) (v : Value) → IsBelow bare above v → IsBelow nodes above v
  below_back None v h = h
  below_back (Some p) v h = (h.0, sym (number_bare (path_text p)) ∙ h.1, h.2)

  node_bare : (row : Row) → IsNodeRow nodes row → IsTextlessRow bare (without_text row)
  node_bare row n = record {
    at = n.at;
    named = n.named;
    path = n.path;
    parent = below_bare _ (shown_parent row) n.parent;
    kind = n.kind;
    owner = known_bare _ n.owner;
    label = n.label;
    natural = n.natural;
    number = n.number;
  }

  own_text : (row : Row) → IsNodeRow nodes row → HasOwnText row
  own_text row n = subst (λ v. IsTextFor (nat_eq (number_in v) 5) (text_in (shown_text row))) (sym n.kind) (for_kind (kind_of n.at) (text_in (shown_text row)) n.text)

  node_back : (row : Row) → IsTextlessRow bare (without_text row) → HasOwnText row → IsNodeRow nodes row
  node_back row n own = record {
    at = n.at;
    named = n.named;
    path = n.path;
    parent = below_back _ (shown_parent row) n.parent;
    kind = n.kind;
    owner = known_back _ n.owner;
    label = n.label;
    text = of_kind (kind_of n.at) (text_in (shown_text row)) (subst (λ v. IsTextFor (nat_eq (number_in v) 5) (text_in (shown_text row))) n.kind own);
    natural = n.natural;
    number = n.number;
  }

  homes_bare : HasHomes nodes → HasHomes bare
  homes_bare h = record { root = λ none. h.root (free_back _ none); people = λ none. h.people (free_back _ none); groups = λ none. h.groups (free_back _ none); books = λ none. h.books (free_back _ none) }

  homes_back : HasHomes bare → HasHomes nodes
  homes_back h = record { root = λ none. h.root (free_bare _ none); people = λ none. h.people (free_bare _ none); groups = λ none. h.groups (free_bare _ none); books = λ none. h.books (free_bare _ none) }

  -- ---- entries, members and removed names

  entry_bare : (row : Row) → IsEntryRow nodes row → IsEntryRow bare row
  entry_bare row e = record {
    spelled = e.spelled;
    node = without_text e.node;
    there = with_bare _ ∙ ap (option_map without_text) e.there;
    placed = e.placed;
    principal = known_bare _ e.principal;
  }

  entry_back : (row : Row) → IsEntryRow bare row → IsEntryRow nodes row
  entry_back row e =
      let found = with_back _ e.node e.there in
      record { spelled = e.spelled; node = found.0; there = found.1; placed = λ card. e.placed (subst (λ n. IsTrue (is_of_kind 5 n)) (sym found.2) card); principal = known_back _ e.principal }

  member_bare : (row : Row) → IsMemberRow nodes row → IsMemberRow bare row
  member_bare row m = record { group = m.group; group_is = m.group_is; group_there = group_bare m.group m.group_there; member = m.member; member_is = m.member_is; member_there = principal_bare m.member m.member_there }

  member_back : (row : Row) → IsMemberRow bare row → IsMemberRow nodes row
  member_back row m = record { group = m.group; group_is = m.group_is; group_there = group_back m.group m.group_there; member = m.member; member_is = m.member_is; member_there = principal_back m.member m.member_there }

  gone_bare : (row : Row) → IsGoneRow nodes row → IsGoneRow bare row
  gone_bare row g = record {
    book = without_text g.book;
    there = with_bare _ ∙ ap (option_map without_text) g.there;
    kind = g.kind;
    name = g.name;
    named = g.named;
    name_is = g.name_is;
    free = free_bare _ g.free;
    natural = g.natural;
  }

  gone_back : (row : Row) → IsGoneRow bare row → IsGoneRow nodes row
  gone_back row g =
      let found = with_back _ g.book g.there in
      record {
        book = found.0;
        there = found.1;
        kind = subst (λ n. IsTrue (is_of_kind 4 n)) found.2 g.kind;
        name = g.name;
        named = g.named;
        name_is = g.name_is;
        free = subst (λ n. first_shown_at nodes (unwrap_or (text_in (shown_path n)) [] ++ codes "/" ++ g.name) ≡ None) found.2 (free_back _ g.free);
        natural = g.natural;
      }

  -- ---- how often

  groups_bare : (members : List Row) → group_keys bare members ≡ group_keys nodes members
  groups_bare members = λ i. map (λ row. (unwrap_or (number_bare (unwrap_or (text_in (shown_group row)) []) i) (pos 0), pos 0)) members

  cards_bare : card_keys bare ≡ card_keys nodes
  cards_bare = ap (map (λ row. (id_in (shown_parent row), pos 0))) (kept 5 nodes) ∙ map-map (λ row. (id_in (shown_parent row), pos 0)) without_text (filter (is_of_kind 5) nodes)

  changes_bare : (gone : List Row) → change_keys bare gone ≡ change_keys nodes gone
  changes_bare gone = ap (λ keys. keys ++ gone_changes gone) (ap (map card_change) (kept 5 nodes) ∙ map-map card_change without_text (filter (is_of_kind 5) nodes))

  within_bare : (key : Key) → IsWithinBook nodes key → IsWithinBook bare key
  within_bare key w = record { book = without_text w.book; there = with_bare (Int key.0) ∙ ap (option_map without_text) w.there; number = w.number; number_is = w.number_is; from_one = w.from_one; to_last = w.to_last }

  within_back : (key : Key) → IsWithinBook bare key → IsWithinBook nodes key
  within_back key w =
      let found = with_back (Int key.0) w.book w.there in
      record { book = found.0; there = found.1; number = w.number; number_is = w.number_is; from_one = w.from_one; to_last = subst (λ n. w.number ≤ number_in (shown_number n)) found.2 w.to_last }

  books_bare : length (filter (is_of_kind 4) bare) ≡ length (filter (is_of_kind 4) nodes)
  books_bare = ap length (kept 4 nodes) ∙ as_many (filter (is_of_kind 4) nodes)

  -- ---- all

  module _ (entries members gone meta : List Row) where
    pub texts_of_office : AreOfficeRows nodes entries members gone meta → AllByRecursion HasOwnText nodes
    texts_of_office are = all_same (IsNodeRow nodes) HasOwnText own_text nodes are.each_node

    pub textless_office : AreOfficeRows nodes entries members gone meta → AreTextlessRows bare entries members gone meta
    textless_office are = record {
      each_node = all_textless (IsNodeRow nodes) (IsTextlessRow bare) HasOwnText node_bare nodes are.each_node;
      homes = homes_bare are.homes;
      each_entry = all_same (IsEntryRow nodes) (IsEntryRow bare) entry_bare entries are.each_entry;
      lists = are.lists;
      each_member = all_same (IsMemberRow nodes) (IsMemberRow bare) member_bare members are.each_member;
      groups = subst (AreAtMost MAX_MEMBERS) (sym (groups_bare members)) are.groups;
      each_gone = all_same (IsGoneRow nodes) (IsGoneRow bare) gone_bare gone are.each_gone;
      within = subst (AllByRecursion (IsWithinBook bare)) (sym (changes_bare gone)) (all_same (IsWithinBook nodes) (IsWithinBook bare) within_bare (change_keys nodes gone) are.within);
      different = subst (AreAtMost 1) (sym (changes_bare gone)) are.different;
      cards = subst (AreAtMost MAX_CARDS) (sym cards_bare) are.cards;
      books = subst (λ n. n ≤ MAX_BOOKS) (sym books_bare) are.books;
      meta_rows = are.meta_rows;
    }

    pub office_with_texts : AreTextlessRows bare entries members gone meta → AllByRecursion HasOwnText nodes → AreOfficeRows nodes entries members gone meta
    office_with_texts are own = record {
      each_node = all_back (IsNodeRow nodes) (IsTextlessRow bare) HasOwnText node_back nodes are.each_node own;
      homes = homes_back are.homes;
      each_entry = all_same (IsEntryRow bare) (IsEntryRow nodes) entry_back entries are.each_entry;
      lists = are.lists;
      each_member = all_same (IsMemberRow bare) (IsMemberRow nodes) member_back members are.each_member;
      groups = subst (AreAtMost MAX_MEMBERS) (groups_bare members) are.groups;
      each_gone = all_same (IsGoneRow bare) (IsGoneRow nodes) gone_back gone are.each_gone;
      within = all_same (IsWithinBook bare) (IsWithinBook nodes) within_back (change_keys nodes gone) (subst (AllByRecursion (IsWithinBook bare)) (changes_bare gone) are.within);
      different = subst (AreAtMost 1) (changes_bare gone) are.different;
      cards = subst (AreAtMost MAX_CARDS) cards_bare are.cards;
      books = subst (λ n. n ≤ MAX_BOOKS) books_bare are.books;
      meta_rows = are.meta_rows;
    }
