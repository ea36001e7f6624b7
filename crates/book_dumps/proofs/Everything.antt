-- A dump has a line for each resource.
use Rattle.book_dumps.proofs.Common.{◌≡◌, inl, inr, ℕ, List, [], ◌∷◌, ◌++◌, refl, sym, ap, ◌∙◌, subst, arith, map, codes, length, Option, Some, None, option_map, Office, Path}
use Rattle.std.proofs.Common.{◌≤◌, cond, flat_map, unwrap_or}
use Rattle.std.specs.Cmp.Lexicographic.{nat_list_cmp_total}
use Rattle.std.specs.FinMap.{empty, entries, get, insert, values}
use Rattle.std.specs.List.{All, filter_map}
use Rattle.std.proofs.lemmas.List.Elements.{All-nil}
use Rattle.std.proofs.lemmas.Option.{same_Some}
use Rattle.book_limits.specs.declared.TheConstants.{LAST_NUMBER}
use Rattle.book_lists.specs.Principals.{EndsPlain}
use Rattle.book_lists.specs.declared.entries.Entry.{Entry}
use Rattle.book_lists.specs.declared.entries.Who.{Who}
use Rattle.book_lists.specs.declared.entries.Who.TheVariants as form
use Rattle.book_office.proofs.StandingResources.{from_map, from_and_then, resources_stand_in_place}
use Rattle.book_office.specs.Resources.{Resource, as_listed, book_resource, card_in, card_resource, children_at, listed_cards, number_of, properties_resource, resource_at}
use Rattle.book_office.specs.Sound.{AreSoundProperties, IsKnownForm, IsSound, IsSoundBook, IsSoundList}
use Rattle.book_office.specs.declared.nodes.Changed.{Changed}
use Rattle.book_office.specs.declared.nodes.Listed.{Listed}
use Rattle.book_office_sync.proofs.ChangesAfter.{after_last}
use Rattle.book_office_values.proofs.Members.{get_mem, mem_get}
use Rattle.book_office_values.proofs.NameMapLaws.{by_names, names_apart, put_at, same, same_itself}
use Rattle.book_office_values.proofs.Slashes.{name_ends_plain}
use Rattle.book_office_values.specs.Changes.{Change, changes_after}
use Rattle.book_office_values.specs.Names.{NamesTo}
use Rattle.book_office_values.specs.declared.offices.Book.{Book}
use Rattle.book_office_values.specs.declared.offices.Properties.{Properties}
use Rattle.book_office_values.specs.declared.offices.StoredCard.{StoredCard}
use Rattle.book_office_values.specs.declared.paths.Kind.TheVariants as kind
use Rattle.book_office_values.specs.declared.paths.Path.TheVariants as path
use Rattle.book_dumps.specs.Dumps.{after_books, counted, last_line, lines_at, lines_of, names_at, paths_in, paths_of, places_of, with_book, with_books}
use Rattle.book_dumps.specs.Told.{if_removed, line_of, number_told, removed_after, removed_in, texts_at, texts_of, unless_there}
use Rattle.book_dumps.specs.declared.lines.Removed.{Removed}
use Rattle.book_dumps.specs.declared.places.Place.{Place}
use Rattle.book_dumps.specs.declared.places.Place.TheVariants.{Whole, Cards}
use Rattle.book_dumps.proofs.Among.{Mem, all_of, mem_flat, mem_left, mem_map, mem_of_map, mem_of_some, mem_right}
use Rattle.book_dumps.proofs.Feeds.{AreLines, lines_both}
use Rattle.book_dumps.proofs.LineLaws.{IsPlainEntry, IsPlainForm, IsPlainLine, IsShort, IsShortIf, IsShortRemoved, line_is_line, single_is_line}

-- ---- where books and cards stand
slash_alike : (a b : List ℕ) → a ++ codes "/" ≡ b ++ codes "/" → a ≡ b
slash_alike [] [] e = refl
slash_alike [] (y ∷ []) e = absurd cc
slash_alike [] (y ∷ v ∷ ys) e = absurd cc
slash_alike (x ∷ []) [] e = absurd cc
slash_alike (x ∷ v ∷ xs) [] e = absurd cc
slash_alike (x ∷ xs) (y ∷ ys) e = let first : x ≡ y = cc in let rest = slash_alike xs ys cc in λ i. first i ∷ rest i

-- what stands at a key is there still where another is put, and where it is put again
kept_at : (m : NamesTo Place) (k q : List ℕ) (v w : Place) → get m q ≡ Some v → (k ≡ q → w ≡ v) → get (insert m k w) q ≡ Some v
kept_at m k q v w at same_value =
    put_at m k w q ∙ by_names q k (λ b. cond b (Some w) (get m q) ≡ Some v) (λ e. ap Some (same_value (sym e))) (λ _. at)

-- the key fits the value for each book
abbrev Fits : List ℕ → Place → List ℕ → Type 0
Fits q v b = (b ≡ q → Whole b ≡ v) × (b ++ codes "/" ≡ q → Cards b ≡ v)

stays : (bs : List (List ℕ)) (m : NamesTo Place) (q : List ℕ) (v : Place) → ((b : List ℕ) → Mem b bs → Fits q v b) → get m q ≡ Some v → get (with_books m bs) q ≡ Some v
stays [] m q v fits at = at
stays (b ∷ bs) m q v fits at =
    let one = fits b (inl refl) in
    let first : get (insert m b (Whole b)) q ≡ Some v = kept_at m b q v (Whole b) at one.0 in
    stays bs (with_book m b) q v (λ x m. fits x (inr m)) (kept_at (insert m b (Whole b)) (b ++ codes "/") q v (Cards b) first one.1)

there : (bs : List (List ℕ)) (m : NamesTo Place) (b : List ℕ) → ((x : List ℕ) → Mem x bs → EndsPlain x) → Mem b bs
    → (get (with_books m bs) b ≡ Some (Whole b)) × (get (with_books m bs) (b ++ codes "/") ≡ Some (Cards b))
there [] m b plain among = absurd among
there (x ∷ bs) m b plain (inl e) = (
  stays bs (with_book m x) b (Whole b) (λ y at. (λ same. ap Whole same, λ ends. absurd (own y (sym ends)))) whole,
  stays bs (with_book m x) (b ++ codes "/") (Cards b) (λ y at. (λ same. absurd (plain y (inr at) b same), λ same. ap Cards (slash_alike y b same))) cards,
)
  where
    own : EndsPlain b
    own = subst EndsPlain (sym e) (plain x (inl refl))

    put_here : (m : NamesTo Place) (k q : List ℕ) (v : Place) → q ≡ k → get (insert m k v) q ≡ Some v
    put_here m k q v same_key = put_at m k v q ∙ ap (λ t. cond t (Some v) (get m q)) (ap (same q) (sym same_key) ∙ same_itself q)

    whole : get (with_book m x) b ≡ Some (Whole b)
    whole = kept_at (insert m x (Whole x)) (x ++ codes "/") b (Whole b) (Cards x) (put_here m x b (Whole x) e ∙ ap (λ y. Some (Whole y)) (sym e)) (λ ends. absurd (own x (sym ends)))

    cards : get (with_book m x) (b ++ codes "/") ≡ Some (Cards b)
    cards = put_here (insert m x (Whole x)) (x ++ codes "/") (b ++ codes "/") (Cards x) (ap (λ y. y ++ codes "/") e) ∙ ap (λ y. Some (Cards y)) (sym e)
there (x ∷ bs) m b plain (inr at) = there bs (with_book m x) b (λ y h. plain y (inr h)) at

value_among : (m : NamesTo Place) (k : List ℕ) (v : Place) → get m k ≡ Some v → Mem v (values m)
value_among m k v at = mem_map (λ (e : List ℕ × Place). e.1) (k, v) (entries m) (get_mem nat_list_cmp_total names_apart m k v at)

-- a removed name has the number of its change
of_card : (card : Option StoredCard) (x y : Removed) → unless_there card x ≡ Some y → y ≡ x
of_card None x y e = sym (same_Some x y e)
of_card (Some card) x y e = absurd cc

pub of_change : (c : Changed) (y : Removed) → if_removed c ≡ Some y → y ≡ record { name = c.name; number = c.number }
of_change c y e = of_card c.card (record { name = c.name; number = c.number }) y e

module _ (o : Office) (sound : IsSound o) where
  -- ---- each name is among those of its parent
  person_among : (n : List ℕ) (x : Properties) → get o.persons n ≡ Some x → Mem n (names_at o path.People)
  person_among n x at =
      mem_map (λ (child : Listed). child.name) (as_listed n (properties_resource kind.Person 0 x)) (children_at o path.People)
      (mem_map (λ (e : List ℕ × Properties). as_listed e.0 (properties_resource kind.Person 0 e.1)) (n, x) (entries o.persons) (get_mem nat_list_cmp_total names_apart o.persons n x at))

  group_among : (n : List ℕ) (x : Properties) → get o.groups n ≡ Some x → Mem n (names_at o path.Groups)
  group_among n x at =
      mem_map (λ (child : Listed). child.name) (as_listed n (properties_resource kind.Group 0 x)) (children_at o path.Groups)
      (mem_map (λ (e : List ℕ × Properties). as_listed e.0 (properties_resource kind.Group 0 e.1)) (n, x) (entries o.groups) (get_mem nat_list_cmp_total names_apart o.groups n x at))

  book_among : (n : List ℕ) (x : Book) → get o.books n ≡ Some x → Mem n (names_at o path.Books)
  book_among n x at =
      mem_map (λ (child : Listed). child.name) (as_listed n (book_resource x)) (children_at o path.Books)
      (mem_map (λ (e : List ℕ × Book). as_listed e.0 (book_resource e.1)) (n, x) (entries o.books) (get_mem nat_list_cmp_total names_apart o.books n x at))

  card_among : (b c : List ℕ) (book : Book) (card : StoredCard) → get o.books b ≡ Some book → get book.cards c ≡ Some card → Mem c (names_at o (path.Book b))
  card_among b c book card at got =
      subst (λ (found : Option Book). Mem c (map (λ (child : Listed). child.name) (unwrap_or (option_map listed_cards found) []))) (sym at)
      (mem_map (λ (child : Listed). child.name) (as_listed c (card_resource (number_of book c) card)) (listed_cards book)
      (mem_map (λ (e : List ℕ × StoredCard). as_listed e.0 (card_resource (number_of book e.0) e.1)) (c, card) (entries book.cards) (get_mem nat_list_cmp_total names_apart book.cards c card got)))

  book_plain : (b : List ℕ) → Mem b (names_at o path.Books) → EndsPlain b
  book_plain b m =
      let child = mem_of_map (λ (child : Listed). child.name) b (children_at o path.Books) m in
      let e = mem_of_map (λ (e : List ℕ × Book). as_listed e.0 (book_resource e.1)) child.0 (entries o.books) child.1 in
      let at = mem_get nat_list_cmp_total names_apart o.books e.0.0 e.0.1 e.1 in
      subst EndsPlain (sym (child.2 ∙ ap (λ (l : Listed). l.name) e.2)) (name_ends_plain e.0.0 (sound.books e.0.0 e.0.1 at).0)

  -- ---- each path is among those of the dump
  abbrev shelves : List Path
  shelves = flat_map (paths_in o) (places_of o)

  in_shelves : (p : Path) → Mem p shelves → Mem p (paths_of o)
  in_shelves p m = inr (inr (mem_left p shelves (after_books o) m))

  behind_shelves : (p : Path) → Mem p (after_books o) → Mem p (paths_of o)
  behind_shelves p m = inr (inr (mem_right p shelves (after_books o) m))

  pub path_among : (p : Path) (r : Resource) → resource_at o p ≡ Some r → Mem p (paths_of o)
  path_among path.Root r e = inl refl
  path_among path.Books r e = inr (inl refl)
  path_among path.Groups r e = behind_shelves path.Groups (inl refl)
  path_among path.People r e = behind_shelves path.People (inr (mem_right path.People (map path.Group (names_at o path.Groups)) (path.People ∷ map path.Person (names_at o path.People)) (inl refl)))
  path_among (path.Person n) r e = from_map (properties_resource kind.Person 0) (get o.persons n) r e (λ x at _.
      behind_shelves (path.Person n) (inr (mem_right (path.Person n) (map path.Group (names_at o path.Groups)) (path.People ∷ map path.Person (names_at o path.People))
      (inr (mem_map path.Person n (names_at o path.People) (person_among n x at))))))
  path_among (path.Group n) r e = from_map (properties_resource kind.Group 0) (get o.groups n) r e (λ x at _.
      behind_shelves (path.Group n) (inr (mem_left (path.Group n) (map path.Group (names_at o path.Groups)) (path.People ∷ map path.Person (names_at o path.People))
      (mem_map path.Group n (names_at o path.Groups) (group_among n x at)))))
  path_among (path.Book b) r e = from_map book_resource (get o.books b) r e (λ x at _.
      in_shelves (path.Book b) (mem_flat (paths_in o) (path.Book b) (Whole b) (places_of o)
      (value_among (with_books empty (names_at o path.Books)) b (Whole b) (there (names_at o path.Books) empty b book_plain (book_among b x at)).0) (inl refl)))
  path_among (path.Card b c) r e = from_and_then (λ (book : Book). card_in book c) (get o.books b) r e (λ book at is.
      from_map (card_resource (number_of book c)) (get book.cards c) r is (λ card got _.
      in_shelves (path.Card b c) (mem_flat (paths_in o) (path.Card b c) (Cards b) (places_of o)
      (value_among (with_books empty (names_at o path.Books)) (b ++ codes "/") (Cards b) (there (names_at o path.Books) empty b book_plain (book_among b book at)).1)
      (mem_map (path.Card b) c (names_at o (path.Book b)) (card_among b c book card at got)))))

  -- ---- each line is plain
  known_plain : (w : Who) → IsKnownForm o w → IsPlainForm w
  known_plain (form.Href p) (inl h) = (_, h.1)
  known_plain (form.Href p) (inr h) = (_, h.1)
  known_plain form.Everyone h = tt
  known_plain form.Authenticated h = tt
  known_plain form.Unauthenticated h = tt
  known_plain form.Owner h = tt
  known_plain form.Own h = tt

  list_plain : (list : List Entry) → IsSoundList o list → All IsPlainEntry list
  list_plain list h = plain_each list h.known
    where
      plain_each : (es : List Entry) → All (λ (entry : Entry). IsKnownForm o entry.who) es → All IsPlainEntry es
      plain_each es all = λ k d within. known_plain _ (all k d within)

  abbrev AreListed : Resource → Type 0
  AreListed r = All IsPlainEntry r.protected × All IsPlainEntry r.own

  properties_listed : (x : Properties) → AreSoundProperties o x → All IsPlainEntry x.protected × All IsPlainEntry x.own
  properties_listed x h = (list_plain x.protected h.protected, list_plain x.own h.own)

  lists_of : (p : Path) (r : Resource) → resource_at o p ≡ Some r → AreListed r
  lists_of path.Root r e = subst AreListed (same_Some _ _ e) (properties_listed o.root sound.root)
  lists_of path.People r e = subst AreListed (same_Some _ _ e) (properties_listed o.people sound.people)
  lists_of path.Groups r e = subst AreListed (same_Some _ _ e) (properties_listed o.groups_home sound.groups_home)
  lists_of path.Books r e = subst AreListed (same_Some _ _ e) (properties_listed o.books_home sound.books_home)
  lists_of (path.Person n) r e = from_map (properties_resource kind.Person 0) (get o.persons n) r e (λ x at is. subst AreListed is (properties_listed x (sound.persons n x at).1))
  lists_of (path.Group n) r e = from_map (properties_resource kind.Group 0) (get o.groups n) r e (λ x at is. subst AreListed is (properties_listed x (sound.groups n x at).1))
  lists_of (path.Book b) r e = from_map book_resource (get o.books b) r e (λ x at is. subst AreListed is (properties_listed x.properties (sound.books b x at).1.properties))
  lists_of (path.Card b c) r e = from_and_then (λ (book : Book). card_in book c) (get o.books b) r e (λ book at is.
      from_map (card_resource (number_of book c)) (get book.cards c) r is (λ card got told.
      subst AreListed told (All-nil IsPlainEntry, list_plain card.own ((sound.books b book at).1.cards c card got).own)))

  few : (n : ℕ) → n ≤ LAST_NUMBER → IsShort n
  few n h = omega (arith, h)

  last_few : (book : Book) → IsSoundBook o book → (c : List ℕ) → IsShort (number_of book c)
  last_few book h c = by_last (get book.changes.last c) refl
    where
      by_last : (last : Option ℕ) → get book.changes.last c ≡ last → IsShort (unwrap_or last 0)
      by_last None e = omega arith
      by_last (Some n) e = let top = (h.within c n e).1 in let most = h.last in few n (omega (arith, top, most))

  number_few : (p : Path) (r : Resource) → resource_at o p ≡ Some r → IsShortIf (number_told p r.number)
  number_few path.Root r e = tt
  number_few path.People r e = tt
  number_few path.Groups r e = tt
  number_few path.Books r e = tt
  number_few (path.Person n) r e = tt
  number_few (path.Group n) r e = tt
  number_few (path.Book b) r e = from_map book_resource (get o.books b) r e (λ x at is.
      subst (λ (r : Resource). IsShort r.number) is (few x.changes.number (sound.books b x at).1.last))
  number_few (path.Card b c) r e = from_and_then (λ (book : Book). card_in book c) (get o.books b) r e (λ book at is.
      from_map (card_resource (number_of book c)) (get book.cards c) r is (λ card got told.
      subst (λ (r : Resource). IsShort r.number) told (last_few book (sound.books b book at).1 c)))

  -- a removed name among those that are told
  abbrev changed_of : Option Book → List Changed
  changed_of found = unwrap_or (option_map (λ (book : Book). map (λ (c : Change). record { number = c.0; name = c.1; card = get book.cards c.1 }) (changes_after book.changes.last 0)) found) []

  removed_few : (b : List ℕ) (found : Option Book) → get o.books b ≡ found → (x : Removed) → Mem x (removed_after o b 0) → IsShort x.number
  removed_few b found at x m = by_book found at (subst (λ (f : Option Book). Mem x (told f)) at m)
    where
      told : Option Book → List Removed
      told f = filter_map if_removed (changed_of f)

      by_book : (f : Option Book) → get o.books b ≡ f → Mem x (told f) → IsShort x.number
      by_book None e m = absurd m
      by_book (Some book) e m =
          let c = mem_of_some if_removed x (changed_of (Some book)) m in
          let d = mem_of_map (λ (c : Change). record { number = c.0; name = c.1; card = get book.cards c.1 }) c.0 (changes_after book.changes.last 0) c.1 in
          let at = after_last book.changes.last 0 d.0.0 d.0.1 d.1 in
          let sound_book = (sound.books b book e).1 in
          let top = (sound_book.within d.0.1 d.0.0 at).1 in
          let most = sound_book.last in
          let number : x.number ≡ d.0.0 = ap (λ (r : Removed). r.number) (of_change c.0 x c.2) ∙ ap (λ (c : Changed). c.number) d.2 in
          few x.number (omega (arith, number, top, most))

  removed_short : (p : Path) → All IsShortRemoved (removed_in o p)
  removed_short path.Root = All-nil IsShortRemoved
  removed_short path.People = All-nil IsShortRemoved
  removed_short path.Groups = All-nil IsShortRemoved
  removed_short path.Books = All-nil IsShortRemoved
  removed_short (path.Person n) = All-nil IsShortRemoved
  removed_short (path.Group n) = All-nil IsShortRemoved
  removed_short (path.Book b) = all_of IsShortRemoved (removed_after o b 0) (removed_few b (get o.books b) refl)
  removed_short (path.Card b c) = All-nil IsShortRemoved

  pub plain_line : (p : Path) (r : Resource) → resource_at o p ≡ Some r → IsPlainLine (line_of o p r)
  plain_line p r e = record {
    path = (resources_stand_in_place o sound p r e).named;
    protected = (lists_of p r e).0;
    own = (lists_of p r e).1;
    number = number_few p r e;
    removed = removed_short p;
  }

  -- ---- the lines of the dump
  texts_lines : (p : Path) (found : Option Resource) → resource_at o p ≡ found → AreLines (texts_of (option_map (line_of o p) found))
  texts_lines p None e = tt
  texts_lines p (Some r) e = (line_is_line (line_of o p r) (plain_line p r e), tt)

  each_line : (ps : List Path) → AreLines (lines_at o ps)
  each_line [] = tt
  each_line (p ∷ ps) = lines_both (texts_at o p) (lines_at o ps) (texts_lines p (resource_at o p) refl) (each_line ps)

  pub all_lines : AreLines (lines_of o ++ last_line (counted (length (lines_of o))) ∷ [])
  all_lines =
      lines_both (lines_of o) (last_line (counted (length (lines_of o))) ∷ [])
      (single_is_line (codes "epoch") o.epoch (few o.epoch sound.epoch), each_line (paths_of o))
      (single_is_line (codes "lines") (counted (length (lines_of o))) (omega arith), tt)
