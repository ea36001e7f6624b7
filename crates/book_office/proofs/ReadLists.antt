-- Lists that are read one after the other.
use Rattle.book_office.proofs.Common.{◌≡◌, ℕ, ◌+◌, ◌<◌, ◌↔◌, Bool, true, false, List, [], ◌∷◌, ◌++◌, length, take, Option, Some, option_map, option_and_then, unwrap_or, sym, ap, ◌∙◌, get, flat_map, Leaf, IsAllowed, Reading, read_by, Entry, in_force, in_force_at, lists_in, Resource, card_in, Book, Office}
use Rattle.std.proofs.Common.{get_or, append_assoc}
use Rattle.std.proofs.lemmas.List.{take_more, flat_map_more}
use Rattle.book_lists.specs.Circles.{CircleOf}
use Rattle.book_lists.specs.Readings.{IsAllowedRead}
use Rattle.book_lists.specs.declared.entries.Here.{Here}
use Rattle.book_lists.proofs.OneReader.{allowed_one, read_append}
use Rattle.book_office.specs.Resources.{book_resource}
use Rattle.book_office.specs.declared.nodes.Level.{Level}
use Rattle.book_office_values.specs.declared.paths.Path.TheVariants as path

module _ (circle : CircleOf) (here : Here) where
  -- one list, and another after it
  pub reads_both : (readings : List Reading) (a b : List Entry) → (readings ++ read_by circle here a) ++ read_by circle here b ≡ readings ++ read_by circle here (a ++ b)
  reads_both readings a b = append_assoc readings (read_by circle here a) (read_by circle here b) ∙ ap (λ more. readings ++ more) (sym (read_append circle here a b))

  -- the lists of what a loop goes over
  pub reads_more : {A : Type 0} (f : A → List Entry) (readings : List Reading) (xs : List A) (i : ℕ) (x : A) → i < length xs → x ≡ get_or xs i x
      → (readings ++ read_by circle here (flat_map f (take i xs))) ++ read_by circle here (f x) ≡ readings ++ read_by circle here (flat_map f (take (i + 1) xs))
  reads_more f readings xs i x within at =
      reads_both readings (flat_map f (take i xs)) (f x)
      ∙ ap (λ list. readings ++ read_by circle here list) (flat_map_more f [] (take i xs) x ∙ ap (λ l. flat_map f l) (ap (λ y. take i xs ++ y ∷ []) at ∙ sym (take_more xs i x within)))

  -- the protected lists of all levels, and then their own
  pub reads_in_force : (levels : List Level) → ([] ++ read_by circle here (lists_in true levels)) ++ read_by circle here (lists_in false levels) ≡ read_by circle here (in_force levels)
  reads_in_force levels = reads_both [] (lists_in true levels) (lists_in false levels)

-- ---- what a scan of them tells
module _ (circle : CircleOf) (here : Here) (set : Leaf → Bool) (entries : List Entry) (granted : Bool) where
  -- a scan of the readings grants the set exactly where the list does
  pub tells_allowed : ((granted ≡ true) ↔ IsAllowedRead (read_by circle here entries) set) → (granted ≡ true) ↔ IsAllowed entries circle here set
  tells_allowed told =
      let one = allowed_one circle here entries set in
      (λ is. one.0 (told.0 is), λ all. told.1 (one.1 all))

-- ---- the entries in force at a card whose book was looked up
module _ (o : Office) (b c : List ℕ) (book : Book) where
  -- by the protected list of the card and of its book, and by their own ones
  abbrev in_force_by : List Entry → List Entry → List Entry → List Entry → List Entry
  in_force_by p q r s =
      (p ++ (q ++ (o.books_home.protected ++ (o.root.protected ++ [])))) ++ (r ++ (s ++ (o.books_home.own ++ (o.root.own ++ []))))

  pub card_in_force : get o.books b ≡ Some book
      → unwrap_or (option_map (λ (r : Resource). r.protected) (card_in book c)) [] ≡ []
      → in_force_at o (path.Card b c)
      ≡ in_force_by [] book.properties.protected (unwrap_or (option_map (λ (r : Resource). r.own) (card_in book c)) []) book.properties.own
  card_in_force at none =
      ap (λ (found : Option Book). in_force_by
      (unwrap_or (option_map (λ (r : Resource). r.protected) (option_and_then (λ (x : Book). card_in x c) found)) [])
      (unwrap_or (option_map (λ (r : Resource). r.protected) (option_map book_resource found)) [])
      (unwrap_or (option_map (λ (r : Resource). r.own) (option_and_then (λ (x : Book). card_in x c) found)) [])
      (unwrap_or (option_map (λ (r : Resource). r.own) (option_map book_resource found)) [])) at
      ∙ ap (λ list. in_force_by list book.properties.protected (unwrap_or (option_map (λ (r : Resource). r.own) (card_in book c)) []) book.properties.own) none
