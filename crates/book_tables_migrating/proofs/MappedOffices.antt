-- An Office whose entries were changed, but for their principals: what it has at a path, and that it is sound.
use Rattle.std.proofs.Common.{◌≡◌, ◌≢◌, inl, inr, ℕ, ◌≤◌, List, [], ◌∷◌, map, Option, Some, None, option_map, option_and_then, refl, sym, ap, ◌∙◌, subst}
use lib.ListN.{length-map}
use Rattle.std.specs.FinMap.{get}
use Rattle.std.specs.List.{AllByRecursion}
use Rattle.std.proofs.lemmas.List.Elements.{All-from_recursion, recursion_from_All}
use Rattle.std.proofs.lemmas.Option.{same_Some}
use Rattle.book_limits.specs.declared.TheConstants.{MAX_ENTRIES, MAX_CARDS, MAX_BOOKS}
use Rattle.book_lists.specs.declared.entries.Entry.{Entry}
use Rattle.book_lists.specs.declared.entries.Who.{Who}
use Rattle.book_lists.specs.declared.entries.Who.TheVariants.{Href, Everyone, Authenticated, Unauthenticated, Owner, Own}
use Rattle.book_office_values.specs.Names.{NamesTo}
use Rattle.book_office_values.specs.declared.offices.Book.{Book}
use Rattle.book_office_values.specs.declared.offices.Office.{Office}
use Rattle.book_office_values.specs.declared.offices.Properties.{Properties}
use Rattle.book_office_values.specs.declared.offices.StoredCard.{StoredCard}
use Rattle.book_office_values.specs.declared.paths.Kind.{Kind}
use Rattle.book_office_values.specs.declared.paths.Kind.TheVariants as kind
use Rattle.book_office_values.specs.declared.paths.Path.{Path}
use Rattle.book_office_values.specs.declared.paths.Path.TheVariants as path
use Rattle.book_office_values.proofs.OneName.{by_option, some_apart}
use Rattle.book_office_adopting.specs.Adopting.{mapped}
use Rattle.book_office_adopting.proofs.MappedEntries.{len_mapped}
use Rattle.book_office_adopting.proofs.Merges.{get_mapped}
use Rattle.book_office.specs.Resources.{Resource, resource_at, properties_resource, book_resource, card_resource, card_in, number_of, unless_mapped, removed_at}
use Rattle.book_office.specs.Sound.{IsMapped, IsOwner, IsKnownForm, IsSoundList, AreSoundProperties, IsSoundCard, IsSoundBook, IsSound}
use Rattle.book_tables_migrating.specs.Widen.{properties_with, card_with, book_with, office_with}

module _ (change : Entry → Entry) where
  abbrev pub resource_with : Resource → Resource
  resource_with r = record r { protected = map change r.protected; own = map change r.own }

  -- ---- what there is at a path

  of_properties : (k : Kind) (found : Option Properties) → option_map (properties_resource k 0) (option_map (properties_with change) found) ≡ option_map resource_with (option_map (properties_resource k 0) found)
  of_properties k None = refl
  of_properties k (Some its) = refl

  of_book : (found : Option Book) → option_map book_resource (option_map (book_with change) found) ≡ option_map resource_with (option_map book_resource found)
  of_book None = refl
  of_book (Some book) = refl

  of_card : (n : ℕ) (found : Option StoredCard) → option_map (card_resource n) (option_map (card_with change) found) ≡ option_map resource_with (option_map (card_resource n) found)
  of_card n None = refl
  of_card n (Some card) = refl

  in_book : (c : List ℕ) (found : Option Book) → option_and_then (λ (book : Book). card_in book c) (option_map (book_with change) found) ≡ option_map resource_with (option_and_then (λ (book : Book). card_in book c) found)
  in_book c None = refl
  in_book c (Some book) = ap (option_map (card_resource (number_of book c))) (get_mapped (λ _ card. card_with change card) book.cards c) ∙ of_card (number_of book c) (get book.cards c)

  pub resource_mapped : (o : Office) (p : Path) → resource_at (office_with change o) p ≡ option_map resource_with (resource_at o p)
  resource_mapped o path.Root = refl
  resource_mapped o path.People = refl
  resource_mapped o path.Groups = refl
  resource_mapped o path.Books = refl
  resource_mapped o (path.Person n) = ap (option_map (properties_resource kind.Person 0)) (get_mapped (λ _ its. properties_with change its) o.persons n) ∙ of_properties kind.Person (get o.persons n)
  resource_mapped o (path.Group n) = ap (option_map (properties_resource kind.Group 0)) (get_mapped (λ _ its. properties_with change its) o.groups n) ∙ of_properties kind.Group (get o.groups n)
  resource_mapped o (path.Book b) = ap (option_map book_resource) (get_mapped (λ _ book. book_with change book) o.books b) ∙ of_book (get o.books b)
  resource_mapped o (path.Card b c) = ap (option_and_then (λ (book : Book). card_in book c)) (get_mapped (λ _ book. book_with change book) o.books b) ∙ in_book c (get o.books b)

  -- ---- removed names

  unless_card : (found : Option StoredCard) (n : Option ℕ) → unless_mapped (option_map (card_with change) found) n ≡ unless_mapped found n
  unless_card None n = refl
  unless_card (Some card) n = refl

  abbrev removed_from : List ℕ → Book → Option ℕ
  removed_from name book = unless_mapped (get book.cards name) (get book.changes.last name)

  removed_in : (name : List ℕ) (found : Option Book) → option_and_then (removed_from name) (option_map (book_with change) found) ≡ option_and_then (removed_from name) found
  removed_in name None = refl
  removed_in name (Some book) = ap (λ card. unless_mapped card (get book.changes.last name)) (get_mapped (λ _ card. card_with change card) book.cards name) ∙ unless_card (get book.cards name) (get book.changes.last name)

  pub removed_mapped : (o : Office) (b name : List ℕ) → removed_at (office_with change o) b name ≡ removed_at o b name
  removed_mapped o b name = ap (option_and_then (removed_from name)) (get_mapped (λ _ book. book_with change book) o.books b) ∙ removed_in name (get o.books b)

  -- ---- soundness

  still_there : {V : Type 0} (f : List ℕ → V → V) (m : NamesTo V) (name : List ℕ) → get m name ≢ None → get (mapped f m) name ≢ None
  still_there f m name there none = by_option (get m name) there (λ v is. some_apart (sym (ap (option_map (f name)) is) ∙ sym (get_mapped f m name) ∙ none))

  -- a value that is found was changed
  was_there : {V : Type 0} (f : List ℕ → V → V) (m : NamesTo V) (name : List ℕ) (w : V) → get (mapped f m) name ≡ Some w → (v : V) × (get m name ≡ Some v) × (w ≡ f name v)
  was_there f m name w found = by_option (get m name)
      (λ none. some_apart (sym found ∙ get_mapped f m name ∙ ap (option_map (f name)) none))
      (λ v is. (v, is, same_Some w (f name v) (sym found ∙ get_mapped f m name ∙ ap (option_map (f name)) is)))

  module _ (keeps : (e : Entry) → (change e).who ≡ e.who) (o : Office) where
    abbrev wide : Office
    wide = office_with change o

    mapped_still : (principal : List ℕ) → IsMapped o principal → IsMapped wide principal
    mapped_still principal (inl person) = inl (person.0, person.1, still_there (λ _ its. properties_with change its) o.persons person.0 person.2)
    mapped_still principal (inr group) = inr (group.0, group.1, still_there (λ _ its. properties_with change its) o.groups group.0 group.2)

    owner_still : (owner : Option (List ℕ)) → IsOwner o owner → IsOwner wide owner
    owner_still None h = tt
    owner_still (Some owner) h = mapped_still owner h

    form_still : (who : Who) → IsKnownForm o who → IsKnownForm wide who
    form_still (Href principal) h = mapped_still principal h
    form_still Everyone h = tt
    form_still Authenticated h = tt
    form_still Unauthenticated h = tt
    form_still Owner h = tt
    form_still Own h = tt

    known_still : (list : List Entry) → AllByRecursion (λ (e : Entry). IsKnownForm o e.who) list → AllByRecursion (λ (e : Entry). IsKnownForm wide e.who) (map change list)
    known_still [] all = tt
    known_still (e ∷ list) all = (subst (IsKnownForm wide) (sym (keeps e)) (form_still e.who all.0), known_still list all.1)

    list_still : (list : List Entry) → IsSoundList o list → IsSoundList wide (map change list)
    list_still list sound = record {
      few = subst (λ n. n ≤ MAX_ENTRIES) (sym (length-map list change)) sound.few;
      known = All-from_recursion (λ (e : Entry). IsKnownForm wide e.who) (map change list) (known_still list (recursion_from_All (λ (e : Entry). IsKnownForm o e.who) list sound.known));
    }

    properties_still : (its : Properties) → AreSoundProperties o its → AreSoundProperties wide (properties_with change its)
    properties_still its sound = record { owner = owner_still its.owner sound.owner; label = sound.label; protected = list_still its.protected sound.protected; own = list_still its.own sound.own }

    card_still : (card : StoredCard) → IsSoundCard o card → IsSoundCard wide (card_with change card)
    card_still card sound = record { owner = owner_still card.owner sound.owner; label = sound.label; own = list_still card.own sound.own; text = sound.text }

    book_still : (book : Book) → IsSoundBook o book → IsSoundBook wide (book_with change book)
    book_still book sound =
        let was = was_there (λ _ card. card_with change card) book.cards in
        record {
          properties = properties_still book.properties sound.properties;
          cards = λ name card at. let v = was name card at in subst (IsSoundCard wide) (sym v.2) (card_still v.0 (sound.cards name v.0 v.1));
          few = subst (λ n. n ≤ MAX_CARDS) (sym (len_mapped (λ _ card. card_with change card) book.cards)) sound.few;
          changed = λ name card at. let v = was name card at in sound.changed name v.0 v.1;
          names = sound.names;
          within = sound.within;
          different = sound.different;
          last = sound.last;
        }

    pub sound_still : IsSound o → IsSound wide
    sound_still sound = record {
      root = properties_still o.root sound.root;
      people = properties_still o.people sound.people;
      groups_home = properties_still o.groups_home sound.groups_home;
      books_home = properties_still o.books_home sound.books_home;
      persons = λ name its at.
          let v = was_there (λ _ its. properties_with change its) o.persons name its at in
          let was = sound.persons name v.0 v.1 in
          (was.0, subst (AreSoundProperties wide) (sym v.2) (properties_still v.0 was.1));
      groups = λ name its at.
          let v = was_there (λ _ its. properties_with change its) o.groups name its at in
          let was = sound.groups name v.0 v.1 in
          (was.0, subst (AreSoundProperties wide) (sym v.2) (properties_still v.0 was.1));
      books = λ name book at.
          let v = was_there (λ _ book. book_with change book) o.books name book at in
          let was = sound.books name v.0 v.1 in
          (was.0, subst (IsSoundBook wide) (sym v.2) (book_still v.0 was.1));
      few = subst (λ n. n ≤ MAX_BOOKS) (sym (len_mapped (λ _ book. book_with change book) o.books)) sound.few;
      pairs = λ pair there.
          let was = sound.pairs pair there in
          let group = was.group in
          record { group = (group.0, group.1, still_there (λ _ its. properties_with change its) o.groups group.0 group.2); member = mapped_still pair.member was.member };
      members = sound.members;
      epoch = sound.epoch;
    }
