-- Cards have no part in the plain facts of an Office.
use Rattle.std.proofs.Common.{◌≡◌, ◌++◌, ◌∷◌, [], ◌∙◌, ℕ, List, Option, Some, None, ap, map, option_and_then, option_map, refl, subst, sym, unwrap_or}
use Rattle.std.specs.FinMap.{entries, get}
use Rattle.std.specs.List.{All}
use Rattle.std.proofs.lemmas.List.Elements.{All-append, All-cons, All-head, All-nil, All-tail}
use Rattle.book_office.specs.Levels.{effective_of, level_at}
use Rattle.book_office.specs.Resources.{Resource, book_resource, children_at, listed_books}
use Rattle.book_office.specs.declared.nodes.Level.{Level}
use Rattle.book_office.specs.declared.nodes.Listed.{Listed}
use Rattle.book_office_adopting.proofs.MappedEntries.{entries_mapped}
use Rattle.book_office_adopting.proofs.Merges.{get_mapped}
use Rattle.book_office_adopting.specs.TakingOver.{bare, emptied}
use Rattle.book_office_listings.specs.Verdicts.{owner_at, principal_of}
use Rattle.book_office_values.specs.Paths.{kind_of}
use Rattle.book_office_values.specs.declared.offices.Book.{Book}
use Rattle.book_office_values.specs.declared.offices.Office.{Office}
use Rattle.book_office_values.specs.declared.paths.Kind.TheVariants as kind
use Rattle.book_office_values.specs.declared.paths.Path.{Path}
use Rattle.book_office_values.specs.declared.paths.Path.TheVariants as path
use Rattle.book_policy_gaps.specs.Finding.{AreGaps, book_paths, books_all, group_paths, home_paths, homes_of, judged_all, paths_among, person_paths}
use Rattle.book_policy_gaps.specs.Gaps.{is_closed, is_closed_at, judged_at, judged_of}
use Rattle.book_policy_gaps.specs.Places.{place_at}
use Rattle.book_policy_gaps.specs.declared.askers.Everybody.{Everybody}
use Rattle.book_policy_gaps.specs.declared.gaps.Gap.{Gap}
use Rattle.book_policy_gaps.specs.declared.places.Place.{Place}

-- no card's
abbrev IsPlain : Path → Type 0
IsPlain p = kind_of p ≡ kind.Card → ⊥

apart_home : kind.Home ≡ kind.Card → ⊥
apart_home e = cc

apart_root : kind.Root ≡ kind.Card → ⊥
apart_root e = cc

apart_person : kind.Person ≡ kind.Card → ⊥
apart_person e = cc

apart_group : kind.Group ≡ kind.Card → ⊥
apart_group e = cc

apart_book : kind.Book ≡ kind.Card → ⊥
apart_book e = cc

-- ---- what stands at a book
abbrev level_of : Path → Option Resource → Level
level_of p r = record {
  path = p;
  protected = unwrap_or (option_map (λ (x : Resource). x.protected) r) [];
  own = unwrap_or (option_map (λ (x : Resource). x.own) r) [];
}

same_level : (p : Path) (r : Option Book) → level_of p (option_map book_resource (option_map emptied r)) ≡ level_of p (option_map book_resource r)
same_level p None = refl
same_level p (Some book) = refl

same_owner : (r : Option Book) → option_and_then (λ (x : Resource). x.owner) (option_map book_resource (option_map emptied r)) ≡ option_and_then (λ (x : Resource). x.owner) (option_map book_resource r)
same_owner None = refl
same_owner (Some book) = refl

-- the names of books
abbrev bared : List (List ℕ × Book) → List (List ℕ × Book)
bared es = map (λ e. (e.0, emptied e.1)) es

same_names : (es : List (List ℕ × Book)) → book_paths (listed_books (bared es)) ≡ book_paths (listed_books es)
same_names [] = refl
same_names (e ∷ es) = ap (λ rest. path.Book e.0 ∷ rest) (same_names es)

-- paths of no card
plain_persons : (ls : List Listed) → All IsPlain (person_paths ls)
plain_persons [] = All-nil IsPlain
plain_persons (l ∷ ls) = All-cons IsPlain (path.Person l.name) (person_paths ls) apart_person (plain_persons ls)

plain_groups : (ls : List Listed) → All IsPlain (group_paths ls)
plain_groups [] = All-nil IsPlain
plain_groups (l ∷ ls) = All-cons IsPlain (path.Group l.name) (group_paths ls) apart_group (plain_groups ls)

plain_books : (ls : List Listed) → All IsPlain (book_paths ls)
plain_books [] = All-nil IsPlain
plain_books (l ∷ ls) = All-cons IsPlain (path.Book l.name) (book_paths ls) apart_book (plain_books ls)

plain_homes : All IsPlain home_paths
plain_homes =
    All-cons IsPlain path.Root (path.People ∷ path.Groups ∷ path.Books ∷ []) apart_root
    (All-cons IsPlain path.People (path.Groups ∷ path.Books ∷ []) apart_home
    (All-cons IsPlain path.Groups (path.Books ∷ []) apart_home (All-cons IsPlain path.Books [] apart_home (All-nil IsPlain))))

plain_paths : (persons groups books : List Listed) → All IsPlain (paths_among persons groups books)
plain_paths persons groups books =
    All-append IsPlain home_paths (person_paths persons ++ (group_paths groups ++ book_paths books)) plain_homes
    (All-append IsPlain (person_paths persons) (group_paths groups ++ book_paths books) (plain_persons persons)
    (All-append IsPlain (group_paths groups) (book_paths books) (plain_groups groups) (plain_books books)))

-- what is the same at each path of no card
same_at : {A : Type 0} (f g : Path → A) → ((p : Path) → IsPlain p → f p ≡ g p) → (ps : List Path) → All IsPlain ps → map f ps ≡ map g ps
same_at f g same [] plain = refl
same_at f g same (p ∷ ps) plain =
    let first = same p (All-head IsPlain p ps plain) in
    let rest = same_at f g same ps (All-tail IsPlain p ps plain) in
    λ i. first i ∷ rest i

module _ (o : Office) where
  owner_bare : (b : List ℕ) → owner_at (bare o) (path.Book b) ≡ owner_at o (path.Book b)
  owner_bare b =
      ap (λ (r : Option Book). option_and_then (λ (x : Resource). x.owner) (option_map book_resource r)) (get_mapped (λ _ book. emptied book) o.books b)
      ∙ same_owner (get o.books b)

  level_bare : (b : List ℕ) → level_at (bare o) (path.Book b) ≡ level_at o (path.Book b)
  level_bare b =
      ap (λ (r : Option Book). level_of (path.Book b) (option_map book_resource r)) (get_mapped (λ _ book. emptied book) o.books b)
      ∙ same_level (path.Book b) (get o.books b)

  place_bare : (p : Path) → IsPlain p → place_at (bare o) p ≡ place_at o p
  place_bare path.Root plain = refl
  place_bare path.People plain = refl
  place_bare path.Groups plain = refl
  place_bare path.Books plain = refl
  place_bare (path.Person n) plain = refl
  place_bare (path.Group n) plain = refl
  place_bare (path.Book b) plain =
      let owner = owner_bare b in
      let list = ap (λ (l : Level). effective_of (l ∷ level_at o path.Books ∷ level_at o path.Root ∷ [])) (level_bare b) in
      λ i. record { path = path.Book b; here = record { owner = owner i; principal = principal_of (path.Book b) }; list = list i }
  place_bare (path.Card b c) plain = absurd (plain refl)

  judged_bare : (everybody : Everybody) (p : Path) → IsPlain p → judged_at (bare o) everybody p ≡ judged_at o everybody p
  judged_bare everybody path.Root plain = refl
  judged_bare everybody path.People plain = refl
  judged_bare everybody path.Groups plain = refl
  judged_bare everybody path.Books plain = refl
  judged_bare everybody (path.Person n) plain = refl
  judged_bare everybody (path.Group n) plain = refl
  judged_bare everybody (path.Book b) plain =
      ap (λ (place : Place). judged_of (path.Book b) (is_closed everybody place) (is_closed_at o everybody path.Books)) (place_bare (path.Book b) plain)
  judged_bare everybody (path.Card b c) plain = absurd (plain refl)

  names_bare : book_paths (children_at (bare o) path.Books) ≡ book_paths (children_at o path.Books)
  names_bare = ap (λ es. book_paths (listed_books es)) (entries_mapped (λ _ book. emptied book) o.books) ∙ same_names (entries o.books)

  abbrev persons : List Listed
  persons = children_at o path.People

  abbrev groups : List Listed
  groups = children_at o path.Groups

  abbrev books : List Listed
  books = children_at o path.Books

  judged_all_bare : (everybody : Everybody) → judged_all (bare o) everybody (homes_of (bare o)) ≡ judged_all o everybody (homes_of o)
  judged_all_bare everybody =
      ap (λ (paths : List Path). map (judged_at (bare o) everybody) (home_paths ++ (person_paths persons ++ (group_paths groups ++ paths)))) names_bare
      ∙ same_at (judged_at (bare o) everybody) (judged_at o everybody) (judged_bare everybody) (paths_among persons groups books) (plain_paths persons groups books)

  books_all_bare : books_all (bare o) (homes_of (bare o)) ≡ books_all o (homes_of o)
  books_all_bare = ap (map (place_at (bare o))) names_bare ∙ same_at (place_at (bare o)) (place_at o) place_bare (book_paths books) (plain_books books)

  -- the facts without cards are the facts
  pub with_cards : (gaps : List Gap) → AreGaps (bare o) gaps → AreGaps o gaps
  with_cards gaps (found, is, told) = (
    found,
    record {
      everybody = is.everybody;
      judged = is.judged ∙ judged_all_bare found.everybody;
      home = is.home;
      books = is.books ∙ books_all_bare;
    },
    told,
  )

  pub without_cards : (gaps : List Gap) → AreGaps o gaps → AreGaps (bare o) gaps
  without_cards gaps (found, is, told) = (
    found,
    record {
      everybody = is.everybody;
      judged = is.judged ∙ sym (judged_all_bare found.everybody);
      home = is.home;
      books = is.books ∙ sym books_all_bare;
    },
    told,
  )

-- Offices that differ in cards alone have the same facts
pub same_facts : (o p : Office) (gaps : List Gap) → bare o ≡ bare p → AreGaps o gaps → AreGaps p gaps
same_facts o p gaps same are = with_cards p gaps (subst (λ (k : Office). AreGaps k gaps) same (without_cards o gaps are))
