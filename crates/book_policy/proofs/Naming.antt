-- What the paths of parts know: the persons, the groups and the books of the parts, and what texts name them.
use Rattle.std.proofs.Common.{◌≡◌, ◌≢◌, ◌↔◌, ℕ, List, true, is_some, map, None, Some, refl, sym, ap, ◌∙◌}
use Rattle.std.specs.List.{AllByRecursion}
use Rattle.std.specs.FinMap.{empty, get, insert}
use Rattle.std.proofs.lemmas.Bool.{false≢true}
use Rattle.book_lists.specs.Names.{IsName}
use Rattle.book_office_values.specs.Names.{NamesTo}
use Rattle.book_office_values.specs.declared.paths.Path.{Path}
use Rattle.book_office_values.specs.declared.paths.Path.TheVariants as path
use Rattle.book_office_values.proofs.OneName.{by_option, is_there, put_elsewhere, some_apart, where_some}
use Rattle.book_office_values.proofs.Spelling.{one_path}
use Rattle.book_policy.specs.declared.parts.Parts.{Parts}
use Rattle.book_policy_faults.specs.declared.places.TableKind.TheVariants.{Person, Group, Book}
use Rattle.book_policy_values.specs.Policies.{IsPlaceOf, IsPrincipalOf, NamesPlace, NamesPrincipal, added, named_book, named_group, named_person, spelled}
use Rattle.book_policy_values.proofs.Paths.{place_spelled}
use Rattle.book_policy_values.specs.declared.parts.BookPart.{BookPart}
use Rattle.book_policy_values.specs.declared.parts.GroupPart.{GroupPart}
use Rattle.book_policy_values.specs.declared.parts.PersonPart.{PersonPart}
use Rattle.book_policy_values.specs.declared.parts.PolicyBook.{PolicyBook}
use Rattle.book_policy_faults.specs.Known.{Paths, homes, is_principal_kind, is_some_principal}
use Rattle.book_policy_faults.specs.declared.known.Known.{Known}
use Rattle.book_policy.proofs.Paths.{IsOf, KindFacts, Knows, Sound, kind_at, knows_all, knows_places, no_books, no_labels, sound_all, sound_homes}
use Rattle.book_policy.proofs.Tabled.{parts_paths, with_groups, with_persons}

module _ {V : Type 0} (l : NamesTo V) (x : List ℕ) (v : V) (name : List ℕ) (apart : name ≢ x) where
  still : get l name ≢ None → get (insert l x v) name ≢ None
  still there gone = there (sym (put_elsewhere l x v name apart) ∙ gone)

  was : get (insert l x v) name ≢ None → get l name ≢ None
  was there gone = there (put_elsewhere l x v name apart ∙ gone)

abbrev Same : Type 0 → Type 0 → Type 0
Same A B = (A → B) × (B → A)

same : {A : Type 0} → Same A A
same = (λ a. a, λ a. a)

-- ---- persons
abbrev pub PersonAt : NamesTo (List ℕ) → Path → Type 0
PersonAt l p = IsPlaceOf l no_labels no_books p

person_step : (l : NamesTo (List ℕ)) (x v : List ℕ) (p : Path) → p ≢ path.Person x → Same (PersonAt l p) (PersonAt (insert l x v) p)
person_step l x v path.Root apart = same
person_step l x v path.People apart = same
person_step l x v path.Groups apart = same
person_step l x v path.Books apart = same
person_step l x v (path.Person name) apart = (still l x v name (λ e. apart (ap path.Person e)), was l x v name (λ e. apart (ap path.Person e)))
person_step l x v (path.Group name) apart = same
person_step l x v (path.Book name) apart = same
person_step l x v (path.Card book name) apart = same

pub of_persons : KindFacts Person path.Person PersonAt
of_persons = record {
  is = λ x h. h;
  short = λ x. refl;
  text = λ x. refl;
  same = λ x. refl;
  one = λ x y e. cc;
  here = λ l x h. h;
  back = λ l x h. h;
  step = person_step;
}

-- ---- groups
module _ (persons : NamesTo (List ℕ)) where
  abbrev pub GroupAt : NamesTo (List ℕ) → Path → Type 0
  GroupAt l p = IsPlaceOf persons l no_books p

  group_step : (l : NamesTo (List ℕ)) (x v : List ℕ) (p : Path) → p ≢ path.Group x → Same (GroupAt l p) (GroupAt (insert l x v) p)
  group_step l x v path.Root apart = same
  group_step l x v path.People apart = same
  group_step l x v path.Groups apart = same
  group_step l x v path.Books apart = same
  group_step l x v (path.Person name) apart = same
  group_step l x v (path.Group name) apart = (still l x v name (λ e. apart (ap path.Group e)), was l x v name (λ e. apart (ap path.Group e)))
  group_step l x v (path.Book name) apart = same
  group_step l x v (path.Card book name) apart = same

  pub of_groups : KindFacts Group path.Group GroupAt
  of_groups = record {
    is = λ x h. h;
    short = λ x. refl;
    text = λ x. refl;
    same = λ x. refl;
    one = λ x y e. cc;
    here = λ l x h. h;
    back = λ l x h. h;
    step = group_step;
  }

  -- ---- books
  module _ (groups : NamesTo (List ℕ)) where
    abbrev pub BookAt : NamesTo PolicyBook → Path → Type 0
    BookAt l p = IsPlaceOf persons groups l p

    book_step : (l : NamesTo PolicyBook) (x : List ℕ) (v : PolicyBook) (p : Path) → p ≢ path.Book x → Same (BookAt l p) (BookAt (insert l x v) p)
    book_step l x v path.Root apart = same
    book_step l x v path.People apart = same
    book_step l x v path.Groups apart = same
    book_step l x v path.Books apart = same
    book_step l x v (path.Person name) apart = same
    book_step l x v (path.Group name) apart = same
    book_step l x v (path.Book name) apart = (still l x v name (λ e. apart (ap path.Book e)), was l x v name (λ e. apart (ap path.Book e)))
    book_step l x v (path.Card book name) apart = same

    pub of_books : KindFacts Book path.Book BookAt
    of_books = record {
      is = λ x h. h;
      short = λ x. refl;
      text = λ x. refl;
      same = λ x. refl;
      one = λ x y e. cc;
      here = λ l x h. h;
      back = λ l x h. h;
      step = book_step;
    }

-- ---- the paths of parts whose names are names
pub record NamedParts (parts : Parts) : Type 0 where
  pub persons : AllByRecursion (λ (p : PersonPart). IsName p.name) parts.persons
  pub groups : AllByRecursion (λ (g : GroupPart). IsName g.name) parts.groups
  pub books : AllByRecursion (λ (b : BookPart). IsName b.name) parts.books

module _ (parts : Parts) (named : NamedParts parts) where
  abbrev pub persons_of : NamesTo (List ℕ)
  persons_of = added empty (map named_person parts.persons)

  abbrev pub groups_of : NamesTo (List ℕ)
  groups_of = added empty (map named_group parts.groups)

  abbrev pub books_of : NamesTo PolicyBook
  books_of = added empty (map named_book parts.books)

  pub persons_known : Knows (with_persons parts) (PersonAt persons_of)
  persons_known = knows_all named_person Person path.Person PersonAt of_persons homes 1 no_labels parts.persons named.persons knows_places

  pub groups_known : Knows (with_groups parts) (GroupAt persons_of groups_of)
  groups_known = knows_all named_group Group path.Group (GroupAt persons_of) (of_groups persons_of) (with_persons parts) 1 no_labels parts.groups named.groups persons_known

  pub all_known : Knows (parts_paths parts) (BookAt persons_of groups_of books_of)
  all_known =
      knows_all named_book Book path.Book (BookAt persons_of groups_of) (of_books persons_of groups_of) (with_groups parts) 1 no_books parts.books named.books groups_known

  pub all_sound : Sound (parts_paths parts)
  all_sound =
      sound_all named_book Book path.Book (BookAt persons_of groups_of) (of_books persons_of groups_of) (with_groups parts) 1 parts.books named.books
      (sound_all named_group Group path.Group (GroupAt persons_of) (of_groups persons_of) (with_persons parts) 1 parts.groups named.groups
      (sound_all named_person Person path.Person PersonAt of_persons homes 1 parts.persons named.persons sound_homes))

-- ---- what texts name
module _ (persons groups : NamesTo (List ℕ)) (books : NamesTo PolicyBook) (m : Paths) (sound : Sound m) (knows : Knows m (IsPlaceOf persons groups books)) where
  place_to : (p : Path) → is_principal_kind (kind_at p) ≡ true → IsPlaceOf persons groups books p → IsPrincipalOf persons groups p
  place_to path.Root kind h = absurd (false≢true kind)
  place_to path.People kind h = absurd (false≢true kind)
  place_to path.Groups kind h = absurd (false≢true kind)
  place_to path.Books kind h = absurd (false≢true kind)
  place_to (path.Person name) kind h = h
  place_to (path.Group name) kind h = h
  place_to (path.Book name) kind h = absurd (false≢true kind)
  place_to (path.Card book name) kind h = absurd (false≢true kind)

  to_place : (p : Path) → IsPrincipalOf persons groups p → IsPlaceOf persons groups books p × (is_principal_kind (kind_at p) ≡ true)
  to_place path.Root h = absurd h
  to_place path.People h = absurd h
  to_place path.Groups h = absurd h
  to_place path.Books h = absurd h
  to_place (path.Person name) h = (h, refl)
  to_place (path.Group name) h = (h, refl)
  to_place (path.Book name) h = absurd h
  to_place (path.Card book name) h = absurd h

  -- a text that is there spells the path of a place
  is_place : (t : List ℕ) (k : Known) → get m t ≡ Some k → (p : Path) × (IsOf t k p × IsPlaceOf persons groups books p)
  is_place t k e = let (p, of_p) = sound t k e in (p, (of_p, (knows p t of_p.0 of_p.1).0 (λ gone. some_apart (sym e ∙ gone))))

  pub place_is : (t : List ℕ) → (is_some (get m t) ≡ true) ↔ NamesPlace persons groups books t
  place_is t = (
    λ h. by_option (get m t) (λ none. absurd (false≢true (ap is_some (sym none) ∙ h))) (λ k e.
        let (p, (of_p, here)) = is_place t k e in (p, of_p.0, of_p.1, here)),
    λ it. is_there (get m t) ((knows it.0 t it.1 it.2).1 it.3),
  )

  pub principal_is : (t : List ℕ) → (is_some_principal (get m t) ≡ true) ↔ NamesPrincipal persons groups t
  principal_is t = (
    λ h. by_option (get m t) (λ none. absurd (false≢true (ap is_some_principal (sym none) ∙ h))) (λ k e.
        let (p, (of_p, here)) = is_place t k e in
        (p, of_p.0, of_p.1, place_to p (ap is_principal_kind (sym of_p.2) ∙ ap is_some_principal (sym e) ∙ h) here)),
    λ it.
        let (here, kind) = to_place it.0 it.3 in
        where_some (get m t) ((knows it.0 t it.1 it.2).1 here) (λ k e.
        let (p, of_p) = sound t k e in
        ap is_some_principal e ∙ ap is_principal_kind (of_p.2 ∙ ap kind_at (one_path t p it.0 of_p.0 it.1 of_p.1 it.2)) ∙ kind),
  )

  pub path_is : (t : List ℕ) (k : Known) → get m t ≡ Some k → k.path ≡ spelled t
  path_is t k e = let (p, (of_p, here)) = is_place t k e in of_p.3 ∙ place_spelled persons groups t p of_p.0 of_p.1 books here
