-- What entries ask of two owners of a card, and of the places of the small model.
use Rattle.std.proofs.Common.{◌≡◌, ℕ, ◌++◌, ◌∷◌, [], List, Bool, true, false, ◌&&◌, not, cond, map, Option, Some, None, refl, sym, ap, ap₂, ◌∙◌}
use Rattle.std.specs.Prelude.{All, if◌then◌else◌}
use Rattle.std.specs.FinMap.{keys}
use Rattle.std.proofs.lemmas.List.Elements.{All-append, All-cons, All-map, All-nil}
use Rattle.std.proofs.lemmas.Bool.{false≢true}
use Rattle.book_rights.specs.declared.privileges.Leaf.{Leaf}
use Rattle.book_lists.specs.Circles.{CircleOf, belongs}
use Rattle.book_lists.specs.Entries.{applies, belongs_to_any, form_applies}
use Rattle.book_lists.specs.declared.circles.Caller.{Caller}
use Rattle.book_lists.specs.declared.circles.Caller.TheVariants.{Nobody, Known}
use Rattle.book_lists.specs.declared.entries.Entry.{Entry}
use Rattle.book_lists.specs.declared.entries.Here.{Here}
use Rattle.book_lists.specs.declared.entries.Who.{Who}
use Rattle.book_lists.specs.declared.entries.Who.TheVariants.{Href, Everyone, Authenticated, Unauthenticated, Owner, Own}
use Rattle.book_office_values.specs.Paths.{is_kind, kind_of}
use Rattle.book_office_values.specs.declared.paths.Kind.TheVariants as kind
use Rattle.book_office_values.specs.declared.paths.Path.{Path}
use Rattle.book_office_values.specs.declared.paths.Path.TheVariants as path
use Rattle.book_policy_values.specs.declared.parts.PolicyTables.{PolicyTables}
use Rattle.book_policy_idle.specs.Idle.{IsHereAt, decider, homes, places_of}
use Rattle.book_policy_idle.specs.Marks.{Spares, here_unowned, own_card}
use Rattle.book_policy_idle.specs.declared.in_force.Placed.{Placed}

-- entries tell two owners apart only where the caller belongs to one of them and not to the other
module _ (circle : CircleOf) (h k : Here) (owner : belongs_to_any circle h.owner ≡ belongs_to_any circle k.owner) (principal : h.principal ≡ k.principal) where
  form_same : (w : Who) → form_applies w circle h ≡ form_applies w circle k
  form_same (Href p) = refl
  form_same Everyone = refl
  form_same Authenticated = refl
  form_same Unauthenticated = refl
  form_same Owner = owner
  form_same Own = ap (belongs_to_any circle) principal

  pub applies_same : (e : Entry) → applies e circle h ≡ applies e circle k
  applies_same e = ap (λ x. if e.invert then not x else x) (form_same e.who)

  decider_same : (leaf : Leaf) (list : List Placed) → decider circle h leaf list ≡ decider circle k leaf list
  decider_same leaf [] = refl
  decider_same leaf (x ∷ xs) =
      ap₂ (λ (b : Bool) (r : Option ℕ). cond (b && x.entry.set leaf) (Some x.index) r) (applies_same x.entry) (decider_same leaf xs)

  pub spares_same : (i : ℕ) (list : List Placed) → Spares circle k list i → Spares circle h list i
  spares_same i list s leaf is = s leaf (sym (decider_same leaf list) ∙ is)

-- ---- what entries ask of a place, and of a card that the caller owns, is of the model

pub own_plain : (caller : Caller) → (own_card caller).principal ≡ None
own_plain Nobody = refl
own_plain (Known person) = refl

pub own_here : (p : Path) (caller : Caller) → is_kind kind.Book (kind_of p) ≡ true → IsHereAt p (own_card caller)
own_here path.Root caller book = absurd (false≢true book)
own_here path.People caller book = absurd (false≢true book)
own_here path.Groups caller book = absurd (false≢true book)
own_here path.Books caller book = absurd (false≢true book)
own_here (path.Person n) caller book = absurd (false≢true book)
own_here (path.Group n) caller book = absurd (false≢true book)
own_here (path.Book b) caller book = own_plain caller
own_here (path.Card b c) caller book = absurd (false≢true book)

pub here_places : (t : PolicyTables) → All (λ p. IsHereAt p (here_unowned p)) (places_of t)
here_places t =
    All-append P homes (persons ++ (groups ++ books)) (All-cons P path.Root (path.People ∷ path.Groups ∷ path.Books ∷ []) refl (All-cons P path.People (path.Groups ∷ path.Books ∷ []) refl (All-cons P path.Groups (path.Books ∷ []) refl (All-cons P path.Books [] refl (All-nil P)))))
    (All-append P persons (groups ++ books) (All-map P (λ name. path.Person name) (keys t.persons) (λ k d below. refl))
    (All-append P groups books (All-map P (λ name. path.Group name) (keys t.groups) (λ k d below. refl))
    (All-map P (λ name. path.Book name) (keys t.books) (λ k d below. refl))))
  where
    P : Path → Type 0
    P p = IsHereAt p (here_unowned p)

    persons : List Path
    persons = map (λ name. path.Person name) (keys t.persons)

    groups : List Path
    groups = map (λ name. path.Group name) (keys t.groups)

    books : List Path
    books = map (λ name. path.Book name) (keys t.books)
