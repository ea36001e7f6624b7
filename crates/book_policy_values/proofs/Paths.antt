-- A text that spells the path of a place or a principal is that path's text, with or without a slash at its end.
use Rattle.book_policy_values.proofs.Common.{◌≡◌, ℕ, List, [], ◌∷◌, ◌++◌, true, false, cond, refl, sym, ap, ◌∙◌, subst, arith, Option, Some, None, IsName, NamesTo, spelled, IsPlaceOf, NamesPrincipal}
use Rattle.std.proofs.Common.{nat_eq, codes, inl, inr, Result, Ok, Err, IfOk, IfSome, IfNone, IsTrue, is_some, ◌↔◌}
use Rattle.std.proofs.lemmas.Bool.{eqb-true, false≢true}
use Rattle.book_lists.proofs.PathEnds.{ends_plain}
use Rattle.book_lists.specs.Principals.{EndsPlain, IsPrincipal}
use Rattle.book_office_values.specs.declared.paths.Path.{Path}
use Rattle.book_office_values.specs.declared.paths.Path.TheVariants as path
use Rattle.book_policy_values.specs.declared.parts.PolicyBook.{PolicyBook}
use Rattle.book_office_values.specs.Paths.{IsPath, SpellsPath, path_text}
use Rattle.book_policy_values.specs.Policies.{trimmed, IsPrincipalOf, IsKnown, NamesPlace}
use Rattle.book_office_values.proofs.Slashes.{name_ends_plain}
use Rattle.book_office_values.proofs.Spelling.{one_path}

trimmed_slash : (xs : List ℕ) → trimmed (xs ++ 47 ∷ []) ≡ xs
trimmed_slash [] = refl
trimmed_slash (x ∷ []) = refl
trimmed_slash (x ∷ y ∷ ys) = ap (λ zs. x ∷ zs) (trimmed_slash (y ∷ ys))

trimmed_plain : (xs : List ℕ) → EndsPlain xs → trimmed xs ≡ xs
trimmed_plain [] h = refl
trimmed_plain (x ∷ []) h = elim (nat_eq x 47) as (λ b. nat_eq x 47 ≡ b → cond b [] (x ∷ []) ≡ x ∷ []) [
  | true ↦ λ e. absurd (h [] (ap (λ y. y ∷ []) (eqb-true x 47 e)))
  | false ↦ λ _. refl
] refl
trimmed_plain (x ∷ y ∷ ys) h = ap (λ zs. x ∷ zs) (trimmed_plain (y ∷ ys) (λ front e. h (x ∷ front) (ap (λ zs. x ∷ zs) e)))

trimmed_name : (x : ℕ) (name : List ℕ) → IsName name → trimmed (x ∷ name) ≡ x ∷ name
trimmed_name x [] is = absurd (let some = is.some in omega arith)
trimmed_name x (y ∷ ys) is = ap (λ zs. x ∷ zs) (trimmed_plain (y ∷ ys) (name_ends_plain (y ∷ ys) is))

abbrev pub IsNoCard : Path → Type 0
IsNoCard path.Root = Unit {0}
IsNoCard path.People = Unit {0}
IsNoCard path.Groups = Unit {0}
IsNoCard path.Books = Unit {0}
IsNoCard (path.Person name) = Unit {0}
IsNoCard (path.Group name) = Unit {0}
IsNoCard (path.Book name) = Unit {0}
IsNoCard (path.Card book name) = ⊥

pub spelled_path : (text : List ℕ) (p : Path) → IsPath p → IsNoCard p → SpellsPath text p → path_text p ≡ spelled text
spelled_path text path.Root is bare (inl e) = sym (ap spelled e)
spelled_path text path.Root is bare (inr e) = absurd (false≢true e.0)
spelled_path text path.People is bare (inl e) = sym (ap spelled e)
spelled_path text path.People is bare (inr e) = sym (ap spelled e.1)
spelled_path text path.Groups is bare (inl e) = sym (ap spelled e)
spelled_path text path.Groups is bare (inr e) = sym (ap spelled e.1)
spelled_path text path.Books is bare (inl e) = sym (ap spelled e)
spelled_path text path.Books is bare (inr e) = sym (ap spelled e.1)
spelled_path text (path.Person name) is bare (inl e) = sym (ap spelled e ∙ ap (λ zs. codes "/people" ++ zs) (trimmed_name 47 name is))
spelled_path text (path.Person name) is bare (inr e) = sym (ap spelled e.1 ∙ ap (λ zs. 47 ∷ zs) (trimmed_slash (codes "people/" ++ name)))
spelled_path text (path.Group name) is bare (inl e) = sym (ap spelled e ∙ ap (λ zs. codes "/groups" ++ zs) (trimmed_name 47 name is))
spelled_path text (path.Group name) is bare (inr e) = sym (ap spelled e.1 ∙ ap (λ zs. 47 ∷ zs) (trimmed_slash (codes "groups/" ++ name)))
spelled_path text (path.Book name) is bare (inl e) = sym (ap spelled e ∙ ap (λ zs. codes "/books" ++ zs) (trimmed_name 47 name is))
spelled_path text (path.Book name) is bare (inr e) = sym (ap spelled e.1 ∙ ap (λ zs. 47 ∷ zs) (trimmed_slash (codes "books/" ++ name)))
spelled_path text (path.Card book name) is bare spells = absurd bare

principal_no_card : (persons groups : NamesTo (List ℕ)) (p : Path) → IsPrincipalOf persons groups p → IsNoCard p
principal_no_card persons groups path.Root h = tt
principal_no_card persons groups path.People h = tt
principal_no_card persons groups path.Groups h = tt
principal_no_card persons groups path.Books h = tt
principal_no_card persons groups (path.Person name) h = tt
principal_no_card persons groups (path.Group name) h = tt
principal_no_card persons groups (path.Book name) h = tt
principal_no_card persons groups (path.Card book name) h = h

place_no_card : (persons groups : NamesTo (List ℕ)) (books : NamesTo PolicyBook) (p : Path) → IsPlaceOf persons groups books p → IsNoCard p
place_no_card persons groups books path.Root h = tt
place_no_card persons groups books path.People h = tt
place_no_card persons groups books path.Groups h = tt
place_no_card persons groups books path.Books h = tt
place_no_card persons groups books (path.Person name) h = tt
place_no_card persons groups books (path.Group name) h = tt
place_no_card persons groups books (path.Book name) h = tt
place_no_card persons groups books (path.Card book name) h = h

-- what the path that a text spells tells of the text
module _ (persons groups : NamesTo (List ℕ)) (text : List ℕ) (p : Path) (is : IsPath p) (spells : SpellsPath text p) where
  pub principal_spelled : IsPrincipalOf persons groups p → path_text p ≡ spelled text
  principal_spelled h = spelled_path text p is (principal_no_card persons groups p h) spells

  pub named : {E : Type 0} (r : Result (Option (List ℕ)) E)
      → IfOk r (λ found. IfSome found (λ principal. (principal ≡ path_text p) × IsPrincipalOf persons groups p))
      → IfOk r (λ found. IfSome found (λ principal. (principal ≡ spelled text) × NamesPrincipal persons groups text))
  named (Ok None) h = tt
  named (Ok (Some principal)) h = (h.0 ∙ principal_spelled h.1, (p, is, spells, h.1))
  named (Err e) h = tt

  pub not_named : {E : Type 0} (r : Result (Option (List ℕ)) E)
      → IfOk r (λ found. IfNone found (IsPrincipalOf persons groups p → ⊥))
      → IfOk r (λ found. IfNone found (NamesPrincipal persons groups text → ⊥))
  not_named (Ok None) h = λ it. h (subst (IsPrincipalOf persons groups) (one_path text it.0 p it.1 is it.2 spells) it.3)
  not_named (Ok (Some principal)) h = tt
  not_named (Err e) h = tt

  pub place_spelled : (books : NamesTo PolicyBook) → IsPlaceOf persons groups books p → path_text p ≡ spelled text
  place_spelled books h = spelled_path text p is (place_no_card persons groups books p h) spells

  pub no_place : (books : NamesTo PolicyBook) → (IsPlaceOf persons groups books p → ⊥) → NamesPlace persons groups books text → ⊥
  no_place books h it = h (subst (IsPlaceOf persons groups books) (one_path text it.0 p it.1 is it.2 spells) it.3)

-- a principal's own path is spelled by that path alone
pub known_named : (persons groups : NamesTo (List ℕ)) (principal : List ℕ) → IsPrincipal principal → NamesPrincipal persons groups principal → IsKnown persons groups principal
known_named persons groups principal is (p, path, inl e, h) = (p, path, e, h)
known_named persons groups principal is (p, path, inr e, h) = absurd (ends_plain principal is (path_text p) e.1)

pub named_known : (persons groups : NamesTo (List ℕ)) (principal : List ℕ) → IsKnown persons groups principal → NamesPrincipal persons groups principal
named_known persons groups principal h = (h.0, h.1, inl h.2, h.3)

pub known_is : (persons groups : NamesTo (List ℕ)) (principal : List ℕ) (found : Option (List ℕ)) → IsPrincipal principal
    → IfSome found (λ read. (read ≡ spelled principal) × NamesPrincipal persons groups principal)
    → IfNone found (NamesPrincipal persons groups principal → ⊥)
    → IsTrue (is_some found) ↔ IsKnown persons groups principal
known_is persons groups principal None is some none = (λ e. absurd (false≢true e), λ h. absurd (none (named_known persons groups principal h)))
known_is persons groups principal (Some read) is some none = (λ _. known_named persons groups principal is some.1, λ _. refl)
