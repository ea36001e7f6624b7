-- Words for principal forms, and the paths of principals.
use Rattle.book_policy.proofs.Common.{◌≡◌, ℕ, List, [], ◌∷◌, ◌++◌, Bool, true, false, cond, inl, inr, refl, sym, ap, ◌∙◌, subst, Path, NamesForm, NamesPrincipal, who_of}
use Rattle.std.proofs.Common.{◌⊎◌, ◌↔◌, ◌||◌, codes, nat_eq, IsTrue}
use Rattle.std.specs.Str.{bytes_eq}
use Rattle.std.proofs.lemmas.Bool.{eqb-true, false≢true}
use Rattle.book_lists.specs.Principals.{IsPrincipal, Spells}
use Rattle.book_lists.specs.declared.entries.Who.{Who}
use Rattle.book_lists.specs.declared.entries.Who.TheVariants.{Href, Everyone, Authenticated, Unauthenticated, Owner, Own}
use Rattle.book_office_values.specs.Names.{NamesTo}
use Rattle.book_office_values.specs.Paths.{IsPath, SpellsPath, path_text}
use Rattle.book_office_values.specs.declared.paths.Path.TheVariants as path
use Rattle.book_policy_values.specs.Policies.{IsKnown, IsPrincipalOf, spelled, trimmed}
use Rattle.book_policy_values.proofs.Faults.{known_spelled}
use Rattle.book_policy_values.proofs.Paths.{spelled_path}
use Rattle.book_policy.specs.Passes.{SpellsWho}
use Rattle.book_policy_faults.specs.Values.{is_word}

-- ---- a slash at the end
trimmed_or : (xs : List ℕ) → (xs ≡ trimmed xs) ⊎ (xs ≡ trimmed xs ++ codes "/")
trimmed_or [] = inl refl
trimmed_or (x ∷ []) = elim (nat_eq x 47) as (λ b. nat_eq x 47 ≡ b → (x ∷ [] ≡ cond b [] (x ∷ [])) ⊎ (x ∷ [] ≡ cond b [] (x ∷ []) ++ codes "/")) [
  | true ↦ λ e. inr (ap (λ y. y ∷ []) (eqb-true x 47 e))
  | false ↦ λ _. inl refl
] refl
trimmed_or (x ∷ y ∷ ys) = one (trimmed_or (y ∷ ys))
  where
    one : (y ∷ ys ≡ trimmed (y ∷ ys)) ⊎ (y ∷ ys ≡ trimmed (y ∷ ys) ++ codes "/")
        → (x ∷ y ∷ ys ≡ x ∷ trimmed (y ∷ ys)) ⊎ (x ∷ y ∷ ys ≡ (x ∷ trimmed (y ∷ ys)) ++ codes "/")
    one (inl e) = inl (ap (λ zs. x ∷ zs) e)
    one (inr e) = inr (ap (λ zs. x ∷ zs) e)

spelled_or : (xs : List ℕ) → Spells xs (spelled xs)
spelled_or [] = inl refl
spelled_or (x ∷ xs) = one (trimmed_or xs)
  where
    one : (xs ≡ trimmed xs) ⊎ (xs ≡ trimmed xs ++ codes "/") → Spells (x ∷ xs) (x ∷ trimmed xs)
    one (inl e) = inl (ap (λ zs. x ∷ zs) e)
    one (inr e) = inr (ap (λ zs. x ∷ zs) e)

-- ---- principals
spells_principal : (persons groups : NamesTo (List ℕ)) (text : List ℕ) (p : Path) → Spells text (path_text p) → IsPrincipalOf persons groups p → SpellsPath text p
spells_principal persons groups text (path.Person name) (inl e) h = inl e
spells_principal persons groups text (path.Person name) (inr e) h = inr (refl, e)
spells_principal persons groups text (path.Group name) (inl e) h = inl e
spells_principal persons groups text (path.Group name) (inr e) h = inr (refl, e)
spells_principal persons groups text path.Root s h = absurd h
spells_principal persons groups text path.People s h = absurd h
spells_principal persons groups text path.Groups s h = absurd h
spells_principal persons groups text path.Books s h = absurd h
spells_principal persons groups text (path.Book name) s h = absurd h
spells_principal persons groups text (path.Card book name) s h = absurd h

is_principal : (persons groups : NamesTo (List ℕ)) (p : Path) → IsPath p → IsPrincipalOf persons groups p → IsPrincipal (path_text p)
is_principal persons groups (path.Person name) is h = inl (name, is, refl)
is_principal persons groups (path.Group name) is h = inr (name, is, refl)
is_principal persons groups path.Root is h = absurd h
is_principal persons groups path.People is h = absurd h
is_principal persons groups path.Groups is h = absurd h
is_principal persons groups path.Books is h = absurd h
is_principal persons groups (path.Book name) is h = absurd h
is_principal persons groups (path.Card book name) is h = absurd h

known_named : (persons groups : NamesTo (List ℕ)) (text : List ℕ) → IsKnown persons groups (spelled text) → NamesPrincipal persons groups text
known_named persons groups text (p, is, e, h) = (p, is, spells_principal persons groups text p (subst (Spells text) e (spelled_or text)) h, h)

-- the principal whose path a text spells is the text without a slash at its end
pub principal_is : (text principal : List ℕ) → IsPrincipal principal → Spells text principal → principal ≡ spelled text
principal_is text principal (inl person) (inl e) = person.2 ∙ spelled_path text (path.Person person.0) person.1 tt (inl (e ∙ person.2))
principal_is text principal (inl person) (inr e) = person.2 ∙ spelled_path text (path.Person person.0) person.1 tt (inr (refl, e ∙ ap (λ q. q ++ codes "/") person.2))
principal_is text principal (inr group) (inl e) = group.2 ∙ spelled_path text (path.Group group.0) group.1 tt (inl (e ∙ group.2))
principal_is text principal (inr group) (inr e) = group.2 ∙ spelled_path text (path.Group group.0) group.1 tt (inr (refl, e ∙ ap (λ q. q ++ codes "/") group.2))

-- ---- forms
module _ (P : Who → Type 0) (text : List ℕ) where
  abbrev five : Bool → Bool → Bool → Bool → Bool → Who → Who
  five a b c d e other = cond a Everyone (cond b Authenticated (cond c Unauthenticated (cond d Owner (cond e Own other))))

  words : P Everyone → P Authenticated → P Unauthenticated → P Owner → P Own → (a b c d e : Bool) (other : Who)
      → (a || b || c || d || e) ≡ true → P (five a b c d e other)
  words p q r s t true b c d e other h = p
  words p q r s t false true c d e other h = q
  words p q r s t false false true d e other h = r
  words p q r s t false false false true e other h = s
  words p q r s t false false false false true other h = t
  words p q r s t false false false false false other h = absurd (false≢true h)

  other_word : (a b c d e : Bool) (other : Who) → (a || b || c || d || e) ≡ false → five a b c d e other ≡ other
  other_word false false false false false other h = refl
  other_word true b c d e other h = absurd (false≢true (sym h))
  other_word false true c d e other h = absurd (false≢true (sym h))
  other_word false false true d e other h = absurd (false≢true (sym h))
  other_word false false false true e other h = absurd (false≢true (sym h))
  other_word false false false false true other h = absurd (false≢true (sym h))

pub word_known : (persons groups : NamesTo (List ℕ)) (text : List ℕ) → is_word text ≡ true → NamesForm persons groups (who_of text)
word_known persons groups text h =
    words (NamesForm persons groups) text tt tt tt tt tt (bytes_eq text (codes "all")) (bytes_eq text (codes "authenticated"))
    (bytes_eq text (codes "unauthenticated")) (bytes_eq text (codes "owner")) (bytes_eq text (codes "self")) (Href (spelled text)) h

pub path_form : (text : List ℕ) → is_word text ≡ false → who_of text ≡ Href (spelled text)
path_form text h =
    other_word (λ _. Unit {0}) text (bytes_eq text (codes "all")) (bytes_eq text (codes "authenticated"))
    (bytes_eq text (codes "unauthenticated")) (bytes_eq text (codes "owner")) (bytes_eq text (codes "self")) (Href (spelled text)) h

pub path_known : (persons groups : NamesTo (List ℕ)) (text : List ℕ) (fine : Bool) → is_word text ≡ false
    → (IsTrue fine ↔ NamesPrincipal persons groups text) → IsTrue fine ↔ NamesForm persons groups (who_of text)
path_known persons groups text fine isnt h = (
  λ yes. subst (NamesForm persons groups) (sym (path_form text isnt)) (known_spelled persons groups text (h.0 yes)),
  λ form. h.1 (known_named persons groups text (subst (NamesForm persons groups) (path_form text isnt) form)),
)

pub no_word : (text : List ℕ) → bytes_eq text (codes "all") ≡ false → bytes_eq text (codes "authenticated") ≡ false → bytes_eq text (codes "unauthenticated") ≡ false
    → bytes_eq text (codes "owner") ≡ false → bytes_eq text (codes "self") ≡ false → is_word text ≡ false
no_word text a b c d e = rw (a, b, c, d, e) refl

pub path_who : (text principal : List ℕ) → is_word text ≡ false → IsPrincipal principal × Spells text principal → Href principal ≡ who_of text
path_who text principal isnt h = ap Href (principal_is text principal h.0 h.1) ∙ sym (path_form text isnt)

pub no_who : (text : List ℕ) → is_word text ≡ false → ((path : List ℕ) → IsPrincipal path → Spells text path → ⊥) → SpellsWho text → ⊥
no_who text isnt none (inl word) = false≢true (sym isnt ∙ word)
no_who text isnt none (inr h) = none h.0 h.1 h.2

-- a text whose principal is there spells one
pub known_spells : (persons groups : NamesTo (List ℕ)) (text : List ℕ) → NamesForm persons groups (who_of text) → SpellsWho text
known_spells persons groups text form = by_word (is_word text) refl
  where
    path_spells : IsKnown persons groups (spelled text) → SpellsWho text
    path_spells (p, is, e, h) = inr (path_text p, is_principal persons groups p is h, subst (Spells text) e (spelled_or text))

    by_word : (b : Bool) → is_word text ≡ b → SpellsWho text
    by_word true word = inl word
    by_word false isnt = path_spells (subst (NamesForm persons groups) (path_form text isnt) form)
