-- Nobody and each person of either Office are asked about, and no one else.
use Rattle.book_questions_differs.proofs.Common.{◌≡◌, ◌∙◌, ◌∷◌, [], ℕ, true, false, List, Option, Some, None, ap, empty, nat_list_cmp_total, names_apart, refl, subst, sym, NamesTo, Office}
use Rattle.std.proofs.Common.{◌≢◌, ◌⊎◌, cond, inl, inr, is_some, option_map}
use Rattle.std.proofs.lemmas.Bool.{false≢true}
use Rattle.std.specs.FinMap.{entries, get, get-empty, insert, keys}
use Rattle.book_lists.specs.Names.{name_cmp}
use Rattle.book_office.specs.Resources.{as_listed, node_of, properties_resource}
use Rattle.book_office.specs.declared.nodes.Listed.{Listed}
use Rattle.book_office_values.proofs.Members.{get_mem, mem_get}
use Rattle.book_office_values.proofs.NameMapLaws.{by_same, put_at, same_itself}
use Rattle.book_office_values.specs.declared.offices.Properties.{Properties}
use Rattle.book_office_values.specs.declared.paths.Kind.TheVariants as kind
use Rattle.book_questions_rights.proofs.Elements.{Mem, contains_of, mem_map, mem_of, mem_of_map}
use Rattle.book_questions_differs.specs.Laws.{EverybodyIsAsked}
use Rattle.book_questions_differs.specs.Parties.{everybody, is_there, persons_at, with_names}

-- ---- the names of persons
-- a person of the list has the name
abbrev IsNamed : List ℕ → List Listed → Type 0
IsNamed n persons = (person : Listed) × Mem person persons × (n ≡ person.name)

abbrev Known : NamesTo (Unit {0}) → List ℕ → Type 0
Known names n = (x : Unit {0}) × (get names n ≡ Some x)

stays : (names : NamesTo (Unit {0})) (persons : List Listed) (n : List ℕ) → Known names n → Known (with_names names persons) n
stays names [] n h = h
stays names (person ∷ persons) n h =
    stays (insert names person.name tt) persons n
    (subst (λ r. (x : Unit {0}) × (r ≡ Some x)) (sym (put_at names person.name tt n)) (by_same n person.name (λ t. (x : Unit {0}) × (cond t (Some tt) (get names n) ≡ Some x)) (λ here. (tt, refl)) h))

put_in : (names : NamesTo (Unit {0})) (persons : List Listed) (n : List ℕ) → IsNamed n persons → Known (with_names names persons) n
put_in names [] n (x, m, is) = absurd m
put_in names (person ∷ persons) n (x, inl e, is) =
    let same : n ≡ person.name = is ∙ ap (λ (l : Listed). l.name) e in
    stays (insert names person.name tt) persons n
    (subst (Known (insert names person.name tt)) (sym same) (tt, put_at names person.name tt person.name ∙ ap (λ t. cond t (Some tt) (get names person.name)) (same_itself person.name)))
put_in names (person ∷ persons) n (x, inr m, is) = put_in (insert names person.name tt) persons n (x, m, is)

taken : (names : NamesTo (Unit {0})) (persons : List Listed) (n : List ℕ) → Known (with_names names persons) n → Known names n ⊎ IsNamed n persons
taken names [] n h = inl h
taken names (person ∷ persons) n h = elim (taken (insert names person.name tt) persons n h) [
  | inl k ↦ by_same n person.name (λ t. cond t (Some tt) (get names n) ≡ Some k.0 → Known names n ⊎ IsNamed n (person ∷ persons))
      (λ is _. inr (person, inl refl, is)) (λ old. inl (k.0, old)) (sym (put_at names person.name tt n) ∙ k.1)
  | inr k ↦ inr (k.0, inr k.1, k.2)
]

-- ---- the persons of an Office
module _ (o : Office) (n : List ℕ) where
  is_person : IsNamed n (persons_at o) → is_there o (Some n) ≡ true
  is_person (x, m, is) =
      let e = mem_of_map (λ (e : List ℕ × Properties). as_listed e.0 (properties_resource kind.Person 0 e.1)) x (entries o.persons) m in
      let at : get o.persons e.0.0 ≡ Some e.0.1 = mem_get nat_list_cmp_total names_apart o.persons e.0.0 e.0.1 e.1 in
      let same : n ≡ e.0.0 = is ∙ ap (λ (l : Listed). l.name) e.2 in
      ap (λ found. is_some (option_map node_of (option_map (properties_resource kind.Person 0) found))) (ap (get o.persons) same ∙ at)

  person_is : is_there o (Some n) ≡ true → IsNamed n (persons_at o)
  person_is there = go (get o.persons n) refl there
    where
      go : (found : Option Properties) → get o.persons n ≡ found → is_some (option_map node_of (option_map (properties_resource kind.Person 0) found)) ≡ true → IsNamed n (persons_at o)
      go None at h = absurd (false≢true h)
      go (Some x) at h = (
        as_listed n (properties_resource kind.Person 0 x),
        mem_map (λ (e : List ℕ × Properties). as_listed e.0 (properties_resource kind.Person 0 e.1)) (n, x) (entries o.persons) (get_mem nat_list_cmp_total names_apart o.persons n x at),
        refl,
      )

-- ---- of two Offices
module _ (o p : Office) where
  abbrev names : NamesTo (Unit {0})
  names = with_names (with_names empty (persons_at o)) (persons_at p)

  told : (n : List ℕ) → Mem n (keys names) → (is_there o (Some n) ≡ true) ⊎ (is_there p (Some n) ≡ true)
  told n m =
      let e = mem_of_map (λ (e : List ℕ × Unit {0}). e.0) n (entries names) m in
      let at : Known names n = (e.0.1, ap (get names) e.2 ∙ mem_get nat_list_cmp_total names_apart names e.0.0 e.0.1 e.1) in
      elim (taken (with_names empty (persons_at o)) (persons_at p) n at) [
        | inl k ↦ elim (taken empty (persons_at o) n k) [
          | inl none ↦ let clash : None ≡ Some none.0 = sym (get-empty name_cmp n) ∙ none.1 in absurd cc
          | inr person ↦ inl (is_person o n person)
        ]
        | inr person ↦ inr (is_person p n person)
      ]

  asked : (n : List ℕ) → (is_there o (Some n) ≡ true) ⊎ (is_there p (Some n) ≡ true) → Mem n (keys names)
  asked n h =
      let at : Known names n = elim h [
        | inl a ↦ stays (with_names empty (persons_at o)) (persons_at p) n (put_in empty (persons_at o) n (person_is o n a))
        | inr b ↦ put_in (with_names empty (persons_at o)) (persons_at p) n (person_is p n b)
      ] in
      mem_map (λ (e : List ℕ × Unit {0}). e.0) (n, at.0) (entries names) (get_mem nat_list_cmp_total names_apart names n at.0 at.1)

pub everybody_is_asked : EverybodyIsAsked
everybody_is_asked o p None = (λ _. inl refl, λ _. contains_of None (everybody o p) (inl refl))
everybody_is_asked o p (Some n) = (
  λ there. elim (mem_of (Some n) (everybody o p) there) [
    | inl e ↦ absurd cc
    | inr m ↦
        let k = mem_of_map Some (Some n) (keys (names o p)) m in
        let same : n ≡ k.0 = cc in
        told o p n (subst (λ q. Mem q (keys (names o p))) (sym same) k.1)
  ],
  λ h. contains_of (Some n) (everybody o p) (inr (mem_map Some n (keys (names o p)) (asked o p n h))),
)
