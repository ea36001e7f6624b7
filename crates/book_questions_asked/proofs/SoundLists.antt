-- What a sound Office has at a path speaks of principals that are there.
use Rattle.book_questions_asked.proofs.Common.{◌≡◌, ◌++◌, ◌∷◌, ◌⊎◌, [], ℕ, true, false, List, Option, Some, None, arith, flat_map, inl, inr, map, refl, subst, sym, Office}
use Rattle.std.proofs.Common.{◌≢◌, All, option_and_then, option_map, unwrap_or}
use Rattle.std.proofs.lemmas.List.Elements.{All-head, All-tail}
use Rattle.std.proofs.lemmas.Option.{same_Some}
use Rattle.std.specs.FinMap.{get}
use Rattle.book_lists.proofs.Elements.{Mem}
use Rattle.book_lists.specs.Principals.{IsGroup, IsPerson, IsPrincipal, group_path, person_path}
use Rattle.book_lists.specs.declared.entries.Entry.{Entry}
use Rattle.book_lists.specs.declared.entries.Who.{Who}
use Rattle.book_lists.specs.declared.entries.Who.TheVariants as forms
use Rattle.book_office.specs.Levels.{effective_at, level_at, lists_at, own_at, own_entries, protected_at, protected_entries, standing_at}
use Rattle.book_office.specs.ResourceTree.{IsThere}
use Rattle.book_office.specs.Resources.{Resource, book_resource, card_in, card_resource, number_of, properties_resource, resource_at}
use Rattle.book_office.specs.Sound.{AreSoundProperties, IsKnownForm, IsMapped, IsMappedGroup, IsMappedPerson, IsOwner, IsSound, IsSoundCard, IsSoundList}
use Rattle.book_office.specs.declared.nodes.EffectiveEntry.{EffectiveEntry}
use Rattle.book_office.specs.declared.nodes.Level.{Level}
use Rattle.book_office_values.specs.Paths.{levels}
use Rattle.book_office_values.specs.declared.offices.Book.{Book}
use Rattle.book_office_values.specs.declared.offices.Properties.{Properties}
use Rattle.book_office_values.specs.declared.offices.StoredCard.{StoredCard}
use Rattle.book_office_values.specs.declared.paths.Kind.{Kind}
use Rattle.book_office_values.specs.declared.paths.Kind.TheVariants as kind
use Rattle.book_office_values.specs.declared.paths.Path.{Path}
use Rattle.book_office_values.specs.declared.paths.Path.TheVariants as path
use Rattle.book_office_listings.specs.Verdicts.{bare_entries, owner_at, principal_of}
use Rattle.book_questions_asked.proofs.Spelling.{IsKnownWho}
use Rattle.book_questions_asked.proofs.StatedLines.{IsKnown}

-- ---- elements
mem_all : {A : Type 0} (P : A → Type 0) (x : A) (xs : List A) → All P xs → Mem x xs → P x
mem_all P x [] h m = absurd m
mem_all P x (y ∷ ys) h (inl e) = subst P (sym e) (All-head P y ys h)
mem_all P x (y ∷ ys) h (inr m) = mem_all P x ys (All-tail P y ys h) m

mem_split : {A : Type 0} (x : A) (xs ys : List A) → Mem x (xs ++ ys) → Mem x xs ⊎ Mem x ys
mem_split x [] ys m = inr m
mem_split x (y ∷ xs) ys (inl e) = inl (inl e)
mem_split x (y ∷ xs) ys (inr m) = elim (mem_split x xs ys m) [ inl h ↦ inl (inr h) | inr h ↦ inr h ]

mem_of_map : {A B : Type 0} (f : A → B) (y : B) (xs : List A) → Mem y (map f xs) → (x : A) × Mem x xs × (y ≡ f x)
mem_of_map f y [] m = absurd m
mem_of_map f y (x ∷ xs) (inl e) = (x, inl refl, e)
mem_of_map f y (x ∷ xs) (inr m) = let h = mem_of_map f y xs m in (h.0, inr h.1, h.2)

mem_of_flat : {A B : Type 0} (f : A → List B) (y : B) (xs : List A) → Mem y (flat_map f xs) → (x : A) × Mem x xs × Mem y (f x)
mem_of_flat f y [] m = absurd m
mem_of_flat f y (x ∷ xs) m = elim (mem_split y (f x) (flat_map f xs) m) [
  | inl h ↦ (x, inl refl, h)
  | inr h ↦ let r = mem_of_flat f y xs h in (r.0, inr r.1, r.2)
]

module _ (o : Office) (s : IsSound o) where
  -- ---- principals
  person_is : (path : List ℕ) → IsMappedPerson o path → IsPerson path
  person_is path m = go (get o.persons m.0) refl
    where
      go : (found : Option Properties) → get o.persons m.0 ≡ found → IsPerson path
      go None e = absurd (m.2 e)
      go (Some properties) e = (m.0, (s.persons m.0 properties e).0, m.1)

  pub group_is : (path : List ℕ) → IsMappedGroup o path → IsGroup path
  group_is path m = go (get o.groups m.0) refl
    where
      go : (found : Option Properties) → get o.groups m.0 ≡ found → IsGroup path
      go None e = absurd (m.2 e)
      go (Some properties) e = (m.0, (s.groups m.0 properties e).0, m.1)

  pub principal_is : (path : List ℕ) → IsMapped o path → IsPrincipal path
  principal_is path (inl person) = inl (person_is path person)
  principal_is path (inr group) = inr (group_is path group)

  pub caller_is : (path : List ℕ) → IsMappedPerson o path → IsPerson path
  caller_is path m = person_is path m

  -- ---- resources
  record IsSoundResource (r : Resource) : Type 0 where
    owner : IsOwner o r.owner
    protected : IsSoundList o r.protected
    own : IsSoundList o r.own

  of_properties : (k : Kind) (n : ℕ) (properties : Properties) → AreSoundProperties o properties → IsSoundResource (properties_resource k n properties)
  of_properties k n properties h = record { owner = h.owner; protected = h.protected; own = h.own }

  of_card : (n : ℕ) (card : StoredCard) → IsSoundCard o card → IsSoundResource (card_resource n card)
  of_card n card h = record { owner = h.owner; protected = record { few = omega arith; known = λ k d l. absurd (omega (arith, l)) }; own = h.own }

  sound_resource : (p : Path) (r : Resource) → resource_at o p ≡ Some r → IsSoundResource r
  sound_resource path.Root r e = subst IsSoundResource (same_Some _ _ e) (of_properties kind.Root 0 o.root s.root)
  sound_resource path.People r e = subst IsSoundResource (same_Some _ _ e) (of_properties kind.Home 0 o.people s.people)
  sound_resource path.Groups r e = subst IsSoundResource (same_Some _ _ e) (of_properties kind.Home 0 o.groups_home s.groups_home)
  sound_resource path.Books r e = subst IsSoundResource (same_Some _ _ e) (of_properties kind.Home 0 o.books_home s.books_home)
  sound_resource (path.Person n) r e = go (get o.persons n) refl e
    where
      go : (found : Option Properties) → get o.persons n ≡ found → option_map (properties_resource kind.Person 0) found ≡ Some r → IsSoundResource r
      go None at e = absurd cc
      go (Some properties) at e = subst IsSoundResource (same_Some _ _ e) (of_properties kind.Person 0 properties (s.persons n properties at).1)
  sound_resource (path.Group n) r e = go (get o.groups n) refl e
    where
      go : (found : Option Properties) → get o.groups n ≡ found → option_map (properties_resource kind.Group 0) found ≡ Some r → IsSoundResource r
      go None at e = absurd cc
      go (Some properties) at e = subst IsSoundResource (same_Some _ _ e) (of_properties kind.Group 0 properties (s.groups n properties at).1)
  sound_resource (path.Book b) r e = go (get o.books b) refl e
    where
      go : (found : Option Book) → get o.books b ≡ found → option_map book_resource found ≡ Some r → IsSoundResource r
      go None at e = absurd cc
      go (Some book) at e = subst IsSoundResource (same_Some _ _ e) (of_properties kind.Book book.changes.number book.properties (s.books b book at).1.properties)
  sound_resource (path.Card b c) r e = go (get o.books b) refl e
    where
      in_book : (book : Book) (found : Option StoredCard) → get o.books b ≡ Some book → get book.cards c ≡ found
          → option_map (card_resource (number_of book c)) found ≡ Some r → IsSoundResource r
      in_book book None at there e = absurd cc
      in_book book (Some card) at there e = subst IsSoundResource (same_Some _ _ e) (of_card (number_of book c) card ((s.books b book at).1.cards c card there))

      go : (found : Option Book) → get o.books b ≡ found → option_and_then (λ (book : Book). card_in book c) found ≡ Some r → IsSoundResource r
      go None at e = absurd cc
      go (Some book) at e = in_book book (get book.cards c) at refl e

  -- ---- the owner of a resource, and the resource where it is a principal
  pub owner_known : (p : Path) → IsKnown (owner_at o p)
  owner_known p = go (resource_at o p) refl
    where
      known : (owner : Option (List ℕ)) → IsOwner o owner → IsKnown owner
      known None h = tt
      known (Some path) h = principal_is path h

      go : (found : Option Resource) → resource_at o p ≡ found → IsKnown (option_and_then (λ (r : Resource). r.owner) found)
      go None e = tt
      go (Some r) e = known r.owner (sound_resource p r e).owner

  some_of : {A B : Type 0} (f : A → B) (found : Option A) → option_map f found ≢ None → found ≢ None
  some_of f None h e = h refl
  some_of f (Some x) h e = absurd cc

  pub here_known : (p : Path) → IsThere o p → IsKnown (principal_of p)
  here_known path.Root there = tt
  here_known path.People there = tt
  here_known path.Groups there = tt
  here_known path.Books there = tt
  here_known (path.Person n) there = inl (person_is (person_path n) (n, refl, some_of (properties_resource kind.Person 0) (get o.persons n) there))
  here_known (path.Group n) there = inr (group_is (group_path n) (n, refl, some_of (properties_resource kind.Group 0) (get o.groups n) there))
  here_known (path.Book b) there = tt
  here_known (path.Card b c) there = tt

  -- ---- the entries in force
  who_known : (who : Who) → IsKnownForm o who → IsKnownWho who
  who_known (forms.Href path) h = principal_is path h
  who_known forms.Everyone h = tt
  who_known forms.Authenticated h = tt
  who_known forms.Unauthenticated h = tt
  who_known forms.Owner h = tt
  who_known forms.Own h = tt

  in_protected : (p : Path) (e : Entry) → Mem e (protected_at o p) → IsKnownForm o e.who
  in_protected p e m = go (resource_at o p) refl m
    where
      go : (found : Option Resource) → resource_at o p ≡ found → Mem e (unwrap_or (option_map (λ (r : Resource). r.protected) found) []) → IsKnownForm o e.who
      go None at m = absurd m
      go (Some r) at m = mem_all (λ (x : Entry). IsKnownForm o x.who) e r.protected (sound_resource p r at).protected.known m

  in_own : (p : Path) (e : Entry) → Mem e (own_at o p) → IsKnownForm o e.who
  in_own p e m = go (resource_at o p) refl m
    where
      go : (found : Option Resource) → resource_at o p ≡ found → Mem e (unwrap_or (option_map (λ (r : Resource). r.own) found) []) → IsKnownForm o e.who
      go None at m = absurd m
      go (Some r) at m = mem_all (λ (x : Entry). IsKnownForm o x.who) e r.own (sound_resource p r at).own.known m

  pub entry_known : (p : Path) (e : Entry) → Mem e (bare_entries (effective_at o p)) → IsKnownWho e.who
  entry_known p e m =
      let whole = mem_of_map (λ (x : EffectiveEntry). x.entry) e (effective_at o p) m in
      let ls = (lists_at o p).levels in
      subst (λ (x : Entry). IsKnownWho x.who) (sym whole.2) (who_known whole.0.entry.who (elim (mem_split whole.0 (flat_map protected_entries ls) (flat_map own_entries ls) whole.1) [
        | inl h ↦ at_protected whole.0 (mem_of_flat protected_entries whole.0 ls h)
        | inr h ↦ at_own whole.0 (mem_of_flat own_entries whole.0 ls h)
      ]))
    where
      at_protected : (x : EffectiveEntry) → ((level : Level) × Mem level (lists_at o p).levels × Mem x (protected_entries level)) → IsKnownForm o x.entry.who
      at_protected x found =
          let level = mem_of_map (level_at o) found.0 (levels p) found.1 in
          let entry = mem_of_map (standing_at found.0.path true) x found.0.protected found.2 in
          let there : Mem entry.0 (protected_at o level.0) = subst (λ (l : Level). Mem entry.0 l.protected) level.2 entry.1 in
          subst (λ (y : EffectiveEntry). IsKnownForm o y.entry.who) (sym entry.2) (in_protected level.0 entry.0 there)

      at_own : (x : EffectiveEntry) → ((level : Level) × Mem level (lists_at o p).levels × Mem x (own_entries level)) → IsKnownForm o x.entry.who
      at_own x found =
          let level = mem_of_map (level_at o) found.0 (levels p) found.1 in
          let entry = mem_of_map (standing_at found.0.path false) x found.0.own found.2 in
          let there : Mem entry.0 (own_at o level.0) = subst (λ (l : Level). Mem entry.0 l.own) level.2 entry.1 in
          subst (λ (y : EffectiveEntry). IsKnownForm o y.entry.who) (sym entry.2) (in_own level.0 entry.0 there)
