-- Entries that are all read by one circle at one resource: the list of their readings, and what it decides.
use Rattle.book_lists.proofs.Common.{◌≡◌, ℕ, zero, suc, ◌+◌, ◌<◌, ◌≤◌, ◌↔◌, Bool, true, false, List, [], ◌∷◌, ◌++◌, length, map, take, get_or, slice_get, Option, Some, None, refl, sym, ap, ◌∙◌, subst, map-append, Leaf, CircleOf, IsAllowed, IsDenial, Reading, read_by, Entry, Here}
use Rattle.std.proofs.Common.{drop, option_map, append_assoc}
use Rattle.std.proofs.lemmas.List.{take_all, take_more, take-append-drop}
use Rattle.std.proofs.lemmas.Option.{slice_get-map}
use Rattle.book_lists.specs.Deciding.{DecidesBy, IsUndecidedBy}
use Rattle.book_lists.specs.Decisions.{Decides, Denies, Grants, IsUndecided, IsGrantedSet, IfDenied}
use Rattle.book_lists.specs.Readings.{bears_read, denying_read, DeniesRead, GrantsRead, IsAllowedRead, IsDenialRead, IsGrantedRead}
use Rattle.book_lists.specs.declared.decisions.Outcome.{Outcome}
use Rattle.book_lists.specs.declared.decisions.Outcome.TheVariants.{Allowed, Denied}

module _ (circle : CircleOf) (here : Here) where
  pub read_append : (xs ys : List Entry) → read_by circle here (xs ++ ys) ≡ read_by circle here xs ++ read_by circle here ys
  read_append xs ys = map-append (λ (entry : Entry). record { circle = circle; here = here; entry = entry }) xs ys

  -- ---- as a loop reads them
  module _ (readings : List Reading) (entries : List Entry) (i : ℕ) where
    pub read_more : (entry : Entry) → i < length entries → entry ≡ get_or entries i entry
        → (readings ++ read_by circle here (take i entries)) ++ read_by circle here (entry ∷ []) ≡ readings ++ read_by circle here (take (i + 1) entries)
    read_more entry within at =
        append_assoc readings (read_by circle here (take i entries)) (read_by circle here (entry ∷ []))
        ∙ ap (λ xs. readings ++ xs) (sym (read_append (take i entries) (entry ∷ [])) ∙ ap (read_by circle here) (sym (take_more entries i entry within ∙ ap (λ e. take i entries ++ e ∷ []) (sym at))))

    pub read_parts : (readings ++ read_by circle here (take i entries)) ++ read_by circle here (drop i entries) ≡ readings ++ read_by circle here entries
    read_parts = append_assoc readings (read_by circle here (take i entries)) (read_by circle here (drop i entries))
        ∙ ap (λ xs. readings ++ xs) (sym (read_append (take i entries) (drop i entries)) ∙ ap (read_by circle here) (take-append-drop i entries))

    pub read_all : length entries ≤ i → readings ++ read_by circle here (take i entries) ≡ readings ++ read_by circle here entries
    read_all past = ap (λ xs. readings ++ read_by circle here xs) (take_all i entries past)

-- what stands in a mapped list is made of what stands in the list
map_back : {A B : Type 0} (f : A → B) (xs : List A) (k : ℕ) (y : B) → slice_get (map f xs) k ≡ Some y → (x : A) × (slice_get xs k ≡ Some x) × (f x ≡ y)
map_back f [] k y e = absurd cc
map_back f (x ∷ xs) zero y e = (x, refl, cc)
map_back f (x ∷ xs) (suc k) y e = map_back f xs k y e

module _ (circle : CircleOf) (here : Here) (entries : List Entry) where
  -- ---- what the readings decide is what the entries decide
  decides_read : (i : ℕ) (leaf : Leaf) (entry : Entry) → Decides entries circle here i leaf entry → DecidesBy bears_read (read_by circle here entries) i leaf (record { circle = circle; here = here; entry = entry })
  decides_read i leaf entry d = record {
    there = slice_get-map (λ (e : Entry). record { circle = circle; here = here; entry = e }) entries i ∙ ap (option_map _) d.there;
    bearing = d.bearing;
    first = λ k earlier lt at.
        let from = map_back (λ (e : Entry). record { circle = circle; here = here; entry = e }) entries k earlier at in
        subst (λ r. bears_read leaf r ≡ false) from.2 (d.first k from.0 lt from.1);
  }

  decides_back : (i : ℕ) (leaf : Leaf) (r : Reading) → DecidesBy bears_read (read_by circle here entries) i leaf r
      → (entry : Entry) × Decides entries circle here i leaf entry × (entry.deny ≡ denying_read r)
  decides_back i leaf r d =
      let from = map_back (λ (e : Entry). record { circle = circle; here = here; entry = e }) entries i r d.there in (
        from.0,
        record {
          there = from.1;
          bearing = subst (λ x. bears_read leaf x ≡ true) (sym from.2) d.bearing;
          first = λ k earlier lt at. d.first k (record { circle = circle; here = here; entry = earlier }) lt
              (slice_get-map (λ (e : Entry). record { circle = circle; here = here; entry = e }) entries k ∙ ap (option_map _) at);
        },
        ap denying_read from.2,
      )

  denies_read : (i : ℕ) (leaf : Leaf) → Denies entries circle here i leaf → DeniesRead (read_by circle here entries) i leaf
  denies_read i leaf d = (record { circle = circle; here = here; entry = d.0 }, decides_read i leaf d.0 d.1, d.2)

  denies_back : (i : ℕ) (leaf : Leaf) → DeniesRead (read_by circle here entries) i leaf → Denies entries circle here i leaf
  denies_back i leaf d = let from = decides_back i leaf d.0 d.1 in (from.0, from.1, from.2 ∙ d.2)

  grants_read : (leaf : Leaf) → Grants entries circle here leaf → GrantsRead (read_by circle here entries) leaf
  grants_read leaf g = (g.0, record { circle = circle; here = here; entry = g.1 }, decides_read g.0 leaf g.1 g.2, g.3)

  grants_back : (leaf : Leaf) → GrantsRead (read_by circle here entries) leaf → Grants entries circle here leaf
  grants_back leaf g = let from = decides_back g.0 leaf g.1 g.2 in (g.0, from.0, from.1, from.2 ∙ g.3)

  undecided_read : (leaf : Leaf) → IsUndecided entries circle here leaf → IsUndecidedBy bears_read denying_read (read_by circle here entries) leaf
  undecided_read leaf gap i r d = let from = decides_back i leaf r d in gap i from.0 from.1

  pub allowed_one : (need : Leaf → Bool) → IsAllowedRead (read_by circle here entries) need ↔ IsAllowed entries circle here need
  allowed_one need = (λ all leaf wanted. grants_back leaf (all leaf wanted), λ all leaf wanted. grants_read leaf (all leaf wanted))

  pub denial_one : (need : Leaf → Bool) (leaf : Leaf) (index : Option ℕ) → IsDenialRead (read_by circle here entries) need leaf index → IsDenial entries circle here need leaf index
  denial_one need leaf None d = (
    d.0,
    λ i e f. d.1 i (record { circle = circle; here = here; entry = e }) (decides_read i leaf e f),
    λ other wanted gap. d.2 other wanted (undecided_read other gap),
    λ j other wanted e. d.3 j other wanted (denies_read j other e),
  )
  denial_one need leaf (Some i) d = (d.0, denies_back i leaf d.1, λ j other wanted e. d.2 j other wanted (denies_read j other e))

  pub granted_one : (set : Leaf → Bool) → IsGrantedRead (read_by circle here entries) set → IsGrantedSet entries circle here set
  granted_one set same leaf = (λ has. grants_back leaf ((same leaf).0 has), λ g. (same leaf).1 (grants_read leaf g))

  -- an outcome by the readings is one by the entries
  pub denied_one : (need : Leaf → Bool) (o : Outcome) → IfDenied o (IsDenialRead (read_by circle here entries) need) → IfDenied o (IsDenial entries circle here need)
  denied_one need Allowed d = d
  denied_one need (Denied leaf index) d = denial_one need leaf index d
