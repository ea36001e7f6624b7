-- The search for shortest chains: all of one length, and then those of the next.
use Rattle.std.proofs.Common.{◌≡◌, ◌++◌, ◌∷◌, ◌∙◌, [], List, Option, Some, None, ℕ, ◌+◌, true, false, Bool, ap, arith, refl, sym, subst, length}
use Rattle.std.proofs.Common.{◌≤◌, ◌<◌, ◌||◌, ◌&&◌, ◌⊎◌, inl, inr, cond}
use Rattle.std.specs.Prelude.{if◌then◌else◌}
use Rattle.std.specs.FinSet as set
use Rattle.std.specs.List.{AllByRecursion, list_any}
use Rattle.std.specs.Ordering.{eq_by_cmp}
use Rattle.std.specs.Str.{bytes_eq}
use Rattle.std.proofs.lemmas.Bool.{and_parts, cases_Bool, cases_lt, false≢true, or_cases, or_left, or_right}
use Rattle.std.proofs.lemmas.List.Folds.{list_any-append}
use Rattle.book_lists.specs.Memberships.{Descends, IsDirect, Memberships, membership_cmp, set_of}
use Rattle.book_lists.specs.declared.memberships.Membership.{Membership}
use Rattle.book_lists.proofs.Pairing.{memberships_total, path_itself, same_membership, same_path}
use Rattle.book_questions_chains.specs.Chains.{AreChains, IsShortest, above, chain_to, has_chain, is_to, rise, rise_from, risen}
use Rattle.book_questions_chains.specs.declared.chains.Chain.{Chain}

-- ---- one of some chains

pub each_both : (P : Chain → Type 0) (xs ys : List Chain) → AllByRecursion P xs → AllByRecursion P ys → AllByRecursion P (xs ++ ys)
each_both P [] ys a b = b
each_both P (x ∷ xs) ys a b = (a.0, each_both P xs ys a.1 b)

-- what is found is one of them, and leads to what was asked for
pub each_found : (P : Chain → Type 0) (q : List ℕ) (c : Chain) (xs : List Chain) → AllByRecursion P xs → chain_to xs q ≡ Some c → P c × (c.group ≡ q)
each_found P q c [] all e = absurd cc
each_found P q c (x ∷ xs) all e = go (is_to q x) refl (each_found P q c xs all.1)
  where
    go : (b : Bool) → is_to q x ≡ b → (chain_to xs q ≡ Some c → P c × (c.group ≡ q)) → P c × (c.group ≡ q)
    go true is rest =
        let here : Some x ≡ Some c = sym (ap (λ b. cond b (Some x) (chain_to xs q)) is) ∙ e in
        let same : x ≡ c = cc in
        (subst P same all.0, subst (λ (y : Chain). y.group ≡ q) same (same_path x.group q is))
    go false is rest = rest (sym (ap (λ b. cond b (Some x) (chain_to xs q)) is) ∙ e)

pub found : (q : List ℕ) (xs : List Chain) → has_chain xs q ≡ true → (c : Chain) × (chain_to xs q ≡ Some c)
found q [] has = absurd (false≢true has)
found q (x ∷ xs) has = go (is_to q x) refl (found q xs)
  where
    go : (b : Bool) → is_to q x ≡ b → (has_chain xs q ≡ true → (c : Chain) × (chain_to xs q ≡ Some c)) → (c : Chain) × (chain_to (x ∷ xs) q ≡ Some c)
    go true is rest = (x, ap (λ b. cond b (Some x) (chain_to xs q)) is)
    go false is rest =
        let later : has_chain xs q ≡ true = sym (ap (λ b. b || has_chain xs q) is) ∙ has in
        let next = rest later in
        (next.0, ap (λ b. cond b (Some x) (chain_to xs q)) is ∙ next.1)

has_both : (q : List ℕ) (xs ys : List Chain) → has_chain (xs ++ ys) q ≡ (has_chain xs q || has_chain ys q)
has_both q xs ys = list_any-append (is_to q) xs ys

-- the group was met
abbrev pub known : List Chain → List Chain → List ℕ → Bool
known settled front group = has_chain settled group || has_chain front group

-- ---- a pair whose group was not met
abbrev pub fresh_of : Bool → ℕ
fresh_of met = cond met 0 1

abbrev pub fresh : List Chain → List Chain → List Membership → ℕ
fresh settled front [] = 0
fresh settled front (x ∷ xs) = fresh_of (known settled front x.group) + fresh settled front xs

-- whether something is at the front
abbrev pub front_weight : List Chain → ℕ
front_weight [] = 0
front_weight (x ∷ xs) = 1

fresh_of_less : (a b : Bool) → (a ≡ true → b ≡ true) → fresh_of b ≤ fresh_of a
fresh_of_less true true keeps = omega arith
fresh_of_less true false keeps = absurd (false≢true (keeps refl))
fresh_of_less false true keeps = omega arith
fresh_of_less false false keeps = omega arith

module _ (settled front settled' front' : List Chain) (keeps : (q : List ℕ) → known settled front q ≡ true → known settled' front' q ≡ true) where
  fresh_less : (xs : List Membership) → fresh settled' front' xs ≤ fresh settled front xs
  fresh_less [] = omega arith
  fresh_less (x ∷ xs) =
      let here = fresh_of_less (known settled front x.group) (known settled' front' x.group) (keeps x.group) in
      let there = fresh_less xs in
      omega (arith, here, there)

  abbrev FewerIn : List Membership → Type 0
  FewerIn xs = (risen settled front xs ≡ []) ⊎ (fresh settled' front' xs < fresh settled front xs)

  abbrev MeetsAll : List Membership → Type 0
  MeetsAll xs = (q : List ℕ) → has_chain (risen settled front xs) q ≡ true → known settled' front' q ≡ true

  -- with one pair more, of which the group rises or does not
  module _ (x : Membership) (xs : List Membership) (met : MeetsAll (x ∷ xs)) (rest : MeetsAll xs → FewerIn xs) where
    later : MeetsAll xs
    later q has = met q (has_both q (rise settled front x) (risen settled front xs) ∙ or_right (has_chain (rise settled front x) q) _ has)

    stays : rise settled front x ≡ [] → FewerIn (x ∷ xs)
    stays none = elim (rest later) [
      | inl e ↦ inl (ap (λ ys. ys ++ risen settled front xs) none ∙ e)
      | inr lt ↦ let here = fresh_of_less (known settled front x.group) (known settled' front' x.group) (keeps x.group) in inr (omega (arith, here, lt))
    ]

    turns : (o : Option Chain) → chain_to front x.member ≡ o → (b : Bool) → known settled front x.group ≡ b → FewerIn (x ∷ xs)
    turns None e b is = stays (ap (rise_from settled front x.group) e)
    turns (Some c) e true is = stays (ap (rise_from settled front x.group) e ∙ ap (λ b. if b then [] else (above x.group c ∷ [])) is)
    turns (Some c) e false is =
        let up : rise settled front x ≡ above x.group c ∷ [] = ap (rise_from settled front x.group) e ∙ ap (λ b. if b then [] else (above x.group c ∷ [])) is in
        let has : has_chain (risen settled front (x ∷ xs)) x.group ≡ true = has_both x.group (rise settled front x) (risen settled front xs)
        ∙ or_left _ _ (ap (λ ys. has_chain ys x.group) up ∙ or_left (bytes_eq x.group x.group) false (path_itself x.group)) in
        let here : fresh_of (known settled' front' x.group) ≡ 0 = ap fresh_of (met x.group has) in
        let was : fresh_of (known settled front x.group) ≡ 1 = ap fresh_of is in
        let there = fresh_less xs in
        inr (omega (arith, here, was, there))

    next : FewerIn (x ∷ xs)
    next = turns (chain_to front x.member) refl (known settled front x.group) refl

  -- nothing rises, or a pair less is fresh
  fewer : (xs : List Membership) → MeetsAll xs → FewerIn xs
  fewer [] met = inl refl
  fewer (x ∷ xs) met = next x xs met (fewer xs)

-- ---- the search, among listed pairs

module _ (listed : List Membership) (p : List ℕ) where
  abbrev pub pairs : Memberships
  pairs = set_of listed

  -- all chains of at most so many members are met, those at the front have just as many, and of what is settled each group is met
  pub record Climbs (k : ℕ) (settled front : List Chain) : Type 0 where
    pub settled_are : AllByRecursion (IsShortest pairs p) settled
    pub front_are : AllByRecursion (λ (c : Chain). IsShortest pairs p c × (length c.members ≡ k)) front
    pub below : (group : List ℕ) (members : List (List ℕ)) → Descends pairs group members p → length members ≤ k → known settled front group ≡ true
    pub closed : (group member : List ℕ) → IsDirect pairs group member → has_chain settled member ≡ true → known settled front group ≡ true

  pub climbs_begin : Climbs 0 [] (record { group = p; members = [] } ∷ [])
  climbs_begin = record {
    settled_are = tt;
    front_are = ((record { leads = refl; least = λ members d. omega arith }, refl), tt);
    below = begun;
    closed = λ group member pair has. absurd (false≢true has);
  }
    where
      begun : (group : List ℕ) (members : List (List ℕ)) → Descends pairs group members p → length members ≤ 0 → known [] (record { group = p; members = [] } ∷ []) group ≡ true
      begun group [] d le = or_left (bytes_eq p group) false (ap (bytes_eq p) d ∙ path_itself p)
      begun group (m ∷ members) d le = absurd (omega (arith, le))

  -- a listed pair is among the pairs
  listed_is : (group member : List ℕ) → IsDirect pairs group member → list_any (eq_by_cmp membership_cmp (record { group = group; member = member })) listed ≡ true
  listed_is group member pair = sym (set.contains-from_list memberships_total listed (record { group = group; member = member })) ∙ pair

  among : (group member : List ℕ) → list_any (eq_by_cmp membership_cmp (record { group = group; member = member })) listed ≡ true → IsDirect pairs group member
  among group member any = set.contains-from_list memberships_total listed (record { group = group; member = member }) ∙ any

  module _ (k : ℕ) (settled front : List Chain) (so_far : Climbs k settled front) where
    -- the group of a member at the front is met, or rises
    rises : (group member : List ℕ) → has_chain front member ≡ true → known settled front group ≡ false
        → (xs : List Membership) → list_any (eq_by_cmp membership_cmp (record { group = group; member = member })) xs ≡ true → has_chain (risen settled front xs) group ≡ true
    rises group member at unmet [] any = absurd (false≢true any)
    rises group member at unmet (x ∷ xs) any = has_both group (rise settled front x) (risen settled front xs) ∙ elim (or_cases _ _ any) [
      | inl is ↦ or_left _ _ (here (and_parts _ _ (sym (same_membership x (record { group = group; member = member })) ∙ is)))
      | inr later ↦ or_right (has_chain (rise settled front x) group) _ (rises group member at unmet xs later)
    ]
      where
        here : (bytes_eq x.group group ≡ true) × (bytes_eq x.member member ≡ true) → has_chain (rise settled front x) group ≡ true
        here same =
            let g : x.group ≡ group = same_path x.group group same.0 in
            let m : x.member ≡ member = same_path x.member member same.1 in
            let c = found x.member front (ap (has_chain front) m ∙ at) in
            let not_met : known settled front x.group ≡ false = ap (known settled front) g ∙ unmet in
            ap (λ ys. has_chain ys group) (ap (rise_from settled front x.group) c.1 ∙ ap (λ b. if b then [] else (above x.group c.0 ∷ [])) not_met)
            ∙ or_left (bytes_eq x.group group) false same.0

    abbrev pub higher : List Chain
    higher = risen settled front listed

    -- the group of a member that is met is met after the step
    met_next : (group member : List ℕ) → IsDirect pairs group member → known settled front member ≡ true → known (settled ++ front) higher group ≡ true
    met_next group member pair met = elim (cases_Bool (known settled front group)) [
      | inl is ↦ or_left (has_chain (settled ++ front) group) _ (has_both group settled front ∙ is)
      | inr unmet ↦ elim (or_cases (has_chain settled member) (has_chain front member) met) [
        | inl has ↦ absurd (false≢true (sym unmet ∙ so_far.closed group member pair has))
        | inr at ↦ or_right (has_chain (settled ++ front) group) _ (rises group member at unmet listed (listed_is group member pair))
      ]
    ]

    -- what rises is shortest, and has one member more
    rise_is : (x : Membership) → IsDirect pairs x.group x.member → AllByRecursion (λ (c : Chain). IsShortest pairs p c × (length c.members ≡ k + 1)) (rise settled front x)
    rise_is x pair = go (chain_to front x.member) refl (known settled front x.group) refl
      where
        P : Chain → Type 0
        P c = IsShortest pairs p c × (length c.members ≡ k)

        Q : Chain → Type 0
        Q c = IsShortest pairs p c × (length c.members ≡ k + 1)

        go : (o : Option Chain) → chain_to front x.member ≡ o → (b : Bool) → known settled front x.group ≡ b → AllByRecursion Q (rise settled front x)
        go None e b is = subst (AllByRecursion Q) (sym (ap (rise_from settled front x.group) e)) tt
        go (Some c) e true is = subst (AllByRecursion Q) (sym (ap (rise_from settled front x.group) e ∙ ap (λ b. if b then [] else (above x.group c ∷ [])) is)) tt
        go (Some c) e false is = subst (AllByRecursion Q) (sym (ap (rise_from settled front x.group) e ∙ ap (λ b. if b then [] else (above x.group c ∷ [])) is)) ((shortest, longer), tt)
          where
            at : P c × (c.group ≡ x.member)
            at = each_found P x.member c front so_far.front_are e

            longer : length (c.group ∷ c.members) ≡ k + 1
            longer = let h = at.0.1 in omega (arith, h)

            shortest : IsShortest pairs p (above x.group c)
            shortest = record {
              leads = (subst (IsDirect pairs x.group) (sym at.1) pair, at.0.0.leads);
              least = λ members d. elim (cases_lt k (length members)) [
                | inl lt ↦ let h = longer in omega (arith, h, lt)
                | inr le ↦ absurd (false≢true (sym is ∙ so_far.below x.group members d le))
              ];
            }

    risen_are : (xs : List Membership) → AllByRecursion (λ (x : Membership). IsDirect pairs x.group x.member) xs
        → AllByRecursion (λ (c : Chain). IsShortest pairs p c × (length c.members ≡ k + 1)) (risen settled front xs)
    risen_are [] all = tt
    risen_are (x ∷ xs) all = each_both _ (rise settled front x) (risen settled front xs) (rise_is x all.0) (risen_are xs all.1)

    shorts : (xs : List Chain) → AllByRecursion (λ (c : Chain). IsShortest pairs p c × (length c.members ≡ k)) xs → AllByRecursion (IsShortest pairs p) xs
    shorts [] all = tt
    shorts (x ∷ xs) all = (all.0.0, shorts xs all.1)

    pub climbs_on : AllByRecursion (λ (x : Membership). IsDirect pairs x.group x.member) listed → Climbs (k + 1) (settled ++ front) higher
    climbs_on all = record {
      settled_are = each_both _ settled front so_far.settled_are (shorts front so_far.front_are);
      front_are = risen_are listed all;
      below = next;
      closed = λ group member pair has. met_next group member pair (sym (has_both member settled front) ∙ has);
    }
      where
        next : (group : List ℕ) (members : List (List ℕ)) → Descends pairs group members p → length members ≤ k + 1 → known (settled ++ front) higher group ≡ true
        next group [] d le = or_left (has_chain (settled ++ front) group) _ (has_both group settled front ∙ so_far.below group [] d (omega arith))
        next group (m ∷ members) d le = met_next group m d.0 (so_far.below m members d.1 (omega (arith, le)))

    pub keeps_met : (q : List ℕ) → known settled front q ≡ true → known (settled ++ front) higher q ≡ true
    keeps_met q met = or_left (has_chain (settled ++ front) q) _ (has_both q settled front ∙ met)

    -- nothing rises, or a pair less is fresh
    pub less_fresh : (higher ≡ []) ⊎ (fresh (settled ++ front) higher listed < fresh settled front listed)
    less_fresh = fewer settled front (settled ++ front) higher keeps_met listed (λ q has. or_right (has_chain (settled ++ front) q) _ has)

    pub no_more_fresh : fresh (settled ++ front) higher listed ≤ fresh settled front listed
    no_more_fresh = fresh_less settled front (settled ++ front) higher keeps_met listed

  -- where nothing is left at the front, all are met
  pub climbed : (k : ℕ) (settled : List Chain) → Climbs k settled [] → AreChains pairs p settled
  climbed k settled c = record { each = c.settled_are; every = all }
    where
      settles : (q : List ℕ) → known settled [] q ≡ true → has_chain settled q ≡ true
      settles q met = elim (or_cases (has_chain settled q) false met) [ inl has ↦ has | inr none ↦ absurd (false≢true none) ]

      all : (group : List ℕ) (members : List (List ℕ)) → Descends pairs group members p → has_chain settled group ≡ true
      all group [] d = settles group (c.below group [] d (omega arith))
      all group (m ∷ members) d = settles group (c.closed group m d.0 (all m members d.1))

both : (a b : Bool) → a ≡ true → b ≡ true → (a && b) ≡ true
both a b x y = ap (λ c. c && b) x ∙ y

-- each pair of a list is among the pairs of the list
pub each_is_direct : (listed : List Membership) → AllByRecursion (λ (x : Membership). IsDirect (set_of listed) x.group x.member) listed
each_is_direct listed = go listed (λ q any. any)
  where
    go : (xs : List Membership) → ((q : Membership) → list_any (eq_by_cmp membership_cmp q) xs ≡ true → list_any (eq_by_cmp membership_cmp q) listed ≡ true)
        → AllByRecursion (λ (x : Membership). IsDirect (set_of listed) x.group x.member) xs
    go [] within = tt
    go (x ∷ xs) within = (
      set.contains-from_list memberships_total listed x ∙ within x (or_left _ _ (same_membership x x ∙ both _ _ (path_itself x.group) (path_itself x.member))),
      go xs (λ q any. within q (or_right (eq_by_cmp membership_cmp q x) _ any)),
    )
