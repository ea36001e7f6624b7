-- The search for what chains of pairs lead to from some starts: groups from their members.
use Rattle.book_lists.proofs.Common.{◌≡◌, ℕ, ◌+◌, ◌≤◌, Bool, true, false, cond, ◌||◌, List, [], ◌∷◌, ◌++◌, ◌⊎◌, inl, inr, ◌↔◌, refl, sym, ap, subst, ◌∙◌, arith, unwrap_or, Some, is_at, lookup, bytes_eq, false≢true, nat_list_cmp_total, nat_list_eq_equiv, is_eq-slice_cmp, has_path, groups_at, path_cmp}
use Rattle.std.specs.FinSet as set
use Rattle.std.proofs.lemmas.Bool.{or_cases, or_left, or_right}
use Rattle.std.proofs.lemmas.List.Folds.{list_any-append}
use Rattle.book_lists.specs.GroupEntries.{GroupEntries}
use Rattle.book_lists.specs.Memberships.{Memberships, IsDirect, Descends, Chain, Belongs}
use Rattle.book_lists.specs.PrincipalSets.{FromStarts, IsAbove, IsClosure, IsFound, with_paths}
use Rattle.book_lists.proofs.PathSets.{contains-from_paths}
use Rattle.book_lists.proofs.Pairing.{same_path, path_itself}

-- ---- what is found, with one text more
pub found_more : (found : set.FinSet path_cmp) (p q : List ℕ) → set.contains (set.insert found p) q ≡ (bytes_eq p q || set.contains found q)
found_more found p q = set.contains-insert nat_list_cmp_total found p q ∙ ap (λ b. b || set.contains found q) (is_eq-slice_cmp q p ∙ nat_list_eq_equiv.symm q p)

-- ---- some paths more

pub either_first : (a b c : Bool) → (a || (b || c)) ≡ ((b || a) || c)
either_first true true c = refl
either_first true false c = refl
either_first false true c = refl
either_first false false c = refl

pub contains-with_paths : (paths : List (List ℕ)) (found : set.FinSet path_cmp) (q : List ℕ) → set.contains (with_paths paths found) q ≡ (has_path paths q || set.contains found q)
contains-with_paths [] found q = refl
contains-with_paths (p ∷ ps) found q =
    contains-with_paths ps (set.insert found p) q ∙ ap (λ b. has_path ps q || b) (found_more found p q) ∙ either_first (has_path ps q) (bytes_eq p q) (set.contains found q)

-- ---- chains joined

descends_joined : (pairs : Memberships) (q : List ℕ) (xs : List (List ℕ)) (mid : List ℕ) (ys : List (List ℕ)) (p : List ℕ) → Descends pairs q xs mid → Descends pairs mid ys p → Descends pairs q (xs ++ ys) p
descends_joined pairs q [] mid ys p same d = subst (λ g. Descends pairs g ys p) (sym same) d
descends_joined pairs q (x ∷ xs) mid ys p first d = (first.0, descends_joined pairs x xs mid ys p first.1 d)

chain_joined : (pairs : Memberships) (start member q : List ℕ) → Chain pairs member q → Belongs pairs start member → Belongs pairs start q
chain_joined pairs start member q chain (inl same) = inr (subst (λ m. Chain pairs m q) (sym same) chain)
chain_joined pairs start member q chain (inr first) =
    inr (chain.0, chain.1 ++ first.0 ∷ first.1, (chain.2.0, descends_joined pairs chain.0 chain.1 member (first.0 ∷ first.1) start chain.2.1 first.2))

module _ (pairs : Memberships) (starts : List (List ℕ)) where
  -- found, or still to be looked at
  abbrev pub IsReached : set.FinSet path_cmp → List (List ℕ) → List ℕ → Type 0
  IsReached found work q = (set.contains found q ≡ true) ⊎ (has_path work q ≡ true)

  -- a search so far: it began at the start, reaches only what the start belongs to, and of what is found it has reached
  -- the groups
  pub record Searches (found : set.FinSet path_cmp) (work : List (List ℕ)) : Type 0 where
    pub begun : (s : List ℕ) → has_path starts s ≡ true → IsReached found work s
    pub sound : (q : List ℕ) → IsReached found work q → FromStarts pairs starts q
    pub closed : (group member : List ℕ) → IsDirect pairs group member → set.contains found member ≡ true → IsReached found work group

  pub search_begins : Searches set.empty starts
  search_begins = record {
    begun = λ s has. inr has;
    sound = λ q r. from_start q r;
    closed = λ group member direct has. absurd (false≢true (sym (set.contains-empty path_cmp member) ∙ has));
  }
    where
      from_start : (q : List ℕ) → IsReached set.empty starts q → FromStarts pairs starts q
      from_start q (inl has) = absurd (false≢true (sym (set.contains-empty path_cmp q) ∙ has))
      from_start q (inr has) = (q, has, inl refl)

  module _ (found : set.FinSet path_cmp) (work : List (List ℕ)) (member : List ℕ) where
    split : (q : List ℕ) → has_path (work ++ member ∷ []) q ≡ true → (has_path work q ≡ true) ⊎ (bytes_eq member q ≡ true)
    split q has = elim (or_cases (has_path work q) (bytes_eq member q || false) (sym (list_any-append (λ p. bytes_eq p q) work (member ∷ [])) ∙ has)) [
      | inl old ↦ inl old
      | inr new ↦ elim (or_cases (bytes_eq member q) false new) [ inl same ↦ inr same | inr never ↦ absurd (false≢true never) ]
    ]

    in_work : has_path (work ++ member ∷ []) member ≡ true
    in_work = list_any-append (λ p. bytes_eq p member) work (member ∷ []) ∙ or_right (has_path work member) _ (or_left _ _ (path_itself member))

    still_in_work : (q : List ℕ) → has_path work q ≡ true → has_path (work ++ member ∷ []) q ≡ true
    still_in_work q has = list_any-append (λ p. bytes_eq p q) work (member ∷ []) ∙ or_left _ _ has

    -- the last text of the work is found already
    pub seen_again : set.contains found member ≡ true → Searches found (work ++ member ∷ []) → Searches found work
    seen_again there s = record {
      begun = λ q has. kept q (s.begun q has);
      sound = λ q r. s.sound q (wider q r);
      closed = λ group p direct has. kept group (s.closed group p direct has);
    }
      where
        kept : (q : List ℕ) → IsReached found (work ++ member ∷ []) q → IsReached found work q
        kept q (inl has) = inl has
        kept q (inr has) = elim (split q has) [
          | inl old ↦ inr old
          | inr same ↦ inl (ap (set.contains found) (sym (same_path member q same)) ∙ there)
        ]

        wider : (q : List ℕ) → IsReached found work q → IsReached found (work ++ member ∷ []) q
        wider q (inl has) = inl has
        wider q (inr has) = inr (still_in_work q has)

    -- it is new: it is found, and its groups are work
    pub seen_first : (added : List (List ℕ)) → ((q : List ℕ) → (has_path added q ≡ true) ↔ IsDirect pairs q member)
        → Searches found (work ++ member ∷ []) → Searches (set.insert found member) (work ++ added)
    seen_first added direct s = record {
      begun = λ q has. kept q (s.begun q has);
      sound = λ q r. reached q r;
      closed = λ group p pair has. elim (or_cases _ _ (sym (found_more found member p) ∙ has)) [
        | inl same ↦ inr (of_added group ((direct group).1 (ap (λ m. set.contains pairs (record { group = group; member = m })) (same_path member p same) ∙ pair)))
        | inr old ↦ kept group (s.closed group p pair old)
      ];
    }
      where
        of_added : (q : List ℕ) → has_path added q ≡ true → has_path (work ++ added) q ≡ true
        of_added q has = list_any-append (λ p. bytes_eq p q) work added ∙ or_right (has_path work q) (has_path added q) has

        of_work : (q : List ℕ) → has_path work q ≡ true → has_path (work ++ added) q ≡ true
        of_work q has = list_any-append (λ p. bytes_eq p q) work added ∙ or_left (has_path work q) (has_path added q) has

        kept : (q : List ℕ) → IsReached found (work ++ member ∷ []) q → IsReached (set.insert found member) (work ++ added) q
        kept q (inl has) = inl (found_more found member q ∙ or_right (bytes_eq member q) _ has)
        kept q (inr has) = elim (split q has) [
          | inl old ↦ inr (of_work q old)
          | inr same ↦ inl (found_more found member q ∙ or_left (bytes_eq member q) _ same)
        ]

        belongs : FromStarts pairs starts member
        belongs = s.sound member (inr in_work)

        joined_to : (start q : List ℕ) → IsDirect pairs q member → Belongs pairs start member → Belongs pairs start q
        joined_to start q pair (inl same) = inr (member, [], (pair, sym same))
        joined_to start q pair (inr chain) = inr (member, chain.0 ∷ chain.1, (pair, chain.2))

        joined : (q : List ℕ) → IsDirect pairs q member → FromStarts pairs starts member → FromStarts pairs starts q
        joined q pair from = (from.0, from.1, joined_to from.0 q pair from.2)

        reached : (q : List ℕ) → IsReached (set.insert found member) (work ++ added) q → FromStarts pairs starts q
        reached q (inl has) = elim (or_cases _ _ (sym (found_more found member q) ∙ has)) [
          | inl same ↦ let B : List ℕ → Type 0 = FromStarts pairs starts in rw (← same_path member q same) belongs
          | inr old ↦ s.sound q (inl old)
        ]
        reached q (inr has) = elim (or_cases (has_path work q) (has_path added q) (sym (list_any-append (λ p. bytes_eq p q) work added) ∙ has)) [
          | inl old ↦ s.sound q (inr (still_in_work q old))
          | inr new ↦ joined q ((direct q).0 new) belongs
        ]

    -- it is new, and all groups above it are known: it is found, and they are
    module _ (paths : List (List ℕ)) (above : IsAbove pairs member (set.from_list paths)) where
      abbrev whole : set.FinSet path_cmp
      whole = with_paths paths (set.insert found member)

      has_whole : (q : List ℕ) → set.contains whole q ≡ (has_path paths q || (bytes_eq member q || set.contains found q))
      has_whole q = contains-with_paths paths (set.insert found member) q ∙ ap (λ b. has_path paths q || b) (found_more found member q)

      in_paths : (q : List ℕ) → Chain pairs member q → set.contains whole q ≡ true
      in_paths q chain = has_whole q ∙ or_left (has_path paths q) _ (sym (contains-from_paths paths q) ∙ (above q).1 chain)

      still_found : (q : List ℕ) → set.contains found q ≡ true → set.contains whole q ≡ true
      still_found q has = has_whole q ∙ or_right (has_path paths q) _ (or_right (bytes_eq member q) _ has)

      now_found : (q : List ℕ) → bytes_eq member q ≡ true → set.contains whole q ≡ true
      now_found q same = has_whole q ∙ or_right (has_path paths q) _ (or_left (bytes_eq member q) _ same)

      left_over : (q : List ℕ) → IsReached found (work ++ member ∷ []) q → IsReached whole work q
      left_over q (inl has) = inl (still_found q has)
      left_over q (inr has) = elim (split q has) [ inl old ↦ inr old | inr same ↦ inl (now_found q same) ]

      reached_member : Searches found (work ++ member ∷ []) → FromStarts pairs starts member
      reached_member s = s.sound member (inr in_work)

      whole_sound : Searches found (work ++ member ∷ []) → (q : List ℕ) → IsReached whole work q → FromStarts pairs starts q
      whole_sound s q (inr has) = s.sound q (inr (still_in_work q has))
      whole_sound s q (inl has) = elim (or_cases (has_path paths q) (bytes_eq member q || set.contains found q) (sym (has_whole q) ∙ has)) [
        | inl in_list ↦ let from = reached_member s in (from.0, from.1, chain_joined pairs from.0 member q ((above q).0 (contains-from_paths paths q ∙ in_list)) from.2)
        | inr rest ↦ elim (or_cases (bytes_eq member q) (set.contains found q) rest) [
          | inl same ↦ subst (FromStarts pairs starts) (same_path member q same) (reached_member s)
          | inr old ↦ s.sound q (inl old)
        ]
      ]

      whole_closed : Searches found (work ++ member ∷ []) → (group p : List ℕ) → IsDirect pairs group p → set.contains whole p ≡ true → IsReached whole work group
      whole_closed s group p pair has = elim (or_cases (has_path paths p) (bytes_eq member p || set.contains found p) (sym (has_whole p) ∙ has)) [
        | inl in_list ↦ let chain = (above p).0 (contains-from_paths paths p ∙ in_list) in inl (in_paths group (p, chain.0 ∷ chain.1, (pair, chain.2)))
        | inr rest ↦ elim (or_cases (bytes_eq member p) (set.contains found p) rest) [
          | inl same ↦ inl (in_paths group (p, [], (pair, sym (same_path member p same))))
          | inr old ↦ left_over group (s.closed group p pair old)
        ]
      ]

      pub seen_whole : Searches found (work ++ member ∷ []) → Searches whole work
      seen_whole s = record {
        begun = λ q has. left_over q (s.begun q has);
        sound = whole_sound s;
        closed = whole_closed s;
      }

  -- with no work left exactly what chains lead to from the starts is found
  pub search_ends : (found : set.FinSet path_cmp) → Searches found [] → (q : List ℕ) → (set.contains found q ≡ true) ↔ FromStarts pairs starts q
  search_ends found s q = (λ has. s.sound q (inl has), λ b. all b.0 q b.1 b.2)
    where
      only : (p : List ℕ) → IsReached found [] p → set.contains found p ≡ true
      only p (inl has) = has
      only p (inr never) = absurd (false≢true never)

      climbs : (start : List ℕ) → has_path starts start ≡ true → (group : List ℕ) (members : List (List ℕ)) → Descends pairs group members start → set.contains found group ≡ true
      climbs start is group [] same = ap (set.contains found) same ∙ only start (s.begun start is)
      climbs start is group (member ∷ members) d = only group (s.closed group member d.0 (climbs start is member members d.1))

      all : (start q : List ℕ) → has_path starts start ≡ true → Belongs pairs start q → set.contains found q ≡ true
      all start q is (inl same) = ap (set.contains found) (sym same) ∙ only start (s.begun start is)
      all start q is (inr chain) = climbs start is q (chain.0 ∷ chain.1) chain.2

-- from one start: exactly the principals to which it belongs
pub found_alone : (pairs : Memberships) (start : List ℕ) (found : set.FinSet path_cmp) → IsFound pairs (start ∷ []) found → IsClosure pairs start found
found_alone pairs start found is q = (
  λ has. from_it ((is q).0 has),
  λ belongs. (is q).1 (start, or_left (bytes_eq start start) false (path_itself start), belongs),
)
  where
    from_it : FromStarts pairs (start ∷ []) q → Belongs pairs start q
    from_it (s, has, belongs) = elim (or_cases (bytes_eq start s) false has) [
      | inl same ↦ let B : List ℕ → Type 0 = λ p. Belongs pairs p q in rw (same_path start s same) belongs
      | inr never ↦ absurd (false≢true never)
    ]

-- who is a direct member of no group belongs to itself alone
pub alone : (pairs : Memberships) (p : List ℕ) → ((group : List ℕ) → IsDirect pairs group p → ⊥) → (q : List ℕ) → (set.contains (set.insert (set.empty {R = path_cmp}) p) q ≡ true) ↔ Belongs pairs p q
alone pairs p none = found_alone pairs p (set.insert set.empty p) (search_ends pairs (p ∷ []) (set.insert set.empty p) (seen_first pairs (p ∷ []) set.empty [] p [] (λ q. (λ never. absurd (false≢true never), λ direct. absurd (none q direct))) (search_begins pairs (p ∷ []))))

pub contains_alone : (p q : List ℕ) → set.contains (set.insert (set.empty {R = path_cmp}) p) q ≡ bytes_eq p q
contains_alone p q = found_more set.empty p q ∙ ap (λ b. bytes_eq p q || b) (set.contains-empty path_cmp q) ∙ or_false (bytes_eq p q)
  where
    or_false : (b : Bool) → (b || false) ≡ b
    or_false true = refl
    or_false false = refl

-- ---- the search ends: the groups of a member are added to the work once
-- how many groups the members that are not found have
abbrev pub ahead : GroupEntries → set.FinSet path_cmp → ℕ
ahead [] found = 0
ahead (e ∷ es) found = cond (set.contains found e.0) 0 (set.len e.1) + ahead es found

module _ (found : set.FinSet path_cmp) (member : List ℕ) where
  -- what one entry has ahead does not grow
  entry_falls : (k : List ℕ) (n : ℕ) → cond (set.contains (set.insert found member) k) 0 n ≤ cond (set.contains found k) 0 n
  entry_falls k n = go (set.contains found k) (set.contains (set.insert found member) k) (λ h. found_more found member k ∙ or_right (bytes_eq member k) _ h)
    where
      go : (was is : Bool) → (was ≡ true → is ≡ true) → cond is 0 n ≤ cond was 0 n
      go true true h = omega arith
      go true false h = absurd (false≢true (h refl))
      go false true h = omega arith
      go false false h = omega arith

  ahead_falls : (es : GroupEntries) → ahead es (set.insert found member) ≤ ahead es found
  ahead_falls [] = omega arith
  ahead_falls (e ∷ es) =
      let ih = ahead_falls es in
      let here = entry_falls e.0 (set.len e.1) in
      omega (arith, ih, here)

  -- nor with more paths
  pub ahead_kept : (es : GroupEntries) → ahead es (set.insert found member) ≤ ahead es found
  ahead_kept es = ahead_falls es

  -- the groups of a principal that is new are spent
  pub ahead_spent : (es : GroupEntries) → set.contains found member ≡ false → ahead es (set.insert found member) + set.len (groups_at es member) ≤ ahead es found
  ahead_spent [] new = let none : set.len (set.empty {R = path_cmp}) ≡ 0 = set.len-empty path_cmp in omega (arith, none)
  ahead_spent (e ∷ es) new = go (ahead_spent es new) (is_at (path_cmp member) e.0) refl
    where
      go : ahead es (set.insert found member) + set.len (groups_at es member) ≤ ahead es found → (b : Bool) → is_at (path_cmp member) e.0 ≡ b
          → cond (set.contains (set.insert found member) e.0) 0 (set.len e.1) + ahead es (set.insert found member) + set.len (unwrap_or (cond b (Some e.1) (lookup (is_at (path_cmp member)) es)) set.empty)
          ≤ cond (set.contains found e.0) 0 (set.len e.1) + ahead es found
      go ih true tie =
          let eq : bytes_eq member e.0 ≡ true = sym (is_eq-slice_cmp member e.0) ∙ tie in
          let same : member ≡ e.0 = same_path member e.0 eq in
          let is : ◌≡◌ {A = ℕ} (cond (set.contains (set.insert found member) e.0) 0 (set.len e.1)) 0 = ap (λ b. cond b 0 (set.len e.1)) (found_more found member e.0 ∙ or_left _ _ eq) in
          let was : ◌≡◌ {A = ℕ} (cond (set.contains found e.0) 0 (set.len e.1)) (set.len e.1) = ap (λ b. cond b 0 (set.len e.1)) (ap (set.contains found) (sym same) ∙ new) in
          let rest = ahead_falls es in
          omega (arith, is, was, rest)
      go ih false tie =
          let here = entry_falls e.0 (set.len e.1) in
          omega (arith, ih, here)

pub ahead_whole : (es : GroupEntries) (paths : List (List ℕ)) (found : set.FinSet path_cmp) → ahead es (with_paths paths found) ≤ ahead es found
ahead_whole es [] found = omega arith
ahead_whole es (p ∷ ps) found =
    let rest = ahead_whole es ps (set.insert found p) in
    let one = ahead_kept found p es in
    omega (arith, rest, one)
