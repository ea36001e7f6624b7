-- Searches along direct memberships: how they begin, go on and end.
use Rattle.std.proofs.Common.{◌≡◌, inl, inr, ◌⊎◌, ℕ, ◌+◌, ◌<◌, ◌≤◌, Bool, true, false, ◌&&◌, ◌||◌, List, [], ◌∷◌, ◌++◌, take, length, get_or, refl, sym, ap, subst, ◌∙◌, true≢false}
use mathlib.Core.Bool.{or-false, or_comm, and-false}
use Rattle.std.proofs.lemmas.Bool.{false≢true, or_cases, or_left, or_right}
use Rattle.std.proofs.lemmas.List.{take_all}
use Rattle.std.proofs.lemmas.List.Folds.{list_any-append, list_any_more}
use Rattle.std.specs.FinSet as set
use Rattle.std.specs.FinSet.{contains-empty, contains-from_list, contains-insert}
use Rattle.std.specs.List.{list_any}
use Rattle.std.specs.Ordering.{eq_by_cmp}
use Rattle.std.specs.Str.{bytes_eq}
use Rattle.book_lists.proofs.Elements.{tied}
use Rattle.book_lists.proofs.Pairing.{memberships_exact, memberships_total, same_path, path_itself}
use Rattle.book_lists.proofs.Searches.{found_more}
use Rattle.book_lists.specs.Circles.{has_path}
use Rattle.book_lists.specs.Memberships.{Memberships, membership_cmp, set_of}
use Rattle.book_lists.specs.Principals.{path_cmp}
use Rattle.book_lists.specs.declared.memberships.Membership.{Membership}
use Rattle.book_tables.specs.Searching.{Adds, Takes, ArePairsAt, Searches, HasSearched, near_end, far_end}
use Rattle.book_tables.specs.declared.searching.Search.{Search}
use Rattle.book_tables.specs.declared.searching.Way.{Way}

-- ---- one path more

pub turned : (p q : List ℕ) → bytes_eq p q ≡ bytes_eq q p
turned p q = go (bytes_eq p q) (bytes_eq q p) refl refl
  where
    go : (a b : Bool) → bytes_eq p q ≡ a → bytes_eq q p ≡ b → bytes_eq p q ≡ bytes_eq q p
    go true b e f = e ∙ sym (ap (bytes_eq q) (same_path p q e) ∙ path_itself q)
    go false true e f = absurd (true≢false (sym (ap (bytes_eq p) (same_path q p f) ∙ path_itself p) ∙ e))
    go false false e f = e ∙ sym f

pub one_path_more : (paths : List (List ℕ)) (p q : List ℕ) → has_path (paths ++ p ∷ []) q ≡ (has_path paths q || bytes_eq p q)
one_path_more paths p q = list_any-append (λ x. bytes_eq x q) paths (p ∷ []) ∙ ap (λ b. has_path paths q || b) (or-false (bytes_eq p q))

-- ---- the pairs of a list, one after another

-- those so far were added
abbrev pub AreAdded : Way → List Membership → ℕ → Memberships → Memberships → List (List ℕ) → List (List ℕ) → Type 0
AreAdded way list i old new work after = Adds way (λ m. list_any (eq_by_cmp membership_cmp m) (take i list)) old new work after

same_pair : (m e : Membership) → eq_by_cmp membership_cmp m e ≡ true → m ≡ e
same_pair m e same = memberships_exact m e (tied _ same)

pub none_added : (way : Way) (list : List Membership) (pairs : Memberships) (work : List (List ℕ)) → AreAdded way list 0 pairs pairs work work
none_added way list pairs work = record {
  pairs = λ m. refl;
  kept = λ q has. has;
  come = λ m none. absurd (false≢true none);
}

module _ (way : Way) (list : List Membership) (i : ℕ) (e : Membership) (below : i < length list) (is : get_or list i e ≡ e) where
  any_more : (m : Membership) → list_any (eq_by_cmp membership_cmp m) (take (i + 1) list) ≡ (list_any (eq_by_cmp membership_cmp m) (take i list) || eq_by_cmp membership_cmp m e)
  any_more m = list_any_more (eq_by_cmp membership_cmp m) list i e below ∙ ap (λ x. list_any (eq_by_cmp membership_cmp m) (take i list) || eq_by_cmp membership_cmp m x) is

  pub one_more_added : (old mid new : Memberships) (work before after : List (List ℕ)) → new ≡ set.insert mid e → after ≡ before ++ far_end way e ∷ [] → AreAdded way list i old mid work before
      → AreAdded way list (i + 1) old new work after
  one_more_added old mid new work before after added pushed a = record {
    pairs = λ m.
        ap (λ (ps : Memberships). set.contains ps m) added ∙ contains-insert memberships_total mid e m ∙ ap (λ b. eq_by_cmp membership_cmp m e || b) (a.pairs m)
        ∙ in_turn (eq_by_cmp membership_cmp m e) (list_any (eq_by_cmp membership_cmp m) (take i list)) (set.contains old m)
        ∙ ap (λ b. b || set.contains old m) (sym (any_more m));
    kept = λ q has. has_more q ∙ or_left (has_path before q) _ (a.kept q has);
    come = λ m there. has_more (far_end way m) ∙ elim (or_cases _ _ (sym (any_more m) ∙ there)) [
      | inl old ↦ or_left (has_path before (far_end way m)) _ (a.come m old)
      | inr same ↦ or_right (has_path before (far_end way m)) _ (ap (λ x. bytes_eq (far_end way e) (far_end way x)) (same_pair m e same) ∙ path_itself (far_end way e))
    ];
  }
    where
      has_more : (q : List ℕ) → has_path after q ≡ (has_path before q || bytes_eq (far_end way e) q)
      has_more q = ap (λ ps. has_path ps q) pushed ∙ one_path_more before (far_end way e) q

      in_turn : (x y z : Bool) → (x || (y || z)) ≡ ((y || x) || z)
      in_turn true true z = refl
      in_turn true false z = refl
      in_turn false true z = refl
      in_turn false false z = refl

pub all_added : (way : Way) (list : List Membership) (i : ℕ) → length list ≤ i → (old new : Memberships) (work after : List (List ℕ)) → AreAdded way list i old new work after
    → Adds way (λ m. list_any (eq_by_cmp membership_cmp m) list) old new work after
all_added way list i past old new work after a = subst (λ l. Adds way (λ m. list_any (eq_by_cmp membership_cmp m) l) old new work after) (take_all i list past) a

-- ---- a search

module _ (direct : Memberships) (way : Way) (starts : List (List ℕ)) where
  pub begins : (s : Search) → s.all.items ≡ [] → s.met ≡ set.empty → s.pairs ≡ set.empty → s.work.items ≡ starts → Searches direct way starts s
  begins s all met pairs work = record {
    listed = λ q. ap (λ ps. has_path ps q) all ∙ sym (none q);
    started = λ q has. inr (ap (λ ps. has_path ps q) work ∙ has);
    pairs_are = λ m. ap (λ (ps : Memberships). set.contains ps m) pairs ∙ contains-empty membership_cmp m ∙ sym (ap (λ b. set.contains direct m && b) (none (near_end way m)) ∙ and-false _);
    closed = λ m there has. absurd (true≢false (sym has ∙ none (near_end way m)));
  }
    where
      none : (q : List ℕ) → set.contains s.met q ≡ false
      none q = ap (λ (ps : set.FinSet path_cmp). set.contains ps q) met ∙ contains-empty path_cmp q

  -- the same, in other memory
  pub searches_as : (s new : Search) → new.all.items ≡ s.all.items → new.met ≡ s.met → new.pairs ≡ s.pairs → new.work.items ≡ s.work.items → Searches direct way starts s → Searches direct way starts new
  searches_as s new all met pairs work searches = record {
    listed = λ q. ap (λ ps. has_path ps q) all ∙ searches.listed q ∙ sym (is_met q);
    started = λ q has. either q (searches.started q has);
    pairs_are = λ m. ap (λ (ps : Memberships). set.contains ps m) pairs ∙ searches.pairs_are m ∙ ap (λ b. set.contains direct m && b) (sym (is_met (near_end way m)));
    closed = λ m there has. either (far_end way m) (searches.closed m there (sym (is_met (near_end way m)) ∙ has));
  }
    where
      is_met : (q : List ℕ) → set.contains new.met q ≡ set.contains s.met q
      is_met q = ap (λ (ps : set.FinSet path_cmp). set.contains ps q) met

      either : (q : List ℕ) → (set.contains s.met q ≡ true) ⊎ (has_path s.work.items q ≡ true) → (set.contains new.met q ≡ true) ⊎ (has_path new.work.items q ≡ true)
      either q (inl has) = inl (is_met q ∙ has)
      either q (inr has) = inr (ap (λ ps. has_path ps q) work ∙ has)

  module _ (s : Search) (rest : List (List ℕ)) (next : List ℕ) (popped : s.work.items ≡ rest ++ next ∷ []) (searches : Searches direct way starts s) where
    in_work : (q : List ℕ) → has_path s.work.items q ≡ true → (has_path rest q ≡ true) ⊎ (next ≡ q)
    in_work q has = elim (or_cases (has_path rest q) (bytes_eq next q) (sym (ap (λ ps. has_path ps q) popped ∙ one_path_more rest next q) ∙ has)) [
      | inl there ↦ inl there
      | inr same ↦ inr (same_path next q same)
    ]

    -- the principal was met before
    module _ (new : Search) (all : new.all.items ≡ s.all.items) (met : new.met ≡ s.met) (pairs : new.pairs ≡ s.pairs) (work : new.work.items ≡ rest) (seen : set.contains s.met next ≡ true) where
      is_met : (q : List ℕ) → set.contains new.met q ≡ set.contains s.met q
      is_met q = ap (λ (ps : set.FinSet path_cmp). set.contains ps q) met

      still : (q : List ℕ) → (set.contains s.met q ≡ true) ⊎ (has_path s.work.items q ≡ true) → (set.contains new.met q ≡ true) ⊎ (has_path new.work.items q ≡ true)
      still q (inl has) = inl (is_met q ∙ has)
      still q (inr has) = elim (in_work q has) [
        | inl there ↦ inr (ap (λ ps. has_path ps q) work ∙ there)
        | inr same ↦ inl (is_met q ∙ subst (λ p. set.contains s.met p ≡ true) same seen)
      ]

      pub passes_over : Searches direct way starts new
      passes_over = record {
        listed = λ q. ap (λ ps. has_path ps q) all ∙ searches.listed q ∙ sym (is_met q);
        started = λ q has. still q (searches.started q has);
        pairs_are = λ m. ap (λ (ps : Memberships). set.contains ps m) pairs ∙ searches.pairs_are m ∙ ap (λ b. set.contains direct m && b) (sym (is_met (near_end way m)));
        closed = λ m there has. still (far_end way m) (searches.closed m there (sym (is_met (near_end way m)) ∙ has));
      }

    -- it is met now, and its pairs are taken over
    module _ (mid new : Search) (all : mid.all.items ≡ s.all.items) (met : mid.met ≡ s.met) (pairs : mid.pairs ≡ s.pairs) (work : mid.work.items ≡ rest) (here : Memberships) (at : ArePairsAt direct way next here)
        (takes : Takes way next here mid new) where
      now_met : (q : List ℕ) → set.contains new.met q ≡ (bytes_eq next q || set.contains s.met q)
      now_met q = ap (λ (ps : set.FinSet path_cmp). set.contains ps q) (takes.met ∙ ap (λ (ps : set.FinSet path_cmp). set.insert ps next) met) ∙ found_more s.met next q

      kept : (q : List ℕ) → (set.contains s.met q ≡ true) ⊎ (has_path s.work.items q ≡ true) → (set.contains new.met q ≡ true) ⊎ (has_path new.work.items q ≡ true)
      kept q (inl has) = inl (now_met q ∙ or_right (bytes_eq next q) _ has)
      kept q (inr has) = elim (in_work q has) [
        | inl there ↦ inr (takes.adds.kept q (ap (λ ps. has_path ps q) work ∙ there))
        | inr same ↦ inl (now_met q ∙ or_left (bytes_eq next q) _ (ap (bytes_eq next) (sym same) ∙ path_itself next))
      ]

      its : (m : Membership) → set.contains direct m ≡ true → bytes_eq next (near_end way m) ≡ true → set.contains here m ≡ true
      its m there same = at m ∙ (λ i. there i && (ap (bytes_eq (near_end way m)) (same_path next (near_end way m) same) ∙ path_itself (near_end way m)) i)

      pub takes_over : Searches direct way starts new
      takes_over = record {
        listed = λ q.
            ap (λ ps. has_path ps q) (takes.all ∙ ap (λ ps. ps ++ next ∷ []) all) ∙ one_path_more s.all.items next q ∙ ap (λ b. b || bytes_eq next q) (searches.listed q)
            ∙ or_comm (set.contains s.met q) (bytes_eq next q) ∙ sym (now_met q);
        started = λ q has. kept q (searches.started q has);
        pairs_are = λ m.
            takes.adds.pairs m ∙ (λ i. at m i || (ap (λ (ps : Memberships). set.contains ps m) pairs ∙ searches.pairs_are m) i)
            ∙ shared (set.contains direct m) (bytes_eq (near_end way m) next) (set.contains s.met (near_end way m))
            ∙ ap (λ b. set.contains direct m && b) (ap (λ b. b || set.contains s.met (near_end way m)) (turned (near_end way m) next) ∙ sym (now_met (near_end way m)));
        closed = λ m there has. elim (or_cases _ _ (sym (now_met (near_end way m)) ∙ has)) [
          | inl same ↦ inr (takes.adds.come m (its m there same))
          | inr old ↦ kept (far_end way m) (searches.closed m there old)
        ];
      }
        where
          shared : (d a b : Bool) → ((d && a) || (d && b)) ≡ (d && (a || b))
          shared true a b = refl
          shared false a b = refl

  -- one that is done has met each start, and whatever pairs lead to from those that it has met
  module _ (s : Search) (has : HasSearched direct way starts s) where
    none_left : (q : List ℕ) → has_path s.work.items q ≡ true → ⊥
    none_left q there = false≢true (ap (λ ps. has_path ps q) (sym has.done) ∙ there)

    pub starts_met : (q : List ℕ) → has_path starts q ≡ true → set.contains s.met q ≡ true
    starts_met q start = elim (has.searches.started q start) [ inl met ↦ met | inr there ↦ absurd (none_left q there) ]

    pub all_closed : (m : Membership) → set.contains direct m ≡ true → set.contains s.met (near_end way m) ≡ true → set.contains s.met (far_end way m) ≡ true
    all_closed m there near = elim (has.searches.closed m there near) [ inl met ↦ met | inr left ↦ absurd (none_left (far_end way m) left) ]

-- the pairs of a list are those of a set
pub adds_set : (way : Way) (list : List Membership) (here : Memberships) → set_of list ≡ here → (old new : Memberships) (work after : List (List ℕ)) → Adds way (λ m. list_any (eq_by_cmp membership_cmp m) list) old new work after
    → Adds way (λ m. set.contains here m) old new work after
adds_set way list here is old new work after a =
    let listed : (m : Membership) → list_any (eq_by_cmp membership_cmp m) list ≡ set.contains here m = λ m. sym (contains-from_list memberships_total list m) ∙ ap (λ (ps : Memberships). set.contains ps m) is in
    record {
      pairs = λ m. a.pairs m ∙ ap (λ b. b || set.contains old m) (listed m);
      kept = a.kept;
      come = λ m there. a.come m (listed m ∙ there);
    }
