-- Links of one card more, names of one card more, and sets of one text more.
use Rattle.book_office_members.proofs.Common.{◌≡◌, inl, inr, ℕ, true, cond, ◌||◌, List, [], ◌∷◌, ◌++◌, map, Option, Some, None, unwrap_or, sym, ap, ◌∙◌, refl, nat_list_cmp_total, insert, has_path, pairs_in, groups_at, path_cmp, NamesTo, names_at, AreNamesOf, CardRef}
use Rattle.std.proofs.Common.{Bool, false, ◌&&◌, filter, if◌then◌else◌}
use Rattle.std.proofs.lemmas.Option.{none-some}
use Rattle.std.proofs.lemmas.Cmp.{nat_list_eq_equiv}
use Rattle.std.proofs.lemmas.List.{append-nil}
use Rattle.std.proofs.lemmas.List.Folds.{list_any-append}
use Rattle.std.proofs.lemmas.Map.Text.{is_eq-slice_cmp}
use Rattle.std.specs.BTreeMap.{is_at}
use Rattle.std.specs.FinMap.{get, remove}
use Rattle.std.specs.FinSet as set
use Rattle.std.specs.List.Sorted.{IsStrictlySortedBy}
use Rattle.std.specs.Map.{lookup, keys_of}
use Rattle.std.specs.Str.{bytes_eq}
use Rattle.book_lists.specs.GroupEntries.{GroupEntries}
use Rattle.book_lists.proofs.GroupLists.{contains-pairs_in}
use Rattle.book_lists.proofs.Pairing.{path_itself, same_path}
use Rattle.book_office_values.proofs.NameMapLaws.{put_at, put_back}
use Rattle.book_office_members.specs.Reaching.{line_by, pushed_at, uid_among}
use Rattle.book_office_members.specs.Steps.{has_uid, is_uid, member_line, names_with}
use Rattle.book_office_members.specs.declared.members.MemberLine.{MemberLine}

-- one text more in a set
pub text_more : (old now new : set.FinSet path_cmp) (texts : List (List ℕ)) (text : List ℕ)
    → ((q : List ℕ) → set.contains now q ≡ (has_path texts q || set.contains old q)) → new ≡ set.insert now text
    → (q : List ℕ) → set.contains new q ≡ (has_path (texts ++ text ∷ []) q || set.contains old q)
text_more old now new texts text before is q =
    ap (λ s. set.contains s q) is
    ∙ set.contains-insert nat_list_cmp_total now text q
    ∙ (λ i. (is_eq-slice_cmp q text ∙ nat_list_eq_equiv.symm q text) i || before q i)
    ∙ turned (bytes_eq text q) (has_path texts q) (set.contains old q)
    ∙ ap (λ b. b || set.contains old q) (sym (list_any-append (λ p. bytes_eq p q) texts (text ∷ [])))
  where
    turned : (a b c : Bool) → (a || (b || c)) ≡ ((b || (a || false)) || c)
    turned true true c = refl
    turned true false c = refl
    turned false true c = refl
    turned false false c = refl

-- a text's targets that were taken out and are put back with more
pub targets_more : (old new : GroupEntries) → IsStrictlySortedBy path_cmp (keys_of old) → IsStrictlySortedBy path_cmp (keys_of new)
    → (start : List ℕ) (ends : List (List ℕ)) (targets : set.FinSet path_cmp)
    → ((q : List ℕ) → set.contains targets q ≡ (has_path ends q || set.contains (groups_at old start) q))
    → ((q : List ℕ) → lookup (is_at (path_cmp q)) new ≡ cond (is_at (path_cmp start) q) (Some targets) (lookup (is_at (path_cmp q)) old))
    → (to from : List ℕ) → set.contains (pairs_in new) (record { group = to; member = from })
    ≡ ((bytes_eq start from && has_path ends to) || set.contains (pairs_in old) (record { group = to; member = from }))
targets_more old new sorted sorted' start ends targets are updated to from =
    contains-pairs_in new sorted' to from
    ∙ ap (λ o. set.contains (unwrap_or o set.empty) to) (updated from ∙ ap (λ b. cond b (Some targets) (lookup (is_at (path_cmp from)) old)) (is_eq-slice_cmp start from))
    ∙ at (bytes_eq start from) refl
    ∙ ap (λ b. (bytes_eq start from && has_path ends to) || b) (sym (contains-pairs_in old sorted to from))
  where
    at : (b : Bool) → bytes_eq start from ≡ b
        → set.contains (unwrap_or (cond b (Some targets) (lookup (is_at (path_cmp from)) old)) set.empty) to ≡ ((b && has_path ends to) || set.contains (groups_at old from) to)
    at true is = are to ∙ ap (λ s. has_path ends to || set.contains (groups_at old s) to) (same_path start from is)
    at false is = refl

-- ---- names by UID
-- a list that was taken out and is put back with one name more
pub pushed_back : (m taken new : NamesTo (List (List ℕ))) (uid name : List ℕ) (found : Option (List (List ℕ))) (names : List (List ℕ))
    → found ≡ get m uid → names ≡ unwrap_or found [] → taken ≡ remove m uid → new ≡ insert taken uid (names ++ name ∷ []) → new ≡ pushed_at m uid name
pushed_back m taken new uid name found names there is was put =
    put ∙ (λ i. insert (was i) uid ((is ∙ ap (λ r. unwrap_or r []) there) i ++ name ∷ [])) ∙ put_back m uid (names_at m uid ++ name ∷ [])

name_pushed : (m : NamesTo (List (List ℕ))) (uid name : List ℕ) (q : List ℕ) → names_at (pushed_at m uid name) q ≡ names_at m q ++ cond (bytes_eq uid q) (name ∷ []) []
name_pushed m uid name q =
    ap (λ r. unwrap_or r []) (put_at m uid (names_at m uid ++ name ∷ []) q ∙ ap (λ b. cond b (Some (names_at m uid ++ name ∷ [])) (get m q)) (is_eq-slice_cmp q uid ∙ nat_list_eq_equiv.symm q uid))
    ∙ by_same_text
  where
    by_same_text : unwrap_or (cond (bytes_eq uid q) (Some (names_at m uid ++ name ∷ [])) (get m q)) [] ≡ names_at m q ++ cond (bytes_eq uid q) (name ∷ []) []
    by_same_text = elim (bytes_eq uid q) as (λ b. bytes_eq uid q ≡ b → unwrap_or (cond b (Some (names_at m uid ++ name ∷ [])) (get m q)) [] ≡ names_at m q ++ cond b (name ∷ []) []) [
      | true ↦ λ is. ap (λ t. names_at m t ++ name ∷ []) (same_path uid q is)
      | false ↦ λ _. sym (append-nil (names_at m q))
    ] refl

-- the names of one card more
names_with_more : (cards : List CardRef) (card : CardRef) (q : List ℕ)
    → names_with (cards ++ card ∷ []) q ≡ names_with cards q ++ cond (has_uid q card) (card.name ∷ []) []
names_with_more [] card q = elim (has_uid q card) as (λ b. map (λ (c : CardRef). c.name) (cond b (card ∷ []) []) ≡ cond b (card.name ∷ []) []) [ true ↦ refl | false ↦ refl ]
names_with_more (c ∷ cs) card q =
    elim (has_uid q c) as (λ b. map (λ (c : CardRef). c.name) (cond b (c ∷ filter (has_uid q) (cs ++ card ∷ [])) (filter (has_uid q) (cs ++ card ∷ [])))
    ≡ map (λ (c : CardRef). c.name) (cond b (c ∷ filter (has_uid q) cs) (filter (has_uid q) cs)) ++ cond (has_uid q card) (card.name ∷ []) []) [
      | true ↦ ap (λ r. c.name ∷ r) (names_with_more cs card q)
      | false ↦ names_with_more cs card q
    ]

-- a card without this UID, and one that has another or this
pub index_same : (index : NamesTo (List (List ℕ))) (cards : List CardRef) (card : CardRef) (uid : List ℕ) → has_uid uid card ≡ false
    → names_at index uid ≡ names_with cards uid → names_at index uid ≡ names_with (cards ++ card ∷ []) uid
index_same index cards card uid apart before =
    before ∙ sym (append-nil (names_with cards uid))
    ∙ sym (names_with_more cards card uid ∙ ap (λ b. names_with cards uid ++ cond b (card.name ∷ []) []) apart)

pub index_more : (index new : NamesTo (List (List ℕ))) (cards : List CardRef) (card : CardRef) (u uid : List ℕ) → card.uid ≡ Some u → new ≡ pushed_at index u card.name
    → names_at index uid ≡ names_with cards uid → names_at new uid ≡ names_with (cards ++ card ∷ []) uid
index_more index new cards card u uid some is before =
    ap (λ m. names_at m uid) is ∙ name_pushed index u card.name uid ∙ ap (λ r. r ++ cond (bytes_eq u uid) (card.name ∷ []) []) before
    ∙ sym (names_with_more cards card uid ∙ ap (λ (o : Option (List ℕ)). names_with cards uid ++ cond (has_uid uid (record { name = card.name; uid = o; members = card.members })) (card.name ∷ []) []) some)

-- a UID that is wanted is the card's
pub wanted_is : (wanted : set.FinSet path_cmp) (uid : Option (List ℕ)) (u : List ℕ) → uid_among wanted uid ≡ Some u → uid ≡ Some u
wanted_is wanted None u e = e
wanted_is wanted (Some v) u e =
    elim (set.contains wanted v) as (λ b. (if b then Some v else None) ≡ Some u → Some v ≡ Some u) [ true ↦ λ h. h | false ↦ λ h. absurd (none-some u h) ] e

-- where none is, the card has no UID that is wanted
pub unwanted : (wanted : set.FinSet path_cmp) (uid : Option (List ℕ)) (q : List ℕ) → uid_among wanted uid ≡ None → set.contains wanted q ≡ true → is_uid q uid ≡ false
unwanted wanted None q e is = refl
unwanted wanted (Some v) q e is =
    elim (bytes_eq v q) as (λ b. bytes_eq v q ≡ b → b ≡ false) [
      | true ↦ λ same. absurd (none-some v (sym (ap (λ b. if b then Some v else None) (sym (ap (set.contains wanted) (same_path v q same) ∙ is)) ∙ e)))
      | false ↦ λ _. refl
    ] refl

-- lines by a map that has the names at their values
pub lines_by : (index : NamesTo (List (List ℕ))) (cards : List CardRef) (values : List (List ℕ))
    → ((q : List ℕ) → has_path values q ≡ true → names_at index q ≡ names_with cards q) → map (line_by index) values ≡ map (member_line cards) values
lines_by index cards [] same = refl
lines_by index cards (v ∷ vs) same =
    λ i. record { value = v; names = same v (ap (λ b. b || has_path vs v) (path_itself v)) i } ∷ lines_by index cards vs (λ q has. same q (ap (λ b. bytes_eq v q || b) has ∙ or_true (bytes_eq v q))) i
  where
    or_true : (b : Bool) → (b || true) ≡ true
    or_true true = refl
    or_true false = refl

-- ---- names of one card more
module _ (Fact : CardRef → Type 0) where
  pub names_more : (cards : List CardRef) (names : List (List ℕ)) (card : CardRef) → AreNamesOf Fact cards names → Fact card
      → AreNamesOf Fact (cards ++ card ∷ []) (names ++ card.name ∷ [])
  names_more [] [] card h fact = inl (fact, refl, tt)
  names_more [] (n ∷ ns) card h fact = absurd h
  names_more (c ∷ cs) [] card h fact = inr (h.0, names_more cs [] card h.1 fact)
  names_more (c ∷ cs) (n ∷ ns) card (inl h) fact = inl (h.0, h.1, names_more cs ns card h.2 fact)
  names_more (c ∷ cs) (n ∷ ns) card (inr h) fact = inr (h.0, names_more cs (n ∷ ns) card h.1 fact)

  pub names_same : (cards : List CardRef) (names : List (List ℕ)) (card : CardRef) → AreNamesOf Fact cards names → (Fact card → ⊥)
      → AreNamesOf Fact (cards ++ card ∷ []) names
  names_same [] [] card h not = (not, tt)
  names_same [] (n ∷ ns) card h not = absurd h
  names_same (c ∷ cs) [] card h not = (h.0, names_same cs [] card h.1 not)
  names_same (c ∷ cs) (n ∷ ns) card (inl h) not = inl (h.0, h.1, names_same cs ns card h.2 not)
  names_same (c ∷ cs) (n ∷ ns) card (inr h) not = inr (h.0, names_same cs (n ∷ ns) card h.1 not)
