-- Members of a group and entries of a list: what is counted is how many there are.
use Rattle.std.proofs.Common.{◌≡◌, ◌≢◌, ◌↔◌, ◌≤◌, ◌<◌, ◌+◌, ◌-◌, ◌^◌, ℕ, min, List, [], ◌∷◌, ◌++◌, Bool, true, false, cond, if◌then◌else◌, not, ◌&&◌, ◌||◌, ◌==◌, nat_le, is_some, map, length, length-append, Option, None, Some, unwrap_or, inl, inr, refl, sym, ap, ◌∙◌, subst, arith}
use Rattle.std.specs.List.{AllByRecursion, list_any}
use Rattle.std.specs.FinMap.{empty, get, insert, get-empty}
use Rattle.std.specs.FinSet as set
use Rattle.std.specs.FinSet.{contains-empty, contains-insert, len-empty, len-insert}
use Rattle.std.specs.Ordering.{eq_by_cmp}
use Rattle.std.proofs.lemmas.Bool.{eq-eqb, false_from_ne_true, false≢true, leb-true, le-leb, ne_eqb, not_from_true}
use Rattle.book_limits.specs.declared.TheConstants.{MAX_ENTRIES, MAX_MEMBERS}
use Rattle.book_lists.specs.Names.{name_cmp}
use Rattle.book_lists.specs.Memberships.{Memberships, membership_cmp}
use Rattle.book_lists.specs.declared.entries.Entry.{Entry}
use Rattle.book_lists.specs.declared.memberships.Membership.{Membership}
use Rattle.book_lists.proofs.Decided.{number_or_not, text_or_not}
use Rattle.book_lists.proofs.Pairing.{memberships_total, path_itself, same_membership}
use Rattle.book_office_values.specs.Names.{NamesTo}
use Rattle.book_office_values.proofs.OneName.{put_elsewhere, put_here}
use Rattle.book_policy.specs.Rules.{entry_part}
use Rattle.book_policy.specs.declared.parts.EntryText.{EntryText}
use Rattle.book_policy_values.specs.Policies.{direct, entries_at, entry_of, list_at, paired, spelled}
use Rattle.book_policy_values.specs.Reading.{EntriesFit, pushed_at, with_entry}
use Rattle.book_policy_values.proofs.Lists.{AreShort, are_listed, entries_fit, lists_short}
use Rattle.book_policy_values.proofs.Members.{tied}
use Rattle.book_policy_faults.specs.Known.{Paths}
use Rattle.book_policy_faults.specs.Placing.{next}
use Rattle.book_policy_faults.specs.Tables.{count_in, counted_at, counted_place, known_path, noted_full, seen_path, seen_after}
use Rattle.book_policy_faults.specs.declared.tables.Counts.{Counts}
use Rattle.book_policy_faults.specs.declared.tables.Seen.{Seen}
use Rattle.book_policy.proofs.Free.{Rows}
use Rattle.book_policy.proofs.Read.{seen_texts}
use Rattle.book_policy.proofs.Rows.{distinct_texts, no_paths}
use Rattle.book_policy.proofs.Tabled.{counted_parts, full_of, no_counts}

-- ---- members of a group
abbrev most : ℕ
most = 2 ^ 64 - 1

one_step : (c l k : ℕ) → c ≡ min l k → min (c + 1) k ≡ min (l + 1) k
one_step c l k e = omega (arith, e)

module _ (group : List ℕ) where
  abbrev pair : List ℕ → Membership
  pair q = record { group = group; member = q }

  record SeenAs (s : Seen) (pairs : Memberships) : Type 0 where
    there : (q : List ℕ) → is_some (get s.paths q) ≡ set.contains pairs (pair q)
    many : s.count ≡ min (set.len pairs) most

  same_pair : (q : List ℕ) → eq_by_cmp membership_cmp (pair q) (pair q) ≡ true
  same_pair q = same_membership (pair q) (pair q) ∙ (λ i. path_itself group i && path_itself q i)

  other_pair : (q path : List ℕ) → q ≢ path → eq_by_cmp membership_cmp (pair q) (pair path) ≡ false
  other_pair q path apart = false_from_ne_true _ (λ h. apart (ap (λ (x : Membership). x.member) (sym (tied (pair q) (pair path) h))))

  now_there : (pairs : Memberships) (path q : List ℕ) → set.contains (set.insert pairs (pair path)) (pair q) ≡ (eq_by_cmp membership_cmp (pair q) (pair path) || set.contains pairs (pair q))
  now_there pairs path q = contains-insert memberships_total pairs (pair path) (pair q)

  seen_step : (s : Seen) (pairs : Memberships) (path : List ℕ) → SeenAs s pairs → SeenAs (seen_path s path) (set.insert pairs (pair path))
  seen_step s pairs path h = record {
    there = λ q. elim (text_or_not q path) [
      | inl same ↦
          ap is_some (ap (get (insert s.paths path true)) same ∙ put_here s.paths path true)
          ∙ sym (ap (λ x. set.contains (set.insert pairs (pair path)) (pair x)) same
          ∙ now_there pairs path path ∙ ap (λ b. b || set.contains pairs (pair path)) (same_pair path))
      | inr apart ↦
          ap is_some (put_elsewhere s.paths path true q apart) ∙ h.there q
          ∙ sym (now_there pairs path q ∙ ap (λ b. b || set.contains pairs (pair q)) (other_pair q path apart))
    ];
    many = ap (λ b. if b then s.count else next s.count) (h.there path)
        ∙ counted (set.contains pairs (pair path)) ∙ ap (λ n. min n most) (sym (len-insert memberships_total pairs (pair path)));
  }
    where
      counted : (b : Bool) → (if b then s.count else next s.count) ≡ min (cond b (set.len pairs) (set.len pairs + 1)) most
      counted true = h.many
      counted false = one_step s.count (set.len pairs) most h.many

  seen_all_as : (m : Paths) (s : Seen) (pairs : Memberships) (ts : List (List ℕ)) → AllByRecursion (λ t. known_path m (Some t) ≡ Some (spelled t)) ts → SeenAs s pairs
      → SeenAs (seen_texts m s ts) (paired pairs (direct group ts))
  seen_all_as m s pairs [] known h = h
  seen_all_as m s pairs (t ∷ ts) known h =
      subst (λ o. SeenAs (seen_texts m (seen_after s o) ts) (paired pairs (direct group (t ∷ ts)))) (sym known.0)
      (seen_all_as m (seen_path s (spelled t)) (set.insert pairs (pair (spelled t))) ts known.1 (seen_step s pairs (spelled t) h))

  none_seen : SeenAs no_paths set.empty
  none_seen = record {
    there = λ q. ap is_some (get-empty name_cmp q) ∙ sym (contains-empty membership_cmp (pair q));
    many = ap (λ n. min n most) (sym (len-empty membership_cmp));
  }

  pub members_few : (m : Paths) (ts : List (List ℕ)) → AllByRecursion (λ t. known_path m (Some t) ≡ Some (spelled t)) ts
      → (nat_le (distinct_texts m ts) MAX_MEMBERS ≡ true) ↔ (set.len (paired set.empty (direct group ts)) ≤ MAX_MEMBERS)
  members_few m ts known =
      let h = seen_all_as m no_paths set.empty ts known none_seen in
      let all : distinct_texts m ts ≡ min (set.len (paired set.empty (direct group ts))) most = h.many in (
        λ e. let few = leb-true (distinct_texts m ts) MAX_MEMBERS e in omega (arith, few, all),
        λ few. let short : distinct_texts m ts ≤ MAX_MEMBERS = omega (arith, few, all) in le-leb (distinct_texts m ts) MAX_MEMBERS short,
      )

-- ---- entries of a list
abbrev Tied : Counts → NamesTo (List Entry) → NamesTo (List Entry) → Type 0
Tied c p o = (b : Bool) (q : List ℕ) → (count_in (cond b c.protected c.own) q ≡ length (list_at (cond b p o) q)) × (length (list_at (cond b p o) q) ≤ MAX_ENTRIES)

next_small : (k : ℕ) → k < MAX_ENTRIES → next k ≡ k + 1
next_small k h = omega (arith, h)

put_tied : (counts : NamesTo ℕ) (ls : NamesTo (List Entry)) (path : List ℕ) (entry : Entry)
    → ((q : List ℕ) → (count_in counts q ≡ length (list_at ls q)) × (length (list_at ls q) ≤ MAX_ENTRIES)) → length (list_at ls path) < MAX_ENTRIES
    → (q : List ℕ) → (count_in (insert counts path (next (count_in counts path))) q ≡ length (list_at (pushed_at ls path entry) q))
    × (length (list_at (pushed_at ls path entry) q) ≤ MAX_ENTRIES)
put_tied counts ls path entry same room q = elim (text_or_not q path) [
  | inl is ↦ subst (λ x. (count_in (insert counts path (next (count_in counts path))) x ≡ length (list_at (pushed_at ls path entry) x))
      × (length (list_at (pushed_at ls path entry) x) ≤ MAX_ENTRIES)) (sym is) here
  | inr apart ↦
      let count : count_in (insert counts path (next (count_in counts path))) q ≡ count_in counts q =
      ap (λ o. unwrap_or o 0) (put_elsewhere counts path (next (count_in counts path)) q apart) in
      let list : length (list_at (pushed_at ls path entry) q) ≡ length (list_at ls q) =
      ap (λ o. length (unwrap_or o [])) (put_elsewhere ls path (list_at ls path ++ entry ∷ []) q apart) in
      let old = same q in
      (count ∙ old.0 ∙ sym list, omega (arith, list, old.1))
]
  where
    here : (count_in (insert counts path (next (count_in counts path))) path ≡ length (list_at (pushed_at ls path entry) path))
        × (length (list_at (pushed_at ls path entry) path) ≤ MAX_ENTRIES)
    here =
        let k = count_in counts path in
        let l = list_at ls path in
        let count : count_in (insert counts path (next k)) path ≡ next k = ap (λ o. unwrap_or o 0) (put_here counts path (next k)) in
        let list : length (list_at (pushed_at ls path entry) path) ≡ length (l ++ entry ∷ []) = ap (λ o. length (unwrap_or o [])) (put_here ls path (l ++ entry ∷ [])) in
        let more : length (l ++ entry ∷ []) ≡ length l + 1 = length-append l (entry ∷ []) in
        let old : k ≡ length l = (same path).0 in
        let small : next k ≡ k + 1 = next_small k (omega (arith, old, room)) in
        (count ∙ small ∙ ap (λ n. n + 1) old ∙ sym more ∙ sym list, omega (arith, list, more, room))

tied_put : (c : Counts) (p o : NamesTo (List Entry)) (n : ℕ) (b : Bool) (path : List ℕ) (entry : Entry) → Tied c p o
    → length (list_at (cond b p o) path) < MAX_ENTRIES
    → Tied (counted_at c n b path) (with_entry true p (record { at = path; protected = b; entry = entry })) (with_entry false o (record { at = path; protected = b; entry = entry }))
tied_put c p o n true path entry h room true q = put_tied c.protected p path entry (h true) room q
tied_put c p o n true path entry h room false q = h false q
tied_put c p o n false path entry h room true q = h true q
tied_put c p o n false path entry h room false q = put_tied c.own o path entry (h false) room q

abbrev Holds : ℕ → List ℕ → Type 0
Holds k ks = list_any (λ x. x == k) ks ≡ true

holds_more : (k : ℕ) (ks ls : List ℕ) → Holds k ks → Holds k (ks ++ ls)
holds_more k [] ls h = absurd (false≢true h)
holds_more k (x ∷ ks) ls h = elim (x == k) as (λ b. (b || list_any (λ y. y == k) ks) ≡ true → (b || list_any (λ y. y == k) (ks ++ ls)) ≡ true) [
  | true ↦ λ _. refl
  | false ↦ λ rest. holds_more k ks ls rest
] h

holds_last : (k : ℕ) (ks : List ℕ) → Holds k (ks ++ k ∷ [])
holds_last k [] = ap (λ b. b || false) (eq-eqb k k refl)
holds_last k (x ∷ ks) = elim (x == k) as (λ b. (b || list_any (λ y. y == k) (ks ++ k ∷ [])) ≡ true) [ true ↦ refl | false ↦ holds_last k ks ]

noted_kept : (k : ℕ) (full : List ℕ) (n count : ℕ) → Holds k full → Holds k (noted_full full n count)
noted_kept k full n count h = elim (count == MAX_ENTRIES) as (λ b. Holds k (if b then full ++ n ∷ [] else full)) [ true ↦ holds_more k full (n ∷ []) h | false ↦ h ]

noted_here : (full : List ℕ) (n count : ℕ) → count ≡ MAX_ENTRIES → Holds n (noted_full full n count)
noted_here full n count e = subst (λ b. Holds n (if b then full ++ n ∷ [] else full)) (sym (eq-eqb count MAX_ENTRIES e)) (holds_last n full)

not_noted : (full : List ℕ) (n count : ℕ) → count < MAX_ENTRIES → noted_full full n count ≡ full
not_noted full n count h = ap (λ b. if b then full ++ n ∷ [] else full) (ne_eqb count MAX_ENTRIES (λ e. omega (arith, e, h)))

module _ (c : Counts) (n : ℕ) (path : List ℕ) where
  full_at : (b : Bool) → full_of (counted_at c n b path) ≡ noted_full c.full n (count_in (cond b c.protected c.own) path)
  full_at true = refl
  full_at false = refl

module _ (m : Paths) where
  full_kept : (k : ℕ) (c : Counts) (n : ℕ) (es : List EntryText) → Holds k c.full → Holds k (full_of (counted_parts m c n es))
  full_kept k c n [] h = h
  full_kept k c n (e ∷ es) h = full_kept k (counted_place c n e.protected (known_path m (Some e.at))) (n + 1) es (kept (known_path m (Some e.at)))
    where
      kept : (o : Option (List ℕ)) → Holds k (full_of (counted_place c n e.protected o))
      kept None = h
      kept (Some path) =
          subst (Holds k) (sym (full_at c n path e.protected)) (noted_kept k c.full n (count_in (cond e.protected c.protected c.own) path) h)

  abbrev pub ArePlaced : List EntryText → Type 0
  ArePlaced es = AllByRecursion (λ (e : EntryText). known_path m (Some e.at) ≡ Some (spelled e.at)) es

  none_full : (c : Counts) (p o : NamesTo (List Entry)) (n : ℕ) (es : List EntryText) → Tied c p o → ArePlaced es
      → EntriesFit (λ _. Unit {0}) p o (map entry_part es) → full_of (counted_parts m c n es) ≡ c.full
  none_full c p o n [] h placed fit = refl
  none_full c p o n (e ∷ es) h placed fit =
      let path = spelled e.at in
      let part = entry_of (entry_part e) in
      let room : length (list_at (cond e.protected p o) path) < MAX_ENTRIES = fit.1 in
      let count : count_in (cond e.protected c.protected c.own) path < MAX_ENTRIES = (let same = (h e.protected path).0 in omega (arith, same, room)) in
      ap (λ q. full_of (counted_parts m (counted_place c n e.protected q) (n + 1) es)) placed.0
      ∙ none_full (counted_at c n e.protected path) (with_entry true p part) (with_entry false o part) (n + 1) es
      (tied_put c p o n e.protected path part.entry h room) placed.1 fit.2
      ∙ full_at c n path e.protected ∙ not_noted c.full n (count_in (cond e.protected c.protected c.own) path) count

  abbrev pub NotFull : List ℕ → ℕ → EntryText → Type 0
  NotFull full n e = not (list_any (λ k. k == n) full) ≡ true

  all_fit : (full : List ℕ) (c : Counts) (p o : NamesTo (List Entry)) (n : ℕ) (es : List EntryText) → Tied c p o → ArePlaced es
      → full_of (counted_parts m c n es) ≡ full → Rows (NotFull full) n es → EntriesFit (λ _. Unit {0}) p o (map entry_part es)
  all_fit full c p o n [] h placed is rows = tt
  all_fit full c p o n (e ∷ es) h placed is rows =
      let path = spelled e.at in
      let part = entry_of (entry_part e) in
      let count = count_in (cond e.protected c.protected c.own) path in
      let after = counted_at c n e.protected path in
      let same = h e.protected path in
      let end : full_of (counted_parts m after (n + 1) es) ≡ full = sym (ap (λ q. full_of (counted_parts m (counted_place c n e.protected q) (n + 1) es)) placed.0) ∙ is in
      let room : length (list_at (cond e.protected p o) path) < MAX_ENTRIES = elim (number_or_not count MAX_ENTRIES) [
        | inl most ↦
            let noted : Holds n (full_of after) = subst (Holds n) (sym (full_at c n path e.protected)) (noted_here c.full n count most) in
            let late : Holds n full = subst (Holds n) end (full_kept n after (n + 1) es noted) in
            absurd (false≢true (sym (not_from_true _ late) ∙ rows.0))
        | inr other ↦
            let apart : length (list_at (cond e.protected p o) path) ≢ MAX_ENTRIES = λ k. other (same.0 ∙ k) in
            below (length (list_at (cond e.protected p o) path)) MAX_ENTRIES same.1 apart
      ] in
      (tt, room, all_fit full after (with_entry true p part) (with_entry false o part) (n + 1) es (tied_put c p o n e.protected path part.entry h room) placed.1 end rows.1)
    where
      below : (k l : ℕ) → k ≤ l → k ≢ l → k < l
      below k l le ne = elim (number_or_not k l) [ inl e ↦ absurd (ne e) | inr _ ↦ omega (arith, le, ne) ]

  abbrev no_list : NamesTo (List Entry)
  no_list = empty

  abbrev no_count : NamesTo ℕ
  no_count = empty

  nothing_at : (q : List ℕ) → (count_in no_count q ≡ length (list_at no_list q)) × (length (list_at no_list q) ≤ MAX_ENTRIES)
  nothing_at q =
      let count : count_in no_count q ≡ 0 = ap (λ o. unwrap_or o 0) (get-empty name_cmp q) in
      let list : length (list_at no_list q) ≡ 0 = ap (λ (o : Option (List Entry)). length (unwrap_or o [])) (get-empty name_cmp q) in
      (count ∙ sym list, omega (arith, list))

  nothing_tied : Tied no_counts no_list no_list
  nothing_tied true q = nothing_at q
  nothing_tied false q = nothing_at q

  none_short : AreShort empty
  none_short q = rw (get-empty name_cmp q) (omega arith)

  abbrev AreFew : List EntryText → Type 0
  AreFew es = (b : Bool) (at : List ℕ) → length (entries_at b at (map entry_of (map entry_part es))) ≤ MAX_ENTRIES

  pub few_full : (es : List EntryText) → ArePlaced es → AreFew es → full_of (counted_parts m no_counts 1 es) ≡ []
  few_full es placed few =
      let listed = are_listed (map entry_of (map entry_part es)) in
      none_full no_counts empty empty 1 es nothing_tied placed
      (entries_fit (λ _. Unit {0}) empty empty (map entry_part es) (λ k d within. tt) (λ q. rw (listed.protected_lists q) (few true q)) (λ q. rw (listed.own_lists q) (few false q)))

  pub full_few : (es : List EntryText) → ArePlaced es → Rows (NotFull (full_of (counted_parts m no_counts 1 es))) 1 es → AreFew es
  full_few es placed rows =
      let listed = are_listed (map entry_of (map entry_part es)) in
      let fit = all_fit (full_of (counted_parts m no_counts 1 es)) no_counts empty empty 1 es nothing_tied placed refl rows in
      let short = lists_short (λ _. Unit {0}) empty empty (map entry_part es) none_short none_short fit in
      by_list (λ q. rw (← listed.protected_lists q) (short.0 q)) (λ q. rw (← listed.own_lists q) (short.1 q))
    where
      by_list : ((at : List ℕ) → length (entries_at true at (map entry_of (map entry_part es))) ≤ MAX_ENTRIES)
          → ((at : List ℕ) → length (entries_at false at (map entry_of (map entry_part es))) ≤ MAX_ENTRIES) → AreFew es
      by_list p o true = p
      by_list p o false = o
