-- A table of the right shape has the faults of the parts that it spells, and a table without a fault of shape spells parts.
use Rattle.std.proofs.Common.{◌≡◌, ℕ, ◌+◌, List, [], ◌∷◌, ◌++◌, Bool, true, false, cond, ◌&&◌, length, nat_le, is_some, Option, None, Some, option_and_then, option_map, refl, sym, ap, ◌∙◌, subst, arith, append_assoc, append-nil}
use Rattle.std.proofs.lemmas.Bool.{and_from, and_parts}
use Rattle.std.proofs.lemmas.Bool.Decides.{nat_tests}
use Rattle.toml.specs.Data.{Data, Items, no_items, item, Members, no_members, member, as_array, as_str}
use Rattle.book_limits.specs.declared.TheConstants.{MAX_PRIVILEGE_NAMES}
use Rattle.book_policy.specs.Shapes.{action_of, array_of, each, each_after, has_only, label_of, names_in, owner_of, some_names}
use Rattle.book_policy_faults.specs.Values.{is_among, keys_of, mark_of, short_label}
use Rattle.book_policy_faults.specs.Known.{Paths, items_or_none, name_in, rows_of, with_name, with_paths}
use Rattle.book_policy_faults.specs.Placing.{next, placed}
use Rattle.book_policy_faults.specs.Problems.{array_problem, array_with, at_problem, at_with, count, item_problem, item_with, label_problem, label_with, many, mark_problem, name_problem, name_with, names_problem, names_with, owner_problem, owner_with, principal_problem, unless, who_problem, who_with}
use Rattle.book_policy_faults.specs.Tables.{action_problem, items_faults, known_path, names_faults, rows_faults, seen_after, seen_all, spot_at, table_faults, unknown_keys}
use Rattle.book_policy_faults.specs.declared.places.Key.TheVariants as key
use Rattle.book_policy_faults.specs.declared.places.PlacedFault.{PlacedFault}
use Rattle.book_policy_faults.specs.declared.places.Problem.{Problem}
use Rattle.book_policy_faults.specs.declared.places.Problem.TheVariants.{LongLabel, NamesCount, OtherKind, TooMany, UnknownKey}
use Rattle.book_policy_faults.specs.declared.places.Spot.{Spot}
use Rattle.book_policy_faults.specs.declared.places.TableKind.{TableKind}
use Rattle.book_policy_faults.specs.declared.places.TableKind.TheVariants.{Entry}
use Rattle.book_policy_faults.specs.declared.problems.ItemRule.{ItemRule}
use Rattle.book_policy_faults.specs.declared.problems.ItemRule.TheVariants.{Principals, Privileges}
use Rattle.book_policy_faults.specs.declared.tables.Named.{Named}
use Rattle.book_policy_faults.specs.declared.tables.Seen.{Seen}
use Rattle.book_policy.proofs.Free.{Free, Off, free_parts, off_asks, placed_free, rows}

pub none_some : {A P : Type 0} {y : A} → None ≡ Some y → P
none_some e = absurd cc

pub one_some : {A : Type 0} {x y : A} → Some x ≡ Some y → x ≡ y
one_some e = cc

pub and_then_some : {A B : Type 0} (f : A → Option B) (o : Option A) (y : B) → option_and_then f o ≡ Some y → (x : A) × (o ≡ Some x) × (f x ≡ Some y)
and_then_some f None y h = none_some h
and_then_some f (Some x) y h = (x, refl, h)

pub tested : {A : Type 0} (b : Bool) (x : Option A) (y : A) → cond b x None ≡ Some y → (b ≡ true) × (x ≡ Some y)
tested true x y h = (refl, h)
tested false x y h = none_some h

pub some_read : {A : Type 0} (o : Option A) → is_some o ≡ true → (x : A) × (o ≡ Some x)
some_read None h = absurd cc
some_read (Some x) h = (x, refl)

-- ---- keys
abbrev key_spot : TableKind → ℕ → ℕ → Spot
key_spot kind n i = record { kind = kind; number = n; key = key.Itself; item = i }

pub keys_read : (kind : TableKind) (n i : ℕ) (ms : Members) → has_only (keys_of kind) ms ≡ true → unknown_keys kind n i ms ≡ []
keys_read kind n i no_members h = refl
keys_read kind n i (member k d ms) h =
    let both = and_parts (is_among k (keys_of kind)) (has_only (keys_of kind) ms) h in
    λ j. placed (key_spot kind n i) (unless (both.0 j) UnknownKey) ++ keys_read kind n (next i) ms both.1 j

pub keys_free : (kind : TableKind) (n i : ℕ) (ms : Members) → Free 3 (unknown_keys kind n i ms) → has_only (keys_of kind) ms ≡ true
keys_free kind n i no_members h = refl
keys_free kind n i (member k d ms) h =
    let first = placed (key_spot kind n i) (unless (is_among k (keys_of kind)) UnknownKey) in
    let both = free_parts 3 first (unknown_keys kind n (next i) ms) h in
    and_from (is_among k (keys_of kind)) (has_only (keys_of kind) ms)
    (off_asks 3 (is_among k (keys_of kind)) UnknownKey (placed_free 3 (key_spot kind n i) (unless (is_among k (keys_of kind)) UnknownKey) both.0))
    (keys_free kind n (next i) ms both.1)

-- ---- values
text_free : (f : Option (List ℕ) → Option Problem) → (Off 3 (f None) → ⊥) → (o : Option (List ℕ)) → Off 3 (f o) → (t : List ℕ) × (o ≡ Some t)
text_free f none None h = absurd (none h)
text_free f none (Some t) h = (t, refl)

abbrev pub text_in : Option Data → Option (List ℕ)
text_in o = option_and_then as_str o

module _ (m : Paths) where
  pub name_read : (kind : TableKind) (n : ℕ) (o : Option Data) (t : List ℕ) → text_in o ≡ Some t → name_problem m kind n o ≡ name_with m kind n (Some t)
  name_read kind n None t h = none_some h
  name_read kind n (Some d) t h = ap (name_with m kind n) h

  pub name_free : (kind : TableKind) (n : ℕ) (o : Option Data) → Off 3 (name_problem m kind n o) → (t : List ℕ) × (text_in o ≡ Some t)
  name_free kind n None h = absurd (h refl)
  name_free kind n (Some d) h = text_free (name_with m kind n) (λ off. off refl) (as_str d) h

  pub at_read : (o : Option Data) (t : List ℕ) → text_in o ≡ Some t → at_problem m o ≡ at_with m (Some t)
  at_read None t h = none_some h
  at_read (Some d) t h = ap (at_with m) h

  pub at_free : (o : Option Data) → Off 3 (at_problem m o) → (t : List ℕ) × (text_in o ≡ Some t)
  at_free None h = absurd (h refl)
  at_free (Some d) h = text_free (at_with m) (λ off. off refl) (as_str d) h

  pub who_read : (o : Option Data) (t : List ℕ) → text_in o ≡ Some t → who_problem m o ≡ who_with m (Some t)
  who_read None t h = none_some h
  who_read (Some d) t h = ap (who_with m) h

  pub who_free : (o : Option Data) → Off 3 (who_problem m o) → (t : List ℕ) × (text_in o ≡ Some t)
  who_free None h = absurd (h refl)
  who_free (Some d) h = text_free (who_with m) (λ off. off refl) (as_str d) h

  abbrev pub owner_part : Option (List ℕ) → Option Problem
  owner_part None = None
  owner_part (Some t) = principal_problem m t

  owner_text : (o : Option (List ℕ)) (owner : Option (List ℕ)) → option_map (λ text. Some text) o ≡ Some owner → owner_with m o ≡ owner_part owner
  owner_text None owner h = none_some h
  owner_text (Some t) owner h = ap owner_part (one_some h)

  pub owner_read : (o : Option Data) (owner : Option (List ℕ)) → owner_of o ≡ Some owner → owner_problem m o ≡ owner_part owner
  owner_read None owner h = ap owner_part (one_some h)
  owner_read (Some d) owner h = owner_text (as_str d) owner h

  owner_text_free : (o : Option (List ℕ)) → Off 3 (owner_with m o) → (owner : Option (List ℕ)) × (option_map (λ text. Some text) o ≡ Some owner)
  owner_text_free None h = absurd (h refl)
  owner_text_free (Some t) h = (Some t, refl)

  pub owner_free : (o : Option Data) → Off 3 (owner_problem m o) → (owner : Option (List ℕ)) × (owner_of o ≡ Some owner)
  owner_free None h = (None, refl)
  owner_free (Some d) h = owner_text_free (as_str d) h

pub label_read : (o : Option Data) (l : List ℕ) → label_of o ≡ Some l → label_problem o ≡ None
label_read None l h = refl
label_read (Some d) l h = let (t, at, is) = and_then_some short_label (as_str d) l h in ap label_with at ∙ ap (λ x. unless (is_some x) LongLabel) is

label_text : (o : Option (List ℕ)) → Off 3 (label_with o) → (l : List ℕ) × (option_and_then short_label o ≡ Some l)
label_text None h = absurd (h refl)
label_text (Some t) h = some_read (short_label t) (off_asks 3 (is_some (short_label t)) LongLabel h)

pub label_free : (o : Option Data) → Off 3 (label_problem o) → (l : List ℕ) × (label_of o ≡ Some l)
label_free None h = ([], refl)
label_free (Some d) h = label_text (as_str d) h

pub mark_read : (o : Option Data) (b : Bool) → mark_of o ≡ Some b → mark_problem o ≡ None
mark_read o b h = ap (λ x. unless (is_some x) OtherKind) h

pub mark_free : (o : Option Data) → Off 3 (mark_problem o) → (b : Bool) × (mark_of o ≡ Some b)
mark_free o h = some_read (mark_of o) (off_asks 3 (is_some (mark_of o)) OtherKind h)

-- ---- arrays
abbrev pub Reads : {A : Type 0} → (Data → Option A) → Items → List A → Type 0
Reads read no_items [] = Unit {0}
Reads read no_items (x ∷ xs) = ⊥
Reads read (item d ds) [] = ⊥
Reads read (item d ds) (x ∷ xs) = (read d ≡ Some x) × Reads read ds xs

-- what the names of parts add to paths
abbrev pub with_parts : {A : Type 0} → (A → List ℕ) → Paths → TableKind → ℕ → List A → Paths
with_parts name m kind n [] = m
with_parts name m kind n (x ∷ xs) = with_parts name (with_name m kind n (Some (name x))) kind (n + 1) xs

module _ {A : Type 0} (read : Data → Option A) where
  each_reads : (done : List A) (ds : Items) (xs : List A) → each_after read done ds ≡ Some xs → (ys : List A) × (xs ≡ done ++ ys) × Reads read ds ys
  each_reads done no_items xs h = ([], sym (one_some h) ∙ sym (append-nil done), tt)
  each_reads done (item d ds) xs h =
      let (x, at, is) = and_then_some (λ x. each_after read (done ++ x ∷ []) ds) (read d) xs h in
      let (ys, e, r) = each_reads (done ++ x ∷ []) ds xs is in
      (x ∷ ys, e ∙ append_assoc done (x ∷ []) ys, (at, r))

  reads_each : (done : List A) (ds : Items) (ys : List A) → Reads read ds ys → each_after read done ds ≡ Some (done ++ ys)
  reads_each done no_items [] r = ap Some (sym (append-nil done))
  reads_each done no_items (y ∷ ys) r = absurd r
  reads_each done (item d ds) [] r = absurd r
  reads_each done (item d ds) (y ∷ ys) r =
      ap (option_and_then (λ x. each_after read (done ++ x ∷ []) ds)) r.0 ∙ reads_each (done ++ y ∷ []) ds ys r.1 ∙ ap Some (append_assoc done (y ∷ []) ys)

  pub array_reads : (o : Option Data) (xs : List A) → array_of read o ≡ Some xs → Reads read (rows_of o) xs
  array_reads None xs h = subst (λ ys. Reads read no_items ys) (one_some h) tt
  array_reads (Some d) xs h =
      let (ds, at, is) = and_then_some (each_after read []) (as_array d) xs h in
      let (ys, e, r) = each_reads [] ds xs is in
      subst (λ o. Reads read (items_or_none o) xs) (sym at) (subst (λ zs. Reads read ds zs) (sym e) r)

  count_reads : (ds : Items) (xs : List A) → Reads read ds xs → count ds ≡ length xs
  count_reads no_items [] r = refl
  count_reads no_items (x ∷ xs) r = absurd r
  count_reads (item d ds) [] r = absurd r
  count_reads (item d ds) (x ∷ xs) r = let e = count_reads ds xs r.1 in omega (arith, e)

  nothing_many : (most : Option ℕ) → many most 0 ≡ None
  nothing_many None = refl
  nothing_many (Some n) = let e : nat_le 0 n ≡ true = grind (arith, nat_tests) in ap (λ b. unless b TooMany) e

  pub array_is : (o : Option Data) (xs : List A) (most : Option ℕ) → array_of read o ≡ Some xs → array_problem o most ≡ many most (length xs)
  array_is None xs most h = sym (nothing_many most) ∙ ap (λ (ys : List A). many most (length ys)) (one_some h)
  array_is (Some d) xs most h =
      let (ds, at, is) = and_then_some (each_after read []) (as_array d) xs h in
      let (ys, e, r) = each_reads [] ds xs is in
      ap (array_with most) at ∙ ap (many most) (count_reads ds xs (subst (λ zs. Reads read ds zs) (sym e) r))

  array_some : (most : Option ℕ) (o : Option Items) (xs : List A) → Off 3 (array_with most o) → Reads read (items_or_none o) xs
      → option_and_then (each read) o ≡ Some xs
  array_some most None xs h r = absurd (h refl)
  array_some most (Some ds) xs h r = reads_each [] ds xs r

  pub array_free : (o : Option Data) (most : Option ℕ) → Off 3 (array_problem o most) → (xs : List A) × Reads read (rows_of o) xs
      → (xs : List A) × (array_of read o ≡ Some xs)
  array_free None most h it = ([], refl)
  array_free (Some d) most h it = (it.0, array_some most (as_array d) it.0 h it.1)

  -- tables
  module _ (named : Named) (kind : TableKind) where
    pub rows_read : (row : ℕ → A → List PlacedFault) → ((n : ℕ) (d : Data) (x : A) → read d ≡ Some x → table_faults named kind n d ≡ row n x)
        → (n : ℕ) (ds : Items) (xs : List A) → Reads read ds xs → rows_faults named kind n ds ≡ rows row n xs
    rows_read row one n no_items [] r = refl
    rows_read row one n no_items (x ∷ xs) r = absurd r
    rows_read row one n (item d ds) [] r = absurd r
    rows_read row one n (item d ds) (x ∷ xs) r = λ i. one n d x r.0 i ++ rows_read row one (n + 1) ds xs r.1 i

    pub rows_free : ((n : ℕ) (d : Data) → Free 3 (table_faults named kind n d) → (x : A) × (read d ≡ Some x))
        → (n : ℕ) (ds : Items) → Free 3 (rows_faults named kind n ds) → (xs : List A) × Reads read ds xs
    rows_free one n no_items h = ([], tt)
    rows_free one n (item d ds) h =
        let both = free_parts 3 (table_faults named kind n d) (rows_faults named kind (n + 1) ds) h in
        let (x, is) = one n d both.0 in
        let (xs, r) = rows_free one (n + 1) ds both.1 in
        (x ∷ xs, (is, r))

  -- paths
  pub paths_read : (name : A → List ℕ) → ((d : Data) (x : A) → read d ≡ Some x → name_in d ≡ Some (name x))
      → (m : Paths) (kind : TableKind) (n : ℕ) (ds : Items) (xs : List A) → Reads read ds xs → with_paths m kind n ds ≡ with_parts name m kind n xs
  paths_read name one m kind n no_items [] r = refl
  paths_read name one m kind n no_items (x ∷ xs) r = absurd r
  paths_read name one m kind n (item d ds) [] r = absurd r
  paths_read name one m kind n (item d ds) (x ∷ xs) r =
      ap (λ o. with_paths (with_name m kind n o) kind (n + 1) ds) (one d x r.0)
      ∙ paths_read name one (with_name m kind n (Some (name x))) kind (n + 1) ds xs r.1

-- ---- arrays of texts
module _ (m : Paths) where
  abbrev pub texts_faults : ItemRule → Spot → ℕ → List (List ℕ) → List PlacedFault
  texts_faults rule spot i [] = []
  texts_faults rule spot i (t ∷ ts) =
      placed (record { kind = spot.kind; number = spot.number; key = spot.key; item = i }) (item_with m rule (Some t)) ++ texts_faults rule spot (next i) ts

  pub items_read : (rule : ItemRule) (spot : Spot) (i : ℕ) (ds : Items) (ts : List (List ℕ)) → Reads as_str ds ts
      → items_faults m rule spot i ds ≡ texts_faults rule spot i ts
  items_read rule spot i no_items [] r = refl
  items_read rule spot i no_items (t ∷ ts) r = absurd r
  items_read rule spot i (item d ds) [] r = absurd r
  items_read rule spot i (item d ds) (t ∷ ts) r =
      λ j. placed (record { kind = spot.kind; number = spot.number; key = spot.key; item = i }) (item_with m rule (r.0 j))
      ++ items_read rule spot (next i) ds ts r.1 j

  other_item : (rule : ItemRule) → Off 3 (item_with m rule None) → ⊥
  other_item Principals h = h refl
  other_item Privileges h = h refl

  pub items_free : (rule : ItemRule) (spot : Spot) (i : ℕ) (ds : Items) → Free 3 (items_faults m rule spot i ds) → (ts : List (List ℕ)) × Reads as_str ds ts
  items_free rule spot i no_items h = ([], tt)
  items_free rule spot i (item d ds) h =
      let here : Spot = record { kind = spot.kind; number = spot.number; key = spot.key; item = i } in
      let both = free_parts 3 (placed here (item_problem m rule d)) (items_faults m rule spot (next i) ds) h in
      let (t, is) = text_free (item_with m rule) (other_item rule) (as_str d) (placed_free 3 here (item_problem m rule d) both.0) in
      let (ts, r) = items_free rule spot (next i) ds both.1 in
      (t ∷ ts, (is, r))

  abbrev pub seen_texts : Seen → List (List ℕ) → Seen
  seen_texts s [] = s
  seen_texts s (t ∷ ts) = seen_texts (seen_after s (known_path m (Some t))) ts

  pub seen_read : (s : Seen) (ds : Items) (ts : List (List ℕ)) → Reads as_str ds ts → seen_all m s ds ≡ seen_texts s ts
  seen_read s no_items [] r = refl
  seen_read s no_items (t ∷ ts) r = absurd r
  seen_read s (item d ds) [] r = absurd r
  seen_read s (item d ds) (t ∷ ts) r =
      ap (λ o. seen_all m (seen_after s (known_path m o)) ds) r.0 ∙ seen_read (seen_after s (known_path m (Some t))) ds ts r.1

  -- ---- names of privileges
  abbrev some_count : ℕ → Bool
  some_count n = nat_le 1 n && nat_le n MAX_PRIVILEGE_NAMES

  pub names_read : (spot : Spot) (d : Data) (names : List (List ℕ)) → names_in d ≡ Some names → names_faults m spot (Some d) ≡ texts_faults Privileges spot 1 names
  names_read spot d names h =
      let (ns, at, is) = and_then_some some_names (array_of as_str (Some d)) names h in
      let (few, same) = tested (some_count (length ns)) (Some ns) names is in
      let r : Reads as_str (rows_of (Some d)) names = subst (λ (ts : List (List ℕ)). Reads as_str (rows_of (Some d)) ts) (one_some same) (array_reads as_str (Some d) ns at) in
      let fine : names_problem d ≡ None = fine_names (as_array d) ns at few in
      λ i. placed spot (fine i) ++ items_read Privileges spot 1 (rows_of (Some d)) names r i
    where
      fine_names : (o : Option Items) (ns : List (List ℕ)) → option_and_then (each as_str) o ≡ Some ns → some_count (length ns) ≡ true → names_with o ≡ None
      fine_names None ns h few = none_some h
      fine_names (Some ds) ns h few =
          let (ys, e, r) = each_reads as_str [] ds ns h in
          ap (λ n. unless (some_count n) NamesCount) (count_reads as_str ds ns (subst (λ (ts : List (List ℕ)). Reads as_str ds ts) (sym e) r))
          ∙ ap (λ b. unless b NamesCount) few

  pub names_free : (spot : Spot) (d : Data) → Free 3 (names_faults m spot (Some d)) → (names : List (List ℕ)) × (names_in d ≡ Some names)
  names_free spot d h =
      let both = free_parts 3 (placed spot (names_problem d)) (items_faults m Privileges spot 1 (rows_of (Some d))) h in
      let (ts, r) = items_free Privileges spot 1 (rows_of (Some d)) both.1 in
      (ts, by_array (as_array d) ts (placed_free 3 spot (names_problem d) both.0) r)
    where
      by_array : (o : Option Items) (ts : List (List ℕ)) → Off 3 (names_with o) → Reads as_str (items_or_none o) ts
          → option_and_then some_names (option_and_then (each as_str) o) ≡ Some ts
      by_array None ts off r = absurd (off refl)
      by_array (Some ds) ts off r =
          ap (option_and_then some_names) (reads_each as_str [] ds ts r)
          ∙ ap (λ b. cond b (Some ts) None) (ap some_count (sym (count_reads as_str ds ts r)) ∙ off_asks 3 (some_count (count ds)) NamesCount off)

  abbrev pub action_row : ℕ → Bool → List (List ℕ) → List PlacedFault
  action_row n false names = texts_faults Privileges (spot_at Entry n key.Grant) 1 names ++ []
  action_row n true names = texts_faults Privileges (spot_at Entry n key.Deny) 1 names

  abbrev pub action_all : ℕ → Option Data → Option Data → List PlacedFault
  action_all n grant deny =
      placed (spot_at Entry n key.Grant) (action_problem grant deny)
      ++ (names_faults m (spot_at Entry n key.Grant) grant ++ names_faults m (spot_at Entry n key.Deny) deny)

  named_action : (deny : Bool) (o : Option (List (List ℕ))) (a : Bool × List (List ℕ)) → option_map (λ names. (deny, names)) o ≡ Some a
      → (names : List (List ℕ)) × (o ≡ Some names) × (a ≡ (deny, names))
  named_action deny None a h = none_some h
  named_action deny (Some names) a h = (names, refl, sym (one_some h))

  pub action_read : (n : ℕ) (grant deny : Option Data) (a : Bool × List (List ℕ)) → action_of grant deny ≡ Some a → action_all n grant deny ≡ action_row n a.0 a.1
  action_read n None None a h = none_some h
  action_read n (Some g) None a h =
      let (names, at, is) = named_action false (names_in g) a h in
      ap (λ fs. fs ++ []) (names_read (spot_at Entry n key.Grant) g names at) ∙ ap (λ (b : Bool × List (List ℕ)). action_row n b.0 b.1) (sym is)
  action_read n None (Some d) a h =
      let (names, at, is) = named_action true (names_in d) a h in
      names_read (spot_at Entry n key.Deny) d names at ∙ ap (λ (b : Bool × List (List ℕ)). action_row n b.0 b.1) (sym is)
  action_read n (Some g) (Some d) a h = none_some h

  pub action_free : (n : ℕ) (grant deny : Option Data) → Free 3 (action_all n grant deny) → (a : Bool × List (List ℕ)) × (action_of grant deny ≡ Some a)
  action_free n None None h = absurd (h.0 refl)
  action_free n (Some g) None h =
      let (names, is) = names_free (spot_at Entry n key.Grant) g (free_parts 3 (names_faults m (spot_at Entry n key.Grant) (Some g)) [] h).0 in
      ((false, names), ap (option_map (λ ns. (false, ns))) is)
  action_free n None (Some d) h =
      let (names, is) = names_free (spot_at Entry n key.Deny) d h in
      ((true, names), ap (option_map (λ ns. (true, ns))) is)
  action_free n (Some g) (Some d) h = absurd (h.0 refl)
