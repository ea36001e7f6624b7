-- The faults of the tables of a text, row by row, and the parts that they spell.
use Rattle.std.proofs.Common.{◌≡◌, ℕ, List, [], ◌++◌, Bool, false, cond, nat_le, codes, Option, None, Some, option_and_then, unwrap_or, refl, ap, ◌∙◌}
use Rattle.std.specs.FinMap.{empty}
use Rattle.toml.specs.Data.{Data, Members, get_member, as_str, as_table}
use Rattle.book_limits.specs.declared.TheConstants.{MAX_MEMBERS}
use Rattle.book_policy.specs.Shapes.{action_of, array_of, book_in, book_of, book_with, entry_in, entry_text_of, entry_with, group_in, group_of, group_with, has_only, label_of, owner_of, person_in, person_of, person_with, text_at}
use Rattle.book_policy_faults.specs.Values.{keys_of, mark_of}
use Rattle.book_policy.specs.declared.parts.EntryText.{EntryText}
use Rattle.book_policy_faults.specs.declared.places.TableKind.{TableKind}
use Rattle.book_policy_faults.specs.declared.places.TableKind.TheVariants.{Person, Group, Book, Entry}
use Rattle.book_policy_values.specs.declared.parts.BookPart.{BookPart}
use Rattle.book_policy_values.specs.declared.parts.GroupPart.{GroupPart}
use Rattle.book_policy_values.specs.declared.parts.PersonPart.{PersonPart}
use Rattle.book_policy_faults.specs.Known.{Paths, name_in, name_of_members, rows_of}
use Rattle.book_policy_faults.specs.Placing.{placed}
use Rattle.book_policy_faults.specs.Problems.{array_problem, at_problem, at_with, label_problem, mark_problem, name_problem, name_with, owner_problem, unless, who_problem, who_with}
use Rattle.book_policy_faults.specs.Tables.{body_faults, distinct, entry_place, is_protected, items_faults, known_path, list_problem, members_faults, named_faults, path_at, place_of, protected_of, row_faults, spot_at, table_faults, unknown_keys}
use Rattle.book_policy_faults.specs.declared.places.Key.TheVariants as key
use Rattle.book_policy_faults.specs.declared.places.PlacedFault.{PlacedFault}
use Rattle.book_policy_faults.specs.declared.places.Problem.TheVariants.{TooMany}
use Rattle.book_policy_faults.specs.declared.problems.ItemRule.TheVariants.{Principals}
use Rattle.book_policy_faults.specs.declared.tables.Named.{Named}
use Rattle.book_policy_faults.specs.declared.tables.Seen.{Seen}
use Rattle.book_policy.proofs.Free.{Free, free_parts, placed_free}
use Rattle.book_policy.proofs.Read.{action_all, action_free, action_read, action_row, and_then_some, array_free, array_is, array_reads, at_free, at_read, items_free, items_read, keys_free, keys_read, label_free, label_read, mark_free, mark_read, name_free, name_read, none_some, one_some, owner_free, owner_part, owner_read, seen_read, seen_texts, tested, text_in, texts_faults, who_free, who_read}

-- ---- the faults of parts
abbrev pub name_row : Paths → TableKind → ℕ → List ℕ → List PlacedFault
name_row m kind n name = placed (spot_at kind n key.Name) (name_with m kind n (Some name)) ++ []

abbrev pub no_paths : Seen
no_paths = record { paths = empty; count = 0 }

abbrev pub distinct_texts : Paths → List (List ℕ) → ℕ
distinct_texts m ts = let s = seen_texts m no_paths ts in s.count

abbrev pub members_row : Paths → ℕ → List (List ℕ) → List PlacedFault
members_row m n ts =
    texts_faults m Principals (spot_at Group n key.Members) 1 ts
    ++ placed (spot_at Group n key.Members) (unless (nat_le (distinct_texts m ts) MAX_MEMBERS) TooMany)

abbrev pub person_row : Named → ℕ → PersonPart → List PlacedFault
person_row named n p = name_row named.paths Person n p.name

abbrev pub group_row : Named → ℕ → GroupPart → List PlacedFault
group_row named n g = name_row named.paths Group n g.name ++ members_row named.paths n g.members

abbrev pub book_row : Named → ℕ → BookPart → List PlacedFault
book_row named n b = name_row named.paths Book n b.name ++ placed (spot_at Book n key.Owner) (owner_part named.paths b.owner)

abbrev pub entry_row : Named → ℕ → EntryText → List PlacedFault
entry_row named n e =
    placed (spot_at Entry n key.At) (at_with named.paths (Some e.at))
    ++ (placed (spot_at Entry n key.Itself) (list_problem named.full n)
    ++ (placed (spot_at Entry n key.Who) (who_with named.paths (Some e.who))
    ++ (action_row named.paths n e.deny e.names ++ [])))

-- ---- names and labels
named_read : (m : Paths) (kind : TableKind) (n : ℕ) (ms : Members) (name label : List ℕ) → text_at (codes "name") ms ≡ Some name
    → label_of (get_member (codes "label") ms) ≡ Some label → named_faults m kind n ms ≡ name_row m kind n name
named_read m kind n ms name label a b = λ i.
    placed (spot_at kind n key.Name) (name_read m kind n (get_member (codes "name") ms) name a i)
    ++ placed (spot_at kind n key.Label) (label_read (get_member (codes "label") ms) label b i)

abbrev HasNamed : Members → Type 0
HasNamed ms = ((name : List ℕ) × (text_at (codes "name") ms ≡ Some name)) × ((label : List ℕ) × (label_of (get_member (codes "label") ms) ≡ Some label))

named_free : (m : Paths) (kind : TableKind) (n : ℕ) (ms : Members) → Free 3 (named_faults m kind n ms) → HasNamed ms
named_free m kind n ms h =
    let name = get_member (codes "name") ms in
    let label = get_member (codes "label") ms in
    let both = free_parts 3 (placed (spot_at kind n key.Name) (name_problem m kind n name)) (placed (spot_at kind n key.Label) (label_problem label)) h in (
      name_free m kind n name (placed_free 3 (spot_at kind n key.Name) (name_problem m kind n name) both.0),
      label_free label (placed_free 3 (spot_at kind n key.Label) (label_problem label) both.1),
    )

table_name : (d : Data) (ms : Members) (name : List ℕ) → as_table d ≡ Some ms → text_at (codes "name") ms ≡ Some name → name_in d ≡ Some name
table_name d ms name at is = ap name_of_members at ∙ is

-- ---- persons
person_parts : (name label : Option (List ℕ)) (p : PersonPart) → person_with name label ≡ Some p → (name ≡ Some p.name) × (label ≡ Some p.label)
person_parts None label p h = none_some h
person_parts (Some n) None p h = none_some h
person_parts (Some n) (Some l) p h = (ap (λ (x : PersonPart). Some x.name) (one_some h), ap (λ (x : PersonPart). Some x.label) (one_some h))

pub person_reads : (named : Named) (n : ℕ) (d : Data) (p : PersonPart) → person_of d ≡ Some p
    → (table_faults named Person n d ≡ person_row named n p) × (name_in d ≡ Some p.name)
person_reads named n d p h =
    let (ms, at, is) = and_then_some person_in (as_table d) p h in
    let (keys, whole) = tested (has_only (keys_of Person) ms) (person_with (text_at (codes "name") ms) (label_of (get_member (codes "label") ms))) p is in
    let (name, label) = person_parts (text_at (codes "name") ms) (label_of (get_member (codes "label") ms)) p whole in (
      ap (row_faults named Person n) at ∙ (λ i. keys_read Person n 1 ms keys i ++ named_read named.paths Person n ms p.name p.label name label i),
      table_name d ms p.name at name,
    )

person_table : (named : Named) (n : ℕ) (o : Option Members) → Free 3 (row_faults named Person n o) → (p : PersonPart) × (option_and_then person_in o ≡ Some p)
person_table named n None h = absurd (h.0 refl)
person_table named n (Some ms) h =
    let both = free_parts 3 (unknown_keys Person n 1 ms) (body_faults named Person n ms) h in
    let keys = keys_free Person n 1 ms both.0 in
    let ((name, name_is), (label, label_is)) = named_free named.paths Person n ms both.1 in
    (record { name = name; label = label }, λ i. cond (keys i) (person_with (name_is i) (label_is i)) None)

pub person_free : (named : Named) (n : ℕ) (d : Data) → Free 3 (table_faults named Person n d) → (p : PersonPart) × (person_of d ≡ Some p)
person_free named n d h = person_table named n (as_table d) h

-- ---- groups
group_parts : (name label : Option (List ℕ)) (members : Option (List (List ℕ))) (g : GroupPart) → group_with name label members ≡ Some g
    → (name ≡ Some g.name) × (label ≡ Some g.label) × (members ≡ Some g.members)
group_parts None label members g h = none_some h
group_parts (Some n) None members g h = none_some h
group_parts (Some n) (Some l) None g h = none_some h
group_parts (Some n) (Some l) (Some ms) g h = (
  ap (λ (x : GroupPart). Some x.name) (one_some h),
  ap (λ (x : GroupPart). Some x.label) (one_some h),
  ap (λ (x : GroupPart). Some x.members) (one_some h),
)

members_read : (m : Paths) (n : ℕ) (o : Option Data) (ts : List (List ℕ)) → array_of as_str o ≡ Some ts → members_faults m n o ≡ members_row m n ts
members_read m n o ts h =
    let spot = spot_at Group n key.Members in
    let r = array_reads as_str o ts h in
    λ i. placed spot (array_is as_str o ts None h i)
    ++ (items_read m Principals spot 1 (rows_of o) ts r i
    ++ placed spot (unless (nat_le (ap (λ (s : Seen). s.count) (seen_read m no_paths (rows_of o) ts r) i) MAX_MEMBERS) TooMany))

members_free : (m : Paths) (n : ℕ) (o : Option Data) → Free 3 (members_faults m n o) → (ts : List (List ℕ)) × (array_of as_str o ≡ Some ts)
members_free m n o h =
    let spot = spot_at Group n key.Members in
    let last = placed spot (unless (nat_le (distinct m (rows_of o)) MAX_MEMBERS) TooMany) in
    let (first, rest) = free_parts 3 (placed spot (array_problem o None)) (items_faults m Principals spot 1 (rows_of o) ++ last) h in
    let (items, _) = free_parts 3 (items_faults m Principals spot 1 (rows_of o)) last rest in
    array_free as_str o None (placed_free 3 spot (array_problem o None) first) (items_free m Principals spot 1 (rows_of o) items)

pub group_reads : (named : Named) (n : ℕ) (d : Data) (g : GroupPart) → group_of d ≡ Some g
    → (table_faults named Group n d ≡ group_row named n g) × (name_in d ≡ Some g.name)
group_reads named n d g h =
    let (ms, at, is) = and_then_some group_in (as_table d) g h in
    let listed = get_member (codes "members") ms in
    let (keys, whole) = tested (has_only (keys_of Group) ms) (group_with (text_at (codes "name") ms) (label_of (get_member (codes "label") ms)) (array_of as_str listed)) g is in
    let (name, label, members) = group_parts (text_at (codes "name") ms) (label_of (get_member (codes "label") ms)) (array_of as_str listed) g whole in (
      ap (row_faults named Group n) at
          ∙ (λ i. keys_read Group n 1 ms keys i ++ (named_read named.paths Group n ms g.name g.label name label i ++ members_read named.paths n listed g.members members i)),
      table_name d ms g.name at name,
    )

group_table : (named : Named) (n : ℕ) (o : Option Members) → Free 3 (row_faults named Group n o) → (g : GroupPart) × (option_and_then group_in o ≡ Some g)
group_table named n None h = absurd (h.0 refl)
group_table named n (Some ms) h =
    let listed = get_member (codes "members") ms in
    let (front, body) = free_parts 3 (unknown_keys Group n 1 ms) (body_faults named Group n ms) h in
    let keys = keys_free Group n 1 ms front in
    let (head, tail) = free_parts 3 (named_faults named.paths Group n ms) (members_faults named.paths n listed) body in
    let ((name, name_is), (label, label_is)) = named_free named.paths Group n ms head in
    let (members, members_are) = members_free named.paths n listed tail in
    (record { name = name; label = label; members = members }, λ i. cond (keys i) (group_with (name_is i) (label_is i) (members_are i)) None)

pub group_free : (named : Named) (n : ℕ) (d : Data) → Free 3 (table_faults named Group n d) → (g : GroupPart) × (group_of d ≡ Some g)
group_free named n d h = group_table named n (as_table d) h

-- ---- books
book_parts : (name label : Option (List ℕ)) (owner : Option (Option (List ℕ))) (b : BookPart) → book_with name label owner ≡ Some b
    → (name ≡ Some b.name) × (label ≡ Some b.label) × (owner ≡ Some b.owner)
book_parts None label owner b h = none_some h
book_parts (Some n) None owner b h = none_some h
book_parts (Some n) (Some l) None b h = none_some h
book_parts (Some n) (Some l) (Some o) b h = (
  ap (λ (x : BookPart). Some x.name) (one_some h),
  ap (λ (x : BookPart). Some x.label) (one_some h),
  ap (λ (x : BookPart). Some x.owner) (one_some h),
)

pub book_reads : (named : Named) (n : ℕ) (d : Data) (b : BookPart) → book_of d ≡ Some b
    → (table_faults named Book n d ≡ book_row named n b) × (name_in d ≡ Some b.name)
book_reads named n d b h =
    let (ms, at, is) = and_then_some book_in (as_table d) b h in
    let held = get_member (codes "owner") ms in
    let (keys, whole) = tested (has_only (keys_of Book) ms) (book_with (text_at (codes "name") ms) (label_of (get_member (codes "label") ms)) (owner_of held)) b is in
    let (name, label, owner) = book_parts (text_at (codes "name") ms) (label_of (get_member (codes "label") ms)) (owner_of held) b whole in (
      ap (row_faults named Book n) at
          ∙ (λ i. keys_read Book n 1 ms keys i
          ++ (named_read named.paths Book n ms b.name b.label name label i ++ placed (spot_at Book n key.Owner) (owner_read named.paths held b.owner owner i))),
      table_name d ms b.name at name,
    )

book_table : (named : Named) (n : ℕ) (o : Option Members) → Free 3 (row_faults named Book n o) → (b : BookPart) × (option_and_then book_in o ≡ Some b)
book_table named n None h = absurd (h.0 refl)
book_table named n (Some ms) h =
    let held = get_member (codes "owner") ms in
    let spot = spot_at Book n key.Owner in
    let (front, body) = free_parts 3 (unknown_keys Book n 1 ms) (body_faults named Book n ms) h in
    let keys = keys_free Book n 1 ms front in
    let (head, tail) = free_parts 3 (named_faults named.paths Book n ms) (placed spot (owner_problem named.paths held)) body in
    let ((name, name_is), (label, label_is)) = named_free named.paths Book n ms head in
    let (owner, owner_is) = owner_free named.paths held (placed_free 3 spot (owner_problem named.paths held) tail) in
    (record { name = name; label = label; owner = owner }, λ i. cond (keys i) (book_with (name_is i) (label_is i) (owner_is i)) None)

pub book_free : (named : Named) (n : ℕ) (d : Data) → Free 3 (table_faults named Book n d) → (b : BookPart) × (book_of d ≡ Some b)
book_free named n d h = book_table named n (as_table d) h

-- ---- entries
record EntryParts (at who : Option (List ℕ)) (invert : Option Bool) (action : Option (Bool × List (List ℕ))) (protected : Option Bool) (e : EntryText) : Type 0 where
  of_at : at ≡ Some e.at
  of_who : who ≡ Some e.who
  of_invert : invert ≡ Some e.invert
  of_action : action ≡ Some (e.deny, e.names)
  of_protected : protected ≡ Some e.protected

entry_parts : (at who : Option (List ℕ)) (invert : Option Bool) (action : Option (Bool × List (List ℕ))) (protected : Option Bool) (e : EntryText)
    → entry_with at who invert action protected ≡ Some e → EntryParts at who invert action protected e
entry_parts None who invert action protected e h = none_some h
entry_parts (Some at) None invert action protected e h = none_some h
entry_parts (Some at) (Some who) None action protected e h = none_some h
entry_parts (Some at) (Some who) (Some invert) None protected e h = none_some h
entry_parts (Some at) (Some who) (Some invert) (Some action) None e h = none_some h
entry_parts (Some at) (Some who) (Some invert) (Some action) (Some protected) e h = record {
  of_at = ap (λ (x : EntryText). Some x.at) (one_some h);
  of_who = ap (λ (x : EntryText). Some x.who) (one_some h);
  of_invert = ap (λ (x : EntryText). Some x.invert) (one_some h);
  of_action = ap (λ (x : EntryText). Some (x.deny, x.names)) (one_some h);
  of_protected = ap (λ (x : EntryText). Some x.protected) (one_some h);
}

module _ (named : Named) (n : ℕ) where
  abbrev m : Paths
  m = named.paths

  pub entry_reads : (d : Data) (e : EntryText) → entry_text_of d ≡ Some e → table_faults named Entry n d ≡ entry_row named n e
  entry_reads d e h =
      let (ms, is_table, is) = and_then_some entry_in (as_table d) e h in
      let at = get_member (codes "at") ms in
      let who = get_member (codes "who") ms in
      let invert = get_member (codes "invert") ms in
      let grant = get_member (codes "grant") ms in
      let deny = get_member (codes "deny") ms in
      let protected = get_member (codes "protected") ms in
      let (keys, whole) = tested (has_only (keys_of Entry) ms) (entry_with (text_in at) (text_in who) (mark_of invert) (action_of grant deny) (mark_of protected)) e is in
      let parts = entry_parts (text_in at) (text_in who) (mark_of invert) (action_of grant deny) (mark_of protected) e whole in
      ap (row_faults named Entry n) is_table
      ∙ (λ i. keys_read Entry n 1 ms keys i
      ++ (placed (spot_at Entry n key.At) (at_read m at e.at parts.of_at i)
      ++ (placed (spot_at Entry n key.Itself) (list_problem named.full n)
      ++ (placed (spot_at Entry n key.Who) (who_read m who e.who parts.of_who i)
      ++ (placed (spot_at Entry n key.Invert) (mark_read invert e.invert parts.of_invert i)
      ++ (action_read m n grant deny (e.deny, e.names) parts.of_action i
      ++ placed (spot_at Entry n key.Protected) (mark_read protected e.protected parts.of_protected i)))))))

  entry_table : (o : Option Members) → Free 3 (row_faults named Entry n o) → (e : EntryText) × (option_and_then entry_in o ≡ Some e)
  entry_table None h = absurd (h.0 refl)
  entry_table (Some ms) h =
      let at = get_member (codes "at") ms in
      let who = get_member (codes "who") ms in
      let invert = get_member (codes "invert") ms in
      let grant = get_member (codes "grant") ms in
      let deny = get_member (codes "deny") ms in
      let protected = get_member (codes "protected") ms in
      let of_protected = placed (spot_at Entry n key.Protected) (mark_problem protected) in
      let from_action = action_all m n grant deny ++ of_protected in
      let from_invert = placed (spot_at Entry n key.Invert) (mark_problem invert) ++ from_action in
      let from_who = placed (spot_at Entry n key.Who) (who_problem m who) ++ from_invert in
      let from_list = placed (spot_at Entry n key.Itself) (list_problem named.full n) ++ from_who in
      let (front, body) = free_parts 3 (unknown_keys Entry n 1 ms) (body_faults named Entry n ms) h in
      let keys = keys_free Entry n 1 ms front in
      let (a, after_at) = free_parts 3 (placed (spot_at Entry n key.At) (at_problem m at)) from_list body in
      let (_, after_list) = free_parts 3 (placed (spot_at Entry n key.Itself) (list_problem named.full n)) from_who after_at in
      let (w, after_who) = free_parts 3 (placed (spot_at Entry n key.Who) (who_problem m who)) from_invert after_list in
      let (v, after_invert) = free_parts 3 (placed (spot_at Entry n key.Invert) (mark_problem invert)) from_action after_who in
      let (c, p) = free_parts 3 (action_all m n grant deny) of_protected after_invert in
      let (at_text, at_is) = at_free m at (placed_free 3 (spot_at Entry n key.At) (at_problem m at) a) in
      let (who_text, who_is) = who_free m who (placed_free 3 (spot_at Entry n key.Who) (who_problem m who) w) in
      let (inverts, invert_is) = mark_free invert (placed_free 3 (spot_at Entry n key.Invert) (mark_problem invert) v) in
      let (action, action_is) = action_free m n grant deny c in
      let (protects, protected_is) = mark_free protected (placed_free 3 (spot_at Entry n key.Protected) (mark_problem protected) p) in (
        record { at = at_text; who = who_text; invert = inverts; deny = action.0; names = action.1; protected = protects },
        λ i. cond (keys i) (entry_with (at_is i) (who_is i) (invert_is i) (action_is i) (protected_is i)) None,
      )

  pub entry_free : (d : Data) → Free 3 (table_faults named Entry n d) → (e : EntryText) × (entry_text_of d ≡ Some e)
  entry_free d h = entry_table (as_table d) h

-- where an entry stands
pub entry_placed : (m : Paths) (d : Data) (e : EntryText) → entry_text_of d ≡ Some e
    → (entry_place m d ≡ known_path m (Some e.at)) × (is_protected d ≡ e.protected)
entry_placed m d e h =
    let (ms, is_table, is) = and_then_some entry_in (as_table d) e h in
    let at = get_member (codes "at") ms in
    let who = get_member (codes "who") ms in
    let invert = get_member (codes "invert") ms in
    let grant = get_member (codes "grant") ms in
    let deny = get_member (codes "deny") ms in
    let protected = get_member (codes "protected") ms in
    let (keys, whole) = tested (has_only (keys_of Entry) ms) (entry_with (text_in at) (text_in who) (mark_of invert) (action_of grant deny) (mark_of protected)) e is in
    let parts = entry_parts (text_in at) (text_in who) (mark_of invert) (action_of grant deny) (mark_of protected) e whole in
    (ap (place_of m) is_table ∙ at_path at e.at parts.of_at, ap protected_of is_table ∙ ap (λ o. unwrap_or o false) parts.of_protected)
  where
    at_path : (o : Option Data) (t : List ℕ) → text_in o ≡ Some t → path_at m o ≡ known_path m (Some t)
    at_path None t h = none_some h
    at_path (Some x) t h = ap (known_path m) h
