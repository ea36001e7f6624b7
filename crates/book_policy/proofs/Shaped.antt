-- Parts that a table spells have labels, and each entry of them names a privilege.
use Rattle.book_policy.proofs.Common.{◌≡◌, ◌≤◌, ℕ, Bool, true, false, cond, List, [], ◌∷◌, ◌++◌, length, Some, None, refl, ap, subst, All, GroupPart, BookPart, EntryText, Parts}
use Rattle.std.proofs.Common.{◌&&◌, nat_le, Option, option_map, codes}
use Rattle.std.specs.Option.{option_and_then}
use Rattle.std.specs.Str.{is_utf8}
use Rattle.std.proofs.lemmas.Bool.{leb-true}
use Rattle.std.proofs.lemmas.List.Elements.{All-nil, All-push}
use Rattle.std.proofs.lemmas.Str.{IsUtf8-from_is_utf8}
use Rattle.toml.specs.Data.{Data, Items, no_items, item, Members, get_member, as_str, as_array, as_table}
use Rattle.book_limits.specs.declared.TheConstants.{MAX_LABEL_BYTES, MAX_PRIVILEGE_NAMES}
use Rattle.book_policy_values.specs.declared.parts.PersonPart.{PersonPart}
use Rattle.book_office_values.specs.Texts.{IsLabel}
use Rattle.book_office_values.proofs.Labels.{empty_label}
use Rattle.book_policy_values.proofs.Names.{same_some}
use Rattle.book_policy_faults.specs.declared.places.TableKind.TheVariants.{Top, Person, Group, Book, Entry}
use Rattle.book_policy.specs.Passes.{IsShaped}
use Rattle.book_policy.specs.Shapes.{action_of, array_of, book_in, book_of, book_with, each_after, entry_in, entry_text_of, entry_with, group_in, group_of, group_with, has_only, label_of, names_in, owner_of, parts_in, parts_with, person_in, person_of, person_with, some_names, text_at}
use Rattle.book_policy_faults.specs.Values.{keys_of, mark_of, short_label}

none_some : {A P : Type 0} {y : A} → None ≡ Some y → P
none_some e = absurd cc

and_then_some : {A B : Type 0} (f : A → Option B) (o : Option A) (y : B) → option_and_then f o ≡ Some y → (x : A) × (o ≡ Some x) × (f x ≡ Some y)
and_then_some f None y h = none_some h
and_then_some f (Some x) y h = (x, refl, h)

from_if : {A : Type 0} (b : Bool) (x : Option A) (y : A) → cond b x None ≡ Some y → x ≡ Some y
from_if true x y h = h
from_if false x y h = none_some h

short_is : (t l : List ℕ) (a b : Bool) → is_utf8 t ≡ a → nat_le (length t) MAX_LABEL_BYTES ≡ b → cond (a && b) (Some t) None ≡ Some l → IsLabel l
short_is t l true true utf8 fits h =
    subst IsLabel (same_some h) (record { utf8 = IsUtf8-from_is_utf8 t utf8; short = leb-true (length t) MAX_LABEL_BYTES fits })
short_is t l true false utf8 fits h = none_some h
short_is t l false b utf8 fits h = none_some h

label_short : (o : Option Data) (l : List ℕ) → label_of o ≡ Some l → IsLabel l
label_short None l h = let e : [] ≡ l = same_some h in subst IsLabel e empty_label
label_short (Some d) l h = let (t, at, is) = and_then_some short_label (as_str d) l h in short_is t l (is_utf8 t) (nat_le (length t) MAX_LABEL_BYTES) refl refl is

-- ---- names of privileges
both_some : (names ns : List (List ℕ)) (a b : Bool) → nat_le 1 (length names) ≡ a → cond (a && b) (Some names) None ≡ Some ns → 1 ≤ length ns
both_some names ns true true some h = subst (λ (xs : List (List ℕ)). 1 ≤ length xs) (same_some h) (leb-true 1 (length names) some)
both_some names ns true false some h = none_some h
both_some names ns false b some h = none_some h

names_some : (d : Data) (ns : List (List ℕ)) → names_in d ≡ Some ns → 1 ≤ length ns
names_some d ns h =
    let (names, at, is) = and_then_some some_names (array_of as_str (Some d)) ns h in
    both_some names ns (nat_le 1 (length names)) (nat_le (length names) MAX_PRIVILEGE_NAMES) refl is

marked : (deny : Bool) (o : Option (List (List ℕ))) (a : Bool × List (List ℕ)) → option_map (λ names. (deny, names)) o ≡ Some a → o ≡ Some a.1
marked deny None a h = none_some h
marked deny (Some names) a h = ap (λ (x : Bool × List (List ℕ)). Some x.1) (same_some h)

action_some : (grant deny : Option Data) (a : Bool × List (List ℕ)) → action_of grant deny ≡ Some a → 1 ≤ length a.1
action_some None None a h = none_some h
action_some (Some g) None a h = names_some g a.1 (marked false (names_in g) a h)
action_some None (Some d) a h = names_some d a.1 (marked true (names_in d) a h)
action_some (Some g) (Some d) a h = none_some h

-- ---- tables
person_label : (name label : Option (List ℕ)) (p : PersonPart) → person_with name label ≡ Some p → label ≡ Some p.label
person_label None label p h = none_some h
person_label (Some n) None p h = none_some h
person_label (Some n) (Some l) p h = ap (λ (x : PersonPart). Some x.label) (same_some h)

group_label : (name label : Option (List ℕ)) (members : Option (List (List ℕ))) (g : GroupPart) → group_with name label members ≡ Some g → label ≡ Some g.label
group_label None label members g h = none_some h
group_label (Some n) None members g h = none_some h
group_label (Some n) (Some l) None g h = none_some h
group_label (Some n) (Some l) (Some ms) g h = ap (λ (x : GroupPart). Some x.label) (same_some h)

book_label : (name label : Option (List ℕ)) (owner : Option (Option (List ℕ))) (b : BookPart) → book_with name label owner ≡ Some b → label ≡ Some b.label
book_label None label owner b h = none_some h
book_label (Some n) None owner b h = none_some h
book_label (Some n) (Some l) None b h = none_some h
book_label (Some n) (Some l) (Some o) b h = ap (λ (x : BookPart). Some x.label) (same_some h)

entry_names : (at who : Option (List ℕ)) (invert : Option Bool) (action : Option (Bool × List (List ℕ))) (protected : Option Bool) (e : EntryText)
    → entry_with at who invert action protected ≡ Some e → (a : Bool × List (List ℕ)) × (action ≡ Some a) × (a.1 ≡ e.names)
entry_names None who invert action protected e h = none_some h
entry_names (Some at) None invert action protected e h = none_some h
entry_names (Some at) (Some who) None action protected e h = none_some h
entry_names (Some at) (Some who) (Some invert) None protected e h = none_some h
entry_names (Some at) (Some who) (Some invert) (Some action) None e h = none_some h
entry_names (Some at) (Some who) (Some invert) (Some action) (Some protected) e h = (action, refl, ap (λ (x : EntryText). x.names) (same_some h))

person_short : (d : Data) (p : PersonPart) → person_of d ≡ Some p → IsLabel p.label
person_short d p h =
    let (ms, at, is) = and_then_some person_in (as_table d) p h in
    let whole = from_if (has_only (keys_of Person) ms) (person_with (text_at (codes "name") ms) (label_of (get_member (codes "label") ms))) p is in
    label_short (get_member (codes "label") ms) p.label (person_label (text_at (codes "name") ms) (label_of (get_member (codes "label") ms)) p whole)

group_short : (d : Data) (g : GroupPart) → group_of d ≡ Some g → IsLabel g.label
group_short d g h =
    let (ms, at, is) = and_then_some group_in (as_table d) g h in
    let members = array_of as_str (get_member (codes "members") ms) in
    let whole = from_if (has_only (keys_of Group) ms) (group_with (text_at (codes "name") ms) (label_of (get_member (codes "label") ms)) members) g is in
    label_short (get_member (codes "label") ms) g.label (group_label (text_at (codes "name") ms) (label_of (get_member (codes "label") ms)) members g whole)

book_short : (d : Data) (b : BookPart) → book_of d ≡ Some b → IsLabel b.label
book_short d b h =
    let (ms, at, is) = and_then_some book_in (as_table d) b h in
    let owner = owner_of (get_member (codes "owner") ms) in
    let whole = from_if (has_only (keys_of Book) ms) (book_with (text_at (codes "name") ms) (label_of (get_member (codes "label") ms)) owner) b is in
    label_short (get_member (codes "label") ms) b.label (book_label (text_at (codes "name") ms) (label_of (get_member (codes "label") ms)) owner b whole)

entry_named : (d : Data) (e : EntryText) → entry_text_of d ≡ Some e → 1 ≤ length e.names
entry_named d e h =
    let (ms, at, is) = and_then_some entry_in (as_table d) e h in
    let action = action_of (get_member (codes "grant") ms) (get_member (codes "deny") ms) in
    let place = text_at (codes "at") ms in
    let who = text_at (codes "who") ms in
    let invert = mark_of (get_member (codes "invert") ms) in
    let protected = mark_of (get_member (codes "protected") ms) in
    let whole = from_if (has_only (keys_of Entry) ms) (entry_with place who invert action protected) e is in
    let (a, found, names) = entry_names place who invert action protected e whole in
    subst (λ (xs : List (List ℕ)). 1 ≤ length xs) names (action_some (get_member (codes "grant") ms) (get_member (codes "deny") ms) a found)

-- ---- arrays
module _ {A : Type 0} (read : Data → Option A) (P : A → Type 0) (fine : (d : Data) (x : A) → read d ≡ Some x → P x) where
  each_fine : (done : List A) (ds : Items) (xs : List A) → each_after read done ds ≡ Some xs → All P done → All P xs
  each_fine done no_items xs h all = subst (All P) (same_some h) all
  each_fine done (item d ds) xs h all =
      let (x, at, is) = and_then_some (λ x. each_after read (done ++ x ∷ []) ds) (read d) xs h in
      each_fine (done ++ x ∷ []) ds xs is (All-push P done x all (fine d x at))

  array_fine : (o : Option Data) (xs : List A) → array_of read o ≡ Some xs → All P xs
  array_fine None xs h = let e : [] ≡ xs = same_some h in subst (All P) e (All-nil P)
  array_fine (Some d) xs h =
      let (ds, at, is) = and_then_some (each_after read []) (as_array d) xs h in
      each_fine [] ds xs is (All-nil P)

record ArraysOf (persons : Option (List PersonPart)) (groups : Option (List GroupPart)) (books : Option (List BookPart)) (entries : Option (List EntryText)) (parts : Parts) : Type 0 where
  of_persons : persons ≡ Some parts.persons
  of_groups : groups ≡ Some parts.groups
  of_books : books ≡ Some parts.books
  of_entries : entries ≡ Some parts.entries

arrays_of : (persons : Option (List PersonPart)) (groups : Option (List GroupPart)) (books : Option (List BookPart)) (entries : Option (List EntryText)) (parts : Parts)
    → parts_with persons groups books entries ≡ Some parts → ArraysOf persons groups books entries parts
arrays_of None groups books entries parts h = none_some h
arrays_of (Some ps) None books entries parts h = none_some h
arrays_of (Some ps) (Some gs) None entries parts h = none_some h
arrays_of (Some ps) (Some gs) (Some bs) None parts h = none_some h
arrays_of (Some ps) (Some gs) (Some bs) (Some es) parts h = record {
  of_persons = ap (λ (x : Parts). Some x.persons) (same_some h);
  of_groups = ap (λ (x : Parts). Some x.groups) (same_some h);
  of_books = ap (λ (x : Parts). Some x.books) (same_some h);
  of_entries = ap (λ (x : Parts). Some x.entries) (same_some h);
}

pub shaped : (ms : Members) (parts : Parts) → parts_in ms ≡ Some parts → IsShaped parts
shaped ms parts h =
    let persons = array_of person_of (get_member (codes "person") ms) in
    let groups = array_of group_of (get_member (codes "group") ms) in
    let books = array_of book_of (get_member (codes "book") ms) in
    let entries = array_of entry_text_of (get_member (codes "entry") ms) in
    let whole = from_if (has_only (keys_of Top) ms) (parts_with persons groups books entries) parts h in
    let all = arrays_of persons groups books entries parts whole in
    record {
      labels = record {
        of_persons = array_fine person_of (λ (p : PersonPart). IsLabel p.label) person_short (get_member (codes "person") ms) parts.persons all.of_persons;
        of_groups = array_fine group_of (λ (g : GroupPart). IsLabel g.label) group_short (get_member (codes "group") ms) parts.groups all.of_groups;
        of_books = array_fine book_of (λ (b : BookPart). IsLabel b.label) book_short (get_member (codes "book") ms) parts.books all.of_books;
      };
      named = array_fine entry_text_of (λ (e : EntryText). 1 ≤ length e.names) entry_named (get_member (codes "entry") ms) parts.entries all.of_entries;
    }
