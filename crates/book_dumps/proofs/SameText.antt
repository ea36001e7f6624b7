-- Sound Offices with the same text are equal.
use Rattle.book_dumps.proofs.Common.{◌≡◌, ◌≢◌, inl, inr, ℕ, List, [], ◌∷◌, ◌++◌, refl, sym, ap, ◌∙◌, subst, arith, append-nil, map, codes, length, Option, Some, None, option_map, Office, Path}
use Rattle.std.proofs.Common.{◌≤◌, ◌&&◌, true, false, Bool, nat_lt, option_and_then, unwrap_or, true≢false}
use Rattle.std.specs.FinSet as set
use Rattle.std.specs.FinMap.{get}
use Rattle.std.specs.List.{concat, filter_map}
use Rattle.std.proofs.lemmas.Bool.Decides.{nat_tests}
use Rattle.std.proofs.lemmas.List.Folds.{concat-append}
use Rattle.std.proofs.lemmas.Option.{same_Some}
use Rattle.book_lists.proofs.Pairing.{memberships_exact, memberships_total, path_itself, same_path}
use Rattle.book_lists.specs.Memberships.{members_of}
use Rattle.book_lists.specs.Principals.{group_path}
use Rattle.book_lists.specs.declared.memberships.Membership.{Membership}
use Rattle.book_office.proofs.SameOffices.{same_office}
use Rattle.book_office.proofs.StandingResources.{from_and_then, removed_unmapped, resources_stand_in_place}
use Rattle.book_office.specs.Resources.{Resource, book_resource, changed_after, properties_resource, removed_at, resource_at, unless_mapped}
use Rattle.book_office.specs.Sound.{IsSound}
use Rattle.book_office.specs.declared.nodes.Changed.{Changed}
use Rattle.book_office_sync.proofs.ChangesAfter.{after_last, after_whole}
use Rattle.book_office_values.specs.Changes.{Change, changes_after}
use Rattle.book_office_values.specs.Paths.{kind_of}
use Rattle.book_office_values.specs.declared.offices.Book.{Book}
use Rattle.book_office_values.specs.declared.offices.StoredCard.{StoredCard}
use Rattle.book_office_values.specs.declared.paths.Kind.TheVariants as kind
use Rattle.book_office_values.specs.declared.paths.Path.TheVariants as path
use Rattle.book_dumps.specs.Dumps.{counted, dump_text, epoch_line, last_line, lines_at, lines_of, paths_of}
use Rattle.book_dumps.specs.Laws.{DumpsAreExact}
use Rattle.book_dumps.specs.Lines.{line_text}
use Rattle.book_dumps.specs.Told.{if_removed, line_of, members_in, number_told, removed_after, texts_at, texts_of, unless_there}
use Rattle.book_dumps.specs.declared.lines.Line.{Line}
use Rattle.book_dumps.specs.declared.lines.Removed.{Removed}
use Rattle.book_dumps.proofs.Among.{Mem, both_bools, both_options, mem_flat, mem_map, mem_of_flat, mem_of_map, mem_of_some, mem_some}
use Rattle.book_dumps.proofs.GroupMembers.{among_told, contains_members, told_among}
use Rattle.book_dumps.proofs.Everything.{all_lines, of_change, path_among, plain_line}
use Rattle.book_dumps.proofs.Feeds.{same_lines}
use Rattle.book_dumps.proofs.LineLaws.{line_alike, single_alike}

last_alike : (xs ys : List (List ℕ)) (v w : List ℕ) → xs ++ v ∷ [] ≡ ys ++ w ∷ [] → xs ≡ ys
last_alike [] [] v w e = refl
last_alike [] (y ∷ []) v w e = absurd cc
last_alike [] (y ∷ z ∷ ys) v w e = absurd cc
last_alike (x ∷ []) [] v w e = absurd cc
last_alike (x ∷ z ∷ xs) [] v w e = absurd cc
last_alike (x ∷ xs) (y ∷ ys) v w e = let first : x ≡ y = cc in let rest = last_alike xs ys v w cc in λ i. first i ∷ rest i

-- the whole text is that of its lines
whole_text : (o : Office) → dump_text o ≡ concat (lines_of o ++ last_line (counted (length (lines_of o))) ∷ [])
whole_text o =
    let last = last_line (counted (length (lines_of o))) in
    ap (λ t. concat (lines_of o) ++ t) (sym (append-nil last)) ∙ sym (concat-append (lines_of o) (last ∷ []))

lines_alike : (o p : Office) → IsSound o → IsSound p → dump_text o ≡ dump_text p → lines_of o ≡ lines_of p
lines_alike o p sound sound' e =
    last_alike (lines_of o) (lines_of p) _ _ (same_lines _ _ (all_lines o sound) (all_lines p sound') (sym (whole_text o) ∙ e ∙ whole_text p))

epoch_alike : (o p : Office) → IsSound o → IsSound p → lines_of o ≡ lines_of p → o.epoch ≡ p.epoch
epoch_alike o p sound sound' e =
    let a = sound.epoch in
    let b = sound'.epoch in
    let first : epoch_line o.epoch ≡ epoch_line p.epoch = cc in
    single_alike (codes "epoch") o.epoch p.epoch (omega (arith, a)) (omega (arith, b)) first

-- ---- one resource
-- the other Office has the resource too, and the same is told of it
abbrev IsThereToo : Office → Office → Path → Resource → Type 0
IsThereToo o p q r = (s : Resource) × (resource_at p q ≡ Some s) × (line_of o q r ≡ line_of p q s)

told_text : (o : Office) (q : Path) (r : Resource) → resource_at o q ≡ Some r → Mem (line_text (line_of o q r)) (texts_at o q)
told_text o q r e = subst (λ (found : Option Resource). Mem (line_text (line_of o q r)) (texts_of (option_map (line_of o q) found))) (sym e) (inl refl)

text_told : (o : Office) (q : Path) (found : Option Resource) (t : List ℕ) → Mem t (texts_of (option_map (line_of o q) found)) → (r : Resource) × (found ≡ Some r) × (t ≡ line_text (line_of o q r))
text_told o q None t m = absurd m
text_told o q (Some r) t (inl e) = (r, refl, e)
text_told o q (Some r) t (inr m) = absurd m

there_too : (o p : Office) → IsSound o → IsSound p → lines_of o ≡ lines_of p → (q : Path) (r : Resource) → resource_at o q ≡ Some r → IsThereToo o p q r
there_too o p sound sound' e q r at =
    let more : lines_at o (paths_of o) ≡ lines_at p (paths_of p) = cc in
    let text = line_text (line_of o q r) in
    let mine : Mem text (lines_at o (paths_of o)) = mem_flat (texts_at o) text q (paths_of o) (path_among o sound q r at) (told_text o q r at) in
    let found = mem_of_flat (texts_at p) text (paths_of p) (subst (Mem text) more mine) in
    let other = text_told p found.0 (resource_at p found.0) text found.2 in
    let alike = line_alike (line_of o q r) (line_of p found.0 other.0) (plain_line o sound q r at) (plain_line p sound' found.0 other.0 other.1) other.2 in
    let here : q ≡ found.0 = ap (λ (l : Line). l.path) alike in (
      other.0,
      ap (resource_at p) here ∙ other.1,
      alike ∙ ap (λ (x : Path). line_of p x other.0) (sym here),
    )

-- numbers that are told, or not there
number_alike : (q : Path) (m n : ℕ) → number_told q m ≡ number_told q n → (kind_of q ≢ kind.Book → kind_of q ≢ kind.Card → m ≡ n) → m ≡ n
number_alike path.Root m n e zero = zero (λ e. cc) (λ e. cc)
number_alike path.People m n e zero = zero (λ e. cc) (λ e. cc)
number_alike path.Groups m n e zero = zero (λ e. cc) (λ e. cc)
number_alike path.Books m n e zero = zero (λ e. cc) (λ e. cc)
number_alike (path.Person x) m n e zero = zero (λ e. cc) (λ e. cc)
number_alike (path.Group x) m n e zero = zero (λ e. cc) (λ e. cc)
number_alike (path.Book x) m n e zero = same_Some m n e
number_alike (path.Card x y) m n e zero = same_Some m n e

resource_alike : (o p : Office) → IsSound o → IsSound p → (q : Path) (r s : Resource) → resource_at o q ≡ Some r → resource_at p q ≡ Some s → line_of o q r ≡ line_of p q s → r ≡ s
resource_alike o p sound sound' q r s at at' e =
    let mine = resources_stand_in_place o sound q r at in
    let other = resources_stand_in_place p sound' q s at' in
    let kinds = mine.of_kind ∙ sym other.of_kind in
    let owner = ap (λ (l : Line). l.owner) e in
    let label = ap (λ (l : Line). l.label) e in
    let text = ap (λ (l : Line). l.text) e in
    let protected = ap (λ (l : Line). l.protected) e in
    let own = ap (λ (l : Line). l.own) e in
    let number = number_alike q r.number s.number (ap (λ (l : Line). l.number) e) (λ no_book no_card. mine.number no_book no_card ∙ sym (other.number no_book no_card)) in
    λ i. record { kind = kinds i; owner = owner i; label = label i; text = text i; number = number i; protected = protected i; own = own i }

resources_alike : (o p : Office) → IsSound o → IsSound p → lines_of o ≡ lines_of p → (q : Path) → resource_at o q ≡ resource_at p q
resources_alike o p sound sound' e q =
    both_options (resource_at o q) (resource_at p q)
    (λ r at. let h = there_too o p sound sound' e q r at in h.1 ∙ ap Some (sym (resource_alike o p sound sound' q r h.0 at h.1 h.2)))
    (λ r at. let h = there_too p o sound' sound (sym e) q r at in h.1 ∙ ap Some (sym (resource_alike p o sound' sound q r h.0 at h.1 h.2)))

-- ---- members
and_true : (a b : Bool) → a ≡ true → b ≡ true → (a && b) ≡ true
and_true true true p q = refl
and_true true false p q = q
and_true false b p q = p

and_parts : (a b : Bool) → (a && b) ≡ true → (a ≡ true) × (b ≡ true)
and_parts true b h = (refl, h)
and_parts false b h = absurd (true≢false (sym h))

member_among : (o : Office) (m : Membership) → set.contains o.pairs m ≡ true → Mem m.member (members_in o m.group)
member_among o m has =
    let inside : set.contains (members_of o.pairs m.group) m ≡ true = contains_members o.pairs m.group m ∙ and_true _ _ has (path_itself m.group) in
    among_told (members_of o.pairs m.group) m inside

among_member : (o : Office) (group member : List ℕ) → Mem member (members_in o group) → set.contains o.pairs (record { group = group; member = member }) ≡ true
among_member o group member h =
    let found = told_among (members_of o.pairs group) member h in
    let m = found.0 in
    let both = and_parts _ _ (sym (contains_members o.pairs group m) ∙ found.1) in
    let g : m.group ≡ group = same_path m.group group both.1 in
    let pair : m ≡ record { group = group; member = member } = λ i. record { group = g i; member = sym found.2 i } in
    ap (set.contains o.pairs) (sym pair) ∙ both.0

unmapped : {A B : Type 0} (f : A → B) (found : Option A) → option_map f found ≡ None → found ≡ None
unmapped f None e = refl
unmapped f (Some x) e = absurd cc

pair_too : (o p : Office) → IsSound o → IsSound p → lines_of o ≡ lines_of p → (m : Membership) → set.contains o.pairs m ≡ true → set.contains p.pairs m ≡ true
pair_too o p sound sound' e m has =
    let group = (sound.pairs m has).group in
    let n = group.0 in
    let h = group_there n group.2 in
    let too = there_too o p sound sound' e (path.Group n) h.0 h.1 in
    let members : members_in o (group_path n) ≡ members_in p (group_path n) = ap (λ (l : Line). l.members) too.2 in
    let mine : Mem m.member (members_in o (group_path n)) = subst (λ g. Mem m.member (members_in o g)) group.1 (member_among o m has) in
    let other = among_member p (group_path n) m.member (subst (Mem m.member) members mine) in
    let pair : record { group = group_path n; member = m.member } ≡ m = λ i. record { group = sym group.1 i; member = m.member } in
    ap (set.contains p.pairs) (sym pair) ∙ other
  where
    group_there : (n : List ℕ) → get o.groups n ≢ None → (r : Resource) × (resource_at o (path.Group n) ≡ Some r)
    group_there n some = by_value (resource_at o (path.Group n)) refl
      where
        by_value : (found : Option Resource) → resource_at o (path.Group n) ≡ found → (r : Resource) × (resource_at o (path.Group n) ≡ Some r)
        by_value None at = absurd (some (unmapped (properties_resource kind.Group 0) (get o.groups n) at))
        by_value (Some r) at = (r, at)

pairs_alike : (o p : Office) → IsSound o → IsSound p → lines_of o ≡ lines_of p → o.pairs ≡ p.pairs
pairs_alike o p sound sound' e =
    set.same_set memberships_total memberships_exact o.pairs p.pairs (λ m.
    both_bools (set.contains o.pairs m) (set.contains p.pairs m) (pair_too o p sound sound' e m) (pair_too p o sound' sound (sym e) m))

-- ---- removed names
abbrev as_changed : Book → Change → Changed
as_changed book c = record { number = c.0; name = c.1; card = get book.cards c.1 }

changed_there : (o : Office) (b : List ℕ) (book : Book) → get o.books b ≡ Some book → changed_after o b 0 ≡ map (as_changed book) (changes_after book.changes.last 0)
changed_there o b book at = ap (λ (found : Option Book). unwrap_or (option_map (λ (book : Book). map (as_changed book) (changes_after book.changes.last 0)) found) []) at

changed_nowhere : (o : Office) (b : List ℕ) → get o.books b ≡ None → changed_after o b 0 ≡ []
changed_nowhere o b at = ap (λ (found : Option Book). unwrap_or (option_map (λ (book : Book). map (as_changed book) (changes_after book.changes.last 0)) found) []) at

above_zero : (n : ℕ) → 1 ≤ n → nat_lt 0 n ≡ true
above_zero n h = grind (arith, nat_tests)

removed_among : (o : Office) → IsSound o → (b name : List ℕ) (n : ℕ) → removed_at o b name ≡ Some n → Mem (record { name = name; number = n }) (removed_after o b 0)
removed_among o sound b name n e = from_and_then (λ (book : Book). unless_mapped (get book.cards name) (get book.changes.last name)) (get o.books b) n e (λ book at is.
    let parts = removed_unmapped (get book.cards name) (get book.changes.last name) n is in
    let sound_book = (sound.books b book at).1 in
    let change : Mem (n, name) (changes_after book.changes.last 0) = after_whole book.changes.last sound_book.different 0 n name parts.1 (above_zero n (sound_book.within name n parts.1).0) in
    let told : if_removed (as_changed book (n, name)) ≡ Some (record { name = name; number = n }) = ap (λ (card : Option StoredCard). unless_there card (record { name = name; number = n })) parts.0 in
    subst (λ (cs : List Changed). Mem (record { name = name; number = n }) (filter_map if_removed cs)) (sym (changed_there o b book at))
    (mem_some if_removed (as_changed book (n, name)) (record { name = name; number = n }) (map (as_changed book) (changes_after book.changes.last 0)) (mem_map (as_changed book) (n, name) (changes_after book.changes.last 0) change) told))

among_removed : (o : Office) (b : List ℕ) (x : Removed) → Mem x (removed_after o b 0) → removed_at o b x.name ≡ Some x.number
among_removed o b x m = by_book (get o.books b) refl
  where
    card_none : (card : Option StoredCard) (y z : Removed) → unless_there card y ≡ Some z → card ≡ None
    card_none None y z e = refl
    card_none (Some card) y z e = absurd cc

    by_book : (found : Option Book) → get o.books b ≡ found → removed_at o b x.name ≡ Some x.number
    by_book None at = absurd (subst (λ (cs : List Changed). Mem x (filter_map if_removed cs)) (changed_nowhere o b at) m)
    by_book (Some book) at =
        let among = subst (λ (cs : List Changed). Mem x (filter_map if_removed cs)) (changed_there o b book at) m in
        let c = mem_of_some if_removed x (map (as_changed book) (changes_after book.changes.last 0)) among in
        let d = mem_of_map (as_changed book) c.0 (changes_after book.changes.last 0) c.1 in
        let last = after_last book.changes.last 0 d.0.0 d.0.1 d.1 in
        let told : if_removed (as_changed book d.0) ≡ Some x = ap if_removed (sym d.2) ∙ c.2 in
        let none : get book.cards d.0.1 ≡ None = card_none (get book.cards d.0.1) (record { name = d.0.1; number = d.0.0 }) x told in
        let is : x ≡ record { name = d.0.1; number = d.0.0 } = of_change (as_changed book d.0) x told in
        ap (λ (r : Removed). removed_at o b r.name) is
        ∙ ap (option_and_then (λ (book : Book). unless_mapped (get book.cards d.0.1) (get book.changes.last d.0.1))) at
        ∙ ap (λ (card : Option StoredCard). unless_mapped card (get book.changes.last d.0.1)) none ∙ last ∙ ap Some (sym (ap (λ (r : Removed). r.number) is))

removed_too : (o p : Office) → IsSound o → IsSound p → lines_of o ≡ lines_of p → (b name : List ℕ) (n : ℕ) → removed_at o b name ≡ Some n → removed_at p b name ≡ Some n
removed_too o p sound sound' e b name n at =
    from_and_then (λ (book : Book). unless_mapped (get book.cards name) (get book.changes.last name)) (get o.books b) n at (λ book found _.
    let too = there_too o p sound sound' e (path.Book b) (book_resource book) (ap (option_map book_resource) found) in
    let removed : removed_after o b 0 ≡ removed_after p b 0 = ap (λ (l : Line). l.removed) too.2 in
    among_removed p b (record { name = name; number = n }) (subst (Mem (record { name = name; number = n })) removed (removed_among o sound b name n at)))

removed_alike : (o p : Office) → IsSound o → IsSound p → lines_of o ≡ lines_of p → (b name : List ℕ) → removed_at o b name ≡ removed_at p b name
removed_alike o p sound sound' e b name =
    both_options (removed_at o b name) (removed_at p b name) (removed_too o p sound sound' e b name) (removed_too p o sound' sound (sym e) b name)

pub dumps_are_exact : DumpsAreExact
dumps_are_exact o p sound sound' e =
    let lines = lines_alike o p sound sound' e in
    same_office o p sound sound' (resources_alike o p sound sound' lines) (pairs_alike o p sound sound' lines) (removed_alike o p sound sound' lines) (epoch_alike o p sound sound' lines)
