-- A resource is told by its line.
use Rattle.book_dumps.proofs.Common.{◌≡◌, ℕ, List, [], ◌∷◌, ◌++◌, refl, sym, ap, ◌∙◌, map, Option, Some, None, option_map, codes}
use Rattle.std.proofs.Common.{◌<◌, ◌^◌, true, false, Bool, cond, decimal}
use Rattle.std.specs.List.{All}
use Rattle.std.proofs.lemmas.Fmt.{decimal_injective}
use Rattle.std.proofs.lemmas.List.Elements.{All-head, All-tail}
use Rattle.json.specs.Json.{Json, string}
use Rattle.book_lists.specs.declared.entries.Entry.{Entry}
use Rattle.book_lists.specs.declared.entries.Who.{Who}
use Rattle.book_lists.specs.declared.entries.Who.TheVariants as form
use Rattle.book_office_audit.specs.EntryLines.{who_text}
use Rattle.book_lists_explain.specs.ShortNames.{short_list}
use Rattle.book_office_values.proofs.NameMapLaws.{same}
use Rattle.book_office_values.proofs.Spelling.{one_text as one_path}
use Rattle.book_office_values.specs.Paths.{IsPath, path_text}
use Rattle.book_rights.specs.declared.privileges.Leaf.{Leaf}
use Rattle.book_rights.specs.declared.privileges.Privilege.{Privilege}
use Rattle.book_dumps.specs.Lines.{action_key, entries_json, entry_json, entry_members, line_json, line_text, mark, paths_json, privilege_json, removed_json, removed_member, set_json, slots}
use Rattle.book_dumps.specs.Objects.{Slot, if_some, items_of, members_of, number_json, present, single_json, text_line, unless_empty}
use Rattle.book_dumps.specs.declared.lines.Line.{Line}
use Rattle.book_dumps.specs.declared.lines.Removed.{Removed}
use Rattle.book_dumps.proofs.Exact.{items_alike, members_alike, mapped_alike, mapped_same, one_text, option_alike, present_alike, string_alike, unless_alike, values_of}
use Rattle.book_dumps.proofs.Feeds.{HasNumerals, IsLine, ItemsHaveNumerals, MembersHaveNumerals, value_line}
use Rattle.book_dumps.proofs.Sets.{privilege_alike, set_alike}

-- ---- principal forms
-- a principal's path begins with a slash
abbrev pub IsPlainForm : Who → Type 0
IsPlainForm (form.Href path) = (rest : List ℕ) × (path ≡ 47 ∷ rest)
IsPlainForm form.Everyone = Unit {0}
IsPlainForm form.Authenticated = Unit {0}
IsPlainForm form.Unauthenticated = Unit {0}
IsPlainForm form.Owner = Unit {0}
IsPlainForm form.Own = Unit {0}

abbrev spelled : List ℕ → Who
spelled t =
    cond (same t (codes "all")) form.Everyone (cond (same t (codes "authenticated")) form.Authenticated
    (cond (same t (codes "unauthenticated")) form.Unauthenticated (cond (same t (codes "owner")) form.Owner
    (cond (same t (codes "self")) form.Own (form.Href t)))))

slash_apart : (rest : List ℕ) → spelled (47 ∷ rest) ≡ form.Href (47 ∷ rest)
slash_apart rest = refl

spelled_back : (w : Who) → IsPlainForm w → spelled (who_text w) ≡ w
spelled_back (form.Href path) h = ap spelled h.1 ∙ slash_apart h.0 ∙ ap form.Href (sym h.1)
spelled_back form.Everyone h = refl
spelled_back form.Authenticated h = refl
spelled_back form.Unauthenticated h = refl
spelled_back form.Owner h = refl
spelled_back form.Own h = refl

form_alike : (a b : Who) → IsPlainForm a → IsPlainForm b → who_text a ≡ who_text b → a ≡ b
form_alike a b p q e = sym (spelled_back a p) ∙ ap spelled e ∙ spelled_back b q

-- ---- entries
names_alike : (s t : Leaf → Bool) → set_json s ≡ set_json t → s ≡ t
names_alike s t e =
    let names : items_of (map privilege_json (short_list s)) ≡ items_of (map privilege_json (short_list t)) = cc in
    set_alike s t (mapped_same privilege_json (λ p q same. privilege_alike p q (string_alike _ _ same)) (short_list s) (short_list t) (items_alike _ _ names))

abbrev parts_of : Json → Bool → Bool → Json → List (List ℕ × Json)
parts_of who invert deny set = (codes "who", who) ∷ (if_some (codes "invert") (mark invert) ++ (action_key deny, set) ∷ [])

key_alike : (d f : Bool) → action_key d ≡ action_key f → d ≡ f
key_alike true true e = refl
key_alike true false e = absurd cc
key_alike false true e = absurd cc
key_alike false false e = refl

parts_alike : (w v : Json) (i j d f : Bool) (s t : Json) → parts_of w i d s ≡ parts_of v j f t → (w ≡ v) × (i ≡ j) × (d ≡ f) × (s ≡ t)
parts_alike w v true true d f s t e =
    let first : ◌≡◌ {A = List ℕ × Json} (codes "who", w) (codes "who", v) = cc in
    let last : ◌≡◌ {A = List ℕ × Json} (action_key d, s) (action_key f, t) = cc in (ap (λ p. p.1) first, refl, key_alike d f (ap (λ p. p.0) last), ap (λ p. p.1) last)
parts_alike w v true false d f s t e = absurd cc
parts_alike w v false true d f s t e = absurd cc
parts_alike w v false false d f s t e =
    let first : ◌≡◌ {A = List ℕ × Json} (codes "who", w) (codes "who", v) = cc in
    let last : ◌≡◌ {A = List ℕ × Json} (action_key d, s) (action_key f, t) = cc in (ap (λ p. p.1) first, refl, key_alike d f (ap (λ p. p.0) last), ap (λ p. p.1) last)

abbrev pub IsPlainEntry : Entry → Type 0
IsPlainEntry e = IsPlainForm e.who

entry_alike : (e f : Entry) → IsPlainEntry e → IsPlainEntry f → entry_json e ≡ entry_json f → e ≡ f
entry_alike e f p q is =
    let ms : members_of (entry_members e) ≡ members_of (entry_members f) = cc in
    let h = parts_alike (string (who_text e.who)) (string (who_text f.who)) e.invert f.invert e.deny f.deny (set_json e.set) (set_json f.set) (members_alike _ _ ms) in
    let who = form_alike e.who f.who p q (string_alike _ _ h.0) in
    let set = names_alike e.set f.set h.3 in
    λ i. record { who = who i; invert = h.1 i; deny = h.2 i; set = set i }

entries_alike : (es fs : List Entry) → All IsPlainEntry es → All IsPlainEntry fs → entries_json es ≡ entries_json fs → es ≡ fs
entries_alike es fs p q e =
    let items : items_of (map entry_json es) ≡ items_of (map entry_json fs) = cc in
    mapped_alike entry_json IsPlainEntry entry_alike es fs p q (items_alike _ _ items)

paths_alike : (ps qs : List (List ℕ)) → paths_json ps ≡ paths_json qs → ps ≡ qs
paths_alike ps qs e =
    let items : items_of (map string ps) ≡ items_of (map string qs) = cc in
    mapped_same string string_alike ps qs (items_alike _ _ items)

-- ---- numbers
abbrev pub IsShort : ℕ → Type 0
IsShort n = n < 2 ^ 64

number_alike : (m n : ℕ) → IsShort m → IsShort n → number_json m ≡ number_json n → m ≡ n
number_alike m n p q e = let d : decimal m ≡ decimal n = cc in decimal_injective m n p q d

abbrev pub IsShortRemoved : Removed → Type 0
IsShortRemoved r = IsShort r.number

name_alike : (r s : Removed) → IsShortRemoved r → IsShortRemoved s → removed_member r ≡ removed_member s → r ≡ s
name_alike r s p q e =
    let name : r.name ≡ s.name = ap (λ m. m.0) e in
    let number = number_alike r.number s.number p q (ap (λ m. m.1) e) in
    λ i. record { name = name i; number = number i }

removed_alike : (rs ss : List Removed) → All IsShortRemoved rs → All IsShortRemoved ss → removed_json rs ≡ removed_json ss → rs ≡ ss
removed_alike rs ss p q e =
    let ms : members_of (map removed_member rs) ≡ members_of (map removed_member ss) = cc in
    mapped_alike removed_member IsShortRemoved name_alike rs ss p q (members_alike _ _ ms)

abbrev pub IsShortIf : Option ℕ → Type 0
IsShortIf None = Unit {0}
IsShortIf (Some n) = IsShort n

number_if_alike : (r s : Option ℕ) → IsShortIf r → IsShortIf s → option_map number_json r ≡ option_map number_json s → r ≡ s
number_if_alike None None p q e = refl
number_if_alike None (Some n) p q e = absurd cc
number_if_alike (Some m) None p q e = absurd cc
number_if_alike (Some m) (Some n) p q e = let k : number_json m ≡ number_json n = cc in ap Some (number_alike m n p q k)

-- ---- lines
pub record IsPlainLine (l : Line) : Type 0 where
  pub path : IsPath l.path
  pub protected : All IsPlainEntry l.protected
  pub own : All IsPlainEntry l.own
  pub number : IsShortIf l.number
  pub removed : All IsShortRemoved l.removed

string_numerals : (ss : List (List ℕ)) → ItemsHaveNumerals (items_of (map string ss))
string_numerals [] = tt
string_numerals (s ∷ ss) = (tt, string_numerals ss)

name_numerals : (ps : List Privilege) → ItemsHaveNumerals (items_of (map privilege_json ps))
name_numerals [] = tt
name_numerals (p ∷ ps) = (tt, name_numerals ps)

entry_numerals : (e : Entry) → HasNumerals (entry_json e)
entry_numerals e = by_mark e.invert
  where
    by_mark : (invert : Bool) → MembersHaveNumerals (members_of (parts_of (string (who_text e.who)) invert e.deny (set_json e.set)))
    by_mark true = (tt, (tt, (name_numerals (short_list e.set), tt)))
    by_mark false = (tt, (name_numerals (short_list e.set), tt))

each_entry : (es : List Entry) → ItemsHaveNumerals (items_of (map entry_json es))
each_entry [] = tt
each_entry (e ∷ es) = (entry_numerals e, each_entry es)

each_removed : (rs : List Removed) → All IsShortRemoved rs → MembersHaveNumerals (members_of (map removed_member rs))
each_removed [] h = tt
each_removed (r ∷ rs) h = ((r.number, All-head IsShortRemoved r rs h, refl), each_removed rs (All-tail IsShortRemoved r rs h))

abbrev HasIf : Option Json → Type 0
HasIf None = Unit {0}
HasIf (Some j) = HasNumerals j

abbrev EachHas : List Slot → Type 0
EachHas [] = Unit {0}
EachHas (s ∷ ss) = HasIf s.1 × EachHas ss

value_numerals : (k : List ℕ) (v : Option Json) (more : List (List ℕ × Json)) → HasIf v → MembersHaveNumerals (members_of more) → MembersHaveNumerals (members_of (if_some k v ++ more))
value_numerals k None more g h = h
value_numerals k (Some j) more g h = (g, h)

present_numerals : (ss : List Slot) → EachHas ss → MembersHaveNumerals (members_of (present ss))
present_numerals [] h = tt
present_numerals (s ∷ ss) h = value_numerals s.0 s.1 (present ss) h.0 (present_numerals ss h.1)

unless_numerals : {A : Type 0} (f : List A → Json) (xs : List A) → HasNumerals (f xs) → HasIf (unless_empty f xs)
unless_numerals f [] h = tt
unless_numerals f (x ∷ xs) h = h

string_if : (s : Option (List ℕ)) → HasIf (option_map string s)
string_if None = tt
string_if (Some s) = tt

number_if : (n : Option ℕ) → IsShortIf n → HasIf (option_map number_json n)
number_if None h = tt
number_if (Some n) h = (n, h, refl)

line_numerals : (l : Line) → IsPlainLine l → HasNumerals (line_json l)
line_numerals l h = present_numerals (slots l) (
  tt,
  (
    string_if l.owner,
    (
      unless_numerals string l.label tt,
      (
        unless_numerals entries_json l.protected (each_entry l.protected),
        (
          unless_numerals entries_json l.own (each_entry l.own),
          (
            unless_numerals paths_json l.members (string_numerals l.members),
            (
              number_if l.number h.number,
              (
                unless_numerals removed_json l.removed (each_removed l.removed h.removed),
                (string_if l.text, tt),
              ),
            ),
          ),
        ),
      ),
    ),
  ),
)

pub line_is_line : (l : Line) → IsPlainLine l → IsLine (line_text l)
line_is_line l h = value_line (line_json l) (line_numerals l h)

-- resources of which equal lines are told are equal
pub line_alike : (l m : Line) → IsPlainLine l → IsPlainLine m → line_text l ≡ line_text m → l ≡ m
line_alike l m p q e =
    let whole : line_json l ≡ line_json m = one_text (line_json l) (line_json m) (line_numerals l p) (line_numerals m q) e in
    let ms : members_of (present (slots l)) ≡ members_of (present (slots m)) = cc in
    let values : values_of (slots l) ≡ values_of (slots m) = present_alike (slots l) (slots m) refl refl (members_alike _ _ ms) in
    let v1 : Some (string (path_text l.path)) ≡ Some (string (path_text m.path)) = cc in
    let v2 : option_map string l.owner ≡ option_map string m.owner = cc in
    let v3 : unless_empty string l.label ≡ unless_empty string m.label = cc in
    let v4 : unless_empty entries_json l.protected ≡ unless_empty entries_json m.protected = cc in
    let v5 : unless_empty entries_json l.own ≡ unless_empty entries_json m.own = cc in
    let v6 : unless_empty paths_json l.members ≡ unless_empty paths_json m.members = cc in
    let v7 : option_map number_json l.number ≡ option_map number_json m.number = cc in
    let v8 : unless_empty removed_json l.removed ≡ unless_empty removed_json m.removed = cc in
    let v9 : option_map string l.text ≡ option_map string m.text = cc in
    let text : path_text l.path ≡ path_text m.path = cc in
    let path = one_path l.path m.path p.path q.path text in
    let owner = option_alike string string_alike l.owner m.owner v2 in
    let label = unless_alike string l.label m.label (string_alike l.label m.label) v3 in
    let protected = unless_alike entries_json l.protected m.protected (entries_alike l.protected m.protected p.protected q.protected) v4 in
    let own = unless_alike entries_json l.own m.own (entries_alike l.own m.own p.own q.own) v5 in
    let members = unless_alike paths_json l.members m.members (paths_alike l.members m.members) v6 in
    let number = number_if_alike l.number m.number p.number q.number v7 in
    let removed = unless_alike removed_json l.removed m.removed (removed_alike l.removed m.removed p.removed q.removed) v8 in
    let card = option_alike string string_alike l.text m.text v9 in
    λ i. record {
      path = path i;
      owner = owner i;
      label = label i;
      protected = protected i;
      own = own i;
      members = members i;
      number = number i;
      removed = removed i;
      text = card i;
    }

-- ---- the line of one number
single_numerals : (k : List ℕ) (n : ℕ) → IsShort n → HasNumerals (single_json k n)
single_numerals k n few = ((n, few, refl), tt)

pub single_is_line : (k : List ℕ) (n : ℕ) → IsShort n → IsLine (text_line (single_json k n))
single_is_line k n few = value_line (single_json k n) (single_numerals k n few)

pub single_alike : (k : List ℕ) (m n : ℕ) → IsShort m → IsShort n → text_line (single_json k m) ≡ text_line (single_json k n) → m ≡ n
single_alike k m n p q e =
    let whole : single_json k m ≡ single_json k n = one_text (single_json k m) (single_json k n) (single_numerals k m p) (single_numerals k n q) e in
    let number : number_json m ≡ number_json n = cc in number_alike m n p q number
