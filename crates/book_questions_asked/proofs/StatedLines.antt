-- The lines of what is stated, and what they say.
use Rattle.book_questions_asked.proofs.Common.{◌≡◌, ◌++◌, ◌∷◌, ◌∙◌, ◌+◌, [], ℕ, Bool, true, List, Option, Some, None, ap, arith, codes, flat_map, inl, inr, map, refl, subst, sym, Caller, Leaf, Membership, set_of, Stated}
use Rattle.std.proofs.Common.{◌≤◌, length, length-append}
use Rattle.std.proofs.lemmas.Grind.{flat_map-append}
use Rattle.std.proofs.lemmas.List.{append-nil, append_assoc, map-append}
use Rattle.std.proofs.lemmas.List.Elements.{filter_map-append}
use Rattle.std.specs.List.{filter_map}
use Rattle.std.specs.Prelude.{option_to_list}
use Rattle.book_lists.proofs.Elements.{Mem}
use Rattle.book_lists.specs.Principals.{IsGroup, IsPrincipal}
use Rattle.book_lists.specs.declared.entries.Entry.{Entry}
use Rattle.book_lists.specs.declared.entries.Here.{Here}
use Rattle.book_lists_explain.specs.Explanations.{AnswersText}
use Rattle.book_lists_explain.specs.Answers.{IsAnswer}
use Rattle.book_lists_explain.specs.Lines.{lines_of}
use Rattle.book_lists_explain.specs.Questions.{LinesSay, caller_in, entry_in, first, here_in, here_of, member_in, need_in, owner_in}
use Rattle.book_lists_explain.specs.declared.lines.Line.{Line}
use Rattle.book_lists_explain.specs.declared.lines.Line.TheVariants as lines
use Rattle.book_questions_asked.specs.Lines.{caller_line, entry_line, here_line, member_line, need_line, owner_line, stated_text}
use Rattle.book_questions_asked.specs.Stated.{holds_some}
use Rattle.book_questions_asked.proofs.Splits.{AllLack, all_lack, line_text, lines_spelled, spelled}
use Rattle.book_questions_asked.proofs.Spelling.{IsKnownWho, IsPersonOrNobody, caller_line_is, caller_spelled, caller_words, entry_line_is, entry_spelled, entry_words, here_spelled, lack_lines, member_spelled, member_words, need_line_is, need_spelled, need_words, owner_spelled, says}

-- ---- what lines add up to
module _ {A X : Type 0} (f : Line → Option A) (g : X → Line) where
  none_of : ((x : X) → f (g x) ≡ None) → (xs : List X) → filter_map f (map g xs) ≡ []
  none_of h [] = refl
  none_of h (x ∷ xs) = simp (h x, none_of h xs)

more_of : {A : Type 0} (f : Line → Option A) (before : List Line) (said : Line) (xs : List A) → filter_map f (said ∷ []) ≡ xs → filter_map f (before ++ said ∷ []) ≡ filter_map f before ++ xs
more_of f before said xs e = filter_map-append f before (said ∷ []) ∙ ap (λ ys. filter_map f before ++ ys) e

still_none : {A : Type 0} (f : Line → Option A) (before : List Line) (said : Line) → filter_map f before ≡ [] → filter_map f (said ∷ []) ≡ [] → filter_map f (before ++ said ∷ []) ≡ []
still_none f before said h e = more_of f before said [] e ∙ append-nil (filter_map f before) ∙ h

-- lines that say something after others, and lines that say something after these
say_both : (before : List Line) (xs : List (List ℕ)) (said : List Line) (ys : List (List ℕ)) (more : List Line)
    → LinesSay before xs said → LinesSay (before ++ said) ys more → LinesSay before (xs ++ ys) (said ++ more)
say_both before [] [] ys more h k = subst (λ b. LinesSay b ys more) (append-nil before) k
say_both before [] (s ∷ said) ys more h k = absurd h
say_both before (x ∷ xs) [] ys more h k = absurd h
say_both before (x ∷ xs) (s ∷ said) ys more h k =
    (h.0, h.1, say_both (before ++ s ∷ []) xs said ys more h.2 (subst (λ b. LinesSay b ys more) (sym (append_assoc before (s ∷ []) said)) k))

-- ---- memberships
abbrev pub member_said : Membership → Line
member_said m = lines.Member m.group m.member

members_say : (ms : List Membership) (before : List Line) → ((m : Membership) → Mem m ms → IsGroup m.group × IsPrincipal m.member)
    → length (filter_map member_in before) + length ms ≤ 1000 → LinesSay before (map spelled (map member_words ms)) (map member_said ms)
members_say [] before known few = tt
members_say (m ∷ ms) before known few =
    let is = known m (inl refl) in
    let more : filter_map member_in (before ++ member_said m ∷ []) ≡ filter_map member_in before ++ m ∷ [] = more_of member_in before (member_said m) (m ∷ []) refl in
    let longer : length (filter_map member_in (before ++ member_said m ∷ [])) ≡ length (filter_map member_in before) + 1 =
    ap length more ∙ length-append (filter_map member_in before) (m ∷ []) in (
      says (member_words m) (member_said m) (member_spelled m is.0 is.1),
      omega (arith, few),
      members_say ms (before ++ member_said m ∷ []) (λ n there. known n (inr there)) (omega (arith, few, longer)),
    )

members_in : (ms : List Membership) → filter_map member_in (map member_said ms) ≡ ms
members_in [] = refl
members_in (m ∷ ms) = ap (λ r. m ∷ r) (members_in ms)

-- ---- entries
entries_say : (es : List Entry) (before : List Line) → ((e : Entry) → Mem e es → IsKnownWho e.who × (holds_some e.set ≡ true))
    → length (filter_map entry_in before) + length es ≤ 64 → LinesSay before (map spelled (map entry_words es)) (map (λ (e : Entry). lines.Listed e) es)
entries_say [] before known few = tt
entries_say (e ∷ es) before known few =
    let is = known e (inl refl) in
    let more : filter_map entry_in (before ++ lines.Listed e ∷ []) ≡ filter_map entry_in before ++ e ∷ [] = more_of entry_in before (lines.Listed e) (e ∷ []) refl in
    let longer : length (filter_map entry_in (before ++ lines.Listed e ∷ [])) ≡ length (filter_map entry_in before) + 1 =
    ap length more ∙ length-append (filter_map entry_in before) (e ∷ []) in (
      says (entry_words e) (lines.Listed e) (entry_spelled e is.0 is.1),
      omega (arith, few),
      entries_say es (before ++ lines.Listed e ∷ []) (λ n there. known n (inr there)) (omega (arith, few, longer)),
    )

entries_in : (es : List Entry) → filter_map entry_in (map (λ (e : Entry). lines.Listed e) es) ≡ es
entries_in [] = refl
entries_in (e ∷ es) = ap (λ r. e ∷ r) (entries_in es)

-- ---- the caller, the owner, the resource and the need
abbrev owner_words : Option (List ℕ) → List (List (List ℕ))
owner_words None = []
owner_words (Some p) = (codes "owner" ∷ p ∷ []) ∷ []

abbrev owner_said : Option (List ℕ) → List Line
owner_said None = []
owner_said (Some p) = lines.Owner p ∷ []

abbrev here_words : Option (List ℕ) → List (List (List ℕ))
here_words None = []
here_words (Some p) = (codes "here" ∷ p ∷ []) ∷ []

abbrev here_said : Option (List ℕ) → List Line
here_said None = []
here_said (Some p) = lines.Here p ∷ []

abbrev pub IsKnown : Option (List ℕ) → Type 0
IsKnown None = Unit {0}
IsKnown (Some path) = IsPrincipal path

module _ (caller : Caller) (set : Leaf → Bool) where
  abbrev middle_words : Option (List ℕ) → Option (List ℕ) → List (List (List ℕ))
  middle_words o h = caller_words caller ∷ (owner_words o ++ (here_words h ++ need_words set ∷ []))

  abbrev middle_said : Option (List ℕ) → Option (List ℕ) → List Line
  middle_said o h = lines.Asks caller ∷ (owner_said o ++ (here_said h ++ lines.Need set ∷ []))

  module _ (is_caller : IsPersonOrNobody caller) (some : holds_some set ≡ true) where
    need_says : (before : List Line) → filter_map need_in before ≡ [] → LinesSay before (spelled (need_words set) ∷ []) (lines.Need set ∷ [])
    need_says before n = (says (need_words set) (lines.Need set) (need_spelled set some), n, tt)

    here_says : (h : Option (List ℕ)) → IsKnown h → (before : List Line) → filter_map here_in before ≡ [] → filter_map need_in before ≡ []
        → LinesSay before (map spelled (here_words h ++ need_words set ∷ [])) (here_said h ++ lines.Need set ∷ [])
    here_says None known before nh n = need_says before n
    here_says (Some p) known before nh n = (
      says (codes "here" ∷ p ∷ []) (lines.Here p) (here_spelled p known),
      nh,
      need_says (before ++ lines.Here p ∷ []) (still_none need_in before (lines.Here p) n refl),
    )

    owner_says : (o h : Option (List ℕ)) → IsKnown o → IsKnown h → (before : List Line) → filter_map owner_in before ≡ [] → filter_map here_in before ≡ [] → filter_map need_in before ≡ []
        → LinesSay before (map spelled (owner_words o ++ (here_words h ++ need_words set ∷ []))) (owner_said o ++ (here_said h ++ lines.Need set ∷ []))
    owner_says None h known known_here before owners nh n = here_says h known_here before nh n
    owner_says (Some p) h known known_here before owners nh n = (
      says (codes "owner" ∷ p ∷ []) (lines.Owner p) (owner_spelled p known),
      owners,
      here_says h known_here (before ++ lines.Owner p ∷ []) (still_none here_in before (lines.Owner p) nh refl) (still_none need_in before (lines.Owner p) n refl),
    )

    middle_says : (o h : Option (List ℕ)) → IsKnown o → IsKnown h → (before : List Line)
        → filter_map caller_in before ≡ [] → filter_map owner_in before ≡ [] → filter_map here_in before ≡ [] → filter_map need_in before ≡ []
        → LinesSay before (map spelled (middle_words o h)) (middle_said o h)
    middle_says o h known known_here before nc owners nh n = (
      says (caller_words caller) (lines.Asks caller) (caller_spelled caller is_caller),
      nc,
      owner_says o h known known_here (before ++ lines.Asks caller ∷ []) (still_none owner_in before (lines.Asks caller) owners refl)
          (still_none here_in before (lines.Asks caller) nh refl) (still_none need_in before (lines.Asks caller) n refl),
    )

  -- what they add up to
  middle_members : (o h : Option (List ℕ)) → filter_map member_in (middle_said o h) ≡ []
  middle_members None None = refl
  middle_members None (Some p) = refl
  middle_members (Some p) None = refl
  middle_members (Some p) (Some q) = refl

  middle_callers : (o h : Option (List ℕ)) → filter_map caller_in (middle_said o h) ≡ caller ∷ []
  middle_callers None None = refl
  middle_callers None (Some p) = refl
  middle_callers (Some p) None = refl
  middle_callers (Some p) (Some q) = refl

  middle_needs : (o h : Option (List ℕ)) → filter_map need_in (middle_said o h) ≡ set ∷ []
  middle_needs None None = refl
  middle_needs None (Some p) = refl
  middle_needs (Some p) None = refl
  middle_needs (Some p) (Some q) = refl

  middle_owners : (o h : Option (List ℕ)) → filter_map owner_in (middle_said o h) ≡ option_to_list o
  middle_owners None None = refl
  middle_owners None (Some p) = refl
  middle_owners (Some p) None = refl
  middle_owners (Some p) (Some q) = refl

  middle_here : (o h : Option (List ℕ)) → filter_map here_in (middle_said o h) ≡ option_to_list h
  middle_here None None = refl
  middle_here None (Some p) = refl
  middle_here (Some p) None = refl
  middle_here (Some p) (Some q) = refl

  middle_entries : (o h : Option (List ℕ)) → filter_map entry_in (middle_said o h) ≡ []
  middle_entries None None = refl
  middle_entries None (Some p) = refl
  middle_entries (Some p) None = refl
  middle_entries (Some p) (Some q) = refl

  -- their text
  middle_text : (o h : Option (List ℕ)) → flat_map line_text (middle_words o h) ≡ caller_line caller ++ (owner_line o ++ (here_line h ++ need_line set))
  middle_text None None = λ i. caller_line_is caller i ++ (append-nil (line_text (need_words set)) ∙ need_line_is set) i
  middle_text None (Some p) = λ i. caller_line_is caller i ++ (here_line (Some p) ++ (append-nil (line_text (need_words set)) ∙ need_line_is set) i)
  middle_text (Some p) None = λ i. caller_line_is caller i ++ (owner_line (Some p) ++ (append-nil (line_text (need_words set)) ∙ need_line_is set) i)
  middle_text (Some p) (Some q) = λ i. caller_line_is caller i ++ (owner_line (Some p) ++ (here_line (Some q) ++ (append-nil (line_text (need_words set)) ∙ need_line_is set) i))

  middle_lack : IsPersonOrNobody caller → holds_some set ≡ true → (o h : Option (List ℕ)) → IsKnown o → IsKnown h → AllLack (middle_words o h)
  middle_lack is_caller some o h known known_here = (lack_lines (caller_words caller) (caller_spelled caller is_caller).spelt, owner_lack o h known known_here)
    where
      need_lack : AllLack (need_words set ∷ [])
      need_lack = (lack_lines (need_words set) (need_spelled set some).spelt, tt)

      here_lack : (h : Option (List ℕ)) → IsKnown h → AllLack (here_words h ++ need_words set ∷ [])
      here_lack None known = need_lack
      here_lack (Some p) known = (lack_lines (codes "here" ∷ p ∷ []) (here_spelled p known).spelt, need_lack)

      owner_lack : (o h : Option (List ℕ)) → IsKnown o → IsKnown h → AllLack (owner_words o ++ (here_words h ++ need_words set ∷ []))
      owner_lack None h known known_here = here_lack h known_here
      owner_lack (Some p) h known known_here = (lack_lines (codes "owner" ∷ p ∷ []) (owner_spelled p known).spelt, here_lack h known_here)

-- ---- all lines
-- the principals that are stated are principals, each entry and the need hold a leaf, and `explain` takes as many
pub record IsReadable (stated : Stated) : Type 0 where
  pub members : (m : Membership) → Mem m stated.members → IsGroup m.group × IsPrincipal m.member
  pub caller : IsPersonOrNobody stated.caller
  pub owner : IsKnown stated.here.owner
  pub here : IsKnown stated.here.principal
  pub some : holds_some stated.set ≡ true
  pub entries : (e : Entry) → Mem e stated.entries → IsKnownWho e.who × (holds_some e.set ≡ true)
  pub few_members : length stated.members ≤ 1000
  pub few_entries : length stated.entries ≤ 64

same_first : (o : Option (List ℕ)) → first (option_to_list o) ≡ o
same_first None = refl
same_first (Some p) = refl

module _ (stated : Stated) (h : IsReadable stated) where
  abbrev member_part : List Line
  member_part = map member_said stated.members

  abbrev middle_part : List Line
  middle_part = middle_said stated.caller stated.set stated.here.owner stated.here.principal

  abbrev entry_part : List Line
  entry_part = map (λ (e : Entry). lines.Listed e) stated.entries

  abbrev said : List Line
  said = member_part ++ (middle_part ++ (entry_part ++ lines.Blank ∷ []))

  abbrev all_words : List (List (List ℕ))
  all_words = map member_words stated.members ++ (middle_words stated.caller stated.set stated.here.owner stated.here.principal ++ map entry_words stated.entries)

  -- the text has these lines
  members_text : (xs : List Membership) → flat_map line_text (map member_words xs) ≡ flat_map member_line xs
  members_text [] = refl
  members_text (x ∷ xs) = ap (λ r. member_line x ++ r) (members_text xs)

  entries_text : (es : List Entry) → flat_map line_text (map entry_words es) ≡ flat_map entry_line es
  entries_text [] = refl
  entries_text (e ∷ es) = λ i. entry_line_is e i ++ entries_text es i

  text_is : flat_map line_text all_words ≡ stated_text stated
  text_is =
      let o = stated.here.owner in
      let p = stated.here.principal in
      let middle = middle_words stated.caller stated.set o p in
      let c = caller_line stated.caller in
      let es = flat_map entry_line stated.entries in
      flat_map-append line_text (map member_words stated.members) (middle ++ map entry_words stated.entries)
      ∙ (λ i. members_text stated.members i ++ flat_map-append line_text middle (map entry_words stated.entries) i)
      ∙ (λ i. flat_map member_line stated.members ++ (middle_text stated.caller stated.set o p i ++ entries_text stated.entries i))
      ∙ ap (λ r. flat_map member_line stated.members ++ r)
      (append_assoc c (owner_line o ++ (here_line p ++ need_line stated.set)) es
      ∙ ap (λ r. c ++ r) (append_assoc (owner_line o) (here_line p ++ need_line stated.set) es
      ∙ ap (λ r. owner_line o ++ r) (append_assoc (here_line p) (need_line stated.set) es)))

  members_lack : (xs : List Membership) → ((m : Membership) → Mem m xs → IsGroup m.group × IsPrincipal m.member) → AllLack (map member_words xs)
  members_lack [] known = tt
  members_lack (x ∷ xs) known =
      let is = known x (inl refl) in
      (lack_lines (member_words x) (member_spelled x is.0 is.1).spelt, members_lack xs (λ m there. known m (inr there)))

  entries_lack : (es : List Entry) → ((e : Entry) → Mem e es → IsKnownWho e.who × (holds_some e.set ≡ true)) → AllLack (map entry_words es)
  entries_lack [] known = tt
  entries_lack (e ∷ es) known =
      let is = known e (inl refl) in
      (lack_lines (entry_words e) (entry_spelled e is.0 is.1).spelt, entries_lack es (λ x there. known x (inr there)))

  abbrev parts : List (List ℕ)
  parts = map spelled (map member_words stated.members)
      ++ (map spelled (middle_words stated.caller stated.set stated.here.owner stated.here.principal) ++ (map spelled (map entry_words stated.entries) ++ [] ∷ []))

  lines_are : lines_of (stated_text stated) ≡ parts
  lines_are =
      let middle = middle_words stated.caller stated.set stated.here.owner stated.here.principal in
      let a = map spelled (map member_words stated.members) in
      let b = map spelled middle in
      let e = map spelled (map entry_words stated.entries) in
      ap lines_of (sym text_is)
      ∙ lines_spelled all_words (all_lack (map member_words stated.members) (middle ++ map entry_words stated.entries) (members_lack stated.members h.members)
      (all_lack middle (map entry_words stated.entries) (middle_lack stated.caller stated.set h.caller h.some stated.here.owner stated.here.principal h.owner h.here)
      (entries_lack stated.entries h.entries)))
      ∙ ap (λ r. r ++ [] ∷ []) (map-append spelled (map member_words stated.members) (middle ++ map entry_words stated.entries)
      ∙ ap (λ r. a ++ r) (map-append spelled middle (map entry_words stated.entries)))
      ∙ append_assoc a (b ++ e) ([] ∷ [])
      ∙ ap (λ r. a ++ r) (append_assoc b e ([] ∷ []))

  -- what they add up to
  added : {A : Type 0} (f : Line → Option A) (xs ys zs : List A) → filter_map f member_part ≡ xs → filter_map f middle_part ≡ ys
      → filter_map f entry_part ≡ zs → filter_map f (lines.Blank ∷ []) ≡ [] → filter_map f said ≡ xs ++ (ys ++ zs)
  added f xs ys zs p q r blank =
      filter_map-append f member_part (middle_part ++ (entry_part ++ lines.Blank ∷ []))
      ∙ (λ i. p i ++ filter_map-append f middle_part (entry_part ++ lines.Blank ∷ []) i)
      ∙ (λ i. xs ++ (q i ++ filter_map-append f entry_part (lines.Blank ∷ []) i))
      ∙ (λ i. xs ++ (ys ++ (r i ++ blank i)))
      ∙ ap (λ t. xs ++ (ys ++ t)) (append-nil zs)

  no_entry_in : {A : Type 0} (f : Line → Option A) → ((e : Entry) → f (lines.Listed e) ≡ None) → filter_map f entry_part ≡ []
  no_entry_in f none = none_of f (λ (e : Entry). lines.Listed e) none stated.entries

  no_member_in : {A : Type 0} (f : Line → Option A) → ((m : Membership) → f (member_said m) ≡ None) → filter_map f member_part ≡ []
  no_member_in f none = none_of f member_said none stated.members

  abbrev o : Option (List ℕ)
  o = stated.here.owner

  abbrev p : Option (List ℕ)
  p = stated.here.principal

  said_callers : filter_map caller_in said ≡ stated.caller ∷ []
  said_callers = added caller_in [] (stated.caller ∷ []) [] (no_member_in caller_in (λ m. refl)) (middle_callers stated.caller stated.set o p) (no_entry_in caller_in (λ e. refl)) refl

  said_needs : filter_map need_in said ≡ stated.set ∷ []
  said_needs = added need_in [] (stated.set ∷ []) [] (no_member_in need_in (λ m. refl)) (middle_needs stated.caller stated.set o p) (no_entry_in need_in (λ e. refl)) refl

  said_members : filter_map member_in said ≡ stated.members
  said_members =
      added member_in stated.members [] [] (members_in stated.members) (middle_members stated.caller stated.set o p) (no_entry_in member_in (λ e. refl)) refl
      ∙ append-nil stated.members

  said_entries : filter_map entry_in said ≡ stated.entries
  said_entries = added entry_in [] [] stated.entries (no_member_in entry_in (λ m. refl)) (middle_entries stated.caller stated.set o p) (entries_in stated.entries) refl

  said_owners : filter_map owner_in said ≡ option_to_list o
  said_owners =
      added owner_in [] (option_to_list o) [] (no_member_in owner_in (λ m. refl)) (middle_owners stated.caller stated.set o p) (no_entry_in owner_in (λ e. refl)) refl
      ∙ append-nil (option_to_list o)

  said_here : filter_map here_in said ≡ option_to_list p
  said_here =
      added here_in [] (option_to_list p) [] (no_member_in here_in (λ m. refl)) (middle_here stated.caller stated.set o p) (no_entry_in here_in (λ e. refl)) refl
      ∙ append-nil (option_to_list p)

  here_is : here_of said ≡ stated.here
  here_is = λ i. record { owner = (ap first said_owners ∙ same_first o) i; principal = (ap first said_here ∙ same_first p) i }

  -- each line says what is stated
  before_entries : filter_map entry_in (member_part ++ middle_part) ≡ []
  before_entries =
      filter_map-append entry_in member_part middle_part
      ∙ (λ i. no_member_in entry_in (λ m. refl) i ++ middle_entries stated.caller stated.set o p i)

  lines_say : LinesSay [] parts said
  lines_say =
      say_both [] (map spelled (map member_words stated.members)) member_part _ (middle_part ++ (entry_part ++ lines.Blank ∷ []))
      (members_say stated.members [] h.members (omega (arith, h.few_members)))
      (say_both member_part (map spelled (middle_words stated.caller stated.set o p)) middle_part _ (entry_part ++ lines.Blank ∷ [])
      (middle_says stated.caller stated.set h.caller h.some o p h.owner h.here member_part (no_member_in caller_in (λ m. refl)) (no_member_in owner_in (λ m. refl))
      (no_member_in here_in (λ m. refl)) (no_member_in need_in (λ m. refl)))
      (say_both (member_part ++ middle_part) (map spelled (map entry_words stated.entries)) entry_part ([] ∷ []) (lines.Blank ∷ [])
      (entries_say stated.entries (member_part ++ middle_part) h.entries (omega (arith, h.few_entries, ap length before_entries)))
      (inl (inl refl, refl), tt, tt)))

  pub answers_stated : (answer : List ℕ) → IsAnswer (set_of stated.members) stated.caller stated.set stated.here stated.entries answer → AnswersText (stated_text stated) answer
  answers_stated answer is = record {
    said = said;
    caller = stated.caller;
    need = stated.set;
    faultless = subst (λ ls. LinesSay [] ls said) (sym lines_are) lines_say;
    asks = said_callers;
    needs = said_needs;
    answers =
        subst (λ (ms : List Membership). IsAnswer (set_of ms) stated.caller stated.set (here_of said) (filter_map entry_in said) answer) (sym said_members)
        (subst (λ (here : Here). IsAnswer (set_of stated.members) stated.caller stated.set here (filter_map entry_in said) answer) (sym here_is)
        (subst (λ (es : List Entry). IsAnswer (set_of stated.members) stated.caller stated.set stated.here es answer) (sym said_entries) is));
  }
