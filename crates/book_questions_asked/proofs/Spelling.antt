-- What is stated is spelled by words that `explain` reads.
use Rattle.book_questions_asked.proofs.Common.{◌≡◌, ◌++◌, ◌∷◌, ◌∙◌, [], ℕ, Bool, true, false, List, ap, arith, codes, flat_map, inl, inr, list_any, map, refl, subst, sym, false≢true, Caller, Leaf, Membership}
use Rattle.std.proofs.Common.{◌≢◌, ◌||◌, All, IsTrue, length, nat_eq}
use Rattle.std.proofs.lemmas.Bool.{ne_eqb}
use Rattle.std.proofs.lemmas.Bool.Decides.{Decides-eqb}
use Rattle.std.proofs.lemmas.List.{append_assoc}
use Rattle.std.proofs.lemmas.List.Elements.{All-head, All-tail}
use Rattle.std.specs.Prelude.{◌==◌}
use Rattle.book_rights.specs.Privileges.{contained, name_of}
use Rattle.book_rights.specs.declared.privileges.Leaf.TheVariants.{ReadTexts, WriteContent, WriteProperties, Bind, Unbind, ReadAcl, WriteAcl, ReadCurrentUserPrivilegeSet, ReadNames}
use Rattle.book_rights.specs.declared.privileges.Privilege.{Privilege}
use Rattle.book_rights.specs.declared.privileges.Privilege.TheVariants as privilege
use Rattle.book_lists.specs.Names.{IsName, is_name_byte}
use Rattle.book_lists.specs.Principals.{IsGroup, IsPerson, IsPrincipal, group_path, person_path}
use Rattle.book_lists.specs.declared.circles.Caller.TheVariants.{Known, Nobody}
use Rattle.book_lists.specs.declared.entries.Entry.{Entry}
use Rattle.book_lists.specs.declared.entries.Who.{Who}
use Rattle.book_lists.specs.declared.entries.Who.TheVariants as forms
use Rattle.book_lists_explain.specs.Answers.{spaced}
use Rattle.book_lists_explain.specs.Lines.{AreLeaves, Form, IsBlank, IsProper, IsWho, Means, NoEmpty, Says, WordsSay, action, caller_form, entry_form, here_form, inverted, member_form, need_form, owner_form, words, words_of}
use Rattle.book_lists_explain.specs.ShortNames.{short_list}
use Rattle.book_lists_explain.specs.declared.lines.Line.{Line}
use Rattle.book_lists_explain.specs.declared.lines.Line.TheVariants as lines
use Rattle.book_office_audit.specs.EntryLines.{who_text}
use Rattle.book_questions_asked.specs.Lines.{asked_line, caller_line, entry_line, need_line}
use Rattle.book_questions_asked.specs.Stated.{holds_some}
use Rattle.book_questions_asked.proofs.ShortLists.{short_holds, short_some}
use Rattle.book_questions_asked.proofs.Splits.{Each, Lacks, lacks_both, line_text, rest_line, spelled, words_spelled}

-- ---- words
-- a word of a line: not empty, and without spaces and line feeds
pub record IsWord (w : List ℕ) : Type 0 where
  pub line : Lacks 10 w
  pub space : Lacks 32 w
  pub some : nat_eq (length w) 0 ≡ false

abbrev pub AreWords : List (List ℕ) → Type 0
AreWords [] = Unit {0}
AreWords (w ∷ ws) = IsWord w × AreWords ws

pub lack_lines : (ws : List (List ℕ)) → AreWords ws → Each 10 ws
lack_lines [] h = tt
lack_lines (w ∷ ws) h = (h.0.line, lack_lines ws h.1)

lack_spaces : (ws : List (List ℕ)) → AreWords ws → Each 32 ws
lack_spaces [] h = tt
lack_spaces (w ∷ ws) h = (h.0.space, lack_spaces ws h.1)

none_empty : (ws : List (List ℕ)) → AreWords ws → NoEmpty ws
none_empty [] h = refl
none_empty (w ∷ ws) h = λ i. h.0.some i || none_empty ws h.1 i

-- a name
name_lacks : (b : ℕ) → is_name_byte b ≡ false → (name : List ℕ) → All (λ x. IsTrue (is_name_byte x)) name → Lacks b name
name_lacks b n [] each = refl
name_lacks b n (x ∷ xs) each =
    elim (x == b) as (λ t. (x == b) ≡ t → (t || list_any (λ y. y == b) xs) ≡ false) [
      | true ↦ λ e.
          let same : x ≡ b = (Decides-eqb x b).0 e in
          let first : is_name_byte x ≡ true = All-head (λ y. IsTrue (is_name_byte y)) x xs each in
          absurd (false≢true (sym n ∙ ap is_name_byte (sym same) ∙ first))
      | false ↦ λ _. name_lacks b n xs (All-tail (λ y. IsTrue (is_name_byte y)) x xs each)
    ] refl

some_word : (b : ℕ) (rest : List ℕ) → nat_eq (length (b ∷ rest)) 0 ≡ false
some_word b rest = ne_eqb (length (b ∷ rest)) 0 (λ e. omega (arith, e))

person_word : (name : List ℕ) → IsName name → IsWord (person_path name)
person_word name is = record {
  line = lacks_both 10 (codes "/people/") name refl (name_lacks 10 refl name is.each);
  space = lacks_both 32 (codes "/people/") name refl (name_lacks 32 refl name is.each);
  some = some_word 47 (codes "people/" ++ name);
}

group_word : (name : List ℕ) → IsName name → IsWord (group_path name)
group_word name is = record {
  line = lacks_both 10 (codes "/groups/") name refl (name_lacks 10 refl name is.each);
  space = lacks_both 32 (codes "/groups/") name refl (name_lacks 32 refl name is.each);
  some = some_word 47 (codes "groups/" ++ name);
}

principal_word : (path : List ℕ) → IsPrincipal path → IsWord path
principal_word path (inl p) = subst IsWord (sym p.2) (person_word p.0 p.1)
principal_word path (inr g) = subst IsWord (sym g.2) (group_word g.0 g.1)

known_word : (w : List ℕ) → Lacks 10 w → Lacks 32 w → nat_eq (length w) 0 ≡ false → IsWord w
known_word w a b c = record { line = a; space = b; some = c }

privilege_word : (p : Privilege) → IsWord (name_of p)
privilege_word (privilege.One ReadTexts) = known_word _ refl refl refl
privilege_word (privilege.One WriteContent) = known_word _ refl refl refl
privilege_word (privilege.One WriteProperties) = known_word _ refl refl refl
privilege_word (privilege.One Bind) = known_word _ refl refl refl
privilege_word (privilege.One Unbind) = known_word _ refl refl refl
privilege_word (privilege.One ReadAcl) = known_word _ refl refl refl
privilege_word (privilege.One WriteAcl) = known_word _ refl refl refl
privilege_word (privilege.One ReadCurrentUserPrivilegeSet) = known_word _ refl refl refl
privilege_word (privilege.One ReadNames) = known_word _ refl refl refl
privilege_word privilege.Read = known_word _ refl refl refl
privilege_word privilege.Write = known_word _ refl refl refl
privilege_word privilege.All = known_word _ refl refl refl

privilege_words : (ps : List Privilege) → AreWords (map name_of ps)
privilege_words [] = tt
privilege_words (p ∷ ps) = (privilege_word p, privilege_words ps)

-- ---- lines
-- words spell what a line says
pub record IsSpelledBy (ws : List (List ℕ)) (said : Line) : Type 0 where
  pub form : Form
  pub is : words form ≡ ws
  pub spelt : AreWords ws
  pub proper : IsProper form
  pub means : Means form said

not_blank : (b : ℕ) (rest : List ℕ) → (b ≡ 35 → ⊥) → IsBlank (b ∷ rest) → ⊥
not_blank b rest n (inl e) = absurd cc
not_blank b rest n (inr (r, e)) = n cc

never_blank : (form : Form) → IsBlank (spelled (words form)) → ⊥
never_blank (member_form group member) h = not_blank 109 _ (λ e. omega (arith, e)) h
never_blank (caller_form person) h = not_blank 99 _ (λ e. omega (arith, e)) h
never_blank (need_form name names) h = not_blank 110 _ (λ e. omega (arith, e)) h
never_blank (owner_form path) h = not_blank 111 _ (λ e. omega (arith, e)) h
never_blank (here_form path) h = not_blank 104 _ (λ e. omega (arith, e)) h
never_blank (entry_form true invert who name names) h = not_blank 100 _ (λ e. omega (arith, e)) h
never_blank (entry_form false invert who name names) h = not_blank 103 _ (λ e. omega (arith, e)) h

same_words : (form : Form) → AreWords (words form) → words_of (spelled (words form)) ≡ words form
same_words (member_form group member) h = words_spelled (codes "member") (group ∷ member ∷ []) (lack_spaces (words (member_form group member)) h)
same_words (caller_form person) h = words_spelled (codes "caller") (person ∷ []) (lack_spaces (words (caller_form person)) h)
same_words (need_form name names) h = words_spelled (codes "need") (name ∷ names) (lack_spaces (words (need_form name names)) h)
same_words (owner_form path) h = words_spelled (codes "owner") (path ∷ []) (lack_spaces (words (owner_form path)) h)
same_words (here_form path) h = words_spelled (codes "here") (path ∷ []) (lack_spaces (words (here_form path)) h)
same_words (entry_form deny invert who name names) h = words_spelled (action deny) (inverted invert (who ∷ name ∷ names)) (lack_spaces (words (entry_form deny invert who name names)) h)

form_says : (form : Form) (said : Line) → AreWords (words form) → IsProper form → Means form said → Says (spelled (words form)) said
form_says form said spelt proper means =
    let same = same_words form spelt in
    inr (
      never_blank form,
      subst NoEmpty (sym same) (none_empty (words form) spelt),
      subst (λ ws. WordsSay ws said) (sym same) (form, (refl, proper), means),
    )

pub says : (ws : List (List ℕ)) (said : Line) → IsSpelledBy ws said → Says (spelled ws) said
says ws said h = subst (λ l. Says (spelled l) said) h.is (form_says h.form said (subst AreWords (sym h.is) h.spelt) h.proper h.means)

-- ---- memberships, callers and principals
abbrev pub member_words : Membership → List (List ℕ)
member_words m = codes "member" ∷ m.group ∷ m.member ∷ []

pub member_spelled : (m : Membership) → IsGroup m.group → IsPrincipal m.member → IsSpelledBy (member_words m) (lines.Member m.group m.member)
member_spelled m is_group is_member = record {
  form = member_form m.group m.member;
  is = refl;
  spelt = (known_word _ refl refl refl, (principal_word m.group (inr is_group), (principal_word m.member is_member, tt)));
  proper = tt;
  means = ((inr is_group, inl refl), is_group, (is_member, inl refl));
}

abbrev pub caller_words : Caller → List (List ℕ)
caller_words Nobody = codes "caller" ∷ codes "-" ∷ []
caller_words (Known person) = codes "caller" ∷ person ∷ []

abbrev pub IsPersonOrNobody : Caller → Type 0
IsPersonOrNobody Nobody = Unit {0}
IsPersonOrNobody (Known person) = IsPerson person

pub caller_spelled : (caller : Caller) → IsPersonOrNobody caller → IsSpelledBy (caller_words caller) (lines.Asks caller)
caller_spelled Nobody h = record { form = caller_form (codes "-"); is = refl; spelt = (known_word _ refl refl refl, (known_word _ refl refl refl, tt)); proper = tt; means = refl }
caller_spelled (Known person) h = record {
  form = caller_form person;
  is = refl;
  spelt = (known_word _ refl refl refl, (principal_word person (inl h), tt));
  proper = tt;
  means = ((inl h, inl refl), h);
}

pub caller_line_is : (caller : Caller) → line_text (caller_words caller) ≡ caller_line caller
caller_line_is Nobody = refl
caller_line_is (Known person) = refl

pub owner_spelled : (path : List ℕ) → IsPrincipal path → IsSpelledBy (codes "owner" ∷ path ∷ []) (lines.Owner path)
owner_spelled path is = record { form = owner_form path; is = refl; spelt = (known_word _ refl refl refl, (principal_word path is, tt)); proper = tt; means = (is, inl refl) }

pub here_spelled : (path : List ℕ) → IsPrincipal path → IsSpelledBy (codes "here" ∷ path ∷ []) (lines.Here path)
here_spelled path is = record { form = here_form path; is = refl; spelt = (known_word _ refl refl refl, (principal_word path is, tt)); proper = tt; means = (is, inl refl) }

-- ---- sets of leaves
names_line : (ps : List Privilege) → rest_line (map name_of ps) ≡ flat_map spaced ps ++ codes "\n"
names_line [] = refl
names_line (p ∷ ps) = ap (λ r. 32 ∷ r) (ap (λ r. name_of p ++ r) (names_line ps) ∙ sym (append_assoc (name_of p) (flat_map spaced ps) (codes "\n")))

are_leaves : (set : Leaf → Bool) (p : Privilege) (ps : List Privilege) → short_list set ≡ p ∷ ps → AreLeaves (name_of p ∷ map name_of ps) set
are_leaves set p ps e = (p ∷ ps, refl, λ leaf. short_holds set leaf ∙ ap (list_any (λ (q : Privilege). contained q leaf)) e)

abbrev pub need_words : (Leaf → Bool) → List (List ℕ)
need_words set = codes "need" ∷ map name_of (short_list set)

pub need_spelled : (set : Leaf → Bool) → holds_some set ≡ true → IsSpelledBy (need_words set) (lines.Need set)
need_spelled set some =
    let h = short_some set some in
    record {
      form = need_form (name_of h.0) (map name_of h.1);
      is = ap (λ ps. codes "need" ∷ map name_of ps) (sym h.2);
      spelt = (known_word _ refl refl refl, privilege_words (short_list set));
      proper = tt;
      means = are_leaves set h.0 h.1 h.2;
    }

pub need_line_is : (set : Leaf → Bool) → line_text (need_words set) ≡ need_line set
need_line_is set = ap (λ r. codes "need" ++ r) (names_line (short_list set))

-- ---- entries
abbrev pub IsKnownWho : Who → Type 0
IsKnownWho (forms.Href path) = IsPrincipal path
IsKnownWho forms.Everyone = Unit {0}
IsKnownWho forms.Authenticated = Unit {0}
IsKnownWho forms.Unauthenticated = Unit {0}
IsKnownWho forms.Owner = Unit {0}
IsKnownWho forms.Own = Unit {0}

who_word : (who : Who) → IsKnownWho who → IsWord (who_text who)
who_word (forms.Href path) h = principal_word path h
who_word forms.Everyone h = known_word _ refl refl refl
who_word forms.Authenticated h = known_word _ refl refl refl
who_word forms.Unauthenticated h = known_word _ refl refl refl
who_word forms.Owner h = known_word _ refl refl refl
who_word forms.Own h = known_word _ refl refl refl

who_named : (who : Who) → IsKnownWho who → IsWho (who_text who) who
who_named (forms.Href path) h = (h, inl refl)
who_named forms.Everyone h = refl
who_named forms.Authenticated h = refl
who_named forms.Unauthenticated h = refl
who_named forms.Owner h = refl
who_named forms.Own h = refl

-- a text with another first byte
begins_apart : (a b : ℕ) (xs ys : List ℕ) → (a ≡ b → ⊥) → a ∷ xs ≢ b ∷ ys
begins_apart a b xs ys n e = n cc

path_not_not : (path : List ℕ) → IsPrincipal path → path ≢ codes "not"
path_not_not path (inl p) e = begins_apart 47 110 _ _ (λ n. omega (arith, n)) (sym p.2 ∙ e)
path_not_not path (inr g) e = begins_apart 47 110 _ _ (λ n. omega (arith, n)) (sym g.2 ∙ e)

not_not : (who : Who) → IsKnownWho who → who_text who ≢ codes "not"
not_not (forms.Href path) h e = path_not_not path h e
not_not forms.Everyone h e = begins_apart 97 110 _ _ (λ n. omega (arith, n)) e
not_not forms.Authenticated h e = begins_apart 97 110 _ _ (λ n. omega (arith, n)) e
not_not forms.Unauthenticated h e = begins_apart 117 110 _ _ (λ n. omega (arith, n)) e
not_not forms.Owner h e = begins_apart 111 110 _ _ (λ n. omega (arith, n)) e
not_not forms.Own h e = begins_apart 115 110 _ _ (λ n. omega (arith, n)) e

abbrev pub entry_words : Entry → List (List ℕ)
entry_words e = action e.deny ∷ inverted e.invert (who_text e.who ∷ map name_of (short_list e.set))

action_is : (deny : Bool) → IsWord (action deny)
action_is true = known_word _ refl refl refl
action_is false = known_word _ refl refl refl

inverted_are : (invert : Bool) (ws : List (List ℕ)) → AreWords ws → AreWords (inverted invert ws)
inverted_are true ws h = (known_word _ refl refl refl, h)
inverted_are false ws h = h

pub entry_spelled : (e : Entry) → IsKnownWho e.who → holds_some e.set ≡ true → IsSpelledBy (entry_words e) (lines.Listed e)
entry_spelled e known some =
    let h = short_some e.set some in
    record {
      form = entry_form e.deny e.invert (who_text e.who) (name_of h.0) (map name_of h.1);
      is = ap (λ ps. action e.deny ∷ inverted e.invert (who_text e.who ∷ map name_of ps)) (sym h.2);
      spelt = (action_is e.deny, inverted_are e.invert _ (who_word e.who known, privilege_words (short_list e.set)));
      proper = not_not e.who known;
      means = (refl, refl, who_named e.who known, are_leaves e.set h.0 h.1 h.2);
    }

pub entry_line_is : (e : Entry) → line_text (entry_words e) ≡ entry_line e
entry_line_is e = go e.deny e.invert
  where
    ended : who_text e.who ++ rest_line (map name_of (short_list e.set)) ≡ who_text e.who ++ asked_line e.set
    ended = ap (λ r. who_text e.who ++ r) (names_line (short_list e.set))

    go : (deny invert : Bool)
        → line_text (action deny ∷ inverted invert (who_text e.who ∷ map name_of (short_list e.set)))
        ≡ entry_line (record e { deny = deny; invert = invert })
    go true true = ap (λ r. codes "deny not " ++ r) ended
    go true false = ap (λ r. codes "deny " ++ r) ended
    go false true = ap (λ r. codes "grant not " ++ r) ended
    go false false = ap (λ r. codes "grant " ++ r) ended
