-- Faults that are passed on, and the paths that a word names.
use Rattle.book_lists_explain.proofs.Common.{◌≡◌, ◌≢◌, ℕ, Bool, true, false, List, [], ◌∷◌, ◌++◌, inl, inr, Err, refl, sym, ap, arith, take, Some, None, ◌<◌, ◌∙◌, subst, get_or, codes, map, length, drop, false≢true, take_all, ExplainFaultKind, BadName, UnknownPrivilege, Who, Leaf, Privilege, map-append, Line, Entry, member_form, caller_form, owner_form, here_form, WordsSay, FaultOfWords, Says, OwnFault, IsWho, AreLeaves, OrMemory, FormFault, Names}
use Rattle.std.proofs.Common.{Ok, IfErr, IsErrAnd, Result, ◌||◌, Bor, nat_eq, zero, suc, ◌≤◌, ◌-◌, IfOk, IfSome, ◌==◌}
use Rattle.std.specs.List.{list_any}
use Rattle.std.proofs.lemmas.Bool.{eqb-true}
use Rattle.std.proofs.lemmas.List.{append_cancel_right}
use Rattle.std.specs.declared.option.Option.{Option}
use Rattle.std.specs.Option.{ok_or, IfNone}
use Rattle.book_lists_explain.specs.declared.faults.ExplainFaultKind.TheVariants.{BadLine}
use Rattle.book_lists.specs.Principals.{IsPerson, IsGroup, IsPrincipal, Spells}
use Rattle.book_lists.specs.declared.entries.Who.TheVariants as forms
use Rattle.book_rights.specs.Privileges.{contained, name_of}
use Rattle.book_rights.specs.Leaves.{union}
use Rattle.std.proofs.lemmas.List.Folds.{list_any-append}
use Rattle.book_lists_explain.specs.declared.lines.Line.TheVariants as lines
use Rattle.book_lists_explain.specs.Lines.{HasUnknown, need_form, entry_form, action, inverted, words, IsProper, HasForm, Means, words_of, IsBlank, Form, HasBadName}
use Rattle.book_lists.proofs.PathEnds.{ends_plain}

pub passed_on : {A : Type 0} (r : Result A ExplainFaultKind) (P : ExplainFaultKind → Type 0) (kind : ExplainFaultKind) → IsErrAnd r (λ e. e ≡ kind) → P kind → IfErr r P
passed_on (Ok v) P kind same p = tt
passed_on (Err e) P kind same p = subst P (sym same) p

pub or_memory : (P Q : ExplainFaultKind → Type 0) (kind : ExplainFaultKind) → (P kind → Q kind) → OrMemory P kind → OrMemory Q kind
or_memory P Q kind f (inl memory) = inl memory
or_memory P Q kind f (inr p) = inr (f p)

pub bad_name : (form : Form) (A : Type 0) (kind : ExplainFaultKind) → (A → HasBadName form) → OrMemory (λ k. (k ≡ BadName) × A) kind → OrMemory (FormFault form) kind
bad_name form A kind f (inl memory) = inl memory
bad_name form A kind f (inr p) = inr (subst (FormFault form) (sym p.0) (f p.1))

-- a person is no group
pub no_group : (path : List ℕ) → IsPerson path → IsGroup path → ⊥
no_group path person group =
    let e : codes "/people/" ++ person.0 ≡ codes "/groups/" ++ group.0 = sym person.2 ∙ group.2 in
    let letters : 112 ≡ 103 = ap (λ xs. get_or xs 1 0) e in
    omega (arith, letters)

pub person_or_group : (path : List ℕ) → IsPrincipal path → (IsGroup path → ⊥) → IsPerson path
person_or_group path (inl person) other = person
person_or_group path (inr group) other = absurd (other group)

-- a word names one principal at most
pub one_path : (word p q : List ℕ) → Names word p → Names word q → p ≡ q
one_path word p q a b = go a.1 b.1
  where
    go : Spells word p → Spells word q → p ≡ q
    go (inl x) (inl y) = sym x ∙ y
    go (inl x) (inr y) = absurd (ends_plain p a.0 q (sym x ∙ y))
    go (inr x) (inl y) = absurd (ends_plain q b.0 p (sym y ∙ x))
    go (inr x) (inr y) = append_cancel_right p q (codes "/") (sym x ∙ y)

-- where there is no value there is this error
pub from_none : {A : Type 0} (r : Result A ExplainFaultKind) (o : Option A) (kind : ExplainFaultKind) (N : Type 0) (P : ExplainFaultKind → Type 0) → r ≡ ok_or o kind → IfNone o N → (N → P kind) → IfErr r P
from_none (Ok v) o kind N P e none f = tt
from_none (Err k) None kind N P e none f = let same : k ≡ kind = cc in subst P (sym same) (f none)
from_none (Err k) (Some v) kind N P e none f = cc

-- a word that is no form's name and names no principal is no principal form
pub no_who : (word : List ℕ) → word ≢ codes "all" → word ≢ codes "authenticated" → word ≢ codes "unauthenticated" → word ≢ codes "owner" → word ≢ codes "self"
    → ((path : List ℕ) → Names word path → ⊥) → (who : Who) → IsWho word who → ⊥
no_who word a b c d e f (forms.Href path) is = f path is
no_who word a b c d e f forms.Everyone is = a is
no_who word a b c d e f forms.Authenticated is = b is
no_who word a b c d e f forms.Unauthenticated is = c is
no_who word a b c d e f forms.Owner is = d is
no_who word a b c d e f forms.Own is = e is

or_last : (a b : Bool) → (a || (b || false)) ≡ (a || b)
or_last true b = refl
or_last false true = refl
or_last false false = refl

-- the leaves of one privilege more
pub leaves_more : (names : List (List ℕ)) (set : Leaf → Bool) (name : List ℕ) (p : Privilege) → name ≡ name_of p → AreLeaves names set → AreLeaves (names ++ name ∷ []) (union set (contained p))
leaves_more names set name p is before = (
  before.0 ++ p ∷ [],
  map-append name_of before.0 (p ∷ []) ∙ ap (λ xs. xs ++ name_of p ∷ []) before.1 ∙ ap (λ x. names ++ x ∷ []) (sym is),
  λ leaf. ap (λ b. b || contained p leaf) (before.2 leaf) ∙ sym (list_any-append (λ q. contained q leaf) before.0 (p ∷ []) ∙ or_last _ _),
)

abbrev pub no_word : Bor (List ℕ)
no_word = record { ref_ptr = (0, 0); now = [] }

abbrev pub word_at : List (Bor (List ℕ)) → ℕ → List ℕ
word_at ws i = (get_or ws i no_word).now

abbrev pub texts : List (Bor (List ℕ)) → List (List ℕ)
texts ws = map (λ w. w.now) ws

pub at_texts : (ws : List (Bor (List ℕ))) (i : ℕ) → get_or (texts ws) i [] ≡ word_at ws i
at_texts [] i = refl
at_texts (w ∷ ws) zero = refl
at_texts (w ∷ ws) (suc i) = at_texts ws i

pub length_texts : (ws : List (Bor (List ℕ))) → length (texts ws) ≡ length ws
length_texts [] = refl
length_texts (w ∷ ws) = ap suc (length_texts ws)

pub any_texts : (p : List ℕ → Bool) (ws : List (Bor (List ℕ))) → list_any p (texts ws) ≡ list_any (λ w. p w.now) ws
any_texts p [] = refl
any_texts p (w ∷ ws) = ap (λ b. p w.now || b) (any_texts p ws)

pub two_words : (ws : List (Bor (List ℕ))) → 2 ≤ length ws → length ws < 3 → texts ws ≡ word_at ws 0 ∷ word_at ws 1 ∷ []
two_words [] h k = absurd (omega (arith, h))
two_words (a ∷ []) h k = absurd (omega (arith, h))
two_words (a ∷ b ∷ []) h k = refl
two_words (a ∷ b ∷ c ∷ ws) h k = absurd (omega (arith, k))

pub three_words : (ws : List (Bor (List ℕ))) → 3 ≤ length ws → length ws < 4 → texts ws ≡ word_at ws 0 ∷ word_at ws 1 ∷ word_at ws 2 ∷ []
three_words [] h k = absurd (omega (arith, h))
three_words (a ∷ []) h k = absurd (omega (arith, h))
three_words (a ∷ b ∷ []) h k = absurd (omega (arith, h))
three_words (a ∷ b ∷ c ∷ []) h k = refl
three_words (a ∷ b ∷ c ∷ d ∷ ws) h k = absurd (omega (arith, k))

-- the first of one or more words, and what follows it
pub first_word : (ws : List (Bor (List ℕ))) → 1 ≤ length ws → texts ws ≡ word_at ws 0 ∷ texts (drop 1 ws)
first_word [] h = absurd (omega (arith, h))
first_word (a ∷ ws) h = refl

pub tell_ok : (ws : List (List ℕ)) (form : Form) (r : Result Line ExplainFaultKind) → HasForm ws form → IfOk r (Means form) → IfOk r (WordsSay ws)
tell_ok ws form (Ok line) has means = (form, has, means)
tell_ok ws form (Err kind) has means = tt

pub tell_err : (ws : List (List ℕ)) (form : Form) (r : Result Line ExplainFaultKind) → HasForm ws form → IfErr r (OrMemory (FormFault form)) → IfErr r (OrMemory (FaultOfWords ws))
tell_err ws form (Ok line) has fault = tt
tell_err ws form (Err kind) has (inl memory) = inl memory
tell_err ws form (Err kind) has (inr fault) = inr (inr (form, has, fault))

pub if_ok : {A B : Type 0} (P Q : A → Type 0) (r : Result A B) → ((x : A) → P x → Q x) → IfOk r P → IfOk r Q
if_ok P Q (Ok x) f p = f x p
if_ok P Q (Err e) f p = tt

pub if_err : {A B : Type 0} (P Q : B → Type 0) (r : Result A B) → ((x : B) → P x → Q x) → IfErr r P → IfErr r Q
if_err P Q (Ok x) f p = tt
if_err P Q (Err e) f p = f e p

pub if_none : {A : Type 0} (o : Option A) (P : Type 0) → P → IfNone o P
if_none None P p = p
if_none (Some x) P p = tt

pub need_told : (names : List (List ℕ)) (set : Leaf → Bool) → (names ≡ [] → ⊥) → AreLeaves names set → WordsSay (codes "need" ∷ names) (lines.Need set)
need_told [] set some leaves = absurd (some refl)
need_told (name ∷ names) set some leaves = (need_form name names, (refl, tt), leaves)

pub need_unknown : (names : List (List ℕ)) → (names ≡ [] → ⊥) → HasUnknown names → FaultOfWords (codes "need" ∷ names) UnknownPrivilege
need_unknown [] some unknown = absurd (some refl)
need_unknown (name ∷ names) some unknown = inr (need_form name names, (refl, tt), ((λ bad. bad), unknown))

module _ (deny invert : Bool) (word : List ℕ) (proper : word ≢ codes "not") where
  pub entry_told : (names : List (List ℕ)) (entry : Entry) → (names ≡ [] → ⊥) → entry.deny ≡ deny → entry.invert ≡ invert → IsWho word entry.who → AreLeaves names entry.set
      → WordsSay (action deny ∷ inverted invert (word ∷ names)) (lines.Listed entry)
  entry_told [] entry some d i who leaves = absurd (some refl)
  entry_told (name ∷ names) entry some d i who leaves = (entry_form deny invert word name names, (refl, proper), (d, i, who, leaves))

  pub entry_bad : (names : List (List ℕ)) → (names ≡ [] → ⊥) → ((who : Who) → IsWho word who → ⊥) → FaultOfWords (action deny ∷ inverted invert (word ∷ names)) BadName
  entry_bad [] some bad = absurd (some refl)
  entry_bad (name ∷ names) some bad = inr (entry_form deny invert word name names, (refl, proper), bad)

  pub entry_unknown : (names : List (List ℕ)) (who : Who) → (names ≡ [] → ⊥) → IsWho word who → HasUnknown names → FaultOfWords (action deny ∷ inverted invert (word ∷ names)) UnknownPrivilege
  entry_unknown [] who some is unknown = absurd (some refl)
  entry_unknown (name ∷ names) who some is unknown = inr (entry_form deny invert word name names, (refl, proper), ((λ bad. bad who is), unknown))

pub if_some : {A : Type 0} (o : Option A) (P : A → Type 0) (x : A) → o ≡ Some x → IfSome o P → P x
if_some o P x e p = subst (λ q. IfSome q P) e p

pub some_texts : (ws : List (Bor (List ℕ))) (b : Bool) → b ≡ (length ws == 0) → b ≡ false → texts ws ≡ [] → ⊥
some_texts [] b e f = λ h. false≢true (sym f ∙ e)
some_texts (w ∷ ws) b e f = λ h. cc

-- the fault and the meaning of a line with words
module _ (line : List ℕ) (not_blank : IsBlank line → ⊥) (ws : List (Bor (List ℕ))) (same : texts ws ≡ words_of line) where
  empties : list_any (λ w. nat_eq (length w) 0) (words_of line) ≡ list_any (λ w. nat_eq (length w.now) 0) ws
  empties = ap (list_any (λ w. nat_eq (length w) 0)) (sym same) ∙ any_texts (λ w. nat_eq (length w) 0) ws

  pub empty_fault : (b : Bool) → b ≡ list_any (λ w. nat_eq (length w.now) 0) ws → b ≡ true → OwnFault line BadLine
  empty_fault b e t = (not_blank, inl (refl, λ none. false≢true (sym none ∙ empties ∙ sym e ∙ t)))

  module _ (b : Bool) (e : b ≡ list_any (λ w. nat_eq (length w.now) 0) ws) (f : b ≡ false) where
    pub line_said : (r : Result Line ExplainFaultKind) → IfOk r (WordsSay (texts ws)) → IfOk r (Says line)
    line_said (Ok x) tell = inr (not_blank, empties ∙ sym e ∙ f, subst (λ vs. WordsSay vs x) same tell)
    line_said (Err k) tell = tt

    pub line_fault : (r : Result Line ExplainFaultKind) → IfErr r (OrMemory (FaultOfWords (texts ws))) → IfErr r (OrMemory (OwnFault line))
    line_fault (Ok x) fault = tt
    line_fault (Err k) (inl memory) = inl memory
    line_fault (Err k) (inr fault) = inr (not_blank, inr (empties ∙ sym e ∙ f, subst (λ vs. FaultOfWords vs k) same fault))

-- what follows the first word
abbrev pub rest_of : List (Bor (List ℕ)) → List (Bor (List ℕ))
rest_of ws = take (length ws - 1) (drop 1 ws)

pub first_rest : (ws : List (Bor (List ℕ))) → 1 ≤ length ws → word_at ws 0 ∷ texts (rest_of ws) ≡ texts ws
first_rest [] h = absurd (omega (arith, h))
first_rest (a ∷ ws) h = ap (λ vs. a.now ∷ texts vs) (take_all (length (a ∷ ws) - 1) ws (omega arith))

-- only an entry's line begins with an action
entry_only : (deny : Bool) (vs : List (List ℕ)) (form : Form) → words form ≡ action deny ∷ vs → IsProper form
    → ((invert : Bool) (who name : List ℕ) (names : List (List ℕ)) → who ≢ codes "not" → inverted invert (who ∷ name ∷ names) ≡ vs → ⊥) → ⊥
entry_only deny vs (entry_form d invert who name names) e p f = f invert who name names p (ap (drop 1) e)
entry_only true vs (member_form a b) e p f = let h : 109 ≡ 100 = ap (λ ws. get_or (get_or ws 0 []) 0 0) e in omega (arith, h)
entry_only true vs (caller_form a) e p f = let h : 99 ≡ 100 = ap (λ ws. get_or (get_or ws 0 []) 0 0) e in omega (arith, h)
entry_only true vs (need_form a b) e p f = let h : 110 ≡ 100 = ap (λ ws. get_or (get_or ws 0 []) 0 0) e in omega (arith, h)
entry_only true vs (owner_form a) e p f = let h : 111 ≡ 100 = ap (λ ws. get_or (get_or ws 0 []) 0 0) e in omega (arith, h)
entry_only true vs (here_form a) e p f = let h : 104 ≡ 100 = ap (λ ws. get_or (get_or ws 0 []) 0 0) e in omega (arith, h)
entry_only false vs (member_form a b) e p f = let h : 109 ≡ 103 = ap (λ ws. get_or (get_or ws 0 []) 0 0) e in omega (arith, h)
entry_only false vs (caller_form a) e p f = let h : 99 ≡ 103 = ap (λ ws. get_or (get_or ws 0 []) 0 0) e in omega (arith, h)
entry_only false vs (need_form a b) e p f = let h : 110 ≡ 103 = ap (λ ws. get_or (get_or ws 0 []) 0 0) e in omega (arith, h)
entry_only false vs (owner_form a) e p f = let h : 111 ≡ 103 = ap (λ ws. get_or (get_or ws 0 []) 0 0) e in omega (arith, h)
entry_only false vs (here_form a) e p f = let h : 104 ≡ 103 = ap (λ ws. get_or (get_or ws 0 []) 0 0) e in omega (arith, h)

too_short : (invert i : Bool) (word who name : List ℕ) (names : List (List ℕ)) → who ≢ codes "not" → inverted i (who ∷ name ∷ names) ≡ inverted invert (word ∷ []) → ⊥
too_short true true word who name names p e = let h : length (codes "not" ∷ who ∷ name ∷ names) ≡ 2 = ap length e in omega (arith, h)
too_short false true word who name names p e = let h : length (codes "not" ∷ who ∷ name ∷ names) ≡ 1 = ap length e in omega (arith, h)
too_short true false word who name names p e = p (ap (λ ws. get_or ws 0 []) e)
too_short false false word who name names p e = let h : length (who ∷ name ∷ names) ≡ 1 = ap length e in omega (arith, h)

-- with no name the line has no form
pub no_names : (deny invert : Bool) (vs : List (List ℕ)) (word : List ℕ) → word ∷ [] ≡ vs → FaultOfWords (action deny ∷ inverted invert vs) BadLine
no_names deny invert vs word same = inl (
  refl,
  λ form has. entry_only deny (inverted invert vs) form has.0 has.1
      (λ i who name names p e. too_short invert i word who name names p (e ∙ ap (inverted invert) (sym same))),
)

-- `not` twice
pub not_twice : (deny invert : Bool) (vs names : List (List ℕ)) → codes "not" ∷ names ≡ vs → (invert ≡ false → (rest : List (List ℕ)) → vs ≢ codes "not" ∷ rest) → FaultOfWords (action deny ∷ inverted invert vs) BadLine
not_twice deny false vs names same once = absurd (once refl names (sym same))
not_twice deny true vs names same once = inl (refl, λ form has. entry_only deny (codes "not" ∷ vs) form has.0 has.1 go)
  where
    go : (i : Bool) (who name : List ℕ) (more : List (List ℕ)) → who ≢ codes "not" → inverted i (who ∷ name ∷ more) ≡ codes "not" ∷ vs → ⊥
    go true who name more p e = p (ap (λ ws. get_or ws 1 []) e ∙ ap (λ ws. get_or ws 0 []) (sym same))
    go false who name more p e = p (ap (λ ws. get_or ws 0 []) e)

pub none_left : (ws : List (Bor (List ℕ))) (b : Bool) → b ≡ (length ws == 0) → b ≡ true → texts ws ≡ []
none_left [] b e t = refl
none_left (w ∷ ws) b e t = let h : length (w ∷ ws) ≡ 0 = eqb-true _ _ (sym e ∙ t) in absurd (omega (arith, h))
