-- A line says one thing at most, or has one fault at most, and never both.
use Rattle.book_lists_explain.proofs.Common.{◌≡◌, ◌≢◌, ℕ, ◌<◌, Bool, true, false, List, [], ◌∷◌, ◌++◌, length, map, drop, get_or, codes, inl, inr, refl, sym, ap, ◌∙◌, subst, arith, bytes_eq, Leaf, Privilege, Caller, Entry, Who, ExplainFaultKind, BadName, UnknownPrivilege, Line, member_form, caller_form, owner_form, here_form, Names, IsWho, AreLeaves, FormFault, WordsSay, FaultOfWords, Says, OwnFault}
use Rattle.std.proofs.Common.{cond}
use Rattle.std.specs.List.{list_any}
use Rattle.std.proofs.lemmas.Bool.Decides.{eqb_tells}
use Rattle.std.proofs.lemmas.List.{get_or-map, length-map}
use Rattle.std.proofs.lemmas.Slice.Eq.{bytes_eq-Decides}
use Rattle.book_rights.specs.declared.privileges.Leaf.TheVariants.{ReadTexts, WriteContent, WriteProperties, Bind, Unbind, ReadAcl, WriteAcl, ReadCurrentUserPrivilegeSet, ReadNames}
use Rattle.book_rights.specs.declared.privileges.Privilege.TheVariants.{One, Read, Write, All}
use Rattle.book_rights.specs.Leaves.{same_set}
use Rattle.book_rights.specs.Privileges.{contained, name_of}
use Rattle.book_lists.specs.declared.circles.Caller.TheVariants.{Nobody, Known}
use Rattle.book_lists.specs.declared.entries.Who.TheVariants as forms
use Rattle.book_lists_explain.specs.declared.lines.Line.TheVariants as lines
use Rattle.book_lists_explain.specs.Lines.{Form, need_form, entry_form, words, IsProper, HasForm, HasUnknown, Means, HasBadName, HasUnknownPrivilege}
use Rattle.book_lists_explain.proofs.LineFaults.{one_path}

-- ---- privileges by their names
leaf_named : List ℕ → Leaf
leaf_named name =
    cond (bytes_eq name (codes "x-read-texts")) ReadTexts (cond (bytes_eq name (codes "write-content")) WriteContent (cond (bytes_eq name (codes "write-properties")) WriteProperties
    (cond (bytes_eq name (codes "bind")) Bind (cond (bytes_eq name (codes "unbind")) Unbind (cond (bytes_eq name (codes "read-acl")) ReadAcl
    (cond (bytes_eq name (codes "write-acl")) WriteAcl (cond (bytes_eq name (codes "x-read-names")) ReadNames ReadCurrentUserPrivilegeSet)))))))

privilege_named : List ℕ → Privilege
unfolding leaf_named
privilege_named name = cond (bytes_eq name (codes "read")) Read (cond (bytes_eq name (codes "write")) Write (cond (bytes_eq name (codes "all")) All (One (leaf_named name))))

privilege_named-name_of : (p : Privilege) → privilege_named (name_of p) ≡ p
unfolding privilege_named leaf_named
privilege_named-name_of (One ReadTexts) = refl
privilege_named-name_of (One WriteContent) = refl
privilege_named-name_of (One WriteProperties) = refl
privilege_named-name_of (One Bind) = refl
privilege_named-name_of (One Unbind) = refl
privilege_named-name_of (One ReadAcl) = refl
privilege_named-name_of (One WriteAcl) = refl
privilege_named-name_of (One ReadCurrentUserPrivilegeSet) = refl
privilege_named-name_of (One ReadNames) = refl
privilege_named-name_of Read = refl
privilege_named-name_of Write = refl
privilege_named-name_of All = refl

all_named : (ps : List Privilege) → map privilege_named (map name_of ps) ≡ ps
all_named [] = refl
all_named (p ∷ ps) = λ i. privilege_named-name_of p i ∷ all_named ps i

-- names contain one set of leaves
one_set : (names : List (List ℕ)) (s t : Leaf → Bool) → AreLeaves names s → AreLeaves names t → s ≡ t
one_set names s t a b =
    let same : a.0 ≡ b.0 = sym (all_named a.0) ∙ ap (map privilege_named) (a.1 ∙ sym b.1) ∙ all_named b.0 in
    same_set s t (λ leaf. a.2 leaf ∙ ap (list_any (λ p. contained p leaf)) same ∙ sym (b.2 leaf))

-- the names of privileges are not unknown
known_names : (names : List (List ℕ)) (set : Leaf → Bool) → AreLeaves names set → HasUnknown names → ⊥
known_names names set a unknown =
    let within : unknown.0 < length a.0 = omega (arith, unknown.1, length-map a.0 name_of, ap length a.1) in
    unknown.2 (get_or a.0 unknown.0 All) (sym (ap (λ xs. get_or xs unknown.0 []) a.1) ∙ get_or-map name_of a.0 unknown.0 All [] within)

-- ---- the form of a line by its words
pub form_of : List (List ℕ) → Form
form_of ws =
    let word = get_or ws 0 [] in
    let invert = bytes_eq (get_or ws 1 []) (codes "not") in
    let rest = cond invert (drop 2 ws) (drop 1 ws) in
    cond (bytes_eq word (codes "member")) (member_form (get_or ws 1 []) (get_or ws 2 []))
    (cond (bytes_eq word (codes "caller")) (caller_form (get_or ws 1 []))
    (cond (bytes_eq word (codes "need")) (need_form (get_or ws 1 []) (drop 2 ws))
    (cond (bytes_eq word (codes "owner")) (owner_form (get_or ws 1 []))
    (cond (bytes_eq word (codes "here")) (here_form (get_or ws 1 []))
    (entry_form (bytes_eq word (codes "deny")) invert (get_or rest 0 []) (get_or rest 1 []) (drop 2 rest))))))

differs : (xs ys : List ℕ) → xs ≢ ys → bytes_eq xs ys ≡ false
differs xs ys n = go (bytes_eq xs ys) refl
  where
    go : (b : Bool) → bytes_eq xs ys ≡ b → b ≡ false
    go true e = absurd (n ((bytes_eq-Decides xs ys).0 e))
    go false e = refl

pub form_of-words : (form : Form) → IsProper form → form_of (words form) ≡ form
unfolding form_of
form_of-words (member_form group member) p = refl
form_of-words (caller_form person) p = refl
form_of-words (need_form name names) p = refl
form_of-words (owner_form path) p = refl
form_of-words (here_form path) p = refl
form_of-words (entry_form true true who name names) p = refl
form_of-words (entry_form false true who name names) p = refl
form_of-words (entry_form true false who name names) p = rw (differs who (codes "not") p) refl
form_of-words (entry_form false false who name names) p = rw (differs who (codes "not") p) refl

one_form : (ws : List (List ℕ)) (f g : Form) → HasForm ws f → HasForm ws g → f ≡ g
one_form ws f g a b = sym (form_of-words f a.1) ∙ ap form_of (a.0 ∙ sym b.0) ∙ form_of-words g b.1

-- ---- what a line of one form says
starts : (word path : List ℕ) → Names word path → get_or word 0 0 ≡ 47
starts word path (inl person, inl e) = ap (λ xs. get_or xs 0 0) (e ∙ person.2)
starts word path (inl person, inr e) = ap (λ xs. get_or xs 0 0) (e ∙ ap (λ xs. xs ++ codes "/") person.2)
starts word path (inr group, inl e) = ap (λ xs. get_or xs 0 0) (e ∙ group.2)
starts word path (inr group, inr e) = ap (λ xs. get_or xs 0 0) (e ∙ ap (λ xs. xs ++ codes "/") group.2)

who_named : List ℕ → Who
who_named word =
    cond (bytes_eq word (codes "all")) forms.Everyone (cond (bytes_eq word (codes "authenticated")) forms.Authenticated
    (cond (bytes_eq word (codes "unauthenticated")) forms.Unauthenticated (cond (bytes_eq word (codes "owner")) forms.Owner forms.Own)))

-- a word that begins with no slash names no principal
named_who : (word : List ℕ) (who : Who) → get_or word 0 0 ≢ 47 → IsWho word who → who_named word ≡ who
unfolding who_named
named_who word (forms.Href path) n is = absurd (n (starts word path is))
named_who word forms.Everyone n is = ap who_named is
named_who word forms.Authenticated n is = ap who_named is
named_who word forms.Unauthenticated n is = ap who_named is
named_who word forms.Owner n is = ap who_named is
named_who word forms.Own n is = ap who_named is

named_path : (word : List ℕ) (who : Who) → get_or word 0 0 ≡ 47 → IsWho word who → (path : List ℕ) × Names word path × (who ≡ forms.Href path)
named_path word (forms.Href path) s is = (path, is, refl)
named_path word forms.Everyone s is = let h : 97 ≡ 47 = sym (ap (λ xs. get_or xs 0 0) is) ∙ s in absurd (omega (arith, h))
named_path word forms.Authenticated s is = let h : 97 ≡ 47 = sym (ap (λ xs. get_or xs 0 0) is) ∙ s in absurd (omega (arith, h))
named_path word forms.Unauthenticated s is = let h : 117 ≡ 47 = sym (ap (λ xs. get_or xs 0 0) is) ∙ s in absurd (omega (arith, h))
named_path word forms.Owner s is = let h : 111 ≡ 47 = sym (ap (λ xs. get_or xs 0 0) is) ∙ s in absurd (omega (arith, h))
named_path word forms.Own s is = let h : 115 ≡ 47 = sym (ap (λ xs. get_or xs 0 0) is) ∙ s in absurd (omega (arith, h))

one_who : (word : List ℕ) (v w : Who) → IsWho word v → IsWho word w → v ≡ w
one_who word v w a b =
    elim (eqb_tells (get_or word 0 0) 47) [
      | inl e ↦
          let p = named_path word v e.1 a in
          let q = named_path word w e.1 b in
          p.2 ∙ ap forms.Href (one_path word p.0 q.0 p.1 q.1) ∙ sym q.2
      | inr e ↦ sym (named_who word v e.1 a) ∙ named_who word w e.1 b
    ]

one_caller : (word : List ℕ) (c d : Caller) → Means (caller_form word) (lines.Asks c) → Means (caller_form word) (lines.Asks d) → c ≡ d
one_caller word Nobody Nobody a b = refl
one_caller word Nobody (Known q) a b = let h : 45 ≡ 47 = sym (ap (λ xs. get_or xs 0 0) a) ∙ starts word q b.0 in absurd (omega (arith, h))
one_caller word (Known p) Nobody a b = let h : 45 ≡ 47 = sym (ap (λ xs. get_or xs 0 0) b) ∙ starts word p a.0 in absurd (omega (arith, h))
one_caller word (Known p) (Known q) a b = ap Known (one_path word p q a.0 b.0)

same_entry : (d e : Entry) → d.who ≡ e.who → d.invert ≡ e.invert → d.deny ≡ e.deny → d.set ≡ e.set → d ≡ e
same_entry d e w v x s = λ i. record { who = w i; invert = v i; deny = x i; set = s i }

one_line : (form : Form) (x y : Line) → Means form x → Means form y → x ≡ y
one_line (member_form a b) (lines.Member g m) (lines.Member h n) p q = λ i. lines.Member (one_path a g h p.0 q.0 i) (one_path b m n p.2 q.2 i)
one_line (member_form a b) (lines.Member g m) y p q = absurd q
one_line (member_form a b) x y p q = absurd p
one_line (caller_form a) (lines.Asks c) (lines.Asks d) p q = ap lines.Asks (one_caller a c d p q)
one_line (caller_form a) (lines.Asks c) y p q = absurd q
one_line (caller_form a) x y p q = absurd p
one_line (need_form name names) (lines.Need s) (lines.Need t) p q = ap lines.Need (one_set (name ∷ names) s t p q)
one_line (need_form name names) (lines.Need s) y p q = absurd q
one_line (need_form name names) x y p q = absurd p
one_line (owner_form a) (lines.Owner g) (lines.Owner h) p q = ap lines.Owner (one_path a g h p q)
one_line (owner_form a) (lines.Owner g) y p q = absurd q
one_line (owner_form a) x y p q = absurd p
one_line (here_form a) (lines.Here g) (lines.Here h) p q = ap lines.Here (one_path a g h p q)
one_line (here_form a) (lines.Here g) y p q = absurd q
one_line (here_form a) x y p q = absurd p
one_line (entry_form deny invert who name names) (lines.Listed d) (lines.Listed e) p q =
    ap lines.Listed (same_entry d e (one_who who d.who e.who p.2 q.2) (p.1 ∙ sym q.1) (p.0 ∙ sym q.0) (one_set (name ∷ names) d.set e.set p.3 q.3))
one_line (entry_form deny invert who name names) (lines.Listed d) y p q = absurd q
one_line (entry_form deny invert who name names) x y p q = absurd p

-- ---- a line of one form with a fault says nothing
caller_fault : (word : List ℕ) (c : Caller) → HasBadName (caller_form word) → Means (caller_form word) (lines.Asks c) → ⊥
caller_fault word Nobody bad means = bad.0 means
caller_fault word (Known person) bad means = bad.1 person means.0 means.1

bad_name_says : (form : Form) (x : Line) → HasBadName form → Means form x → ⊥
bad_name_says (member_form a b) (lines.Member g m) (inl group) means = group g means.0 means.1
bad_name_says (member_form a b) (lines.Member g m) (inr member) means = member m means.2
bad_name_says (member_form a b) x bad means = absurd means
bad_name_says (caller_form a) (lines.Asks c) bad means = caller_fault a c bad means
bad_name_says (caller_form a) x bad means = absurd means
bad_name_says (need_form name names) x bad means = bad
bad_name_says (owner_form a) (lines.Owner path) bad means = bad path means
bad_name_says (owner_form a) x bad means = absurd means
bad_name_says (here_form a) (lines.Here path) bad means = bad path means
bad_name_says (here_form a) x bad means = absurd means
bad_name_says (entry_form deny invert who name names) (lines.Listed e) bad means = bad e.who means.2
bad_name_says (entry_form deny invert who name names) x bad means = absurd means

unknown_says : (form : Form) (x : Line) → HasUnknownPrivilege form → Means form x → ⊥
unknown_says (need_form name names) (lines.Need set) unknown means = known_names (name ∷ names) set means unknown
unknown_says (need_form name names) x unknown means = absurd means
unknown_says (entry_form deny invert who name names) (lines.Listed e) unknown means = known_names (name ∷ names) e.set means.3 unknown
unknown_says (entry_form deny invert who name names) x unknown means = absurd means
unknown_says form x unknown means = absurd unknown

fault_says : (form : Form) (kind : ExplainFaultKind) (x : Line) → FormFault form kind → Means form x → ⊥
fault_says form BadName x fault means = bad_name_says form x fault means
fault_says form UnknownPrivilege x fault means = unknown_says form x fault.1 means
fault_says form kind x fault means = absurd fault

one_form_fault : (form : Form) (k l : ExplainFaultKind) → FormFault form k → FormFault form l → k ≡ l
one_form_fault form BadName BadName a b = refl
one_form_fault form BadName UnknownPrivilege a b = absurd (b.0 a)
one_form_fault form BadName l a b = absurd b
one_form_fault form UnknownPrivilege BadName a b = absurd (a.0 b)
one_form_fault form UnknownPrivilege UnknownPrivilege a b = refl
one_form_fault form UnknownPrivilege l a b = absurd b
one_form_fault form k l a b = absurd a

-- ---- the words of a line
module _ (ws : List (List ℕ)) where
  one_tell : (x y : Line) → WordsSay ws x → WordsSay ws y → x ≡ y
  one_tell x y a b = one_line b.0 x y (subst (λ form. Means form x) (one_form ws a.0 b.0 a.1 b.1) a.2) b.2

  fault_tells : (kind : ExplainFaultKind) (x : Line) → FaultOfWords ws kind → WordsSay ws x → ⊥
  fault_tells kind x (inl none) told = none.1 told.0 told.1
  fault_tells kind x (inr fault) told = fault_says told.0 kind x (subst (λ form. FormFault form kind) (one_form ws fault.0 told.0 fault.1 told.1) fault.2) told.2

  one_words_fault : (k l : ExplainFaultKind) → FaultOfWords ws k → FaultOfWords ws l → k ≡ l
  one_words_fault k l (inl a) (inl b) = a.0 ∙ sym b.0
  one_words_fault k l (inl a) (inr b) = absurd (a.1 b.0 b.1)
  one_words_fault k l (inr a) (inl b) = absurd (b.1 a.0 a.1)
  one_words_fault k l (inr a) (inr b) = one_form_fault b.0 k l (subst (λ form. FormFault form k) (one_form ws a.0 b.0 a.1 b.1) a.2) b.2

-- ---- the whole line
module _ (line : List ℕ) where
  pub one_saying : (x y : Line) → Says line x → Says line y → x ≡ y
  one_saying x y (inl a) (inl b) = a.1 ∙ sym b.1
  one_saying x y (inl a) (inr b) = absurd (b.0 a.0)
  one_saying x y (inr a) (inl b) = absurd (a.0 b.0)
  one_saying x y (inr a) (inr b) = one_tell _ x y a.2 b.2

  pub faulty_says : (kind : ExplainFaultKind) (x : Line) → OwnFault line kind → Says line x → ⊥
  faulty_says kind x fault (inl blank) = fault.0 blank.0
  faulty_says kind x (full, inl empty) (inr told) = empty.1 told.1
  faulty_says kind x (full, inr fault) (inr told) = fault_tells _ kind x fault.1 told.2

  pub one_own_fault : (k l : ExplainFaultKind) → OwnFault line k → OwnFault line l → k ≡ l
  one_own_fault k l (full, inl a) (full', inl b) = a.0 ∙ sym b.0
  one_own_fault k l (full, inl a) (full', inr b) = absurd (a.1 b.0)
  one_own_fault k l (full, inr a) (full', inl b) = absurd (b.1 a.0)
  one_own_fault k l (full, inr a) (full', inr b) = one_words_fault _ k l a.1 b.1
