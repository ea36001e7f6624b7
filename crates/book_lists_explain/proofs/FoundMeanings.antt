-- Each line says something, or has a fault.
use Rattle.book_lists_explain.proofs.Common.{◌≡◌, ◌∙◌, ◌⊎◌, ◌+◌, ◌++◌, ◌∷◌, [], ℕ, List, Bool, true, false, inl, inr, refl, sym, ap, subst, arith, length, map, take, drop, get_or, codes, false≢true, Leaf, Privilege, Who, Line, ExplainFaultKind, BadName, UnknownPrivilege, Names, IsWho, AreLeaves, FormFault, FaultOfWords, WordsSay, Says, OwnFault, member_form, caller_form, owner_form, here_form}
use Rattle.std.proofs.Common.{◌-◌, suc, nat_eq, length-append}
use Rattle.std.proofs.Math.Seq.{take-append_seam}
use Rattle.std.specs.List.{list_any}
use Rattle.book_rights.specs.Privileges.{contained, name_of}
use Rattle.book_lists.specs.Principals.{IsGroup, IsPerson, Spells, group_path, person_path}
use Rattle.book_lists.specs.Names.{IsName}
use Rattle.book_lists.specs.declared.circles.Caller.TheVariants.{Nobody, Known}
use Rattle.book_lists.specs.declared.entries.Who.TheVariants as forms
use Rattle.book_lists.proofs.Elements.{Mem}
use Rattle.book_lists.proofs.Decided.{OrNot, both_or_not, either_or_not, name_or_not, not_or_not, number_or_not, one_of, privilege_or_not, same_as, text_or_not}
use Rattle.book_lists_explain.specs.Lines.{Form, need_form, entry_form, HasForm, HasUnknown, IsBlank, IsProper, Means, NoEmpty, words, words_of}
use Rattle.book_lists_explain.specs.declared.faults.ExplainFaultKind.TheVariants.{BadLine}
use Rattle.book_lists_explain.specs.declared.lines.Line.TheVariants as lines
use Rattle.book_lists_explain.proofs.LineFaults.{no_who}
use Rattle.book_lists_explain.proofs.OneMeaning.{form_of, form_of-words}

-- ---- principals by their paths
person_or_not : (path : List ℕ) → OrNot (IsPerson path)
person_or_not path = same_as
    (λ h. (drop 8 path, h.0, h.1))
    (λ (p : IsPerson path).
    let e : drop 8 path ≡ p.0 = ap (drop 8) p.2 in
    (subst IsName (sym e) p.1, p.2 ∙ ap person_path (sym e)))
    (both_or_not (name_or_not (drop 8 path)) (text_or_not path (person_path (drop 8 path))))

group_or_not : (path : List ℕ) → OrNot (IsGroup path)
group_or_not path = same_as
    (λ h. (drop 8 path, h.0, h.1))
    (λ (p : IsGroup path).
    let e : drop 8 path ≡ p.0 = ap (drop 8) p.2 in
    (subst IsName (sym e) p.1, p.2 ∙ ap group_path (sym e)))
    (both_or_not (name_or_not (drop 8 path)) (text_or_not path (group_path (drop 8 path))))

names_or_not : (word path : List ℕ) → OrNot (Names word path)
names_or_not word path =
    both_or_not (either_or_not (person_or_not path) (group_or_not path)) (either_or_not (text_or_not word path) (text_or_not word (path ++ codes "/")))

-- what stands before the last byte
before_last : (word path : List ℕ) → word ≡ path ++ codes "/" → path ≡ take (length word - 1) word
before_last word path e =
    let count : length word ≡ length path + 1 = ap length e ∙ length-append path (codes "/") in
    let less : length path ≡ length word - 1 = omega (arith, count) in
    sym (take-append_seam path (codes "/")) ∙ ap (take (length path)) (sym e) ∙ ap (λ n. take n word) less

-- a principal with this fact that the word names
module _ (Fact : List ℕ → Type 0) (test : (path : List ℕ) → OrNot (Fact path)) (word : List ℕ) where
  abbrev readings : List (List ℕ)
  readings = word ∷ take (length word - 1) word ∷ []

  is_reading : (path : List ℕ) → Spells word path → Mem path readings
  is_reading path (inl as_is) = inl (sym as_is)
  is_reading path (inr slash) = inr (inl (before_last word path slash))

  named_or_not : OrNot ((path : List ℕ) × Names word path × Fact path)
  named_or_not = elim (one_of (λ path. Names word path × Fact path) (λ path. both_or_not (names_or_not word path) (test path)) readings) [
    | inl found ↦ inl (found.0, found.1.0, found.1.1)
    | inr none ↦ inr (λ it. none it.0 (is_reading it.0 it.1.1) (it.1, it.2))
  ]

any_or_not : (path : List ℕ) → OrNot (Unit {0})
any_or_not path = inl tt

-- ---- principal forms
who_or_not : (word : List ℕ) → OrNot ((who : Who) × IsWho word who)
who_or_not word = elim (text_or_not word (codes "all")) [
  | inl e ↦ inl (forms.Everyone, e)
  | inr a ↦ elim (text_or_not word (codes "authenticated")) [
    | inl e ↦ inl (forms.Authenticated, e)
    | inr b ↦ elim (text_or_not word (codes "unauthenticated")) [
      | inl e ↦ inl (forms.Unauthenticated, e)
      | inr c ↦ elim (text_or_not word (codes "owner")) [
        | inl e ↦ inl (forms.Owner, e)
        | inr d ↦ elim (text_or_not word (codes "self")) [
          | inl e ↦ inl (forms.Own, e)
          | inr e ↦ elim (named_or_not (λ path. Unit {0}) any_or_not word) [
            | inl named ↦ inl (forms.Href named.0, named.1)
            | inr none ↦ inr (λ it. no_who word a b c d e (λ path is. none (path, is, tt)) it.0 it.1)
          ]
        ]
      ]
    ]
  ]
]

-- ---- privileges
privileges_of : (names : List (List ℕ)) → ((privileges : List Privilege) × (map name_of privileges ≡ names)) ⊎ HasUnknown names
privileges_of [] = inl ([], refl)
privileges_of (name ∷ names) = elim (privilege_or_not name) [
  | inl p ↦ elim (privileges_of names) [
    | inl ps ↦ inl (p.0 ∷ ps.0, λ i. sym p.1 i ∷ ps.1 i)
    | inr u ↦ let within = u.1 in inr (suc u.0, omega (arith, within), u.2)
  ]
  | inr never ↦ inr (0, omega arith, λ p is. never (p, is))
]

leaves_of : (names : List (List ℕ)) → ((set : Leaf → Bool) × AreLeaves names set) ⊎ HasUnknown names
leaves_of names = elim (privileges_of names) [
  | inl ps ↦ inl ((λ leaf. list_any (λ p. contained p leaf) ps.0), (ps.0, ps.1, λ leaf. refl))
  | inr unknown ↦ inr unknown
]

-- ---- a line of one form
meant : (form : Form) → ((said : Line) × Means form said) ⊎ ((kind : ExplainFaultKind) × FormFault form kind)
meant (member_form a b) = elim (named_or_not IsGroup group_or_not a) [
  | inl group ↦ elim (named_or_not (λ path. Unit {0}) any_or_not b) [
    | inl member ↦ inl (lines.Member group.0 member.0, (group.1, group.2, member.1))
    | inr none ↦ inr (BadName, inr (λ path is. none (path, is, tt)))
  ]
  | inr none ↦ inr (BadName, inl (λ path is group. none (path, is, group)))
]
meant (caller_form a) = elim (text_or_not a (codes "-")) [
  | inl dash ↦ inl (lines.Asks Nobody, dash)
  | inr other ↦ elim (named_or_not IsPerson person_or_not a) [
    | inl person ↦ inl (lines.Asks (Known person.0), (person.1, person.2))
    | inr none ↦ inr (BadName, (other, λ path is person. none (path, is, person)))
  ]
]
meant (need_form name names) = elim (leaves_of (name ∷ names)) [
  | inl set ↦ inl (lines.Need set.0, set.1)
  | inr unknown ↦ inr (UnknownPrivilege, ((λ bad. bad), unknown))
]
meant (owner_form a) = elim (named_or_not (λ path. Unit {0}) any_or_not a) [
  | inl named ↦ inl (lines.Owner named.0, named.1)
  | inr none ↦ inr (BadName, λ path is. none (path, is, tt))
]
meant (here_form a) = elim (named_or_not (λ path. Unit {0}) any_or_not a) [
  | inl named ↦ inl (lines.Here named.0, named.1)
  | inr none ↦ inr (BadName, λ path is. none (path, is, tt))
]
meant (entry_form deny invert who name names) = elim (who_or_not who) [
  | inl is ↦ elim (leaves_of (name ∷ names)) [
    | inl set ↦ inl (lines.Listed (record { who = is.0; invert = invert; deny = deny; set = set.0 }), (refl, refl, is.1, set.1))
    | inr unknown ↦ inr (UnknownPrivilege, ((λ bad. bad is.0 is.1), unknown))
  ]
  | inr none ↦ inr (BadName, λ form is. none (form, is))
]

-- ---- the form of words
texts_or_not : (xs ys : List (List ℕ)) → OrNot (xs ≡ ys)
texts_or_not [] [] = inl refl
texts_or_not [] (y ∷ ys) = inr (λ e. absurd cc)
texts_or_not (x ∷ xs) [] = inr (λ e. absurd cc)
texts_or_not (x ∷ xs) (y ∷ ys) = same_as
    (λ h i. h.0 i ∷ h.1 i)
    (λ (e : x ∷ xs ≡ y ∷ ys). (ap (λ zs. get_or zs 0 []) e, ap (drop 1) e))
    (both_or_not (text_or_not x y) (texts_or_not xs ys))

proper_or_not : (form : Form) → OrNot (IsProper form)
proper_or_not (member_form a b) = inl tt
proper_or_not (caller_form a) = inl tt
proper_or_not (need_form name names) = inl tt
proper_or_not (owner_form a) = inl tt
proper_or_not (here_form a) = inl tt
proper_or_not (entry_form deny invert who name names) = not_or_not (text_or_not who (codes "not"))

form_or_not : (ws : List (List ℕ)) → OrNot ((form : Form) × HasForm ws form)
form_or_not ws = same_as
    (λ h. (form_of ws, h))
    (λ (it : (form : Form) × HasForm ws form).
    let same : it.0 ≡ form_of ws = sym (form_of-words it.0 it.1.1) ∙ ap form_of it.1.0 in
    subst (HasForm ws) same it.1)
    (both_or_not (texts_or_not (words (form_of ws)) ws) (proper_or_not (form_of ws)))

words_told : (ws : List (List ℕ)) → ((said : Line) × WordsSay ws said) ⊎ ((kind : ExplainFaultKind) × FaultOfWords ws kind)
words_told ws = elim (form_or_not ws) [
  | inl form ↦ elim (meant form.0) [
    | inl said ↦ inl (said.0, (form.0, form.1, said.1))
    | inr fault ↦ inr (fault.0, inr (form.0, form.1, fault.1))
  ]
  | inr none ↦ inr (BadLine, inl (refl, λ form has. none (form, has)))
]

-- ---- a line
blank_or_not : (line : List ℕ) → OrNot (IsBlank line)
blank_or_not [] = inl (inl refl)
blank_or_not (b ∷ rest) = elim (number_or_not b 35) [
  | inl sign ↦ inl (inr (rest, λ i. sign i ∷ rest))
  | inr other ↦ inr (λ blank. elim blank [
    | inl none ↦ absurd cc
    | inr it ↦ other (ap (λ xs. get_or xs 0 0) it.1)
  ])
]

filled_or_not : (ws : List (List ℕ)) → OrNot (NoEmpty ws)
filled_or_not ws = elim (list_any (λ w. nat_eq (length w) 0) ws) as (λ b. OrNot (b ≡ false)) [
  | true ↦ inr (λ e. false≢true (sym e))
  | false ↦ inl refl
]

pub line_told : (line : List ℕ) → ((said : Line) × Says line said) ⊎ ((kind : ExplainFaultKind) × OwnFault line kind)
line_told line = elim (blank_or_not line) [
  | inl blank ↦ inl (lines.Blank, inl (blank, refl))
  | inr not_blank ↦ elim (filled_or_not (words_of line)) [
    | inl filled ↦ elim (words_told (words_of line)) [
      | inl said ↦ inl (said.0, inr (not_blank, filled, said.1))
      | inr fault ↦ inr (fault.0, (not_blank, inr (filled, fault.1)))
    ]
    | inr empty ↦ inr (BadLine, (not_blank, inl (refl, empty)))
  ]
]
