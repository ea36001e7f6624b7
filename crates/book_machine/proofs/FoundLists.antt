-- A list that is submitted has an answer, and each principal is mapped or not.
use Rattle.book_machine.proofs.Common.{◌≡◌, ◌⊎◌, inl, inr, ℕ, ◌<◌, ◌≤◌, List, [], ◌∷◌, length, ◌++◌, ◌≢◌, Bool, true, false, arith, All, Option, Some, None, Result, Ok, Err, refl, sym, ap, ◌∙◌, subst, AllZip, get, Leaf, Entry, Submitted, Office, Path, IsMapped, protected_entries_at, IsAclAnswer, IsChecked, Refusal, same_Some}
use Rattle.std.proofs.Common.{zero, suc, drop, codes, slice_get}
use Rattle.std.proofs.lemmas.Bool.{cases_lt}
use Rattle.std.proofs.lemmas.List.Elements.{All-from_recursion, recursion_from_All}
use Rattle.std.specs.List.{AllByRecursion}
use Rattle.book_limits.specs.declared.TheConstants.{MAX_ENTRIES}
use Rattle.book_rights.specs.Leaves.{Meets}
use Rattle.book_lists_explain.specs.ShortNames.{all_leaves}
use Rattle.book_lists.specs.ListEdits.{Clashes, ClashesWithAny, Conflicts, EntryFault, IsFaultless}
use Rattle.book_lists.specs.declared.entries.Who.{Who}
use Rattle.book_lists.specs.declared.entries.Who.TheVariants.{Href, Everyone, Authenticated, Unauthenticated, Owner, Own}
use Rattle.book_lists.specs.declared.list_edits.EditFault.{EditFault}
use Rattle.book_lists.specs.declared.list_edits.EditFault.TheVariants as fault
use Rattle.book_office.specs.Sound.{IsMappedPerson, IsMappedGroup}
use Rattle.book_lists_explain.proofs.FoundDecisions.{In, in_all}
use Rattle.book_machine.specs.Stages.{IsKnownWho, IsListAnswer, list_refusal}
use Rattle.book_machine.specs.declared.refusals.Refusal.TheVariants.{LimitedNumberOfAces}

abbrev pub Answer : Type 0
Answer = Result (Unit {0}) Refusal

-- ---- a principal is there or not
same_or_not : (x y : ℕ) → (x ≡ y) ⊎ (x ≡ y → ⊥)
same_or_not x y = elim (cases_lt x y) [
  | inl lt ↦ inr (λ e. omega (arith, lt, e))
  | inr le ↦ elim (cases_lt y x) [ inl lt ↦ inr (λ e. omega (arith, lt, e)) | inr ge ↦ inl (omega (arith, le, ge)) ]
]

split : (x y : ℕ) (xs ys : List ℕ) → x ∷ xs ≡ y ∷ ys → (x ≡ y) × (xs ≡ ys)
split x y xs ys e = (cc (e), cc (e))

after_prefix : (prefix xs : List ℕ) → ((rest : List ℕ) × (xs ≡ prefix ++ rest)) ⊎ ((rest : List ℕ) → xs ≡ prefix ++ rest → ⊥)
after_prefix [] xs = inl (xs, refl)
after_prefix (c ∷ cs) [] = inr (λ rest e. absurd (cc (e)))
after_prefix (c ∷ cs) (x ∷ xs) = elim (same_or_not x c) [
  | inl same ↦ elim (after_prefix cs xs) [
    | inl found ↦ inl (found.0, λ i. same i ∷ found.1 i)
    | inr none ↦ inr (λ rest e. none rest (split x c xs (cs ++ rest) e).1)
  ]
  | inr other ↦ inr (λ rest e. other (split x c xs (cs ++ rest) e).0)
]

there_or_not : {A : Type 0} (found : Option A) → (found ≢ None) ⊎ (found ≡ None)
there_or_not None = inr refl
there_or_not (Some a) = inl (λ e. absurd (cc (e)))

person_or_not : (o : Office) (principal : List ℕ) → IsMappedPerson o principal ⊎ (IsMappedPerson o principal → ⊥)
person_or_not o principal = elim (after_prefix (codes "/people/") principal) [
  | inl named ↦ elim (there_or_not (get o.persons named.0)) [
    | inl there ↦ inl (named.0, named.1, there)
    | inr none ↦ inr (λ m. let same : named.0 ≡ m.0 = ap (drop 8) (sym named.1 ∙ m.1) in m.2 (ap (get o.persons) (sym same) ∙ none))
  ]
  | inr never ↦ inr (λ m. never m.0 m.1)
]

group_or_not : (o : Office) (principal : List ℕ) → IsMappedGroup o principal ⊎ (IsMappedGroup o principal → ⊥)
group_or_not o principal = elim (after_prefix (codes "/groups/") principal) [
  | inl named ↦ elim (there_or_not (get o.groups named.0)) [
    | inl there ↦ inl (named.0, named.1, there)
    | inr none ↦ inr (λ m. let same : named.0 ≡ m.0 = ap (drop 8) (sym named.1 ∙ m.1) in m.2 (ap (get o.groups) (sym same) ∙ none))
  ]
  | inr never ↦ inr (λ m. never m.0 m.1)
]

pub mapped_or_not : (o : Office) (principal : List ℕ) → IsMapped o principal ⊎ (IsMapped o principal → ⊥)
mapped_or_not o principal = elim (person_or_not o principal) [
  | inl person ↦ inl (inl person)
  | inr nobody ↦ elim (group_or_not o principal) [
    | inl group ↦ inl (inr group)
    | inr none ↦ inr (λ m. elim m [ inl person ↦ nobody person | inr group ↦ none group ])
  ]
]

each_mapped : (o : Office) (members : List (List ℕ)) → AllByRecursion (IsMapped o) members ⊎ (AllByRecursion (IsMapped o) members → ⊥)
each_mapped o [] = inl tt
each_mapped o (member ∷ members) = elim (mapped_or_not o member) [
  | inl is ↦ elim (each_mapped o members) [ inl rest ↦ inl (is, rest) | inr none ↦ inr (λ all. none all.1) ]
  | inr none ↦ inr (λ all. none all.0)
]

pub all_mapped : (o : Office) (members : List (List ℕ)) → All (IsMapped o) members ⊎ (All (IsMapped o) members → ⊥)
all_mapped o members = elim (each_mapped o members) [
  | inl is ↦ inl (All-from_recursion (IsMapped o) members is)
  | inr none ↦ inr (λ all. none (recursion_from_All (IsMapped o) members all))
]

-- ---- a list that is submitted is accepted, or has a fault
same_list : (xs ys : List ℕ) → (xs ≡ ys) ⊎ (xs ≡ ys → ⊥)
same_list [] [] = inl refl
same_list [] (y ∷ ys) = inr (λ e. absurd (cc (e)))
same_list (x ∷ xs) [] = inr (λ e. absurd (cc (e)))
same_list (x ∷ xs) (y ∷ ys) = elim (same_or_not x y) [
  | inl same ↦ elim (same_list xs ys) [
    | inl rest ↦ inl (λ i. same i ∷ rest i)
    | inr other ↦ inr (λ e. other (split x y xs ys e).1)
  ]
  | inr other ↦ inr (λ e. other (split x y xs ys e).0)
]

same_bool : (a b : Bool) → (a ≡ b) ⊎ (a ≡ b → ⊥)
same_bool true true = inl refl
same_bool true false = inr (λ e. absurd (cc (e)))
same_bool false true = inr (λ e. absurd (cc (e)))
same_bool false false = inl refl

abbrev number_of_form : Who → ℕ
number_of_form (Href principal) = 0
number_of_form Everyone = 1
number_of_form Authenticated = 2
number_of_form Unauthenticated = 3
number_of_form Owner = 4
number_of_form Own = 5

abbrev path_of_form : Who → List ℕ
path_of_form (Href principal) = principal
path_of_form Everyone = []
path_of_form Authenticated = []
path_of_form Unauthenticated = []
path_of_form Owner = []
path_of_form Own = []

abbrev form_of : ℕ → List ℕ → Who
form_of zero principal = Href principal
form_of (suc zero) principal = Everyone
form_of (suc (suc zero)) principal = Authenticated
form_of (suc (suc (suc zero))) principal = Unauthenticated
form_of (suc (suc (suc (suc zero)))) principal = Owner
form_of (suc (suc (suc (suc (suc n))))) principal = Own

form_back : (w : Who) → form_of (number_of_form w) (path_of_form w) ≡ w
form_back (Href principal) = refl
form_back Everyone = refl
form_back Authenticated = refl
form_back Unauthenticated = refl
form_back Owner = refl
form_back Own = refl

same_who : (v w : Who) → (v ≡ w) ⊎ (v ≡ w → ⊥)
same_who v w = elim (same_or_not (number_of_form v) (number_of_form w)) [
  | inl number ↦ elim (same_list (path_of_form v) (path_of_form w)) [
    | inl at ↦ inl (sym (form_back v) ∙ (λ i. form_of (number i) (at i)) ∙ form_back w)
    | inr other ↦ inr (λ e. other (ap path_of_form e))
  ]
  | inr other ↦ inr (λ e. other (ap number_of_form e))
]

has_form : (who : Option Who) (w : Who) → (who ≡ Some w) ⊎ (who ≡ Some w → ⊥)
has_form None w = inr (λ e. absurd (cc (e)))
has_form (Some v) w = elim (same_who v w) [ inl same ↦ inl (ap Some same) | inr other ↦ inr (λ e. let same : v ≡ w = cc (e) in other same) ]

meets_in : (f g : Leaf → Bool) (ls : List Leaf) → Meets f g ⊎ ((leaf : Leaf) → In leaf ls → f leaf ≡ true → g leaf ≡ true → ⊥)
meets_in f g [] = inr (λ leaf is. absurd is)
meets_in f g (l ∷ ls) = elim (same_bool (f l) true) [
  | inl one ↦ elim (same_bool (g l) true) [
    | inl two ↦ inl (l, one, two)
    | inr other ↦ elim (meets_in f g ls) [
      | inl found ↦ inl found
      | inr none ↦ inr (λ leaf is a b. elim is [ inl same ↦ other (ap g (sym same) ∙ b) | inr later ↦ none leaf later a b ])
    ]
  ]
  | inr other ↦ elim (meets_in f g ls) [
    | inl found ↦ inl found
    | inr none ↦ inr (λ leaf is a b. elim is [ inl same ↦ other (ap f (sym same) ∙ a) | inr later ↦ none leaf later a b ])
  ]
]

meets_or_not : (f g : Leaf → Bool) → Meets f g ⊎ (Meets f g → ⊥)
meets_or_not f g = elim (meets_in f g all_leaves) [ inl is ↦ inl is | inr none ↦ inr (λ m. none m.0 (in_all m.0) m.1 m.2) ]

shares : (set : Option (Leaf → Bool)) (g : Leaf → Bool) → ((f : Leaf → Bool) × (set ≡ Some f) × Meets f g) ⊎ ((f : Leaf → Bool) → set ≡ Some f → Meets f g → ⊥)
shares None g = inr (λ f e. absurd (cc (e)))
shares (Some h) g = elim (meets_or_not h g) [
  | inl is ↦ inl (h, refl, is)
  | inr none ↦ inr (λ f e m. let same : h ≡ f = same_Some h f e in none (subst (λ k. Meets k g) (sym same) m))
]

clashes_or_not : (s : Submitted) (e : Entry) → Clashes s e ⊎ (Clashes s e → ⊥)
clashes_or_not s e = elim (has_form s.who e.who) [
  | inr other ↦ inr (λ c. other c.form)
  | inl form ↦ elim (same_bool s.invert e.invert) [
    | inr other ↦ inr (λ c. other c.inversion)
    | inl inversion ↦ elim (same_bool s.deny e.deny) [
      | inl same ↦ inr (λ c. c.action same)
      | inr action ↦ elim (shares s.set e.set) [
        | inl is ↦ inl (record { form = form; inversion = inversion; action = action; set = is.0; supported = is.1; shared = is.2 })
        | inr none ↦ inr (λ c. none c.set c.supported c.shared)
      ]
    ]
  ]
]

clashes_with_any : (protected : List Entry) (s : Submitted) → ClashesWithAny protected s ⊎ (ClashesWithAny protected s → ⊥)
clashes_with_any [] s = inr (λ c. let at = c.2 in absurd (cc (at)))
clashes_with_any (e ∷ es) s = elim (clashes_or_not s e) [
  | inl is ↦ inl (0, e, refl, is)
  | inr not_here ↦ elim (clashes_with_any es s) [
    | inl later ↦ inl (suc later.0, later.1, later.2, later.3)
    | inr none ↦ inr (λ c. not_there not_here none c.0 c.1 c.2 c.3)
  ]
]
  where
    not_there : (Clashes s e → ⊥) → (ClashesWithAny es s → ⊥) → (i : ℕ) (x : Entry) → slice_get (e ∷ es) i ≡ Some x → Clashes s x → ⊥
    not_there here none zero x at c = let same : e ≡ x = cc (at) in here (subst (Clashes s) (sym same) c)
    not_there here none (suc i) x at c = none (i, x, at, c)

conflicts_or_not : (protected : List Entry) (s : Submitted) → Conflicts protected s ⊎ (Conflicts protected s → ⊥)
conflicts_or_not protected s = elim (same_bool s.protected true) [
  | inl marked ↦ inl (inl marked)
  | inr unmarked ↦ elim (clashes_with_any protected s) [
    | inl is ↦ inl (inr is)
    | inr none ↦ inr (λ c. elim c [ inl marked ↦ unmarked marked | inr is ↦ none is ])
  ]
]

fault_or_none : (protected : List Entry) (s : Submitted) → IsFaultless protected s ⊎ ((fault : EditFault) × EntryFault protected s fault)
fault_or_none protected s = elim (conflicts_or_not protected s) [
  | inl conflict ↦ inr (fault.NoProtectedAceConflict, conflict)
  | inr fine ↦ elim (inherited_or_not s.inherited) [
    | inl is ↦ inr (fault.NoInheritedAceConflict, (fine, is))
    | inr own ↦ elim (there_or_not s.set) [
      | inr none ↦ inr (fault.NotSupportedPrivilege, (fine, own, none))
      | inl set ↦ elim (there_or_not s.who) [
        | inr none ↦ inr (fault.RecognizedPrincipal, (fine, own, set, none))
        | inl who ↦ inl (record { conflict = fine; inherited = own; supported = set; recognized = who })
      ]
    ]
  ]
]
  where
    inherited_or_not : (b : Bool) → (b ≡ true) ⊎ (b ≡ false)
    inherited_or_not true = inl refl
    inherited_or_not false = inr refl

abbrev FirstFault : List Entry → List Submitted → EditFault → Type 0
FirstFault protected list fault = (i : ℕ) × (s : Submitted) × (slice_get list i ≡ Some s) × EntryFault protected s fault
    × ((k : ℕ) (earlier : Submitted) → k < i → slice_get list k ≡ Some earlier → IsFaultless protected earlier)

first_fault : (protected : List Entry) (list : List Submitted)
    → ((i : ℕ) (s : Submitted) → slice_get list i ≡ Some s → IsFaultless protected s) ⊎ ((fault : EditFault) × FirstFault protected list fault)
first_fault protected [] = inl (λ i s at. absurd (cc (at)))
first_fault protected (x ∷ xs) = elim (fault_or_none protected x) [
  | inr faulty ↦ inr (faulty.0, (0, x, refl, faulty.1, λ k earlier lt at. absurd (omega (arith, lt))))
  | inl fine ↦ elim (first_fault protected xs) [
    | inl others ↦ inl (λ i s at. all_fine fine others i s at)
    | inr later ↦ inr (later.0, (suc later.1.0, later.1.1, later.1.2, later.1.3, λ k earlier lt at. before fine later.1.0 later.1.4 k earlier lt at))
  ]
]
  where
    all_fine : IsFaultless protected x → ((i : ℕ) (s : Submitted) → slice_get xs i ≡ Some s → IsFaultless protected s) → (i : ℕ) (s : Submitted) → slice_get (x ∷ xs) i ≡ Some s → IsFaultless protected s
    all_fine fine others zero s at = let same : x ≡ s = cc (at) in subst (IsFaultless protected) same fine
    all_fine fine others (suc i) s at = others i s at

    before : IsFaultless protected x → (i : ℕ) → ((k : ℕ) (earlier : Submitted) → k < i → slice_get xs k ≡ Some earlier → IsFaultless protected earlier)
        → (k : ℕ) (earlier : Submitted) → k < suc i → slice_get (x ∷ xs) k ≡ Some earlier → IsFaultless protected earlier
    before fine i others zero s lt at = let same : x ≡ s = cc (at) in subst (IsFaultless protected) same fine
    before fine i others (suc k) s lt at = others k s (omega (arith, lt)) at

list_answer : (protected : List Entry) (list : List Submitted) → length list ≤ MAX_ENTRIES → (answer : Result (Unit {0}) Refusal) × IsListAnswer protected list answer
list_answer protected list few = elim (first_fault protected list) [
  | inl fine ↦ (Ok tt, (few, fine))
  | inr faulty ↦ (Err (list_refusal faulty.0), (faulty.0, inr (few, faulty.1), refl))
]

known_or_not : (o : Office) (who : Option Who) → IsKnownWho o who ⊎ (IsKnownWho o who → ⊥)
known_or_not o None = inl tt
known_or_not o (Some (Href principal)) = mapped_or_not o principal
known_or_not o (Some Everyone) = inl tt
known_or_not o (Some Authenticated) = inl tt
known_or_not o (Some Unauthenticated) = inl tt
known_or_not o (Some Owner) = inl tt
known_or_not o (Some Own) = inl tt

checked_of : (o : Office) (list : List Submitted) → (checked : List Submitted) × AllZip (IsChecked o) list checked × (length checked ≡ length list)
checked_of o [] = ([], tt, refl)
checked_of o (s ∷ list) =
    let rest = checked_of o list in
    elim (known_or_not o s.who) [
      | inl known ↦ (s ∷ rest.0, (inl (known, refl), rest.1), ap suc rest.2)
      | inr unknown ↦ (record s { who = None } ∷ rest.0, (inr (unknown, refl), rest.1), ap suc rest.2)
    ]

pub acl_answer : (o : Office) (p : Path) (list : List Submitted) → (answer : Result (Unit {0}) Refusal) × IsAclAnswer o p list answer
acl_answer o p list = elim (cases_lt MAX_ENTRIES (length list)) [
  | inl long ↦ (Err LimitedNumberOfAces, inl (long, refl))
  | inr few ↦
      let checked = checked_of o list in
      let answer = list_answer (protected_entries_at o p) checked.0 (subst (λ n. n ≤ MAX_ENTRIES) (sym checked.2) few) in
      (answer.0, inr (few, (checked.0, checked.1, answer.1)))
]
