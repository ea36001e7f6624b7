-- What two lists grant, of which one has an entry more.
use Rattle.std.proofs.Common.{◌≡◌, ◌⊎◌, ◌↔◌, ◌<◌, ℕ, suc, ◌+◌, ◌++◌, ◌∷◌, [], List, Bool, true, false, ◌&&◌, ◌||◌, not, cond, length, take, get_or, Option, Some, None, option_map, refl, sym, ap, ap₂, ◌∙◌, subst, inl, inr, nat_eq, append-nil}
use Rattle.std.specs.Prelude.{All, if◌then◌else◌}
use Rattle.std.specs.Option.{option_map_or}
use Rattle.std.proofs.lemmas.Bool.{false≢true}
use Rattle.std.proofs.lemmas.List.{take_more}
use Rattle.std.proofs.lemmas.List.Elements.{All-head, All-tail, All-nil, All-cons}
use Rattle.book_rights.specs.declared.privileges.Leaf.{Leaf}
use Rattle.book_rights.specs.Leaves.{same_set}
use Rattle.book_rights.proofs.Masks.{same_test}
use Rattle.book_lists.proofs.FirstFound.{grants_tells}
use Rattle.book_lists.specs.Circles.{CircleOf}
use Rattle.book_lists.specs.Deciding.{decider, granted}
use Rattle.book_lists.specs.Decisions.{IsGrantedSet, bears, denying}
use Rattle.book_lists.specs.Entries.{applies, belongs_to_any}
use Rattle.book_lists.specs.declared.entries.Entry.{Entry}
use Rattle.book_lists.specs.declared.entries.Here.{Here}
use Rattle.book_policy_idle.specs.Alike.{AreDecidedAlike, AreGrantedAlike, Differs, IsAlikeAt, chosen, compared_at, decision, for_everyone, is_chosen, joined, own_list, stands}
use Rattle.book_policy_idle.specs.declared.alike.Compared.{Compared}
use Rattle.book_policy_idle.specs.declared.alike.Which.{Which}
use Rattle.book_policy_idle.specs.declared.alike.Which.TheVariants as which
use Rattle.book_policy_idle.specs.declared.in_force.Placed.{Placed}
use Rattle.book_policy_idle.specs.declared.spots.Spot.{Spot}
use Rattle.book_policy_idle.proofs.Clearing.{bool_cases}
use Rattle.book_policy_idle.proofs.Model.{applies_same}

abbrev quiet : CircleOf → Here → Entry → Type 0
quiet circle here e = applies e circle here ≡ false

module _ (circle : CircleOf) (here : Here) (leaf : Leaf) where
  abbrev deciding : List Entry → Option Bool
  deciding es = decision circle here es leaf

  found_cons : (b : Bool) (x : Entry) (d : Option (ℕ × Entry))
      → option_map (λ (f : ℕ × Entry). denying f.1) (if b then Some (0, x) else option_map (λ (f : ℕ × Entry). (suc f.0, f.1)) d)
      ≡ cond b (Some x.deny) (option_map (λ (f : ℕ × Entry). denying f.1) d)
  found_cons true x d = refl
  found_cons false x None = refl
  found_cons false x (Some f) = refl

  decision_cons : (x : Entry) (xs : List Entry) → deciding (x ∷ xs) ≡ cond (bears circle here leaf x) (Some x.deny) (deciding xs)
  decision_cons x xs = found_cons (bears circle here leaf x) x (decider (bears circle here) xs leaf)

  -- behind the same entries
  after : (xs ys zs : List Entry) → deciding ys ≡ deciding zs → deciding (xs ++ ys) ≡ deciding (xs ++ zs)
  after [] ys zs e = e
  after (x ∷ xs) ys zs e =
      decision_cons x (xs ++ ys) ∙ ap (λ (r : Option Bool). cond (bears circle here leaf x) (Some x.deny) r) (after xs ys zs e) ∙ sym (decision_cons x (xs ++ zs))

  -- an entry that does not apply
  passed : (x : Entry) (xs : List Entry) → quiet circle here x → deciding (x ∷ xs) ≡ deciding xs
  passed x xs miss = decision_cons x xs ∙ ap (λ (b : Bool). cond (b && x.set leaf) (Some x.deny) (deciding xs)) miss

  without_one : (b : Bool) (x : Entry) (only r s ys zs : List Entry) → All (quiet circle here) (cond b (x ∷ only) only)
      → (All (quiet circle here) only → deciding (r ++ ys) ≡ deciding (s ++ zs)) → deciding ((x ∷ r) ++ ys) ≡ deciding (cond (not b) (x ∷ s) s ++ zs)
  without_one true x only r s ys zs miss rest =
      passed x (r ++ ys) (All-head (quiet circle here) x only miss) ∙ rest (All-tail (quiet circle here) x only miss)
  without_one false x only r s ys zs miss rest =
      decision_cons x (r ++ ys) ∙ ap (λ (g : Option Bool). cond (bears circle here leaf x) (Some x.deny) g) (rest miss) ∙ sym (decision_cons x (s ++ zs))

  without : (i : ℕ) (list : List Placed) (ys zs : List Entry) → All (quiet circle here) (chosen which.Only i list) → deciding ys ≡ deciding zs
      → deciding (chosen which.All i list ++ ys) ≡ deciding (chosen which.Others i list ++ zs)
  without i [] ys zs miss e = e
  without i (x ∷ xs) ys zs miss e =
      without_one (nat_eq x.index i) x.entry (chosen which.Only i xs) (chosen which.All i xs) (chosen which.Others i xs) ys zs miss (λ rest. without i xs ys zs rest e)

  -- ---- own lists

  -- an own list decides the leaf, or it does not
  own_cases : (own : List Entry) → ((ys : List Entry) → deciding (own ++ ys) ≡ deciding ys) ⊎ ((deny : Bool) × ((ys : List Entry) → deciding (own ++ ys) ≡ Some deny))
  own_cases [] = inl (λ ys. refl)
  own_cases (x ∷ xs) = elim (bool_cases (bears circle here leaf x)) [
    | inl holds ↦ inr (x.deny, λ ys. decision_cons x (xs ++ ys) ∙ ap (λ (b : Bool). cond b (Some x.deny) (deciding (xs ++ ys))) holds)
    | inr passes ↦ elim (own_cases xs) [
      | inl open_yet ↦ inl (λ ys. decision_cons x (xs ++ ys) ∙ ap (λ (b : Bool). cond b (Some x.deny) (deciding (xs ++ ys))) passes ∙ open_yet ys)
      | inr decided ↦ inr (decided.0, λ ys. decision_cons x (xs ++ ys) ∙ ap (λ (b : Bool). cond b (Some x.deny) (deciding (xs ++ ys))) passes ∙ decided.1 ys)
    ]
  ]

  everyone : (deny : Bool) (ys : List Entry) → deciding (for_everyone deny ∷ ys) ≡ Some deny
  everyone deny ys = decision_cons (for_everyone deny) ys

  -- with no own list, and with those that decide each leaf for everybody, so with any
  by_three : (front front' rest rest' : List Entry) → deciding (front ++ rest) ≡ deciding (front' ++ rest')
      → deciding (front ++ (for_everyone false ∷ rest)) ≡ deciding (front' ++ (for_everyone false ∷ rest'))
      → deciding (front ++ (for_everyone true ∷ rest)) ≡ deciding (front' ++ (for_everyone true ∷ rest'))
      → (own : List Entry) → deciding (front ++ (own ++ rest)) ≡ deciding (front' ++ (own ++ rest'))
  by_three front front' rest rest' none grants denies own = elim (own_cases own) [
    | inl open_yet ↦ after front (own ++ rest) rest (open_yet rest) ∙ none ∙ sym (after front' (own ++ rest') rest' (open_yet rest'))
    | inr decided ↦ by_decided decided.0 decided.1
  ]
    where
      by_decided : (deny : Bool) → ((ys : List Entry) → deciding (own ++ ys) ≡ Some deny) → deciding (front ++ (own ++ rest)) ≡ deciding (front' ++ (own ++ rest'))
      by_decided false h =
          after front (own ++ rest) (for_everyone false ∷ rest) (h rest ∙ sym (everyone false rest)) ∙ grants
          ∙ sym (after front' (own ++ rest') (for_everyone false ∷ rest') (h rest' ∙ sym (everyone false rest')))
      by_decided true h =
          after front (own ++ rest) (for_everyone true ∷ rest) (h rest ∙ sym (everyone true rest)) ∙ denies
          ∙ sym (after front' (own ++ rest') (for_everyone true ∷ rest') (h rest' ∙ sym (everyone true rest')))

  -- where the protected entries are the same
  by_none : (front rest rest' : List Entry) → deciding (front ++ rest) ≡ deciding (front ++ rest') → (own : List Entry) → deciding (front ++ (own ++ rest)) ≡ deciding (front ++ (own ++ rest'))
  by_none front rest rest' none own = elim (own_cases own) [
    | inl open_yet ↦ after front (own ++ rest) rest (open_yet rest) ∙ none ∙ sym (after front (own ++ rest') rest' (open_yet rest'))
    | inr decided ↦ after front (own ++ rest) (own ++ rest') (decided.1 rest ∙ sym (decided.1 rest'))
  ]

-- ---- lists in which the entry does not stand

unmoved_step : (b : Bool) (x : Entry) (r s : List Entry) (rest : Bool) → (b || rest) ≡ false → (rest ≡ false → r ≡ s) → x ∷ r ≡ cond (not b) (x ∷ s) s
unmoved_step true x r s rest miss h = absurd (false≢true (sym miss))
unmoved_step false x r s rest miss h = ap (λ (l : List Entry). x ∷ l) (h miss)

pub unmoved : (i : ℕ) (list : List Placed) → stands i list ≡ false → chosen which.All i list ≡ chosen which.Others i list
unmoved i [] miss = refl
unmoved i (x ∷ xs) miss =
    unmoved_step (nat_eq x.index i) x.entry (chosen which.All i xs) (chosen which.Others i xs) (stands i xs) miss (unmoved i xs)

-- ---- at a spot

All-both : {X : Type 0} (P : X → Type 0) (xs ys : List X) → All P (xs ++ ys) → All P xs × All P ys
All-both P [] ys all = (All-nil P, all)
All-both P (x ∷ xs) ys all =
    let rest = All-both P xs ys (All-tail P x (xs ++ ys) all) in
    (All-cons P x xs (All-head P x (xs ++ ys) all) rest.0, rest.1)

by_the_one : (i : ℕ) (own : Option Bool) (spot : Spot) (circle : CircleOf) (here : Here) → All (λ (e : Entry). applies e circle here ≡ false) (joined which.Only i [] spot)
    → AreDecidedAlike (joined which.All i (own_list own) spot) (joined which.Others i (own_list own) spot) circle here
by_the_one i own spot circle here all leaf =
    let parts = All-both (quiet circle here) (chosen which.Only i spot.protected) (chosen which.Only i spot.rest) all in
    let whole = chosen which.All i spot.rest in
    let others = chosen which.Others i spot.rest in
    let last : decision circle here whole leaf ≡ decision circle here others leaf =
    ap (λ (l : List Entry). decision circle here l leaf) (sym (append-nil whole)) ∙ without circle here leaf i spot.rest [] [] parts.1 refl
    ∙ ap (λ (l : List Entry). decision circle here l leaf) (append-nil others) in
    without circle here leaf i spot.protected (own_list own ++ whole) (own_list own ++ others) parts.0 (after circle here leaf (own_list own) whole others last)

pub differs : (i : ℕ) (own : Option Bool) (spot : Spot) → Differs (compared_at i own spot)
differs i own spot = record { whole_opened = refl; others_opened = refl; by_one = by_the_one i own spot }

abbrev pub with_own : ℕ → Spot → List Entry → CircleOf → Here → Type 0
with_own i spot own circle here = AreDecidedAlike (joined which.All i own spot) (joined which.Others i own spot) circle here

pub alike_three : (i : ℕ) (spot : Spot) (circle : CircleOf) (here : Here) → with_own i spot (own_list None) circle here → with_own i spot (own_list (Some false)) circle here
    → with_own i spot (own_list (Some true)) circle here → IsAlikeAt i spot circle here
alike_three i spot circle here none grants denies own leaf =
    by_three circle here leaf (chosen which.All i spot.protected) (chosen which.Others i spot.protected) (chosen which.All i spot.rest) (chosen which.Others i spot.rest)
    (none leaf) (grants leaf) (denies leaf) own

pub alike_none : (i : ℕ) (spot : Spot) (circle : CircleOf) (here : Here) → stands i spot.protected ≡ false → with_own i spot (own_list None) circle here → IsAlikeAt i spot circle here
alike_none i spot circle here miss none own leaf =
    let same : chosen which.All i spot.protected ≡ chosen which.Others i spot.protected = unmoved i spot.protected miss in
    let front = chosen which.All i spot.protected in
    let decides = λ (l : List Entry). decision circle here l leaf in
    by_none circle here leaf front (chosen which.All i spot.rest) (chosen which.Others i spot.rest)
    (none leaf ∙ ap (λ (l : List Entry). decides (l ++ chosen which.Others i spot.rest)) (sym same)) own
    ∙ ap (λ (l : List Entry). decides (l ++ (own ++ chosen which.Others i spot.rest))) same

pub alike_neither : (i : ℕ) (spot : Spot) (circle : CircleOf) (here : Here) → stands i spot.protected ≡ false → stands i spot.rest ≡ false → IsAlikeAt i spot circle here
alike_neither i spot circle here miss missed own leaf =
    ap₂ (λ (front rest : List Entry). decision circle here (front ++ (own ++ rest)) leaf) (unmoved i spot.protected miss) (unmoved i spot.rest missed)

-- ---- two owners

pub alike_moves : (i : ℕ) (spot : Spot) (circle : CircleOf) (h k : Here) → belongs_to_any circle h.owner ≡ belongs_to_any circle k.owner → h.principal ≡ k.principal
    → IsAlikeAt i spot circle k → IsAlikeAt i spot circle h
alike_moves i spot circle h k owner principal is =
    subst (λ (b : Leaf → Entry → Bool). (own : List Entry) (leaf : Leaf)
    → option_map (λ (f : ℕ × Entry). denying f.1) (decider b (joined which.All i own spot) leaf) ≡ option_map (λ (f : ℕ × Entry). denying f.1) (decider b (joined which.Others i own spot) leaf))
    (sym same) is
  where
    same : bears circle h ≡ bears circle k
    same = λ j leaf e. applies_same circle h k owner principal e j && e.set leaf

-- ---- taking entries of a list

by_choice : (b : Bool) (z : Entry) (r s u : List Entry) → r ≡ s ++ u → cond b (z ∷ r) r ≡ cond b (z ∷ s) s ++ u
by_choice true z r s u e = ap (λ (l : List Entry). z ∷ l) e
by_choice false z r s u e = e

chosen-push : (w : Which) (i : ℕ) (xs : List Placed) (x : Placed) → chosen w i (xs ++ x ∷ []) ≡ chosen w i xs ++ chosen w i (x ∷ [])
chosen-push w i [] x = refl
chosen-push w i (y ∷ ys) x =
    by_choice (is_chosen w (nat_eq y.index i)) y.entry (chosen w i (ys ++ x ∷ [])) (chosen w i ys) (chosen w i (x ∷ [])) (chosen-push w i ys x)

pub chosen_more : (w : Which) (i : ℕ) (list : List Placed) (k : ℕ) (x : Placed) → k < length list → x ≡ get_or list k x
    → chosen w i (take (k + 1) list) ≡ chosen w i (take k list) ++ chosen w i (x ∷ [])
chosen_more w i list k x below is =
    ap (chosen w i) (take_more list k x below ∙ ap (λ y. take k list ++ y ∷ []) (sym is)) ∙ chosen-push w i (take k list) x

-- ---- sets of leaves

granted_is : (circle : CircleOf) (here : Here) (xs : List Entry) (f : Leaf → Bool) → IsGrantedSet xs circle here f → (leaf : Leaf) → f leaf ≡ granted (bears circle here) denying xs leaf
granted_is circle here xs f is leaf = same_test (f leaf) (granted (bears circle here) denying xs leaf) _ (is leaf) (grants_tells (bears circle here) denying xs leaf)

pub granted_same : (circle : CircleOf) (here : Here) (xs ys : List Entry) (f g : Leaf → Bool) → IsGrantedSet xs circle here f → IsGrantedSet ys circle here g
    → (f ≡ g) ↔ AreGrantedAlike xs ys circle here
granted_same circle here xs ys f g a b = (
  (λ e leaf. sym (granted_is circle here xs f a leaf) ∙ ap (λ (h : Leaf → Bool). h leaf) e ∙ granted_is circle here ys g b leaf),
  (λ same. same_set f g (λ leaf. granted_is circle here xs f a leaf ∙ same leaf ∙ sym (granted_is circle here ys g b leaf))),
)

-- ---- what is decided, by what is granted

abbrev grants : Option Bool → Bool
grants None = false
grants (Some deny) = not deny

abbrev or_granted : Option Bool → Option Bool
or_granted None = Some false
or_granted (Some deny) = Some deny

found_grants : (d : Option (ℕ × Entry)) → option_map_or (λ (f : ℕ × Entry). not (denying f.1)) d false ≡ grants (option_map (λ (f : ℕ × Entry). denying f.1) d)
found_grants None = refl
found_grants (Some f) = refl

same_decision : (a b : Option Bool) → grants a ≡ grants b → grants (or_granted a) ≡ grants (or_granted b) → a ≡ b
same_decision None None g o = refl
same_decision None (Some true) g o = absurd (false≢true (sym o))
same_decision None (Some false) g o = absurd (false≢true g)
same_decision (Some true) None g o = absurd (false≢true o)
same_decision (Some false) None g o = absurd (false≢true (sym g))
same_decision (Some true) (Some true) g o = refl
same_decision (Some true) (Some false) g o = absurd (false≢true g)
same_decision (Some false) (Some true) g o = absurd (false≢true (sym g))
same_decision (Some false) (Some false) g o = refl

module _ (circle : CircleOf) (here : Here) (leaf : Leaf) where
  opened_step : (b : Bool) (deny : Bool) (r s : Option Bool) → r ≡ or_granted s → cond b (Some deny) r ≡ or_granted (cond b (Some deny) s)
  opened_step true deny r s e = refl
  opened_step false deny r s e = e

  opened_decides : (xs : List Entry) → decision circle here (xs ++ for_everyone false ∷ []) leaf ≡ or_granted (decision circle here xs leaf)
  opened_decides [] = refl
  opened_decides (x ∷ xs) =
      decision_cons circle here leaf x (xs ++ for_everyone false ∷ [])
      ∙ opened_step (bears circle here leaf x) x.deny (decision circle here (xs ++ for_everyone false ∷ []) leaf) (decision circle here xs leaf) (opened_decides xs)
      ∙ ap or_granted (sym (decision_cons circle here leaf x xs))

  granted_opened : (xs : List Entry) → granted (bears circle here) denying (xs ++ for_everyone false ∷ []) leaf ≡ grants (or_granted (decision circle here xs leaf))
  granted_opened xs = found_grants (decider (bears circle here) (xs ++ for_everyone false ∷ []) leaf) ∙ ap grants (opened_decides xs)

  granted_plain : (xs : List Entry) → granted (bears circle here) denying xs leaf ≡ grants (decision circle here xs leaf)
  granted_plain xs = found_grants (decider (bears circle here) xs leaf)

pub decided_by_granted : (circle : CircleOf) (here : Here) (compared : Compared) → Differs compared → AreGrantedAlike compared.whole compared.others circle here
    → AreGrantedAlike compared.whole_opened compared.others_opened circle here → AreDecidedAlike compared.whole compared.others circle here
decided_by_granted circle here compared by plain wide leaf =
    let xs = compared.whole in
    let ys = compared.others in
    same_decision (decision circle here xs leaf) (decision circle here ys leaf)
    (sym (granted_plain circle here leaf xs) ∙ plain leaf ∙ granted_plain circle here leaf ys)
    (sym (granted_opened circle here leaf xs) ∙ ap (λ (l : List Entry). granted (bears circle here) denying l leaf) (sym by.whole_opened) ∙ wide leaf
    ∙ ap (λ (l : List Entry). granted (bears circle here) denying l leaf) by.others_opened ∙ granted_opened circle here leaf ys)

pub granted_by_decided : (circle : CircleOf) (here : Here) (xs ys : List Entry) → AreDecidedAlike xs ys circle here → AreGrantedAlike xs ys circle here
granted_by_decided circle here xs ys same leaf = granted_plain circle here leaf xs ∙ ap grants (same leaf) ∙ sym (granted_plain circle here leaf ys)

pub opened_by_decided : (circle : CircleOf) (here : Here) (compared : Compared) → Differs compared → AreDecidedAlike compared.whole compared.others circle here
    → AreGrantedAlike compared.whole_opened compared.others_opened circle here
opened_by_decided circle here compared by same leaf =
    ap (λ (l : List Entry). granted (bears circle here) denying l leaf) by.whole_opened ∙ granted_opened circle here leaf compared.whole ∙ ap (λ (d : Option Bool). grants (or_granted d)) (same leaf)
    ∙ sym (granted_opened circle here leaf compared.others) ∙ ap (λ (l : List Entry). granted (bears circle here) denying l leaf) (sym by.others_opened)
