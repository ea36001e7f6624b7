-- Whether the same is granted, for each who asks and at each place.
use Rattle.std.proofs.Common.{◌≡◌, ◌<◌, ◌↔◌, ℕ, ◌+◌, ◌++◌, ◌∷◌, [], List, Bool, true, false, length, take, get_or, map, Some, None, refl, sym, ap, ◌∙◌, subst}
use Rattle.std.specs.Prelude.{All}
use Rattle.std.proofs.lemmas.Bool.{false≢true}
use Rattle.std.proofs.lemmas.List.{take_more}
use Rattle.std.proofs.lemmas.List.Elements.{All-get_or, All-head, All-tail, All-cons, All-nil, All-map, All-push, All-weaker}
use Rattle.book_lists.specs.Circles.{CircleOf}
use Rattle.book_lists.specs.declared.entries.Entry.{Entry}
use Rattle.book_lists.specs.declared.entries.Here.{Here}
use Rattle.book_policy_values.specs.declared.parts.PolicyTables.{PolicyTables}
use Rattle.book_office_values.specs.declared.paths.Path.{Path}
use Rattle.book_policy_idle.specs.Alike.{AlikeAlong, AlikeAt, AlikeWith, AreDecidedAlike, AreGrantedAlike, Differs, IsAlikeAt, IsDecidedAlike, own_list, stands}
use Rattle.book_policy_idle.specs.Marks.{Both, IsScope, spot_at}
use Rattle.book_policy_idle.specs.declared.alike.Compared.{Compared}
use Rattle.book_policy_idle.specs.declared.askers.Asker.{Asker}
use Rattle.book_policy_idle.specs.declared.scope.Scope.{Scope}
use Rattle.book_policy_idle.specs.declared.spots.Spot.{Spot}
use Rattle.book_policy_idle.proofs.Asking.{asked_everywhere, everywhere_asked}
use Rattle.book_policy_idle.proofs.Granting.{alike_moves, alike_neither, alike_none, alike_three, decided_by_granted, granted_by_decided, opened_by_decided, with_own}

-- ---- a test of each of a list

-- a test that fails says that what it stands for is not so
pub told_no : (P Q : Type 0) (b : Bool) → b ≡ false → (b ≡ true) ↔ P → (Q → P) → (false ≡ true) ↔ Q
told_no P Q b miss tells part = ((λ is. absurd (false≢true is)), λ q. absurd (false≢true (sym miss ∙ tells.1 (part q))))

pub told_yes : (Q : Type 0) → Q → (true ≡ true) ↔ Q
told_yes Q q = ((λ is. q), λ is. refl)

pub told_as : (P Q : Type 0) (b : Bool) → (b ≡ true) ↔ P → (P → Q) → (Q → P) → (b ≡ true) ↔ Q
told_as P Q b tells to from = ((λ is. to (tells.0 is)), λ q. tells.1 (from q))

pub All-at : {X : Type 0} (P : X → Type 0) (xs : List X) (i : ℕ) (x : X) → i < length xs → x ≡ get_or xs i x → All P xs → P x
All-at P xs i x below is all = subst P (sym is) (All-get_or P xs i x below all)

pub All-one_more : {X : Type 0} (P : X → Type 0) (xs : List X) (i : ℕ) (x : X) → i < length xs → x ≡ get_or xs i x → All P (take i xs) → P x → All P (take (i + 1) xs)
All-one_more P xs i x below is all one =
    subst (All P) (sym (take_more xs i x below ∙ ap (λ y. take i xs ++ y ∷ []) (sym is))) (All-push P (take i xs) x all one)

All-unmap : {X : Type 0} (P : X → Type 0) {Y : Type 0} (f : Y → X) (ys : List Y) → All P (map f ys) → All (λ (y : Y). P (f y)) ys
All-unmap P {Y = Y} f [] all = All-nil (λ (y : Y). P (f y))
All-unmap P {Y = Y} f (y ∷ ys) all = All-cons (λ (z : Y). P (f z)) y ys (All-head P (f y) (map f ys) all) (All-unmap P f ys (All-tail P (f y) (map f ys) all))

-- ---- one who asks, and each

both_weaker : (P Q : CircleOf → Here → Type 0) (here : Here) (is_book : Bool) → ((circle : CircleOf) (h : Here) → P circle h → Q circle h) → (asker : Asker) → Both P here is_book asker → Both Q here is_book asker
both_weaker P Q here is_book to asker both = record {
  unowned = to asker.circle here both.unowned;
  owned = λ book. to asker.circle asker.own (both.owned book);
}

each_weaker : (P Q : CircleOf → Here → Type 0) (here : Here) (is_book : Bool) → ((circle : CircleOf) (h : Here) → P circle h → Q circle h)
    → (askers : List Asker) → All (Both P here is_book) askers → All (Both Q here is_book) askers
each_weaker P Q here is_book to askers all = All-weaker (Both P here is_book) (Both Q here is_book) (both_weaker P Q here is_book to) askers all

-- ---- a place

pub at_with : (i : ℕ) (own : List Entry) (askers : List Asker) (spot : Spot) → AlikeAt i askers spot → AlikeWith i own askers spot
at_with i own askers spot all = each_weaker (IsAlikeAt i spot) (with_own i spot own) spot.here spot.is_book (λ circle here is leaf. is own leaf) askers all

pub three_at : (i : ℕ) (askers : List Asker) (spot : Spot) → AlikeWith i (own_list None) askers spot → AlikeWith i (own_list (Some false)) askers spot
    → AlikeWith i (own_list (Some true)) askers spot → AlikeAt i askers spot
three_at i askers spot none grants denies k d below = one (get_or askers k d) (none k d below) (grants k d below) (denies k d below)
  where
    one : (asker : Asker) → Both (with_own i spot (own_list None)) spot.here spot.is_book asker → Both (with_own i spot (own_list (Some false))) spot.here spot.is_book asker
        → Both (with_own i spot (own_list (Some true))) spot.here spot.is_book asker → Both (IsAlikeAt i spot) spot.here spot.is_book asker
    one asker a b e = record {
      unowned = alike_three i spot asker.circle spot.here a.unowned b.unowned e.unowned;
      owned = λ book. alike_three i spot asker.circle asker.own (a.owned book) (b.owned book) (e.owned book);
    }

pub none_at : (i : ℕ) (askers : List Asker) (spot : Spot) → stands i spot.protected ≡ false → AlikeWith i (own_list None) askers spot → AlikeAt i askers spot
none_at i askers spot miss all = each_weaker (with_own i spot (own_list None)) (IsAlikeAt i spot) spot.here spot.is_book (λ circle here is. alike_none i spot circle here miss is) askers all

pub neither_at : (i : ℕ) (askers : List Asker) (spot : Spot) → stands i spot.protected ≡ false → stands i spot.rest ≡ false → AlikeAt i askers spot
neither_at i askers spot miss missed k d below = record {
  unowned = alike_neither i spot (get_or askers k d).circle spot.here miss missed;
  owned = λ book. alike_neither i spot (get_or askers k d).circle (get_or askers k d).own miss missed;
}

-- ---- each place

pub decided_alike : (t : PolicyTables) (scope : Scope) (i : ℕ) (b : Bool) → IsScope t scope → (b ≡ true) ↔ AlikeAlong i scope.askers scope.spots → (b ≡ true) ↔ IsDecidedAlike t i
decided_alike t scope i b is tells =
    told_as (AlikeAlong i scope.askers scope.spots) (IsDecidedAlike t i) b tells
    (λ along. asked_everywhere t scope.askers scope.places is.asking is.there alike (λ p. alike_moves i (spot_at t.entries p))
    (All-unmap (AlikeAt i scope.askers) (spot_at t.entries) scope.places (subst (All (AlikeAt i scope.askers)) is.spots along)))
    (λ every. subst (All (AlikeAt i scope.askers)) (sym is.spots)
    (All-map (AlikeAt i scope.askers) (spot_at t.entries) scope.places (everywhere_asked t scope.askers scope.places is.asking is.there alike every)))
  where
    alike : Path → CircleOf → Here → Type 0
    alike p circle here = IsAlikeAt i (spot_at t.entries p) circle here

-- ---- by what is granted

pub alike_no : (circle : CircleOf) (here : Here) (compared : Compared) (xs ys : List Entry) (b : Bool) → xs ≡ compared.whole → ys ≡ compared.others → b ≡ false
    → (b ≡ true) ↔ AreGrantedAlike xs ys circle here → (false ≡ true) ↔ AreDecidedAlike compared.whole compared.others circle here
alike_no circle here compared xs ys b whole others miss tells =
    told_no (AreGrantedAlike compared.whole compared.others circle here) (AreDecidedAlike compared.whole compared.others circle here) b miss
    (subst (λ (l : List Entry). (b ≡ true) ↔ AreGrantedAlike compared.whole l circle here) others
    (subst (λ (l : List Entry). (b ≡ true) ↔ AreGrantedAlike l ys circle here) whole tells))
    (granted_by_decided circle here compared.whole compared.others)

pub alike_both : (circle : CircleOf) (here : Here) (compared : Compared) → Differs compared → (xs ys us vs : List Entry) (a b : Bool) → xs ≡ compared.whole → ys ≡ compared.others
    → us ≡ compared.whole_opened → vs ≡ compared.others_opened → a ≡ true → (a ≡ true) ↔ AreGrantedAlike xs ys circle here
    → (b ≡ true) ↔ AreGrantedAlike us vs circle here → (b ≡ true) ↔ AreDecidedAlike compared.whole compared.others circle here
alike_both circle here compared by xs ys us vs a b whole others whole_opened others_opened hit plain wide =
    told_as (AreGrantedAlike compared.whole_opened compared.others_opened circle here) (AreDecidedAlike compared.whole compared.others circle here) b
    (subst (λ (l : List Entry). (b ≡ true) ↔ AreGrantedAlike compared.whole_opened l circle here) others_opened
    (subst (λ (l : List Entry). (b ≡ true) ↔ AreGrantedAlike l vs circle here) whole_opened wide))
    (decided_by_granted circle here compared by
    (subst (λ (l : List Entry). AreGrantedAlike compared.whole l circle here) others (subst (λ (l : List Entry). AreGrantedAlike l ys circle here) whole (plain.0 hit))))
    (opened_by_decided circle here compared by)
