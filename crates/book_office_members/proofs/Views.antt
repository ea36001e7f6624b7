-- Views and their cards.
use Rattle.book_office_members.proofs.Common.{◌≡◌, ℕ, cond, List, [], ◌∷◌, ◌++◌, length, Option, Some, None, refl, sym, ap, ◌∙◌, subst, insert, empty, NamesTo, card_named, CardRef, Seen, AreCardsOf}
use Rattle.std.proofs.Common.{option_map}
use Rattle.std.specs.Cmp.Lexicographic.{nat_list_cmp_total}
use Rattle.std.specs.FinMap.{get, remove, same_map, get-empty}
use Rattle.book_lists.specs.Names.{name_cmp}
use Rattle.book_office_values.proofs.NameMapLaws.{names_apart, same, by_same, put_at, removed_at}
use Rattle.book_office_members.proofs.Determined.{determined}
use Rattle.book_office_members.specs.Steps.{AreMembersOf}
use Rattle.book_office_members.specs.declared.members.Members.{Members}
use Rattle.book_office_members.specs.Members.{card_of, AreMembersIn, in_order, EqualViewsHaveEqualMembers}

abbrev tell : List ℕ → Option Seen → Option CardRef
tell name s = option_map (λ (s : Seen). card_of name s.text) s

-- ---- what an item tells
pub card_put : (copy : NamesTo Seen) (cards new : NamesTo CardRef) (name : List ℕ) (s : Seen) (card : CardRef)
    → AreCardsOf copy cards → card ≡ card_of name s.text → new ≡ insert cards name card → AreCardsOf (insert copy name s) new
card_put copy cards new name s card are is put q =
    ap (λ m. get m q) put ∙ put_at cards name card q
    ∙ by_same q name (λ b. cond b (Some card) (get cards q) ≡ tell q (cond b (Some s) (get copy q)))
    (λ here. ap Some (is ∙ ap (λ n. card_of n s.text) (sym here))) (are q)
    ∙ ap (tell q) (sym (put_at copy name s q))

pub card_removed : (copy : NamesTo Seen) (cards new : NamesTo CardRef) (name : List ℕ)
    → AreCardsOf copy cards → new ≡ remove cards name → AreCardsOf (remove copy name) new
card_removed copy cards new name are gone q =
    ap (λ m. get m q) gone ∙ removed_at cards name q
    ∙ by_same q name (λ b. cond b None (get cards q) ≡ tell q (cond b None (get copy q))) (λ here. refl) (are q)
    ∙ ap (tell q) (sym (removed_at copy name q))

pub no_cards : AreCardsOf empty empty
no_cards q = get-empty name_cmp q ∙ ap (tell q) (sym (get-empty name_cmp q))

pub none_left : {A : Type 0} (xs : List A) → length xs ≡ 0 → xs ≡ []
none_left [] e = refl
none_left (x ∷ xs) e = absurd cc

pub parts_joined : {A : Type 0} (xs ys zs : List A) → (xs ++ ys) ++ zs ≡ xs ++ (ys ++ zs)
parts_joined [] ys zs = refl
parts_joined (x ∷ xs) ys zs = ap (λ l. x ∷ l) (parts_joined xs ys zs)

-- ---- equal views
same_cards : (v : NamesTo Seen) (x y : NamesTo CardRef) → AreCardsOf v x → AreCardsOf v y → x ≡ y
same_cards v x y h k = same_map nat_list_cmp_total names_apart x y (λ q. h q ∙ sym (k q))

same_members : (v w : NamesTo Seen) (name : List ℕ) (x y : Members) → v ≡ w → AreMembersIn v name x → AreMembersIn w name y → x ≡ y
same_members v w name x y same h k =
    let cards : h.0 ≡ k.0 = same_cards v h.0 k.0 h.1 (λ q. k.1 q ∙ ap (λ m. tell q (get m q)) (sym same)) in
    determined (in_order k.0) (card_named (in_order k.0) name) x y
    (subst (λ (m : NamesTo CardRef). AreMembersOf (in_order m) (card_named (in_order m) name) x) cards h.2) k.2

pub equal_views : EqualViewsHaveEqualMembers
equal_views o p circle other a b same name x y h k =
    same_members h.0 k.0 name x y (same_map nat_list_cmp_total names_apart h.0 k.0 (λ q. h.1 q ∙ same q ∙ sym (k.1 q))) h.2 k.2
