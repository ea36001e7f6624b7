-- Each name of each book has members in each view, and each book has its names.
use Rattle.book_office_members.proofs.Common.{◌≡◌, ◌∙◌, sym, ap, List, [], ◌∷◌, ℕ, map, subst, None, Some, true, refl, arith, length, Option, cond, inl, inr, ◌||◌, nat_list_cmp_total, empty, insert, NamesTo, Seen, AreCardsOf, AreNamesOf, IsReached, card_named, CardRef}
use Rattle.std.proofs.Common.{◌<◌, Bool, false, zero, suc, option_and_then, option_map, is_some, T, if◌then◌else◌}
use Rattle.std.proofs.lemmas.Bool.{false≢true}
use Rattle.std.specs.FinMap.{contains_key-keys, entries, entries_sorted, find, get, get-empty, get-entries, get-insert, is_sorted}
use Rattle.std.specs.List.{Any, list_any}
use Rattle.std.specs.Prelude.{slice_index_or}
use Rattle.std.specs.Ordering.{eq_by_cmp}
use Rattle.book_rights.specs.declared.privileges.Leaf.TheVariants.{ReadNames}
use Rattle.book_lists.proofs.Pairing.{path_itself, same_path}
use Rattle.book_lists.specs.Circles.{CircleOf}
use Rattle.book_lists.specs.Names.{name_cmp}
use Rattle.book_office_values.proofs.Members.{Mem}
use Rattle.book_office_values.proofs.NameMapLaws.{names_apart, tied}
use Rattle.book_office_values.specs.declared.offices.Book.{Book}
use Rattle.book_office_values.specs.declared.offices.Office.{Office}
use Rattle.book_office_values.specs.declared.offices.StoredCard.{StoredCard}
use Rattle.book_office_values.specs.declared.paths.Path.TheVariants as path
use Rattle.book_office.specs.OwnLists.{entries_in_force}
use Rattle.book_office.specs.Resources.{number_of}
use Rattle.book_office_sync.specs.Copies.{IsView, can_read, grants, here_of_card, shown}
use Rattle.book_office_sync.specs.Granted.{text_at}
use Rattle.book_lists.proofs.Closures.{LeadsBy, closure, leads_out, out_reached, reached_out}
use Rattle.book_office_members.specs.Members.{MembersExist, card_of, in_order}
use Rattle.book_office_members.specs.Names.{NamesExist, name_told, pair_of}
use Rattle.book_office_members.specs.Steps.{AreMembersOf, IsStep, Leads, has_member, is_uid, member_line}
use Rattle.book_office_members.specs.declared.members.Members.{Members}
use Rattle.book_office_members.specs.declared.names.NamedCard.{NamedCard}

-- ---- whether a step leads to a card
abbrev names_uid : CardRef → Option (List ℕ) → Bool
names_uid p None = false
names_uid p (Some uid) = has_member uid p

abbrev steps : CardRef → CardRef → Bool
steps p q = names_uid p q.uid

named_value : (p : CardRef) (uid : Option (List ℕ)) → names_uid p uid ≡ true → (value : List ℕ) × (has_member value p ≡ true) × (is_uid value uid ≡ true)
named_value p None e = absurd (false≢true e)
named_value p (Some uid) e = (uid, e, path_itself uid)

value_named : (p : CardRef) (uid : Option (List ℕ)) (value : List ℕ) → has_member value p ≡ true → is_uid value uid ≡ true → names_uid p uid ≡ true
value_named p None value member is = absurd (false≢true is)
value_named p (Some uid) value member is = ap (λ v. has_member v p) (same_path uid value is) ∙ member

is_step : (p q : CardRef) → steps p q ≡ true → IsStep p q
is_step p q e = let v = named_value p q.uid e in record { value = v.0; member = v.1; uid = v.2 }

step_is : (p q : CardRef) → IsStep p q → steps p q ≡ true
step_is p q s = value_named p q.uid s.value s.member s.uid

any_of : {N : Type 0} (c : N) (xs : List N) → Mem c xs → Any (λ x. x ≡ c) xs
any_of c [] m = absurd m
any_of c (x ∷ xs) m = elim m [
  | inl is ↦ (0, x, omega arith, refl, sym is)
  | inr later ↦ let at = any_of c xs later in let below = at.2 in (suc at.0, at.1, omega (arith, below), at.3, at.4)
]

mem_of : {N : Type 0} (c : N) (xs : List N) (k : ℕ) (x : N) → k < length xs → slice_index_or xs k x ≡ x → x ≡ c → Mem c xs
mem_of c [] k x below at is = absurd (omega (arith, below))
mem_of c (y ∷ ys) zero x below at is = inl (sym (at ∙ is))
mem_of c (y ∷ ys) (suc k) x below at is = inr (mem_of c ys k x (omega (arith, below)) at is)

module _ (cards : List CardRef) where
  chain_is : (p : CardRef) (between : List CardRef) (q : CardRef) → LeadsBy cards steps p between q → Leads cards p between q
  chain_is p [] q l = is_step p q l
  chain_is p (c ∷ cs) q l = (any_of c cards l.0, is_step p c l.1, chain_is c cs q l.2)

  is_chain : (p : CardRef) (between : List CardRef) (q : CardRef) → Leads cards p between q → LeadsBy cards steps p between q
  is_chain p [] q l = step_is p q l
  is_chain p (c ∷ cs) q l = let at = l.0 in (mem_of c cards at.0 at.1 at.2 at.3 at.4, step_is p c l.1, is_chain c cs q l.2)

  -- whether steps lead from a card to another
  reaches : CardRef → CardRef → Bool
  reaches p q = leads_out cards steps p (closure cards steps p).found q

  reaches_is : (p q : CardRef) → reaches p q ≡ true → IsReached cards p q
  unfolding reaches
  reaches_is p q e = let r = reached_out cards steps p (closure cards steps p) q e in (r.0, chain_is p r.0 q r.1)

  is_reaches : (p q : CardRef) → IsReached cards p q → reaches p q ≡ true
  unfolding reaches
  is_reaches p q r = out_reached cards steps p (closure cards steps p) q (r.0, is_chain p r.0 q r.1)

-- ---- the names of the cards for which a fact holds that a test tells
module _ (Fact : CardRef → Type 0) (test : CardRef → Bool) (holds : (c : CardRef) → test c ≡ true → Fact c) (tells : (c : CardRef) → Fact c → test c ≡ true) where
  passed_over : (card : CardRef) (cards : List CardRef) (names : List (List ℕ)) → (Fact card → ⊥) → AreNamesOf Fact cards names → AreNamesOf Fact (card ∷ cards) names
  passed_over card cards [] never are = (never, are)
  passed_over card cards (name ∷ names) never are = inr (never, are)

  names_of : (cards : List CardRef) → (names : List (List ℕ)) × AreNamesOf Fact cards names
  names_of [] = ([], tt)
  names_of (card ∷ cards) =
      let rest = names_of cards in
      elim (test card) as (λ b. test card ≡ b → (names : List (List ℕ)) × AreNamesOf Fact (card ∷ cards) names) [
        | true ↦ λ t. (card.name ∷ rest.0, inl (holds card t, refl, rest.1))
        | false ↦ λ f. (rest.0, passed_over card cards rest.0 (λ is. false≢true (sym f ∙ tells card is)) rest.1)
      ] refl

members_of : (cards : List CardRef) (card : Option CardRef) → (members : Members) × AreMembersOf cards card members
members_of cards None = (record { lines = []; reached = [] }, refl)
members_of cards (Some card) =
    let names = names_of (IsReached cards card) (reaches cards card) (reaches_is cards card) (is_reaches cards card) cards in
    (record { lines = map (member_line cards) card.members; reached = names.0 }, record { lines = refl; reached = names.1 })

-- ---- a map from names with what a function gives at some names
put_some : {Y : Type 0} → NamesTo Y → List ℕ → Option Y → NamesTo Y
put_some m k None = m
put_some m k (Some y) = insert m k y

build : {Y : Type 0} → (List ℕ → Option Y) → List (List ℕ) → NamesTo Y
build f [] = empty
build f (k ∷ ks) = put_some (build f ks) k (f k)

module _ {Y : Type 0} (f : List ℕ → Option Y) where
  got_some : (m : NamesTo Y) (k q : List ℕ) (found : Option Y) → f k ≡ found → (b : Bool) → get m q ≡ cond b (f q) None
      → get (put_some m k found) q ≡ cond (eq_by_cmp name_cmp q k || b) (f q) None
  unfolding put_some
  got_some m k q None is b had =
      elim (eq_by_cmp name_cmp q k) as (λ t. eq_by_cmp name_cmp q k ≡ t → get m q ≡ cond (t || b) (f q) None) [
        | true ↦ λ t.
            let none : f q ≡ None = ap f (names_apart q k (tied _ t)) ∙ is in
            had ∙ nothing b none ∙ sym none
        | false ↦ λ _. had
      ] refl
    where
      nothing : (b : Bool) → f q ≡ None → cond b (f q) None ≡ None
      nothing true none = none
      nothing false none = refl
  got_some m k q (Some y) is b had =
      get-insert nat_list_cmp_total m k y q
      ∙ elim (eq_by_cmp name_cmp q k) as (λ t. eq_by_cmp name_cmp q k ≡ t → cond t (Some y) (get m q) ≡ cond (t || b) (f q) None) [
        | true ↦ λ t. sym (ap f (names_apart q k (tied _ t)) ∙ is)
        | false ↦ λ _. had
      ] refl

  got : (ks : List (List ℕ)) (q : List ℕ) → get (build f ks) q ≡ cond (list_any (eq_by_cmp name_cmp q) ks) (f q) None
  unfolding build
  got [] q = get-empty name_cmp q
  got (k ∷ ks) q = got_some (build f ks) k q (f k) refl (list_any (eq_by_cmp name_cmp q) ks) (got ks q)

  -- where the function gives nothing at the other names, the map is the function
  built : (ks : List (List ℕ)) → ((q : List ℕ) → list_any (eq_by_cmp name_cmp q) ks ≡ false → f q ≡ None) → (q : List ℕ) → get (build f ks) q ≡ f q
  built ks absent q = got ks q ∙ (
      elim (list_any (eq_by_cmp name_cmp q) ks) as (λ b. list_any (eq_by_cmp name_cmp q) ks ≡ b → cond b (f q) None ≡ f q) [
        | true ↦ λ _. refl
        | false ↦ λ e. sym (absent q e)
      ] refl
      )

none_of : {A : Type 0} (found : Option A) → is_some found ≡ false → found ≡ None
none_of None e = refl
none_of (Some a) e = absurd (false≢true (sym e))

keys_in : {X : Type 0} → NamesTo X → List (List ℕ)
keys_in m = map (λ e. e.0) (entries m)

not_there : {X : Type 0} (m : NamesTo X) (q : List ℕ) → list_any (eq_by_cmp name_cmp q) (keys_in m) ≡ false → get m q ≡ None
unfolding keys_in
not_there m q e = none_of (get m q) (contains_key-keys m q ∙ e)

-- ---- what is told of the cards of a book, by name
names_in : Option Book → List (List ℕ)
names_in None = []
names_in (Some book) = keys_in book.cards

module _ {Y : Type 0} (tell : Book → List ℕ → StoredCard → Option Y) (o : Office) (b : List ℕ) where
  abbrev told_at : List ℕ → Option Y
  told_at c = option_and_then (λ (book : Book). option_and_then (tell book c) (get book.cards c)) (get o.books b)

  untold : (found : Option Book) → get o.books b ≡ found → (c : List ℕ) → list_any (eq_by_cmp name_cmp c) (names_in found) ≡ false → told_at c ≡ None
  unfolding names_in
  untold None is c e = ap (option_and_then (λ (book : Book). option_and_then (tell book c) (get book.cards c))) is
  untold (Some book) is c e =
      ap (option_and_then (λ (book : Book). option_and_then (tell book c) (get book.cards c))) is
      ∙ ap (option_and_then (tell book c)) (not_there book.cards c e)

  pub told_map : NamesTo Y
  told_map = build told_at (names_in (get o.books b))

  pub told_is : (c : List ℕ) → get told_map c ≡ told_at c
  unfolding told_map
  told_is c = built told_at (names_in (get o.books b)) (untold (get o.books b) refl) c

-- ---- what is seen of a card, and its text
seen_card : Office → CircleOf → List ℕ → List ℕ → Book → StoredCard → Option Seen
seen_card o circle b c book card = if can_read o circle b c card then Some (shown (number_of book c) card) else None

text_card : Office → CircleOf → List ℕ → List ℕ → StoredCard → Option (List ℕ)
text_card o circle b c card = if grants (entries_in_force o (path.Card b c)) circle (here_of_card card) ReadNames then Some card.text else None

-- ---- the members of a name
cards_of : (view : NamesTo Seen) → (cards : NamesTo CardRef) × AreCardsOf view cards
cards_of view =
    let f : List ℕ → Option CardRef = λ name. option_map (λ (s : Seen). card_of name s.text) (get view name) in
    (build f (keys_in view), built f (keys_in view) (λ q e. ap (option_map (λ (s : Seen). card_of q s.text)) (not_there view q e)))

pub members_exist : MembersExist
unfolding seen_card
members_exist o circle b name =
    let view : NamesTo Seen = told_map (λ book c card. seen_card o circle b c book card) o b in
    let is_view : IsView view o circle b = told_is (λ book c card. seen_card o circle b c book card) o b in
    let cards = cards_of view in
    let members = members_of (in_order cards.0) (card_named (in_order cards.0) name) in
    (members.0, (view, is_view, (cards.0, cards.1, members.1)))

-- ---- the names of a book
module _ (m : NamesTo (Option (List ℕ))) where
  named : List (List ℕ × Option (List ℕ)) → List NamedCard
  named es = map (λ e. record { name = e.0; formatted = e.1 }) es

  named_back : (es : List (List ℕ × Option (List ℕ))) → map pair_of (named es) ≡ es
  unfolding named
  named_back [] = refl
  named_back (e ∷ es) = ap (λ rest. e ∷ rest) (named_back es)

  in_order_named : T (is_sorted name_cmp (map pair_of (named (entries m))))
  in_order_named = subst (λ es. T (is_sorted name_cmp es)) (sym (named_back (entries m))) (entries_sorted m)

  find_named : (c : List ℕ) → find name_cmp c (map pair_of (named (entries m))) ≡ get m c
  find_named c = ap (find name_cmp c) (named_back (entries m)) ∙ sym (get-entries m c)

pub names_exist : NamesExist
unfolding text_card
names_exist o circle b =
    let texts : NamesTo (List ℕ) = told_map (λ book c card. text_card o circle b c card) o b in
    let is : (c : List ℕ) → get texts c ≡ text_at o circle b ReadNames c = told_is (λ book c card. text_card o circle b c card) o b in
    let f : List ℕ → Option (Option (List ℕ)) = λ c. option_map name_told (get texts c) in
    let m = build f (keys_in texts) in
    let told : (c : List ℕ) → get m c ≡ f c = built f (keys_in texts) (λ q e. ap (option_map name_told) (not_there texts q e)) in (
      named m (entries m),
      record { in_order = in_order_named m; told = λ c. find_named m c ∙ told c ∙ ap (option_map name_told) (is c) },
    )
