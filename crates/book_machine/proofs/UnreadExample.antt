-- Offices that agree for everybody and differ in the text of a card, which nobody may read.
use Rattle.book_machine.proofs.Common.{◌≡◌, inl, inr, ℕ, false, List, [], ◌∷◌, ◌++◌, map, Some, None, option_map, option_and_then, unwrap_or, refl, sym, ap, ◌∙◌, subst, arith, true, nat_list_cmp_total, get, insert, mapped, get_mapped, CircleOf, name_cmp, Entry, place_card, protected_at, own_at, level_at, effective_of, effective_at, Resource, book_resource, card_at, EffectiveEntry, only, Leaf, names_apart, NamesTo, Book, StoredCard, Office, Path, outline_of_book, outline, IsGrantedAt, bare_entries, here_of}
use Rattle.std.proofs.Common.{zero, suc, ◌<◌, get_or}
use Rattle.book_lists.specs.Names.{IsName}
use Rattle.book_office_values.specs.Texts.{IsCardText}
use Rattle.std.specs.FinMap.{empty, get-empty, same_map}
use Rattle.book_lists.specs.Decisions.{bears, Grants}
use Rattle.book_lists.specs.declared.entries.Here.{Here}
use Rattle.book_lists.specs.declared.entries.Who.TheVariants.{Everyone}
use Rattle.book_office_members.specs.Names.{name_told}
use Rattle.book_office.specs.Edits.{empty_office, new_book}
use Rattle.book_office.specs.Levels.{standing_at}
use Rattle.book_rights.specs.Leaves.{each_leaf}
use Rattle.book_rights.specs.declared.privileges.Leaf.TheVariants.{ReadTexts, ReadNames}
use Rattle.book_office_values.proofs.OneName.{by_put, put_here}
use Rattle.book_office_values.specs.declared.paths.Path.TheVariants as path
use Rattle.book_machine.proofs.StillAgreeing.{own_of_card, protected_of_card, place_outline, put_cases}
use Rattle.book_machine.specs.Agreement.{name_in}
use Rattle.book_machine.specs.Unseen.{AgreeingOfficesMayDiffer, AgreeingOfficesMayDifferWhereNamed, AreTextsAt}
use Rattle.book_machine.proofs.SoundExample.{sound_book, sound_office}
use Rattle.book_office.specs.Sound.{IsKnownForm, IsSound, IsSoundList}
use Rattle.book_office_values.proofs.Labels.{empty_label}
use Rattle.book_office_listings.specs.Verdicts.{IsGrantedBy}

-- what is in force at a card where its own list alone has entries
abbrev standing : Path → List Entry → List EffectiveEntry
standing p own = map (standing_at p false) own ++ []

-- such a list does not grant the leaf to anybody
abbrev GrantsNobody : Leaf → List Entry → Type 0
GrantsNobody leaf own = (p : Path) (circle : CircleOf) (here : Here) → Grants (bare_entries (standing p own)) circle here leaf → ⊥

none_grants : (leaf : Leaf) → GrantsNobody leaf []
none_grants leaf p circle here (i, x, decides, grants) = let there = decides.there in absurd (cc (there))

-- a card with its own list and text
abbrev unread : List Entry → List ℕ → StoredCard
unread own text = record { owner = None; label = []; own = own; text = text }

module _ (own : List Entry) (b c : List ℕ) where
  abbrev book : List ℕ → Book
  book text = place_card (new_book None) c (unread own text)

  abbrev books : List ℕ → NamesTo Book
  books text = insert empty b (book text)

  abbrev office : List ℕ → Office
  office text = record empty_office { books = books text }

  module _ (text : List ℕ) where
    text_is : option_map (λ (card : StoredCard). card.text) (card_at (office text) b c) ≡ Some text
    text_is =
        ap (λ r. option_map (λ (card : StoredCard). card.text) (option_and_then (λ (book : Book). get book.cards c) r)) (put_here empty b (book text))
        ∙ ap (option_map (λ (card : StoredCard). card.text)) (put_here empty c (unread own text))

    -- such an Office is sound
    sound : AreTextsAt b c text text → ((o : Office) → IsSoundList o own) → IsSound (office text)
    sound are list = sound_office b (book text) are.book_named (λ o. sound_book o c (unread own text) are.card_named
        (record { owner = tt; label = empty_label; own = list o; text = are.is_text }))

    -- the own list of a card is this one, or has no entry
    own_told : (q n : List ℕ) (P : List Entry → Type 0) → P own → P [] → P (own_at (office text) (path.Card q n))
    own_told q n P here other =
        subst P (sym (ap (λ r. unwrap_or r []) (own_of_card n (get (books text) q))))
        (by_put empty b (book text) q (λ r. P (unwrap_or (option_map (λ (card : StoredCard). card.own) (option_and_then (λ (x : Book). get x.cards n) r)) []))
        (λ _. by_put empty c (unread own text) n (λ r. P (unwrap_or (option_map (λ (card : StoredCard). card.own) r) [])) (λ _. here)
        (λ _. subst (λ r. P (unwrap_or (option_map (λ (card : StoredCard). card.own) r) [])) (sym (get-empty name_cmp n)) other))
        (λ _. subst (λ r. P (unwrap_or (option_map (λ (card : StoredCard). card.own) (option_and_then (λ (x : Book). get x.cards n) r)) [])) (sym (get-empty name_cmp q)) other))

    own_here : own_at (office text) (path.Card b c) ≡ own
    own_here =
        ap (λ r. unwrap_or r []) (own_of_card c (get (books text) b))
        ∙ ap (λ r. unwrap_or (option_map (λ (card : StoredCard). card.own) (option_and_then (λ (x : Book). get x.cards c) r)) []) (put_here empty b (book text))
        ∙ ap (λ r. unwrap_or (option_map (λ (card : StoredCard). card.own) r) []) (put_here empty c (unread own text))

    book_empty : (q : List ℕ) (read : Resource → List Entry) → read (book_resource (book text)) ≡ []
        → unwrap_or (option_map read (option_map book_resource (get (books text) q))) [] ≡ []
    book_empty q read none = by_put empty b (book text) q (λ r. unwrap_or (option_map read (option_map book_resource r)) [] ≡ [])
        (λ _. none) (λ _. ap (λ r. unwrap_or (option_map read (option_map book_resource r)) []) (get-empty name_cmp q))

    in_force : (q n : List ℕ) → effective_at (office text) (path.Card q n) ≡ standing (path.Card q n) (own_at (office text) (path.Card q n))
    in_force q n =
        let protected : protected_at (office text) (path.Card q n) ≡ [] = protected_of_card n (get (books text) q) in
        let book_own : own_at (office text) (path.Book q) ≡ [] = book_empty q (λ (x : Resource). x.own) refl in
        let book_protected : protected_at (office text) (path.Book q) ≡ [] = book_empty q (λ (x : Resource). x.protected) refl in
        λ i. effective_of (
        record { path = path.Card q n; protected = protected i; own = own_at (office text) (path.Card q n) }
        ∷ record { path = path.Book q; protected = book_protected i; own = book_own i }
        ∷ level_at empty_office path.Books ∷ level_at empty_office path.Root ∷ [])

    -- a leaf that the list grants to nobody is granted to nobody at any card
    nobody_granted : (leaf : Leaf) → GrantsNobody leaf own → (q n : List ℕ) (circle : CircleOf)
        → Grants (bare_entries (effective_at (office text) (path.Card q n))) circle (here_of (office text) (path.Card q n)) leaf → ⊥
    nobody_granted leaf nobody q n circle grants =
        own_told q n (GrantsNobody leaf) nobody (none_grants leaf) (path.Card q n) circle (here_of (office text) (path.Card q n))
        (subst (λ list. Grants (bare_entries list) circle (here_of (office text) (path.Card q n)) leaf) (in_force q n) grants)

  outlines_same : (text other : List ℕ) → outline (office text) ≡ outline (office other)
  outlines_same text other =
      let same : mapped (λ _ book. outline_of_book book) (books text) ≡ mapped (λ _ book. outline_of_book book) (books other) =
      same_map nat_list_cmp_total names_apart _ _ (λ q.
      get_mapped (λ _ book. outline_of_book book) (books text) q
      ∙ elim (put_cases empty b q (book text)) [
        | inl here ↦ elim (put_cases empty b q (book other)) [
          | inl there ↦
              ap (option_map outline_of_book) here.1
              ∙ ap Some (place_outline (new_book None) (new_book None) c (unread own text) (unread own other) refl refl)
              ∙ sym (ap (option_map outline_of_book) there.1)
          | inr apart ↦ absurd (apart.0 here.0)
        ]
        | inr away ↦ elim (put_cases empty b q (book other)) [
          | inl there ↦ absurd (away.0 there.0)
          | inr apart ↦ ap (option_map outline_of_book) (away.1 ∙ sym apart.1)
        ]
      ]
      ∙ sym (get_mapped (λ _ book. outline_of_book book) (books other) q)) in
      λ i. record empty_office { books = same i }

  -- where both texts say one name, so do the cards at each path
  names_same : (text other : List ℕ) → name_told text ≡ name_told other → (q n : List ℕ) → name_in (card_at (office text) q n) ≡ name_in (card_at (office other) q n)
  names_same text other same q n =
      let cards : name_in (get (book text).cards n) ≡ name_in (get (book other).cards n) =
      elim (put_cases empty c n (unread own text)) [
        | inl here ↦ elim (put_cases empty c n (unread own other)) [
          | inl there ↦ ap name_in here.1 ∙ same ∙ sym (ap name_in there.1)
          | inr apart ↦ absurd (apart.0 here.0)
        ]
        | inr away ↦ elim (put_cases empty c n (unread own other)) [
          | inl there ↦ absurd (away.0 there.0)
          | inr apart ↦ ap name_in (away.1 ∙ sym apart.1)
        ]
      ] in
      elim (put_cases empty b q (book text)) [
        | inl here ↦ elim (put_cases empty b q (book other)) [
          | inl there ↦
              ap (λ r. name_in (option_and_then (λ (x : Book). get x.cards n) r)) here.1 ∙ cards
              ∙ sym (ap (λ r. name_in (option_and_then (λ (x : Book). get x.cards n) r)) there.1)
          | inr apart ↦ absurd (apart.0 here.0)
        ]
        | inr away ↦ elim (put_cases empty b q (book other)) [
          | inl there ↦ absurd (away.0 there.0)
          | inr apart ↦ ap (λ r. name_in (option_and_then (λ (x : Book). get x.cards n) r)) (away.1 ∙ sym apart.1)
        ]
      ]

no_list : (o : Office) → IsSoundList o []
no_list o = record { few = omega arith; known = λ k d l. absurd (omega arith) }

-- each of the two texts alone
first_text : (b c text other : List ℕ) → AreTextsAt b c text other → AreTextsAt b c text text
first_text b c text other are = record { book_named = are.book_named; card_named = are.card_named; is_text = are.is_text; is_other = are.is_text }

other_text : (b c text other : List ℕ) → AreTextsAt b c text other → AreTextsAt b c other other
other_text b c text other are = record { book_named = are.book_named; card_named = are.card_named; is_text = are.is_other; is_other = are.is_other }

pub may_differ : AgreeingOfficesMayDiffer
may_differ b c text other are = (
  office [] b c text,
  office [] b c other,
  sound [] b c text (first_text b c text other are) no_list,
  sound [] b c other (other_text b c text other are) no_list,
  text_is [] b c text,
  text_is [] b c other,
  λ caller. record {
    outlines = outlines_same [] b c text other;
    readable = λ q n may. absurd (nobody_granted [] b c text ReadTexts (none_grants ReadTexts) q n may.circle (may.granted ReadTexts refl));
    named = λ q n may. absurd (nobody_granted [] b c text ReadNames (none_grants ReadNames) q n may.circle (may.granted ReadNames refl));
  },
)

-- everybody may read the name of the card, and nobody its text
abbrev names_to_all : Entry
names_to_all = record { who = Everyone; invert = false; deny = false; set = only ReadNames }

abbrev names_alone : List Entry
names_alone = names_to_all ∷ []

hold_no_texts : GrantsNobody ReadTexts names_alone
hold_no_texts p circle here (zero, x, decides, grants) =
    let there = decides.there in
    let entry : names_to_all ≡ x = cc (there) in
    let bearing : false ≡ true = ap (bears circle here ReadTexts) entry ∙ decides.bearing in absurd (cc (bearing))
hold_no_texts p circle here (suc i, x, decides, grants) = let there = decides.there in absurd (cc (there))

grant_names : (p : Path) (circle : CircleOf) (here : Here) → IsGrantedBy (standing p names_alone) circle here (only ReadNames)
grant_names p circle here leaf is = each_leaf (λ l. only ReadNames l ≡ true → Grants (bare_entries (standing p names_alone)) circle here l)
    (λ e. absurd cc) (λ e. absurd cc) (λ e. absurd cc) (λ e. absurd cc) (λ e. absurd cc) (λ e. absurd cc) (λ e. absurd cc) (λ e. absurd cc)
    (λ _. (0, names_to_all, record { there = refl; bearing = refl; first = λ k y lt at. absurd (omega (arith, lt)) }, refl)) leaf is

names_granted : (b c text : List ℕ) (circle : CircleOf) → IsGrantedAt (office names_alone b c text) circle (path.Card b c) (only ReadNames)
names_granted b c text circle =
    subst (λ list. IsGrantedBy list circle (here_of (office names_alone b c text) (path.Card b c)) (only ReadNames))
    (sym (in_force names_alone b c text b c ∙ ap (standing (path.Card b c)) (own_here names_alone b c text)))
    (grant_names (path.Card b c) circle (here_of (office names_alone b c text) (path.Card b c)))

all_known : (o : Office) (k : ℕ) (d : Entry) → k < 1 → IsKnownForm o (get_or names_alone k d).who
all_known o zero d l = tt
all_known o (suc k) d l = absurd (omega (arith, l))

names_list : (o : Office) → IsSoundList o names_alone
names_list o = record { few = omega arith; known = all_known o }

pub may_differ_where_named : AgreeingOfficesMayDifferWhereNamed
may_differ_where_named b c text other are same = (
  office names_alone b c text,
  office names_alone b c other,
  sound names_alone b c text (first_text b c text other are) names_list,
  sound names_alone b c other (other_text b c text other are) names_list,
  text_is names_alone b c text,
  text_is names_alone b c other,
  names_granted b c text,
  λ caller. record {
    outlines = outlines_same names_alone b c text other;
    readable = λ q n may. absurd (nobody_granted names_alone b c text ReadTexts hold_no_texts q n may.circle (may.granted ReadTexts refl));
    named = λ q n may. names_same names_alone b c text other same q n;
  },
)
