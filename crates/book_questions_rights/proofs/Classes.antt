-- The classes of cards.
use Rattle.book_questions_rights.proofs.Common.{◌≡◌, ◌++◌, ◌∷◌, ◌∙◌, [], Bool, true, false, List, refl, ap, sym, subst}
use Rattle.std.proofs.Common.{◌⊎◌, ◌||◌, inl, inr}
use Rattle.std.specs.Prelude.{count_by, if◌then◌else◌}
use Rattle.std.specs.List.{list_any}
use Rattle.std.proofs.lemmas.Bool.{false≢true}
use Rattle.book_office.specs.declared.nodes.Listed.{Listed}
use Rattle.book_questions_rights.specs.EqualCards.{Class, IsAlike, class_at, classes_after, classes_of, is_alike}
use Rattle.book_questions_rights.specs.Laws.{AreApart, CardsHaveOneClass}
use Rattle.book_questions_rights.proofs.Alike.{alike_decides}
use Rattle.book_questions_rights.proofs.Elements.{Mem, contains_of, mem_left, mem_of, mem_right, mem_split}

-- ---- cards that are alike
itself : (card : Listed) → IsAlike card card
itself card = record { owner = refl; own = refl }

turned : (a b : Listed) → IsAlike a b → IsAlike b a
turned a b h = record { owner = sym h.owner; own = sym h.own }

through : (a b c : Listed) → IsAlike a b → IsAlike b c → IsAlike a c
through a b c h k = record { owner = h.owner ∙ k.owner; own = h.own ∙ k.own }

-- one of these cards is like the card, or none is
abbrev OneIsLike : Listed → List Listed → Type 0
OneIsLike card before = (other : Listed) × Mem other before × IsAlike card other

any_tells : (card : Listed) (before : List Listed) → list_any (is_alike card) before ≡ true → OneIsLike card before
any_tells card [] e = absurd (false≢true e)
any_tells card (x ∷ xs) e =
    elim (is_alike card x) as (λ b. is_alike card x ≡ b → list_any (is_alike card) (x ∷ xs) ≡ true → OneIsLike card (x ∷ xs)) [
      | true ↦ λ t h. (x, inl refl, (alike_decides card x).0 t)
      | false ↦ λ f h. let r = any_tells card xs (subst (λ b. (b || list_any (is_alike card) xs) ≡ true) f h) in (r.0, inr r.1, r.2)
    ] refl e

told_any : (card : Listed) (before : List Listed) → OneIsLike card before → list_any (is_alike card) before ≡ true
told_any card [] h = absurd h.1
told_any card (x ∷ xs) (other, m, alike) = elim m [
  | inl e ↦ ap (λ (b : Bool). b || list_any (is_alike card) xs) ((alike_decides card x).1 (subst (λ c. IsAlike card c) e alike))
  | inr r ↦
      elim (is_alike card x) as (λ b. (b || list_any (is_alike card) xs) ≡ true) [
        | true ↦ refl
        | false ↦ told_any card xs (other, r, alike)
      ]
]

module _ (all : List Listed) where
  class_of : Listed → Class
  class_of card = record { card = card; count = count_by (is_alike card) all }

  -- ---- each card is like that of a class, or like one of the cards before
  abbrev IsTold : Listed → List Listed → List Class → Type 0
  IsTold card before classes = ((class : Class) × Mem class classes × IsAlike card class.card) ⊎ OneIsLike card before

  first_told : (before : List Listed) (card : Listed) → IsTold card before (class_at all before card)
  first_told before card =
      elim (list_any (is_alike card) before) as (λ b. list_any (is_alike card) before ≡ b
      → IsTold card before (if b then [] else record { card = card; count = count_by (is_alike card) all } ∷ [])) [
        | true ↦ λ t. inr (any_tells card before t)
        | false ↦ λ f. inl (record { card = card; count = count_by (is_alike card) all }, inl refl, itself card)
      ] refl

  each_told : (before cards : List Listed) (card : Listed) → Mem card cards → IsTold card before (classes_after all before cards)
  each_told before [] card m = absurd m
  each_told before (x ∷ xs) card (inl e) = elim (first_told before x) [
    | inl h ↦ inl (h.0, mem_left h.0 (class_at all before x) (classes_after all (before ++ x ∷ []) xs) h.1, subst (λ c. IsAlike c h.0.card) (sym e) h.2)
    | inr h ↦ inr (h.0, h.1, subst (λ c. IsAlike c h.0) (sym e) h.2)
  ]
  each_told before (x ∷ xs) card (inr m) = elim (each_told (before ++ x ∷ []) xs card m) [
    | inl h ↦ inl (h.0, mem_right h.0 (class_at all before x) (classes_after all (before ++ x ∷ []) xs) h.1, h.2)
    | inr h ↦ elim (mem_split h.0 before (x ∷ []) h.1) [
      | inl early ↦ inr (h.0, early, h.2)
      | inr last ↦ elim last [
        | inl is ↦
            let like : IsAlike card x = subst (λ c. IsAlike card c) is h.2 in
            elim (first_told before x) [
              | inl k ↦ inl (k.0, mem_left k.0 (class_at all before x) (classes_after all (before ++ x ∷ []) xs) k.1, through card x k.0.card like k.2)
              | inr k ↦ inr (k.0, k.1, through card x k.0 like k.2)
            ]
        | inr none ↦ absurd none
      ]
    ]
  ]

  -- ---- what a class is
  pub record IsClassAfter (before cards : List Listed) (class : Class) : Type 0 where
    pub there : Mem class.card cards
    pub fresh : list_any (is_alike class.card) before ≡ false
    pub counted : class.count ≡ count_by (is_alike class.card) all

  first_is : (before : List Listed) (card : Listed) (cards : List Listed) (class : Class) → Mem class (class_at all before card) → IsClassAfter before (card ∷ cards) class
  first_is before card cards class =
      elim (list_any (is_alike card) before) as (λ b. list_any (is_alike card) before ≡ b
      → Mem class (if b then [] else record { card = card; count = count_by (is_alike card) all } ∷ []) → IsClassAfter before (card ∷ cards) class) [
        | true ↦ λ t m. absurd m
        | false ↦ λ f m. elim m [
          | inl e ↦ subst (λ (k : Class). IsClassAfter before (card ∷ cards) k) (sym e) (record { there = inl refl; fresh = f; counted = refl })
          | inr none ↦ absurd none
        ]
      ] refl

  earlier_fresh : (card : Listed) (before : List Listed) (x : Listed) → list_any (is_alike card) (before ++ x ∷ []) ≡ false → list_any (is_alike card) before ≡ false
  earlier_fresh card before x f =
      elim (list_any (is_alike card) before) as (λ b. list_any (is_alike card) before ≡ b → b ≡ false) [
        | true ↦ λ t. let h = any_tells card before t in absurd (false≢true (sym f ∙ told_any card (before ++ x ∷ []) (h.0, mem_left h.0 before (x ∷ []) h.1, h.2)))
        | false ↦ λ _. refl
      ] refl

  after_is : (before cards : List Listed) (class : Class) → Mem class (classes_after all before cards) → IsClassAfter before cards class
  after_is before [] class m = absurd m
  after_is before (x ∷ xs) class m = elim (mem_split class (class_at all before x) (classes_after all (before ++ x ∷ []) xs) m) [
    | inl h ↦ first_is before x xs class h
    | inr h ↦
        let k = after_is (before ++ x ∷ []) xs class h in
        record { there = inr k.there; fresh = earlier_fresh class.card before x k.fresh; counted = k.counted }
  ]

  -- ---- no two are alike
  apart_after : (before cards : List Listed) → AreApart (classes_after all before cards)
  apart_after before [] = tt
  apart_after before (x ∷ xs) =
      elim (list_any (is_alike x) before) as (λ b. AreApart ((if b then [] else record { card = x; count = count_by (is_alike x) all } ∷ []) ++ classes_after all (before ++ x ∷ []) xs)) [
        | true ↦ apart_after (before ++ x ∷ []) xs
        | false ↦ (
          λ other there alike.
              let k = after_is (before ++ x ∷ []) xs other (mem_of other (classes_after all (before ++ x ∷ []) xs) there) in
              false≢true (sym k.fresh ∙ told_any other.card (before ++ x ∷ []) (x, mem_right x before (x ∷ []) (inl refl), turned x other.card alike)),
          apart_after (before ++ x ∷ []) xs,
        )
      ]

pub cards_have_one_class : CardsHaveOneClass
cards_have_one_class cards = record {
  each = λ card there. elim (each_told cards [] cards card (mem_of card cards there)) [
    | inl h ↦ (h.0, contains_of h.0 (classes_of cards) h.1, h.2)
    | inr none ↦ absurd none.1
  ];
  there = λ class there. contains_of class.card cards (after_is cards [] cards class (mem_of class (classes_of cards) there)).there;
  apart = apart_after cards [] cards;
  counted = λ class there. (after_is cards [] cards class (mem_of class (classes_of cards) there)).counted;
}
