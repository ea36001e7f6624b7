-- The classes of the cards of a book.
use Rattle.book_questions_differs.proofs.Common.{◌≡◌, ◌++◌, ◌∷◌, ◌∙◌, [], Bool, true, false, List, refl, ap, sym, subst}
use Rattle.std.proofs.Common.{◌⊎◌, ◌||◌, inl, inr}
use Rattle.std.specs.Prelude.{count_by, if◌then◌else◌}
use Rattle.std.specs.List.{list_any}
use Rattle.std.proofs.lemmas.Bool.{false≢true}
use Rattle.book_questions_rights.proofs.Elements.{Mem, contains_of, mem_left, mem_of, mem_right, mem_split}
use Rattle.book_questions_differs.specs.Pairs.{AreAlike, PairClass, are_alike, class_at, classes_after, classes_of}
use Rattle.book_questions_differs.specs.Laws.{AreApart, CardsHaveOneClass}
use Rattle.book_questions_differs.specs.declared.pairs.CardPair.{CardPair}
use Rattle.book_questions_differs.proofs.AlikePairs.{itself, pairs_decide, through, turned}

-- one of these cards is like the card, or none is
abbrev OneIsLike : CardPair → List CardPair → Type 0
OneIsLike card before = (other : CardPair) × Mem other before × AreAlike card other

any_tells : (card : CardPair) (before : List CardPair) → list_any (are_alike card) before ≡ true → OneIsLike card before
any_tells card [] e = absurd (false≢true e)
any_tells card (x ∷ xs) e =
    elim (are_alike card x) as (λ b. are_alike card x ≡ b → list_any (are_alike card) (x ∷ xs) ≡ true → OneIsLike card (x ∷ xs)) [
      | true ↦ λ t h. (x, inl refl, (pairs_decide card x).0 t)
      | false ↦ λ f h. let r = any_tells card xs (subst (λ b. (b || list_any (are_alike card) xs) ≡ true) f h) in (r.0, inr r.1, r.2)
    ] refl e

told_any : (card : CardPair) (before : List CardPair) → OneIsLike card before → list_any (are_alike card) before ≡ true
told_any card [] h = absurd h.1
told_any card (x ∷ xs) (other, m, alike) = elim m [
  | inl e ↦ ap (λ (b : Bool). b || list_any (are_alike card) xs) ((pairs_decide card x).1 (subst (λ c. AreAlike card c) e alike))
  | inr r ↦
      elim (are_alike card x) as (λ b. (b || list_any (are_alike card) xs) ≡ true) [
        | true ↦ refl
        | false ↦ told_any card xs (other, r, alike)
      ]
]

module _ (all : List CardPair) where
  class_of : CardPair → PairClass
  class_of card = record { pair = card; count = count_by (are_alike card) all }

  -- ---- each card is like that of a class, or like one of the cards before
  abbrev IsTold : CardPair → List CardPair → List PairClass → Type 0
  IsTold card before classes = ((class : PairClass) × Mem class classes × AreAlike card class.pair) ⊎ OneIsLike card before

  first_told : (before : List CardPair) (card : CardPair) → IsTold card before (class_at all before card)
  first_told before card =
      elim (list_any (are_alike card) before) as (λ b. list_any (are_alike card) before ≡ b
      → IsTold card before (if b then [] else record { pair = card; count = count_by (are_alike card) all } ∷ [])) [
        | true ↦ λ t. inr (any_tells card before t)
        | false ↦ λ f. inl (record { pair = card; count = count_by (are_alike card) all }, inl refl, itself card)
      ] refl

  each_told : (before cards : List CardPair) (card : CardPair) → Mem card cards → IsTold card before (classes_after all before cards)
  each_told before [] card m = absurd m
  each_told before (x ∷ xs) card (inl e) = elim (first_told before x) [
    | inl h ↦ inl (h.0, mem_left h.0 (class_at all before x) (classes_after all (before ++ x ∷ []) xs) h.1, subst (λ c. AreAlike c h.0.pair) (sym e) h.2)
    | inr h ↦ inr (h.0, h.1, subst (λ c. AreAlike c h.0) (sym e) h.2)
  ]
  each_told before (x ∷ xs) card (inr m) = elim (each_told (before ++ x ∷ []) xs card m) [
    | inl h ↦ inl (h.0, mem_right h.0 (class_at all before x) (classes_after all (before ++ x ∷ []) xs) h.1, h.2)
    | inr h ↦ elim (mem_split h.0 before (x ∷ []) h.1) [
      | inl early ↦ inr (h.0, early, h.2)
      | inr last ↦ elim last [
        | inl is ↦
            let like : AreAlike card x = subst (λ c. AreAlike card c) is h.2 in
            elim (first_told before x) [
              | inl k ↦ inl (k.0, mem_left k.0 (class_at all before x) (classes_after all (before ++ x ∷ []) xs) k.1, through card x k.0.pair like k.2)
              | inr k ↦ inr (k.0, k.1, through card x k.0 like k.2)
            ]
        | inr none ↦ absurd none
      ]
    ]
  ]

  -- ---- what a class is
  pub record IsClassAfter (before cards : List CardPair) (class : PairClass) : Type 0 where
    pub there : Mem class.pair cards
    pub fresh : list_any (are_alike class.pair) before ≡ false
    pub counted : class.count ≡ count_by (are_alike class.pair) all

  first_is : (before : List CardPair) (card : CardPair) (cards : List CardPair) (class : PairClass) → Mem class (class_at all before card) → IsClassAfter before (card ∷ cards) class
  first_is before card cards class =
      elim (list_any (are_alike card) before) as (λ b. list_any (are_alike card) before ≡ b
      → Mem class (if b then [] else record { pair = card; count = count_by (are_alike card) all } ∷ []) → IsClassAfter before (card ∷ cards) class) [
        | true ↦ λ t m. absurd m
        | false ↦ λ f m. elim m [
          | inl e ↦ subst (λ (k : PairClass). IsClassAfter before (card ∷ cards) k) (sym e) (record { there = inl refl; fresh = f; counted = refl })
          | inr none ↦ absurd none
        ]
      ] refl

  earlier_fresh : (card : CardPair) (before : List CardPair) (x : CardPair) → list_any (are_alike card) (before ++ x ∷ []) ≡ false → list_any (are_alike card) before ≡ false
  earlier_fresh card before x f =
      elim (list_any (are_alike card) before) as (λ b. list_any (are_alike card) before ≡ b → b ≡ false) [
        | true ↦ λ t. let h = any_tells card before t in absurd (false≢true (sym f ∙ told_any card (before ++ x ∷ []) (h.0, mem_left h.0 before (x ∷ []) h.1, h.2)))
        | false ↦ λ _. refl
      ] refl

  after_is : (before cards : List CardPair) (class : PairClass) → Mem class (classes_after all before cards) → IsClassAfter before cards class
  after_is before [] class m = absurd m
  after_is before (x ∷ xs) class m = elim (mem_split class (class_at all before x) (classes_after all (before ++ x ∷ []) xs) m) [
    | inl h ↦ first_is before x xs class h
    | inr h ↦
        let k = after_is (before ++ x ∷ []) xs class h in
        record { there = inr k.there; fresh = earlier_fresh class.pair before x k.fresh; counted = k.counted }
  ]

  -- ---- no two are alike
  apart_after : (before cards : List CardPair) → AreApart (classes_after all before cards)
  apart_after before [] = tt
  apart_after before (x ∷ xs) =
      elim (list_any (are_alike x) before) as (λ b. AreApart ((if b then [] else record { pair = x; count = count_by (are_alike x) all } ∷ []) ++ classes_after all (before ++ x ∷ []) xs)) [
        | true ↦ apart_after (before ++ x ∷ []) xs
        | false ↦ (
          λ other there alike.
              let k = after_is (before ++ x ∷ []) xs other (mem_of other (classes_after all (before ++ x ∷ []) xs) there) in
              false≢true (sym k.fresh ∙ told_any other.pair (before ++ x ∷ []) (x, mem_right x before (x ∷ []) (inl refl), turned x other.pair alike)),
          apart_after (before ++ x ∷ []) xs,
        )
      ]

pub pairs_have_one_class : CardsHaveOneClass
pairs_have_one_class cards = record {
  each = λ card there. elim (each_told cards [] cards card (mem_of card cards there)) [
    | inl h ↦ (h.0, contains_of h.0 (classes_of cards) h.1, h.2)
    | inr none ↦ absurd none.1
  ];
  there = λ class there. contains_of class.pair cards (after_is cards [] cards class (mem_of class (classes_of cards) there)).there;
  apart = apart_after cards [] cards;
  counted = λ class there. (after_is cards [] cards class (mem_of class (classes_of cards) there)).counted;
}
