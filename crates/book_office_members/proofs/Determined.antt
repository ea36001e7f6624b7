-- The members of a card are one value.
use Rattle.book_office_members.proofs.Common.{◌≡◌, inl, inr, ℕ, List, [], ◌∷◌, Some, None, refl, sym, ◌∙◌, AreNamesOf, IsReached, CardRef}
use Rattle.book_office_members.specs.Steps.{MembersAreDetermined}

one_list : (Fact : CardRef → Type 0) (cards : List CardRef) (xs ys : List (List ℕ)) → AreNamesOf Fact cards xs → AreNamesOf Fact cards ys → xs ≡ ys
one_list Fact [] [] [] h k = refl
one_list Fact [] [] (y ∷ ys) h k = absurd k
one_list Fact [] (x ∷ xs) ys h k = absurd h
one_list Fact (c ∷ cs) [] [] h k = refl
one_list Fact (c ∷ cs) [] (y ∷ ys) h (inl k) = absurd (h.0 k.0)
one_list Fact (c ∷ cs) [] (y ∷ ys) h (inr k) = one_list Fact cs [] (y ∷ ys) h.1 k.1
one_list Fact (c ∷ cs) (x ∷ xs) [] (inl h) k = absurd (k.0 h.0)
one_list Fact (c ∷ cs) (x ∷ xs) [] (inr h) k = one_list Fact cs (x ∷ xs) [] h.1 k.1
one_list Fact (c ∷ cs) (x ∷ xs) (y ∷ ys) (inl h) (inl k) = λ i. (h.1 ∙ sym k.1) i ∷ one_list Fact cs xs ys h.2 k.2 i
one_list Fact (c ∷ cs) (x ∷ xs) (y ∷ ys) (inl h) (inr k) = absurd (k.0 h.0)
one_list Fact (c ∷ cs) (x ∷ xs) (y ∷ ys) (inr h) (inl k) = absurd (h.0 k.0)
one_list Fact (c ∷ cs) (x ∷ xs) (y ∷ ys) (inr h) (inr k) = one_list Fact cs (x ∷ xs) (y ∷ ys) h.1 k.1

pub determined : MembersAreDetermined
determined cards None x y h k = h ∙ sym k
determined cards (Some card) x y h k = λ i. record {
  lines = (h.lines ∙ sym k.lines) i;
  reached = one_list (IsReached cards card) cards x.reached y.reached h.reached k.reached i;
}
