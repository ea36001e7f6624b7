-- The direct members of a group, found among pairs one by one; and lists of texts that are compared one by one.
use Rattle.book_tables.proofs.Common.{◌≡◌, ℕ, suc, ◌<◌, List, [], ◌∷◌, ◌++◌, map, drop, get_or, length, refl, sym, ap, ◌∙◌, arith, Membership, members_in}
use Rattle.std.proofs.lemmas.List.{get_or-map}

module _ {A : Type 0} (f : A → List ℕ) (group : List ℕ) (pairs : List Membership) where
  -- the members that were found and those to come are all
  abbrev pub AreFound : List A → ℕ → Type 0
  AreFound found place = map f found ++ members_in group (drop place pairs) ≡ members_in group pairs

-- lists of one length that tell the same at each place tell the same
pub same_told : {A B : Type 0} (f : A → B) (xs ys : List A) → length xs ≡ length ys → ((k : ℕ) (d : A) → k < length xs → f (get_or xs k d) ≡ f (get_or ys k d)) → map f xs ≡ map f ys
same_told f [] [] e h = refl
same_told f [] (y ∷ ys) e h = absurd (omega arith)
same_told f (x ∷ xs) [] e h = absurd (omega arith)
same_told f (x ∷ xs) (y ∷ ys) e h =
    let head : f x ≡ f y = h 0 x (omega arith) in
    let tail : map f xs ≡ map f ys = same_told f xs ys (omega arith) (λ k d within. h (suc k) d (omega arith)) in
    λ i. head i ∷ tail i

-- and where they tell the same, they do at each place
pub same_at : {A B : Type 0} (f : A → B) (xs ys : List A) → map f xs ≡ map f ys → length xs ≡ length ys → (k : ℕ) (d e : A) → k < length xs → f (get_or xs k d) ≡ f (get_or ys k e)
same_at f xs ys is len k d e within = sym (get_or-map f xs k d (f d) within) ∙ ap (λ l. get_or l k (f d)) is ∙ get_or-map f ys k e (f d) (omega arith)
