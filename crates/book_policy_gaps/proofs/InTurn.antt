-- Lists that are made item by item.
use Rattle.book_policy_gaps.proofs.Common.{◌≡◌, ◌++◌, ◌∷◌, ◌∙◌, [], List, AllZip, ap, map, sym}
use Rattle.std.proofs.lemmas.List.{map-append}

pub zip_more : {A B : Type 0} (R : A → B → Type 0) (xs : List A) (ys : List B) (x : A) (y : B) → AllZip R xs ys → R x y → AllZip R (xs ++ x ∷ []) (ys ++ y ∷ [])
zip_more R [] [] x y all is = (is, tt)
zip_more R [] (b ∷ ys) x y all is = absurd all
zip_more R (a ∷ xs) [] x y all is = absurd all
zip_more R (a ∷ xs) (b ∷ ys) x y all is = (all.0, zip_more R xs ys x y all.1 is)

pub map_more : {A B : Type 0} (f : A → B) (xs all : List A) (ys : List B) (x : A) (y : B)
    → all ≡ xs ++ x ∷ [] → ys ≡ map f xs → y ≡ f x → ys ++ y ∷ [] ≡ map f all
map_more f xs all ys x y more is made =
    ap (λ l. l ++ y ∷ []) is ∙ ap (λ z. map f xs ++ z ∷ []) made ∙ sym (map-append f xs (x ∷ [])) ∙ ap (map f) (sym more)
