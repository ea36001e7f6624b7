-- What is read one after the other.
use Rattle.book_office_listings.proofs.Common.{List, [], ◌∷◌, length, ◌≡◌, arith, AllZip}

-- no items are left
pub none_left : {A B : Type 0} (R : A → B → Type 0) (xs : List A) → length xs ≡ 0 → AllZip R xs []
none_left R [] e = tt
none_left R (x ∷ xs) e = absurd (omega (arith, e))
