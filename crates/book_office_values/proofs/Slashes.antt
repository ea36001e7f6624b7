-- Names have no slash, so the slashes of a text tell where its names are.
use Rattle.book_office_values.proofs.Common.{◌≡◌, ◌≢◌, ℕ, ◌<◌, inl, inr, List, [], ◌∷◌, ◌++◌, length, drop, refl, ap, sym, ◌∙◌, subst, arith, codes, IsName}
use Rattle.std.proofs.Common.{get_or, length-append, IsTrue}
use lib.Dec.{eqb}
use Rattle.std.specs.List.{slice_split}
use Rattle.std.proofs.lemmas.Bool.{false≢true, ne_eqb}
use Rattle.std.proofs.lemmas.List.{append-nil, append_assoc, append_cancel_left, append_cancel_right, get_or_at, get_or_append_left, get_or_default}
use Rattle.std.proofs.lemmas.List.Splits.{slice_split_at}
use Rattle.book_lists.specs.Names.{is_name_byte}
use Rattle.book_lists.specs.Principals.{Spells, EndsPlain}

pub no_slash : (name : List ℕ) → IsName name → (i : ℕ) → i < length name → get_or name i 0 ≢ 47
no_slash name is i within e = let P : ℕ → Type 0 = λ b. IsTrue (is_name_byte b) in false≢true (subst P e (is.each i 0 within))

slash_within : (name tail front back : List ℕ) → IsName name → name ++ tail ≡ front ++ 47 ∷ back → length front < length name → ⊥
slash_within name tail front back is e within =
    no_slash name is (length front) within
    (sym (get_or_append_left name tail 0 (length front) within) ∙ ap (λ xs. get_or xs (length front) 0) e ∙ get_or_at front 47 back 0 (length front) refl)

-- a name ends plain
pub name_ends_plain : (name : List ℕ) → IsName name → EndsPlain name
name_ends_plain name is front e =
    slash_within name [] front [] is (append-nil name ∙ e) (omega (arith, ap length e, length-append front (47 ∷ [])))

-- a text spells one name
pub same_name : (text name other : List ℕ) → IsName name → IsName other → Spells text name → Spells text other → name ≡ other
same_name text name other is is_other (inl e) (inl f) = sym e ∙ f
same_name text name other is is_other (inl e) (inr f) = absurd (name_ends_plain name is other (sym e ∙ f))
same_name text name other is is_other (inr e) (inl f) = absurd (name_ends_plain other is_other name (sym f ∙ e))
same_name text name other is is_other (inr e) (inr f) = append_cancel_right name other (codes "/") (sym e ∙ f)

-- what follows the first slash
pub below : (text name : List ℕ) → Spells text (codes "/" ++ name) → Spells (drop 1 text) name
below text name (inl e) = inl (ap (drop 1) e)
below text name (inr e) = inr (ap (drop 1) e)

pub two_below : (text book card : List ℕ) → text ≡ codes "/" ++ book ++ codes "/" ++ card → drop 1 text ≡ book ++ 47 ∷ card
two_below text book card e = ap (drop 1) e ∙ append_assoc book (codes "/") card

-- a text with two names spells no single one
pub not_one_name : (text name book card : List ℕ) → IsName name → 0 < length card → Spells text name → text ≡ book ++ 47 ∷ card → ⊥
not_one_name text name book card is some (inl e) f =
    let g : name ≡ book ++ 47 ∷ card = sym e ∙ f in
    slash_within name [] book card is (append-nil name ∙ g) (omega (arith, ap length g, length-append book (47 ∷ card)))
not_one_name text name book card is some (inr e) f =
    let g : name ++ codes "/" ≡ book ++ 47 ∷ card = sym e ∙ f in
    slash_within name (codes "/") book card is g (omega (arith, ap length g, some, length-append book (47 ∷ card), length-append name (codes "/")))

-- the first slash of a text follows its first name
pub same_book : (book card other_book other_card : List ℕ) → IsName book → IsName other_book → book ++ 47 ∷ card ≡ other_book ++ 47 ∷ other_card → book ≡ other_book
same_book book card other_book other_card is is_other e =
    ap (λ xs. get_or xs 0 []) (sym (pieces book card is) ∙ ap (slice_split (λ b. eqb b 47)) e ∙ pieces other_book other_card is_other)
  where
    pieces : (b c : List ℕ) → IsName b → slice_split (λ x. eqb x 47) (b ++ 47 ∷ c) ≡ b ∷ slice_split (λ x. eqb x 47) c
    pieces b c is_b = slice_split_at (λ x. eqb x 47) b 47 c (λ i d within. ne_eqb (get_or b i d) 47 (λ f. no_slash b is_b i within (get_or_default b i 0 d within ∙ f))) refl

pub same_card : (book card other_book other_card : List ℕ) → book ≡ other_book → book ++ 47 ∷ card ≡ other_book ++ 47 ∷ other_card → card ≡ other_card
same_card book card other_book other_card same e =
    ap (drop 1) (append_cancel_left book (47 ∷ card) (47 ∷ other_card) (e ∙ ap (λ b. b ++ 47 ∷ other_card) (sym same)))
