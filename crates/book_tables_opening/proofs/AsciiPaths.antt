-- The texts of names and of paths are ASCII, and so UTF-8.
use Rattle.book_tables_opening.proofs.Common.{◌≡◌, inl, inr, ℕ, zero, suc, ◌<◌, nat_eq, true, ◌&&◌, List, [], ◌∷◌, ◌++◌, codes, IsTrue, refl, arith, and_parts, IsName, Path, IsPath, path_text}
use Rattle.std.proofs.Common.{nat_le, nat_lt}
use Rattle.std.specs.List.{list_all}
use Rattle.std.specs.Str.{IsAscii, IsUtf8}
use Rattle.std.proofs.lemmas.Bool.{leb-true, ltb-true, eqb-true, or_cases}
use Rattle.std.proofs.lemmas.Str.{IsAscii-append, IsUtf8-from_ascii}
use Rattle.std.proofs.lemmas.Str.Ascii.{IsAscii-from_all}
use Rattle.book_lists.specs.Names.{is_name_byte}
use Rattle.book_office_values.specs.declared.paths.Path.TheVariants as path

between : (low high b : ℕ) → (nat_le low b && nat_le b high) ≡ true → high < 128 → b < 128
between low high b h top = let last = leb-true b high (and_parts (nat_le low b) (nat_le b high) h).1 in omega (arith, last, top)

equals : (b n : ℕ) → nat_eq b n ≡ true → n < 128 → b < 128
equals b n h top = let is = eqb-true b n h in omega (arith, is, top)

byte_is_small : (b : ℕ) → IsTrue (is_name_byte b) → b < 128
byte_is_small b h = elim (or_cases (nat_le 97 b && nat_le b 122) _ h) [
  | inl lower ↦ between 97 122 b lower (omega arith)
  | inr rest ↦ elim (or_cases (nat_le 65 b && nat_le b 90) _ rest) [
    | inl upper ↦ between 65 90 b upper (omega arith)
    | inr more ↦ elim (or_cases (nat_le 48 b && nat_le b 57) _ more) [
      | inl digit ↦ between 48 57 b digit (omega arith)
      | inr mark ↦ elim (or_cases (nat_eq b 46) _ mark) [
        | inl dot ↦ equals b 46 dot (omega arith)
        | inr line ↦ elim (or_cases (nat_eq b 95) (nat_eq b 45) line) [
          | inl low ↦ equals b 95 low (omega arith)
          | inr dash ↦ equals b 45 dash (omega arith)
        ]
      ]
    ]
  ]
]

name_is_ascii : (name : List ℕ) → IsName name → IsAscii name
name_is_ascii name is = IsAscii-from_all name (λ i d below. byte_is_small _ (is.each i d below))

all_small : (bs : List ℕ) → list_all (λ b. nat_lt b 128) bs ≡ true → IsAscii bs
all_small [] h i = omega arith
all_small (b ∷ bs) h zero = ltb-true b 128 (and_parts (nat_lt b 128) (list_all (λ c. nat_lt c 128) bs) h).0
all_small (b ∷ bs) h (suc i) = all_small bs (and_parts (nat_lt b 128) (list_all (λ c. nat_lt c 128) bs) h).1 i

path_is_ascii : (p : Path) → IsPath p → IsAscii (path_text p)
path_is_ascii path.Root is = all_small (codes "/") refl
path_is_ascii path.People is = all_small (codes "/people") refl
path_is_ascii path.Groups is = all_small (codes "/groups") refl
path_is_ascii path.Books is = all_small (codes "/books") refl
path_is_ascii (path.Person name) is = IsAscii-append (codes "/people/") name (all_small (codes "/people/") refl) (name_is_ascii name is)
path_is_ascii (path.Group name) is = IsAscii-append (codes "/groups/") name (all_small (codes "/groups/") refl) (name_is_ascii name is)
path_is_ascii (path.Book name) is = IsAscii-append (codes "/books/") name (all_small (codes "/books/") refl) (name_is_ascii name is)
path_is_ascii (path.Card book name) is =
    IsAscii-append (codes "/books/" ++ book ++ codes "/") name
    (IsAscii-append (codes "/books/" ++ book) (codes "/") (IsAscii-append (codes "/books/") book (all_small (codes "/books/") refl) (name_is_ascii book is.0)) (all_small (codes "/") refl))
    (name_is_ascii name is.1)

pub name_is_utf8 : (name : List ℕ) → IsName name → IsUtf8 name
name_is_utf8 name is = IsUtf8-from_ascii name (name_is_ascii name is)

pub path_is_utf8 : (p : Path) → IsPath p → IsUtf8 (path_text p)
path_is_utf8 p is = IsUtf8-from_ascii (path_text p) (path_is_ascii p is)
