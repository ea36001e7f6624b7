-- Names of members of collections.
use Rattle.std.specs.Prelude.{◌≡◌, ◌≢◌, ℕ, Bool, List, ◌<◌, ◌≤◌, ◌||◌, ◌&&◌, length, slice_index, nat_le, nat_eq, All, IsTrue}
use Rattle.std.specs.declared.cmp.Ordering.{Ordering}
use Rattle.std.specs.Ordering.{nat_cmp}
use Rattle.std.specs.Cmp.Lexicographic.{slice_cmp}
use Rattle.std.specs.Int.{from_be_bytes, w64}

-- names in byte order
abbrev pub name_cmp : List ℕ → List ℕ → Ordering
name_cmp = slice_cmp nat_cmp

-- an ASCII letter or digit, `.`, `_` or `-`
abbrev pub is_name_byte : ℕ → Bool
is_name_byte b = (nat_le 97 b && nat_le b 122) || ((nat_le 65 b && nat_le b 90) || ((nat_le 48 b && nat_le b 57) || (nat_eq b 46 || (nat_eq b 95 || nat_eq b 45))))

-- a name of one member of a collection: 1 to 64 such bytes, the first of them no dot
pub record IsName (name : List ℕ) : Type 0 where
  pub some : 0 < length name
  pub short : length name ≤ 64
  pub visible : slice_index name 0 ≢ 46
  pub each : All (λ b. IsTrue (is_name_byte b)) name

-- the number that the first eight bytes spell, the first the highest; missing ones are 0
abbrev pub front : List ℕ → ℕ
front name = from_be_bytes w64 name

-- a name, kept with its front
pub record IsFronted (name : List ℕ) (number : ℕ) : Type 0 where
  pub is_name : IsName name
  pub fronted : number ≡ front name
