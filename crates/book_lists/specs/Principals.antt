-- Principals: the paths of persons and groups.
use Rattle.std.specs.Prelude.{◌≡◌, ◌≢◌, ℕ, List, ◌++◌, ◌⊎◌, codes}
use Rattle.std.specs.declared.cmp.Ordering.{Ordering}
use Rattle.std.specs.Ordering.{nat_cmp}
use Rattle.std.specs.Cmp.Lexicographic.{slice_cmp}
use Rattle.book_lists.specs.Names.{IsName}

-- paths in byte order
abbrev pub path_cmp : List ℕ → List ℕ → Ordering
path_cmp = slice_cmp nat_cmp

-- the path of the person with a name
abbrev pub person_path : List ℕ → List ℕ
person_path name = codes "/people/" ++ name

-- the path of the group with a name
abbrev pub group_path : List ℕ → List ℕ
group_path name = codes "/groups/" ++ name

abbrev pub IsPerson : List ℕ → Type 0
IsPerson path = (name : List ℕ) × IsName name × (path ≡ person_path name)

abbrev pub IsGroup : List ℕ → Type 0
IsGroup path = (name : List ℕ) × IsName name × (path ≡ group_path name)

abbrev pub IsPrincipal : List ℕ → Type 0
IsPrincipal path = IsPerson path ⊎ IsGroup path

-- a text spells a path as it is, or with one slash more at its end
abbrev pub Spells : List ℕ → List ℕ → Type 0
Spells text path = (text ≡ path) ⊎ (text ≡ path ++ codes "/")

-- the path has no slash at its end
abbrev pub EndsPlain : List ℕ → Type 0
EndsPlain path = (front : List ℕ) → path ≢ front ++ codes "/"
