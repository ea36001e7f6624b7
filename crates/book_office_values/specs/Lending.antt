-- What becomes of a map of names whose value at one name is lent.
use Rattle.std.specs.Prelude.{◌≡◌, ℕ, List, Option, OnSome}
use Rattle.std.specs.Borrow.{LendsSo, MutBor, Fml}
use Rattle.std.specs.FinMap.{insert}
use denote.RattleType.{RattleType}
use Rattle.book_office_values.specs.Names.{NamesTo}
use Rattle.book_office_values.specs.contracts.collections.name_maps.NameMap.{the_row}

-- the map ends with the value that was left at the name, and is unchanged where it has none
abbrev pub LendsValue : (V : RattleType) → MutBor (NamesTo V.Denot) → List ℕ → Option (MutBor V.Denot) → Fml
LendsValue V m name r = LendsSo (the_row V) V m r (λ n w. OnSome r (n ≡ insert m.now name w)) (λ n. n ≡ m.now)
