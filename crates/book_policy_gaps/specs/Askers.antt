-- Everybody: nobody, and each person.
use Rattle.std.specs.Prelude.{◌≡◌, List, None}
use Rattle.std.specs.List.{AllZip}
use Rattle.book_lists.specs.Callers.{IsCircle}
use Rattle.book_lists.specs.Memberships.{Memberships}
use Rattle.book_lists.specs.Principals.{person_path}
use Rattle.book_lists.specs.declared.circles.Caller.TheVariants.{Known}
use Rattle.book_office.specs.declared.nodes.Listed.{Listed}
use Rattle.book_policy_gaps.specs.declared.askers.Asker.{Asker}
use Rattle.book_policy_gaps.specs.declared.askers.Everybody.{Everybody}

module _ (pairs : Memberships) where
  -- a person who is listed, with exactly the principals to which the person belongs
  pub record IsAsker (person : Listed) (asker : Asker) : Type 0 where
    pub name : asker.name ≡ person.name
    pub principal : asker.principal ≡ person_path person.name
    pub circle : IsCircle pairs (Known (person_path person.name)) asker.circle

  abbrev pub AreAskers : List Listed → List Asker → Type 0
  AreAskers persons askers = AllZip IsAsker persons askers

  -- nobody, who belongs to nothing, and each person who is listed, in order
  pub record IsEverybody (listed : List Listed) (everybody : Everybody) : Type 0 where
    pub nobody : everybody.nobody ≡ None
    pub persons : AreAskers listed everybody.persons
