-- Those who are asked about, with the principals to which they belong.
use Rattle.std.specs.Prelude.{◌≡◌, List}
use Rattle.std.specs.List.{AllZip}
use Rattle.book_lists.specs.Callers.{IsCircle}
use Rattle.book_lists.specs.Memberships.{Memberships}
use Rattle.book_lists.specs.declared.circles.Caller.{Caller}
use Rattle.book_questions_rights.specs.declared.askers.Asker.{Asker}

module _ (pairs : Memberships) where
  -- a caller with the principals to which it belongs
  pub record IsAsker (caller : Caller) (asker : Asker) : Type 0 where
    pub caller_is : asker.caller ≡ caller
    pub is_circle : IsCircle pairs caller asker.circle

  abbrev pub AreAskers : List Caller → List Asker → Type 0
  AreAskers callers askers = AllZip IsAsker callers askers
