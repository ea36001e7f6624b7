-- How a report with a limit is read: up to more items than the limit, and then it is cut.
use Rattle.std.specs.Prelude.{◌≡◌, ◌⊎◌, ◌||◌, ℕ, ◌<◌, List, [], ◌∷◌, ◌++◌, length, map, filter, is_some, Option, Some, None, if◌then◌else◌}
use Rattle.book_lists.specs.Circles.{CircleOf}
use Rattle.book_office_values.specs.Changes.{first_of}
use Rattle.book_office.specs.declared.nodes.Changed.{Changed}
use Rattle.book_office_sync.specs.Copies.{is_cut}
use Rattle.book_office_sync.specs.Reading.{item_in}
use Rattle.book_office_sync.specs.declared.messages.Item.{Item}
use Rattle.book_office_sync.specs.declared.messages.Report.{Report}
use Rattle.book_office_sync.specs.declared.messages.Token.{Token}
use Rattle.book_office_sync.specs.declared.reports.Above.{Above}

-- the items begin a list, and where there are no more than so many they are all of it
pub record IsEnough (most : ℕ) (all items : List Item) : Type 0 where
  pub rest : List Item
  pub parts : all ≡ items ++ rest
  pub enough : (most < length items) ⊎ (rest ≡ [])

-- without a limit they are the whole list
abbrev pub AreEnough : Option ℕ → List Item → List Item → Type 0
AreEnough None all items = items ≡ all
AreEnough (Some most) all items = IsEnough most all items

-- the items of changes: without a token those alone whose cards are there and may be read
abbrev pub told_items : Above → CircleOf → Option Token → List Changed → List Item
told_items above circle token changes = filter (λ (item : Item). is_some token || is_some item.found) (map (item_in above circle) changes)

-- the number of the last item, and else the one given
abbrev pub last_told : ℕ → List Item → ℕ
last_told otherwise [] = otherwise
last_told otherwise (item ∷ items) = last_told item.number items

-- the report of these items, from a number on, cut to the limit
abbrev pub told_report : ℕ → Option ℕ → List Item → Token → Report
told_report start limit items place = record {
  items = first_of limit items;
  truncated = is_cut limit items;
  token = record { book = place.book; epoch = place.epoch; number = if is_cut limit items then last_told start (first_of limit items) else place.number };
}
