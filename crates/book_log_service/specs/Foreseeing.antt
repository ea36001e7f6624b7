-- What an edit is to do, by what was asked and the Office before it.
use Rattle.std.specs.Prelude.{ℕ, ◌+◌, ◌-◌, ◌^◌, Bool, List, Option, Some, None, option_map, unwrap_or, min, if◌then◌else◌}
use Rattle.std.specs.Str.{bytes_eq}
use Rattle.book_log_lines.specs.declared.lines.Touched.{Touched}
use Rattle.book_log_replies.specs.Effects.{both, card_if, raises_asked, touches_destination, touches_path}
use Rattle.book_log_replies.specs.declared.replies.Effect.{Effect}
use Rattle.book_machine.specs.declared.messages.Request.{Request}
use Rattle.book_office.specs.Resources.{node_at}
use Rattle.book_office.specs.declared.nodes.Node.{Node}
use Rattle.book_office_values.specs.declared.offices.Office.{Office}
use Rattle.book_office_values.specs.declared.paths.Path.TheVariants as path

-- a number so many ahead, up to the last value
abbrev pub ahead_by : ℕ → ℕ → ℕ
ahead_by n k = min (n + k) (2 ^ 64 - 1)

-- the number of a book, 0 where there is none
abbrev pub book_number : Office → List ℕ → ℕ
book_number o b = unwrap_or (option_map (λ (node : Node). node.number) (node_at o (path.Book b))) 0

-- a card with a number so many ahead of its book's
abbrev pub next_of : Office → ℕ → List ℕ × List ℕ → Touched
next_of o k card = record { path = path.Card card.0 card.1; number = ahead_by (book_number o card.0) k }

-- how many ahead the second of two cards is: of one book, it takes the second number
abbrev pub second_ahead : Option (List ℕ) → Option (List ℕ) → ℕ
second_ahead None other = 1
second_ahead (Some book) None = 1
second_ahead (Some book) (Some other) = if bytes_eq book other then 2 else 1

abbrev pub book_of : Option (List ℕ × List ℕ) → Option (List ℕ)
book_of card = option_map (λ (c : List ℕ × List ℕ). c.0) card

abbrev pub next_cards : Office → Option (List ℕ × List ℕ) → Option (List ℕ × List ℕ) → List Touched
next_cards o first second = both (option_map (next_of o 1) first) (option_map (next_of o (second_ahead (book_of first) (book_of second))) second)

abbrev pub raised_by : Bool → ℕ
raised_by raises = if raises then 1 else 0

abbrev pub foreseen : Office → Request → Effect
foreseen o request = record {
  touched = next_cards o (card_if (touches_path request.method) request.path) (card_if (touches_destination request.method) request.destination);
  epoch = Some (ahead_by o.epoch (raised_by (raises_asked request.method request.path request.body)));
}
