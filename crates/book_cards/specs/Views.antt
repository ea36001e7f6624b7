-- What clauses see of lines, and of what is to come.
use Rattle.std.specs.Prelude.{ℕ, List}
use Rattle.std.specs.Option.{option_copied}
use Rattle.book_cards.specs.declared.line.Line.{Line}
use Rattle.book_cards.specs.declared.card.Lines.{Lines}
use Rattle.book_cards.specs.declared.card.MemberValues.{MemberValues}
use Rattle.book_cards.specs.ContentLine.{Fields}
use Rattle.book_cards.specs.CardText.{fields_in, members_in}

abbrev pub view : Line → Fields
view line = record {
  group = option_copied line.group;
  name = line.name.now;
  params = line.params.now;
  value = line.value.now;
}

-- the lines, and the members, that are to come
abbrev pub lines_left : Lines → List Fields
lines_left lines = fields_in lines.rest.now

abbrev pub members_left : MemberValues → List (List ℕ)
members_left members = members_in members.rest.now
