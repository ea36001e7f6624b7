-- Where the lines stand that a card is asked for. Only private functions cite it.
use Rattle.std.specs.Prelude.{◌≡◌, ℕ, ◌-◌, List, drop, length, Option, Some, None}
use Rattle.std.specs.Option.{option_or}
use Rattle.std.specs.Str.Lines.{lines}
use Rattle.book_cards.specs.declared.places.Places.{Places}
use Rattle.book_cards.specs.declared.places.PlacesSeen.{PlacesSeen}
use Rattle.book_cards.specs.declared.property.Property.{Property}
use Rattle.book_cards.specs.declared.property.Property.TheVariants.{FormattedName, Uid, Member}
use Rattle.book_cards.specs.Properties.{first_value, values, is_formatted_name, is_uid, is_member}

-- the text ends with this
abbrev pub Ends : List ℕ → List ℕ → Type 0
Ends text rest = drop (length text - length rest) text ≡ rest

-- two texts say the same of the lines that a card is asked for
pub record SaysSame (part text : List ℕ) : Type 0 where
  pub formatted_name : first_value is_formatted_name (lines part) ≡ first_value is_formatted_name (lines text)
  pub uid : first_value is_uid (lines part) ≡ first_value is_uid (lines text)
  pub members : values is_member (lines part) ≡ values is_member (lines text)

-- what follows of the text has all of those lines
pub record Follows (text rest : List ℕ) : Type 0 where
  pub ends : Ends text rest
  pub same : SaysSame rest text

-- from these places on the text says what it says
pub record ArePlaces (text : List ℕ) (places : Places) : Type 0 where
  pub formatted_name : first_value is_formatted_name (lines (drop places.formatted_name text)) ≡ first_value is_formatted_name (lines text)
  pub uid : first_value is_uid (lines (drop places.uid text)) ≡ first_value is_uid (lines text)
  pub members : values is_member (lines (drop places.member text)) ≡ values is_member (lines text)

-- no line was passed
abbrev pub seen_nowhere : PlacesSeen
seen_nowhere = record { formatted_name = None; uid = None; member = None }

-- one more was, with the property, that begins at the byte n
abbrev pub noted : PlacesSeen → Property → ℕ → PlacesSeen
noted seen FormattedName n = record seen { formatted_name = option_or seen.formatted_name (Some n) }
noted seen Uid n = record seen { uid = option_or seen.uid (Some n) }
noted seen Member n = record seen { member = option_or seen.member (Some n) }
noted seen _ n = seen

-- what is to be looked at for a property: from its place on, or what is not passed yet
abbrev pub looked_at : List ℕ → List ℕ → Option ℕ → List ℕ
looked_at text rest None = rest
looked_at text rest (Some n) = drop n text

-- what the lines that were passed tell of the places
pub record ArePlacesSeen (text rest : List ℕ) (seen : PlacesSeen) : Type 0 where
  pub ends : Ends text rest
  pub formatted_name : first_value is_formatted_name (lines (looked_at text rest seen.formatted_name)) ≡ first_value is_formatted_name (lines text)
  pub uid : first_value is_uid (lines (looked_at text rest seen.uid)) ≡ first_value is_uid (lines text)
  pub members : values is_member (lines (looked_at text rest seen.member)) ≡ values is_member (lines text)
