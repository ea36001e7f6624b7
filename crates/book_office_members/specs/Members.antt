-- The members of a group card in a caller's view of its book (RFC 6350, section 6.6.5; the report is own profile).
use Rattle.std.specs.Prelude.{◌≡◌, ℕ, List, [], map, Option, Some, None, option_map}
use Rattle.std.specs.FinMap.{get, entries}
use Rattle.book_cards.specs.CardText.{card_fault, uid_in, members_in}
use Rattle.book_cards.specs.Folding.{unfolded}
use Rattle.book_cards.specs.declared.fault.CardFault.{CardFault}
use Rattle.book_lists.specs.Circles.{CircleOf}
use Rattle.book_office_values.specs.Names.{NamesTo}
use Rattle.book_office_values.specs.declared.offices.Office.{Office}
use Rattle.book_office_members.specs.Steps.{AreMembersOf, card_named}
use Rattle.book_office_members.specs.declared.card_refs.CardRef.{CardRef}
use Rattle.book_office_members.specs.declared.members.Members.{Members}
use Rattle.book_office_sync.specs.Copies.{IsView, seen}
use Rattle.book_office_sync.specs.declared.messages.Seen.{Seen}

-- the UID and the members that a text says, given its fault as a card: a text that is no card says none
abbrev pub uid_unless : Option CardFault → List ℕ → Option (List ℕ)
uid_unless None text = uid_in (unfolded text)
uid_unless (Some fault) text = None

abbrev pub members_unless : Option CardFault → List ℕ → List (List ℕ)
members_unless None text = members_in (unfolded text)
members_unless (Some fault) text = []

-- a name and a text, as a card with its UID and its members
abbrev pub card_of : List ℕ → List ℕ → CardRef
card_of name text = record { name = name; uid = uid_unless (card_fault text) text; members = members_unless (card_fault text) text }

-- the cards of a view, by name
abbrev pub AreCardsOf : NamesTo Seen → NamesTo CardRef → Type 0
AreCardsOf view cards = (name : List ℕ) → get cards name ≡ option_map (λ (s : Seen). card_of name s.text) (get view name)

-- the cards, in byte order of their names
abbrev pub in_order : NamesTo CardRef → List CardRef
in_order cards = map (λ e. e.1) (entries cards)

-- the members of a name in a view: those among the view's cards
abbrev pub AreMembersIn : NamesTo Seen → List ℕ → Members → Type 0
AreMembersIn view name members = (cards : NamesTo CardRef) × AreCardsOf view cards
    × AreMembersOf (in_order cards) (card_named (in_order cards) name) members

-- the members of a card of a book, in the view of the caller with this circle
abbrev pub AreMembersAt : Office → CircleOf → List ℕ → List ℕ → Members → Type 0
AreMembersAt o circle b name members = (view : NamesTo Seen) × IsView view o circle b × AreMembersIn view name members

-- the members depend on the view alone
abbrev pub EqualViewsHaveEqualMembers : Type 0
EqualViewsHaveEqualMembers = (o p : Office) (circle other : CircleOf) (a b : List ℕ)
    → ((name : List ℕ) → seen o circle a name ≡ seen p other b name)
    → (name : List ℕ) (x y : Members) → AreMembersAt o circle a name x → AreMembersAt p other b name y → x ≡ y

-- each name of each book has members in each view
abbrev pub MembersExist : Type 0
MembersExist = (o : Office) (circle : CircleOf) (b name : List ℕ) → (members : Members) × AreMembersAt o circle b name members
