-- Groups of cards (RFC 6350, sections 6.1.4, 6.6.5 and 6.7.6): a MEMBER line names a UID, and a step leads from its card to each
-- card that has this UID.
use Rattle.std.specs.Prelude.{◌≡◌, ◌⊎◌, ℕ, Bool, true, false, List, [], ◌∷◌, map, filter, Option, Some, None, if◌then◌else◌}
use Rattle.std.specs.List.{Any}
use Rattle.std.specs.Str.{bytes_eq}
use Rattle.book_lists.specs.Circles.{has_path}
use Rattle.book_office_members.specs.declared.card_refs.CardRef.{CardRef}
use Rattle.book_office_members.specs.declared.members.MemberLine.{MemberLine}
use Rattle.book_office_members.specs.declared.members.Members.{Members}

abbrev pub is_uid : List ℕ → Option (List ℕ) → Bool
is_uid value None = false
is_uid value (Some uid) = bytes_eq uid value

-- the card has the UID, byte for byte
abbrev pub has_uid : List ℕ → CardRef → Bool
has_uid value card = is_uid value card.uid

-- a MEMBER line of the card names the UID
abbrev pub has_member : List ℕ → CardRef → Bool
has_member value card = has_path card.members value

-- a step from p leads to q: a MEMBER line of p names the UID of q
pub record IsStep (p q : CardRef) : Type 0 where
  pub value : List ℕ
  pub member : has_member value p ≡ true
  pub uid : has_uid value q ≡ true

-- the names of those cards for which a fact holds, in the order of the cards
abbrev pub AreNamesOf : (CardRef → Type 0) → List CardRef → List (List ℕ) → Type 0
AreNamesOf Fact [] [] = Unit {0}
AreNamesOf Fact [] (name ∷ names) = ⊥
AreNamesOf Fact (card ∷ cards) [] = (Fact card → ⊥) × AreNamesOf Fact cards []
AreNamesOf Fact (card ∷ cards) (name ∷ names) =
    (Fact card × (name ≡ card.name) × AreNamesOf Fact cards names) ⊎ ((Fact card → ⊥) × AreNamesOf Fact cards (name ∷ names))

module _ (cards : List CardRef) where
  -- a step to the first of the list, which is one of these cards, and so on through the list, to q
  abbrev pub Leads : CardRef → List CardRef → CardRef → Type 0
  Leads p [] q = IsStep p q
  Leads p (c ∷ cs) q = Any (λ x. x ≡ c) cards × IsStep p c × Leads c cs q

  -- one or more steps from card to card of these lead to q
  abbrev pub IsReached : CardRef → CardRef → Type 0
  IsReached p q = (between : List CardRef) × Leads p between q

  -- the names of the cards that have the UID, in the order of the cards
  abbrev pub names_with : List ℕ → List (List ℕ)
  names_with value = map (λ (card : CardRef). card.name) (filter (has_uid value) cards)

  -- a MEMBER line, with the names of the cards that it leads to
  abbrev pub member_line : List ℕ → MemberLine
  member_line value = record { value = value; names = names_with value }

  -- the members of a card: its MEMBER lines in order, and the names of all cards to which steps lead from it
  pub record AreMembers (card : CardRef) (members : Members) : Type 0 where
    pub lines : members.lines ≡ map member_line card.members
    pub reached : AreNamesOf (IsReached card) cards members.reached

  -- where the card isn't there, it has none
  abbrev pub AreMembersOf : Option CardRef → Members → Type 0
  AreMembersOf None members = members ≡ record { lines = []; reached = [] }
  AreMembersOf (Some card) members = AreMembers card members

-- the first card with the name
abbrev pub card_named : List CardRef → List ℕ → Option CardRef
card_named [] name = None
card_named (card ∷ cards) name = if bytes_eq card.name name then Some card else card_named cards name

-- the members of a card among cards are one value
abbrev pub MembersAreDetermined : Type 0
MembersAreDetermined = (cards : List CardRef) (card : Option CardRef) (x y : Members)
    → AreMembersOf cards card x → AreMembersOf cards card y → x ≡ y
