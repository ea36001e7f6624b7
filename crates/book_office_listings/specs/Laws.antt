-- What the definitions of a listing imply.
use Rattle.std.specs.Prelude.{◌≡◌, ◌↔◌, ℕ, Bool, true, List, [], ◌∷◌, Option, Some, is_some}
use Rattle.std.specs.FinMap.{get}
use Rattle.std.specs.FinSet.{contains}
use Rattle.std.specs.List.Sorted.{IsStrictlySortedBy}
use Rattle.book_rights.specs.Leaves.{only}
use Rattle.book_rights.specs.Privileges.{is_read}
use Rattle.book_rights.specs.declared.privileges.Leaf.{Leaf}
use Rattle.book_lists.specs.Circles.{CircleOf, has_path}
use Rattle.book_lists.specs.Decisions.{IsGrantedSet}
use Rattle.book_lists.specs.Principals.{path_cmp}
use Rattle.book_lists.specs.declared.entries.Here.{Here}
use Rattle.book_office_values.specs.declared.offices.Book.{Book}
use Rattle.book_office_values.specs.declared.offices.Office.{Office}
use Rattle.book_office_values.specs.declared.offices.StoredCard.{StoredCard}
use Rattle.book_office_values.specs.declared.paths.Path.{Path}
use Rattle.book_office_values.specs.declared.paths.Path.TheVariants as path
use Rattle.book_office.specs.Levels.{lists_at}
use Rattle.book_office.specs.Resources.{resource_at}
use Rattle.book_office.specs.declared.nodes.EffectiveEntry.{EffectiveEntry}
use Rattle.book_office_sync.specs.Copies.{can_read}
use Rattle.book_office_sync.specs.Granted.{text_at}
use Rattle.book_office_listings.specs.Listings.{AreResponses, IsWhole, asks_members, children_paths, subject_at}
use Rattle.book_office_listings.specs.Rulings.{AreRulingsAt}
use Rattle.book_office_listings.specs.Values.{granted_by, members_in}
use Rattle.book_office_listings.specs.Verdicts.{IsGrantedAt, bare_entries, here_of}
use Rattle.book_office_listings.specs.declared.messages.Find.{Find}
use Rattle.book_office_listings.specs.declared.messages.Property.{Property}
use Rattle.book_office_listings.specs.declared.messages.Response.{Response}
use Rattle.book_office_listings.specs.declared.messages.Response.TheVariants.{Told, Denied}
use Rattle.book_office_listings.specs.declared.messages.Ruling.{Ruling}
use Rattle.book_office_listings.specs.declared.subjects.Whole.{Whole}

-- two Offices with the same lists, owners, children, memberships and epoch, and the same resources where `read` is granted: they
-- may differ in the labels, the texts and the numbers of the others
pub record AreAlike (o p : Office) (circle : CircleOf) : Type 0 where
  pub pairs : o.pairs ≡ p.pairs
  pub epoch : o.epoch ≡ p.epoch
  pub children : (q : Path) → children_paths o q ≡ children_paths p q
  pub lists : (q : Path) → lists_at o q ≡ lists_at p q
  pub there : (q : Path) → is_some (resource_at o q) ≡ is_some (resource_at p q)
  pub here : (q : Path) → here_of o q ≡ here_of p q
  pub readable : (q : Path) → IsGrantedAt o circle q is_read → subject_at o q ≡ subject_at p q

-- a set has both leaves of `read`
abbrev pub HasRead : (Leaf → Bool) → Type 0
HasRead set = (leaf : Leaf) → is_read leaf ≡ true → set leaf ≡ true

-- a listing that needs `read` tells nothing of what may not be read: of two such Offices it tells the same
abbrev pub UnreadResourcesStayUnseen : Type 0
UnreadResourcesStayUnseen = (o p : Office) (circle : CircleOf) → AreAlike o p circle
    → (find : Find) → HasRead find.needed → (q : Path) (responses : List Response)
    → AreResponses find circle o q responses → AreResponses find circle p q responses

-- the leaves of `current-user-privilege-set` are those that are granted (RFC 3744, section 5.4)
abbrev pub PrivilegesToldAreGranted : Type 0
PrivilegesToldAreGranted = (list : List EffectiveEntry) (circle : CircleOf) (here : Here)
    → IsGrantedSet (bare_entries list) circle here (granted_by list circle here)

-- the paths of `group-member-set` are the direct members of the group, each once, in byte order (RFC 3744, section 4.3)
abbrev pub MembersToldAreDirect : Type 0
MembersToldAreDirect = (o : Office) (asked : List Property) (whole : Whole) → IsWhole o asked whole → asks_members asked ≡ true
    → (group : List ℕ) → IsStrictlySortedBy path_cmp (members_in whole.memberships group)
    × ((q : List ℕ) → has_path (members_in whole.memberships group) q ≡ contains o.pairs (record { group = group; member = q }))

-- a listing has one answer
abbrev pub ListingsHaveOneAnswer : Type 0
ListingsHaveOneAnswer = (o : Office) (circle : CircleOf) (find : Find) (q : Path) (a b : List Response)
    → AreResponses find circle o q a → AreResponses find circle o q b → a ≡ b

-- the first response tells the resource at a path: it is no denial
abbrev pub TellsFirst : Path → List Response → Type 0
TellsFirst p [] = ⊥
TellsFirst p (Told told properties ∷ rest) = told ≡ p
TellsFirst p (Denied denial ∷ rest) = ⊥

-- where the needed leaves are granted at the resource itself, the first response tells it
abbrev pub GrantedResourcesAreTold : Type 0
GrantedResourcesAreTold = (o : Office) (circle : CircleOf) (find : Find) (q : Path) (responses : List Response)
    → IsGrantedAt o circle q find.needed → AreResponses find circle o q responses → TellsFirst q responses

-- a card is in the view of its book exactly where `read` is granted at the card, by the entries in force there (RFC 3744,
-- section 6)
abbrev pub ViewsHaveWhatMayBeRead : Type 0
ViewsHaveWhatMayBeRead = (o : Office) (circle : CircleOf) (b c : List ℕ) (book : Book) (card : StoredCard)
    → get o.books b ≡ Some book → get book.cards c ≡ Some card
    → (can_read o circle b c card ≡ true) ↔ IsGrantedAt o circle (path.Card b c) is_read

-- the text of a card is told by a leaf exactly where that leaf is granted at the card, by the entries in force there (RFC 3744,
-- section 6): the report of names tells by `x-read-names` what the decision grants
abbrev pub TextsAreToldWhereGranted : Type 0
TextsAreToldWhereGranted = (o : Office) (circle : CircleOf) (b c : List ℕ) (leaf : Leaf) (book : Book) (card : StoredCard)
    → get o.books b ≡ Some book → get book.cards c ≡ Some card
    → (text_at o circle b leaf c ≡ Some card.text) ↔ IsGrantedAt o circle (path.Card b c) (only leaf)

-- a resource that is there has a listing
abbrev pub ListingsExist : Type 0
ListingsExist = (o : Office) (circle : CircleOf) (find : Find) (q : Path) → is_some (resource_at o q) ≡ true
    → (responses : List Response) × AreResponses find circle o q responses

-- each path has its rulings, or none where nothing is mapped
abbrev pub RulingsExist : Type 0
RulingsExist = (o : Office) (circle : CircleOf) (q : Path) → (rulings : Option (List Ruling)) × AreRulingsAt o circle q rulings
