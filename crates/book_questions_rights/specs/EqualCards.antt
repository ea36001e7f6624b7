-- Which cards of a book are told once: those whose owners and own lists are equal.
use Rattle.std.specs.Prelude.{◌≡◌, ℕ, ◌==◌, Bool, true, false, ◌&&◌, List, [], ◌∷◌, ◌++◌, count_by, Option, Some, None, if◌then◌else◌}
use Rattle.std.specs.List.{list_any}
use Rattle.std.specs.Str.{bytes_eq}
use mathlib.Core.Bool.{beq}
use Rattle.book_rights.specs.Leaves.{same_leaves}
use Rattle.book_lists.specs.declared.entries.Entry.{Entry}
use Rattle.book_lists.specs.declared.entries.Who.{Who}
use Rattle.book_lists.specs.declared.entries.Who.TheVariants.{Href, Everyone, Authenticated, Unauthenticated, Owner, Own}
use Rattle.book_office.specs.declared.nodes.Listed.{Listed}

-- their owners and own lists are equal
pub record IsAlike (card other : Listed) : Type 0 where
  pub owner : card.owner ≡ other.owner
  pub own : card.own ≡ other.own

-- ---- the same as a test
abbrev pub form_number : Who → ℕ
form_number (Href p) = 0
form_number Everyone = 1
form_number Authenticated = 2
form_number Unauthenticated = 3
form_number Owner = 4
form_number Own = 5

abbrev pub form_path : Who → List ℕ
form_path (Href p) = p
form_path Everyone = []
form_path Authenticated = []
form_path Unauthenticated = []
form_path Owner = []
form_path Own = []

abbrev pub same_form : Who → Who → Bool
same_form a b = (form_number a == form_number b) && bytes_eq (form_path a) (form_path b)

abbrev pub same_entry : Entry → Entry → Bool
same_entry a b = same_form a.who b.who && (beq a.invert b.invert && (beq a.deny b.deny && same_leaves a.set b.set))

abbrev pub same_list : List Entry → List Entry → Bool
same_list [] [] = true
same_list [] (e ∷ es) = false
same_list (d ∷ ds) [] = false
same_list (d ∷ ds) (e ∷ es) = same_entry d e && same_list ds es

abbrev pub same_owner : Option (List ℕ) → Option (List ℕ) → Bool
same_owner None None = true
same_owner None (Some b) = false
same_owner (Some a) None = false
same_owner (Some a) (Some b) = bytes_eq a b

abbrev pub is_alike : Listed → Listed → Bool
is_alike card other = same_owner card.owner other.owner && same_list card.own other.own

-- ---- classes
-- a card, and how many cards there are like it
pub record Class : Type 0 where
  pub card : Listed
  pub count : ℕ

module _ (all : List Listed) where
  -- the class of a card, where no card before it is like it
  abbrev pub class_at : List Listed → Listed → List Class
  class_at before card = if list_any (is_alike card) before then [] else record { card = card; count = count_by (is_alike card) all } ∷ []

  -- the classes of the cards after these
  abbrev pub classes_after : List Listed → List Listed → List Class
  classes_after before [] = []
  classes_after before (card ∷ cards) = class_at before card ++ classes_after (before ++ card ∷ []) cards

-- for each card that is the first of its like, how many there are
abbrev pub classes_of : List Listed → List Class
classes_of cards = classes_after cards [] cards
