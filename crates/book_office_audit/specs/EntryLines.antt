-- Entries and resources as lines of text (own profile).
use Rattle.std.specs.Prelude.{ℕ, Bool, true, false, List, ◌++◌, codes, Option, Some, None}
use Rattle.std.specs.List.{flat_map}
use Rattle.book_lists.specs.declared.entries.Entry.{Entry}
use Rattle.book_lists.specs.declared.entries.Who.{Who}
use Rattle.book_lists.specs.declared.entries.Who.TheVariants.{Href, Everyone, Authenticated, Unauthenticated, Owner, Own}
use Rattle.book_lists_explain.specs.Answers.{spaced}
use Rattle.book_lists_explain.specs.ShortNames.{short_list}

abbrev pub who_text : Who → List ℕ
who_text (Href path) = path
who_text Everyone = codes "all"
who_text Authenticated = codes "authenticated"
who_text Unauthenticated = codes "unauthenticated"
who_text Owner = codes "owner"
who_text Own = codes "self"

abbrev pub list_word : Bool → List ℕ
list_word true = codes "  protected"
list_word false = codes "  own"

abbrev pub action_word : Bool → List ℕ
action_word true = codes " deny "
action_word false = codes " grant "

abbrev pub invert_word : Bool → List ℕ
invert_word true = codes "not "
invert_word false = codes ""

abbrev pub entry_line : Bool → Entry → List ℕ
entry_line is_protected entry =
    list_word is_protected ++ (action_word entry.deny ++ (invert_word entry.invert ++ (who_text entry.who ++ (flat_map spaced (short_list entry.set) ++ codes "\n"))))

abbrev pub owner_text : Option (List ℕ) → List ℕ
owner_text None = codes "-"
owner_text (Some owner) = owner

-- a resource with its owner, and then its protected and its own entries, each on a line
abbrev pub resource_lines : List ℕ → Option (List ℕ) → List Entry → List Entry → List ℕ
resource_lines path owner is_protected own =
    path ++ (codes " owner " ++ (owner_text owner ++ (codes "\n" ++ (flat_map (entry_line true) is_protected ++ flat_map (entry_line false) own))))
