-- What two Offices have at a path, as lines of text in the words of an audit (own profile): what the first has after `- `, and what the
-- last has after `+ `.
use Rattle.std.specs.Prelude.{ℕ, Bool, true, false, List, [], ◌∷◌, ◌++◌, codes, map, Option, Some, None, if◌then◌else◌}
use Rattle.std.specs.List.{flat_map}
use Rattle.std.specs.Str.{bytes_eq}
use Rattle.json.specs.Print.{quoted}
use Rattle.book_lists.specs.declared.entries.Entry.{Entry}
use Rattle.book_office.specs.InForce.{list_in}
use Rattle.book_office.specs.declared.nodes.Level.{Level}
use Rattle.book_office_audit.specs.Audits.{Block}
use Rattle.book_office_audit.specs.EntryLines.{entry_line, owner_text}
use Rattle.book_office_values.specs.Paths.{path_text}
use Rattle.book_questions_differs.specs.declared.places.Found.{Found}
use Rattle.book_questions_differs.specs.declared.places.Spot.{Spot}
use Rattle.book_questions_rights.specs.EqualCards.{same_list, same_owner}

-- lines, each after a sign
abbrev pub signed : List ℕ → List (List ℕ) → List ℕ
signed sign lines = flat_map (λ (line : List ℕ). sign ++ line) lines

-- the lines before and those after, unless they tell the same
abbrev pub changed : Bool → List (List ℕ) → List (List ℕ) → List ℕ
changed same before after = if same then [] else signed (codes "- ") before ++ signed (codes "+ ") after

-- ---- what is told of a resource: nothing where it is not there
-- PATH owner OWNER
abbrev pub owner_line : List ℕ → Option (List ℕ) → List ℕ
owner_line at owner = at ++ (codes " owner " ++ (owner_text owner ++ codes "\n"))

abbrev pub owner_lines : List ℕ → Option Found → List (List ℕ)
owner_lines at None = []
owner_lines at (Some found) = owner_line at found.node.owner ∷ []

-- PATH label LABEL, where the label is a text of JSON (RFC 8259, section 7)
abbrev pub label_line : List ℕ → List ℕ → List ℕ
label_line at label = at ++ (codes " label " ++ (quoted label ++ codes "\n"))

abbrev pub label_lines : List ℕ → Option Found → List (List ℕ)
label_lines at None = []
label_lines at (Some found) = label_line at found.node.label ∷ []

-- the list that stands at the resource itself, of the lists that are in force there
abbrev pub first_list : Bool → List Level → List Entry
first_list protected [] = []
first_list protected (level ∷ levels) = list_in protected level

-- PATH and an entry
abbrev pub list_lines : Bool → List ℕ → Option Found → List (List ℕ)
list_lines protected at None = []
list_lines protected at (Some found) = map (λ (entry : Entry). at ++ entry_line protected entry) (first_list protected found.lists.levels)

-- ---- what is the same: both are there and alike, or none is there
abbrev pub both_alike : (Found → Found → Bool) → Option Found → Option Found → Bool
both_alike alike None None = true
both_alike alike None (Some after) = false
both_alike alike (Some before) None = false
both_alike alike (Some before) (Some after) = alike before after

abbrev pub same_owners : Found → Found → Bool
same_owners before after = same_owner before.node.owner after.node.owner

abbrev pub same_labels : Found → Found → Bool
same_labels before after = bytes_eq before.node.label after.node.label

abbrev pub same_lists : Bool → Found → Found → Bool
same_lists protected before after = same_list (first_list protected before.lists.levels) (first_list protected after.lists.levels)

-- ---- the lines of a resource
module _ (spot : Spot) where
  abbrev pub owner_changes : List ℕ
  owner_changes = changed (both_alike same_owners spot.before spot.after) (owner_lines (path_text spot.path) spot.before) (owner_lines (path_text spot.path) spot.after)

  abbrev pub label_changes : List ℕ
  label_changes = changed (both_alike same_labels spot.before spot.after) (label_lines (path_text spot.path) spot.before) (label_lines (path_text spot.path) spot.after)

  abbrev pub list_changes : Bool → List ℕ
  list_changes protected =
      changed (both_alike (same_lists protected) spot.before spot.after) (list_lines protected (path_text spot.path) spot.before)
      (list_lines protected (path_text spot.path) spot.after)

  -- the owner, the label, the protected list and the own list
  abbrev pub spot_changes : List ℕ
  spot_changes = owner_changes ++ (label_changes ++ (list_changes true ++ list_changes false))

  -- the same at the text of the path
  abbrev pub spot_block : Block
  spot_block = (path_text spot.path, spot_changes)
