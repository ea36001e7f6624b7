-- The rows of all nodes, as a whole read shows them, and what is found in them.
-- A shown node has in place 0 its number, then path, parent, kind, owner, label, text and change number.
use Rattle.std.specs.Prelude.{◌≡◌, ℕ, ℤ, Bool, false, List, find, nat_eq, Option, None, option_map, option_and_then, slice_get}
use Rattle.std.specs.BTreeMap.{BTreeMap, get, get_by}
use Rattle.std.specs.Cmp.Lexicographic.{slice_cmp}
use Rattle.std.specs.Global.{Vec}
use Rattle.std.specs.Ordering.{is_eq, int_cmp, int_eq, nat_cmp}
use Rattle.sqlite.specs.declared.types.Value.{Value}
use Rattle.sqlite.specs.declared.types.Value.TheVariants.{Int, Text}
use Rattle.sqlite.specs.Edit.{id_in}
use Rattle.sqlite.specs.Order.{Row}
use Rattle.book_lists.specs.Names.{name_cmp}
use Rattle.book_tables_rows.specs.Nodes.{number_in}
use Rattle.book_tables_opening.specs.Shown.{shown_id, shown_kind, shown_path}

-- the value is this text, or this whole number
abbrev pub is_text_of : List ℕ → Value → Bool
is_text_of text (Text other) = is_eq (name_cmp other text)
is_text_of text _ = false

abbrev pub is_int_of : ℤ → Value → Bool
is_int_of number (Int other) = int_eq other number
is_int_of number _ = false

-- the first row with a path
abbrev pub first_shown_at : List Row → List ℕ → Option Row
first_shown_at nodes path = find (λ row. is_text_of path (shown_path row)) nodes

-- the first row with a number
abbrev pub node_numbered : List Row → ℤ → Option Row
node_numbered nodes id = find (λ row. is_int_of id (shown_id row)) nodes

-- the row whose number is a value
abbrev pub shown_with : List Row → Value → Option Row
shown_with nodes (Int id) = node_numbered nodes id
shown_with nodes _ = None

-- the number of the row with a path
abbrev pub number_at : List Row → List ℕ → Option ℤ
number_at nodes path = option_map (λ row. id_in (shown_id row)) (first_shown_at nodes path)

-- a row of a node has the kind with this code
abbrev pub is_of_kind : ℕ → Row → Bool
is_of_kind code row = nat_eq (number_in (shown_kind row)) code

-- ---- places of rows

-- the place that stands with a path
abbrev pub place_at : BTreeMap (Vec ℕ) ℕ → List ℕ → Option ℕ
place_at places path = get_by (λ k. slice_cmp nat_cmp path k.items) places

-- the place of the first row with each path
abbrev pub FindsPaths : List Row → BTreeMap (Vec ℕ) ℕ → Type 0
FindsPaths nodes places = (path : List ℕ) → option_and_then (λ i. slice_get nodes i) (place_at places path) ≡ first_shown_at nodes path

-- the place of the first row with each number
abbrev pub FindsNumbers : List Row → BTreeMap ℤ ℕ → Type 0
FindsNumbers nodes places = (id : ℤ) → option_and_then (λ i. slice_get nodes i) (get int_cmp places id) ≡ node_numbered nodes id
