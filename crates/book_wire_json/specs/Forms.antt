-- What the forms of JSON bodies have in common.
use Rattle.std.specs.Prelude.{ℕ, if◌then◌else◌, List, [], ◌∷◌, ◌++◌, Option, None, Some, option_and_then}
use Rattle.std.specs.Str.{bytes_eq, is_utf8}
use Rattle.serde_json.specs.Data.{Data, null, boolean, number, string, array, object, Items, no_items, item, Members, no_members, member}
use Rattle.serde_json.specs.Find.{as_str, as_array}
use Rattle.serde_json.specs.Read.{read}

-- the value of the bytes, which are UTF-8 and a JSON text (RFC 8259); of equal keys the last stays
abbrev pub json_of : List ℕ → Option Data
json_of bytes = if is_utf8 bytes then read bytes else None

-- what stands under the key, where the object has no other
abbrev pub only_member : List ℕ → Members → Option Data
only_member key no_members = None
only_member key (member k d no_members) = if bytes_eq k key then Some d else None
only_member key (member k d (member l e ms)) = None

abbrev pub only_under : List ℕ → Data → Option Data
only_under key null = None
only_under key (boolean b) = None
only_under key (number n) = None
only_under key (string s) = None
only_under key (array ds) = None
only_under key (object ms) = only_member key ms

-- the texts that were found, and those of the items after them, if each is a text
abbrev pub texts_after : List (List ℕ) → Items → Option (List (List ℕ))
texts_after found no_items = Some found
texts_after found (item d ds) = option_and_then (λ text. texts_after (found ++ text ∷ []) ds) (as_str d)

-- the texts of a list of texts
abbrev pub texts_in : Data → Option (List (List ℕ))
texts_in d = option_and_then (texts_after []) (as_array d)
