-- The words of a body (own profile): an object of JSON (RFC 8259), of which each key is one that the question has.
use Rattle.std.specs.Prelude.{ℕ, Bool, false, ◌||◌, ◌==◌, if◌then◌else◌, List, [], ◌∷◌, ◌++◌, length, codes, Option, None, Some, option_map, option_and_then}
use Rattle.std.specs.List.{list_all}
use Rattle.std.specs.Str.{bytes_eq, is_utf8}
use Rattle.serde_json.specs.Data.{Data, null, boolean, number, string, array, object, Items, no_items, item, Members, no_members, member}
use Rattle.serde_json.specs.Find.{get, as_str, as_bool, as_array}
use Rattle.serde_json.specs.Read.{read}
use Rattle.book_desk_control.specs.declared.words.Form.{Form}
use Rattle.book_desk_control.specs.declared.words.Form.TheVariants as form

-- the keys of a question are the words of its command
abbrev pub is_audit_key : List ℕ → Bool
is_audit_key key = bytes_eq key (codes "at") || (bytes_eq key (codes "books") || bytes_eq key (codes "labels"))

abbrev pub is_why_key : List ℕ → Bool
is_why_key key =
    bytes_eq key (codes "caller") || (bytes_eq key (codes "what") || (bytes_eq key (codes "path")
    || (bytes_eq key (codes "destination") || bytes_eq key (codes "json"))))

abbrev pub is_who_key : List ℕ → Bool
is_who_key key =
    bytes_eq key (codes "privilege") || (bytes_eq key (codes "path") || (bytes_eq key (codes "denied") || bytes_eq key (codes "json")))

abbrev pub is_rights_key : List ℕ → Bool
is_rights_key key =
    bytes_eq key (codes "at") || (bytes_eq key (codes "caller") || (bytes_eq key (codes "shared") || bytes_eq key (codes "json")))

abbrev pub is_ask_key : List ℕ → Bool
is_ask_key key = bytes_eq key (codes "caller") || (bytes_eq key (codes "path") || bytes_eq key (codes "privileges"))

abbrev pub is_key : Form → List ℕ → Bool
is_key form.Audit key = is_audit_key key
is_key form.Why key = is_why_key key
is_key form.Who key = is_who_key key
is_key form.Rights key = is_rights_key key
is_key form.Ask key = is_ask_key key
is_key form.Show key = bytes_eq key (codes "path")
is_key form.Backup key = bytes_eq key (codes "to")

abbrev pub keys_of : Members → List (List ℕ)
keys_of no_members = []
keys_of (member k d ms) = k ∷ keys_of ms

-- an object of which each key is one of the question
abbrev pub has_keys : Form → Data → Bool
has_keys f null = false
has_keys f (boolean b) = false
has_keys f (number n) = false
has_keys f (string s) = false
has_keys f (array ds) = false
has_keys f (object ms) = list_all (is_key f) (keys_of ms)

-- no bytes are an object without members
abbrev pub text_of : List ℕ → List ℕ
text_of bytes = if length bytes == 0 then codes "{}" else bytes

-- the value of the bytes, which are UTF-8 and a JSON text; of equal keys the last stays
abbrev pub json_of : List ℕ → Option Data
json_of bytes = if is_utf8 bytes then read bytes else None

abbrev pub when_keys : Form → Data → Option Data
when_keys f d = if has_keys f d then Some d else None

abbrev pub if_keys : Form → Option Data → Option Data
if_keys f None = None
if_keys f (Some d) = when_keys f d

-- the object of a body, if it has no key that the question has not
abbrev pub object_of : Form → List ℕ → Option Data
object_of f bytes = if_keys f (json_of (text_of bytes))

-- the text under a key
abbrev pub text_at : List ℕ → Data → Option (List ℕ)
text_at key d = option_and_then as_str (get key d)

-- a text that may be left out
abbrev pub text_or : Option Data → Option (Option (List ℕ))
text_or None = Some None
text_or (Some d) = option_map Some (as_str d)

abbrev pub text_if : List ℕ → Data → Option (Option (List ℕ))
text_if key d = text_or (get key d)

-- a truth value; false where it is left out
abbrev pub flag_or : Option Data → Option Bool
flag_or None = Some false
flag_or (Some d) = as_bool d

abbrev pub flag_at : List ℕ → Data → Option Bool
flag_at key d = flag_or (get key d)

-- the texts that were found, and those of the items after them, if each is a text
abbrev pub texts_after : List (List ℕ) → Items → Option (List (List ℕ))
texts_after found no_items = Some found
texts_after found (item d ds) = option_and_then (λ text. texts_after (found ++ text ∷ []) ds) (as_str d)

-- the texts of a list of texts that has one
abbrev pub some_texts : Items → Option (List (List ℕ))
some_texts no_items = None
some_texts (item d ds) = texts_after [] (item d ds)

abbrev pub words_at : List ℕ → Data → Option (List (List ℕ))
words_at key d = option_and_then some_texts (option_and_then as_array (get key d))
