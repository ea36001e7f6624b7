-- The keys that the tables of a policy's text may have, and what values and texts are read as.
use Rattle.std.specs.Prelude.{ℕ, ℤ, pos, negsuc, List, [], ◌∷◌, length, codes, nat_le, ◌==◌, ◌||◌, ◌&&◌, if◌then◌else◌, Bool, false, Option, Some, None}
use Rattle.std.specs.Str.{bytes_eq, is_utf8}
use Rattle.toml.specs.Data.{Data, as_bool}
use Rattle.book_limits.specs.declared.TheConstants.{MAX_LABEL_BYTES}
use Rattle.book_rights.specs.declared.privileges.Leaf.TheVariants.{ReadTexts, WriteContent, WriteProperties, Bind, Unbind, ReadAcl, WriteAcl, ReadCurrentUserPrivilegeSet, ReadNames}
use Rattle.book_rights.specs.declared.privileges.Privilege.{Privilege}
use Rattle.book_rights.specs.declared.privileges.Privilege.TheVariants.{One, Read, Write, All as Whole}
use Rattle.book_policy_faults.specs.declared.places.TableKind.{TableKind}
use Rattle.book_policy_faults.specs.declared.places.TableKind.TheVariants.{Top, Person, Group, Book, Entry}

-- ---- keys

-- the keys that the whole text, a person, a group, a book and an entry may have
abbrev pub keys_of : TableKind → List (List ℕ)
keys_of Top = codes "version" ∷ codes "person" ∷ codes "group" ∷ codes "book" ∷ codes "entry" ∷ []
keys_of Person = codes "name" ∷ codes "label" ∷ []
keys_of Group = codes "name" ∷ codes "label" ∷ codes "members" ∷ []
keys_of Book = codes "name" ∷ codes "label" ∷ codes "owner" ∷ []
keys_of Entry = codes "at" ∷ codes "who" ∷ codes "invert" ∷ codes "grant" ∷ codes "deny" ∷ codes "protected" ∷ []

abbrev pub is_among : List ℕ → List (List ℕ) → Bool
is_among k [] = false
is_among k (n ∷ ns) = bytes_eq k n || is_among k ns

-- ---- values
abbrev pub is_one : ℤ → Bool
is_one (pos n) = n == 1
is_one (negsuc n) = false

abbrev pub is_some_one : Option ℤ → Bool
is_some_one None = false
is_some_one (Some z) = is_one z

-- a label is UTF-8, of at most 256 bytes
abbrev pub short_label : List ℕ → Option (List ℕ)
short_label text = if is_utf8 text && nat_le (length text) MAX_LABEL_BYTES then Some text else None

-- a mark is optional, and then not there
abbrev pub mark_of : Option Data → Option Bool
mark_of None = Some false
mark_of (Some d) = as_bool d

-- ---- texts

-- a word for a form
abbrev pub is_word : List ℕ → Bool
is_word text =
    bytes_eq text (codes "all") || bytes_eq text (codes "authenticated") || bytes_eq text (codes "unauthenticated")
    || bytes_eq text (codes "owner") || bytes_eq text (codes "self")

abbrev pub all_privileges : List Privilege
all_privileges =
    One ReadTexts ∷ One WriteContent ∷ One WriteProperties ∷ One Bind ∷ One Unbind ∷ One ReadAcl ∷ One WriteAcl
    ∷ One ReadCurrentUserPrivilegeSet ∷ One ReadNames ∷ Read ∷ Write ∷ Whole ∷ []
