-- The keys of the tables of a policy's text.
use Rattle.std.specs.Prelude.{ℕ, List, codes}
use Rattle.book_policy_faults.specs.declared.places.Key.{Key}
use Rattle.book_policy_faults.specs.declared.places.Key.TheVariants.{Version, Persons, Groups, Books, Entries, Name, Label, Members, Owner, At, Who, Invert, Grant, Deny, Protected, Itself}

abbrev pub key_text : Key → List ℕ
key_text Version = codes "version"
key_text Persons = codes "person"
key_text Groups = codes "group"
key_text Books = codes "book"
key_text Entries = codes "entry"
key_text Name = codes "name"
key_text Label = codes "label"
key_text Members = codes "members"
key_text Owner = codes "owner"
key_text At = codes "at"
key_text Who = codes "who"
key_text Invert = codes "invert"
key_text Grant = codes "grant"
key_text Deny = codes "deny"
key_text Protected = codes "protected"
key_text Itself = codes ""
