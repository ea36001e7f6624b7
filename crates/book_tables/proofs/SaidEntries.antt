-- An own list is that of the rows that say its entries.
use Rattle.book_tables.proofs.Common.{◌≡◌, pos, List, [], ◌∷◌, map, refl, ap, ◌∙◌, Int, Row, Entry, flag, entry_values, entry_of, entry_said}
use Rattle.book_rights.specs.Leaves.{mask_of}
use Rattle.book_lists.specs.declared.entries.Who.{Who}
use Rattle.book_lists.specs.declared.entries.Who.TheVariants.{Href, Everyone, Authenticated, Unauthenticated, Owner, Own}
use Rattle.book_tables_rows.specs.Lists.{entry_columns, said_columns, entry_deny, entry_form, entry_invert, entry_mask, entry_principal}
use Rattle.book_tables_rows.specs.Writes.{or_null}
use Rattle.book_tables.specs.Rows.{form_code, principal_value, entry_told}
use Rattle.book_tables.specs.Settings.{principal_said}
use Rattle.book_tables.proofs.SpelledEntries.{entry_is}

-- the entry that form, principal, invert, deny and mask spell
abbrev pub entry_in : Row → Entry
entry_in row = entry_told (entry_form row) (entry_principal row) (entry_invert row) (entry_deny row) (entry_mask row)

principal_is : (w : Who) → or_null (principal_said w) ≡ principal_value w
principal_is (Href principal) = refl
principal_is Everyone = refl
principal_is Authenticated = refl
principal_is Unauthenticated = refl
principal_is Owner = refl
principal_is Own = refl

pub said_spelled : (e : Entry) → said_columns (entry_said e) ≡ entry_values e
said_spelled e = λ i. Int (pos (form_code e.who)) ∷ principal_is e.who i ∷ flag e.invert ∷ flag e.deny ∷ Int (pos (mask_of e.set)) ∷ []

pub entry_is_told : (e : Entry) → entry_in (said_columns (entry_said e)) ≡ e
entry_is_told e = ap entry_in (said_spelled e) ∙ entry_is e

-- the entries of rows are those of their columns
pub entries_in_columns : (rows : List Row) → map entry_of rows ≡ map entry_in (map entry_columns rows)
entries_in_columns [] = refl
entries_in_columns (r ∷ rows) = ap (λ es. entry_of r ∷ es) (entries_in_columns rows)

pub entries_told : (list : List Entry) → map entry_in (map said_columns (map entry_said list)) ≡ list
entries_told [] = refl
entries_told (e ∷ list) = λ i. entry_is_told e i ∷ entries_told list i
