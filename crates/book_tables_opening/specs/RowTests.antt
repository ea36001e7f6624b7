-- Tests on the columns that reads of whole tables show.
use Rattle.std.specs.Prelude.{◌≡◌, ℕ, pos, nat_eq, nat_lt, nat_le, length, Bool, true, false, ◌&&◌, ◌||◌, [], ◌∷◌}
use Rattle.sqlite.specs.declared.types.Value.{Value}
use Rattle.sqlite.specs.declared.types.Value.TheVariants.{Null, Int, Text}
use Rattle.sqlite.specs.Order.{Row}
use Rattle.book_limits.specs.declared.TheConstants.{LAST_NUMBER}
use Rattle.book_lists.specs.declared.entries.Entry.{Entry}
use Rattle.book_tables_rows.specs.Nodes.{number_in}
use Rattle.book_tables_rows.specs.Writes.{flag}
use Rattle.book_tables.specs.Rows.{flag_in, entry_told, entry_values}
use Rattle.book_tables_opening.specs.Shown.{shown_deny, shown_epoch, shown_form, shown_invert, shown_mask, shown_place, shown_principal, shown_protected, shown_version}

-- ---- a value

abbrev pub is_natural : Value → Bool
is_natural (Int (pos n)) = true
is_natural _ = false

abbrev pub is_value_below : ℕ → Value → Bool
is_value_below limit (Int (pos n)) = nat_lt n limit
is_value_below limit _ = false

abbrev pub is_zero : Value → Bool
is_zero (Int (pos n)) = nat_eq n 0
is_zero _ = false

-- a form that names no principal
abbrev pub is_word : Value → Bool
is_word (Int (pos n)) = nat_lt 0 n && nat_lt n 6
is_word _ = false

abbrev pub is_text : Value → Bool
is_text (Text t) = true
is_text _ = false

abbrev pub is_nothing : Value → Bool
is_nothing Null = true
is_nothing _ = false

-- the form of a path with a text, and each other with NULL
abbrev pub is_form : Value → Value → Bool
is_form form principal = (is_zero form && is_text principal) || (is_word form && is_nothing principal)

abbrev pub is_up_to : ℕ → Value → Bool
is_up_to limit (Int (pos n)) = nat_le n limit
is_up_to limit _ = false

abbrev pub is_two : Value → Bool
is_two (Int (pos n)) = nat_eq n 2
is_two _ = false

-- ---- a row of `meta`: version, epoch

abbrev pub is_meta : Row → Bool
is_meta row = nat_eq (length row) 2 && (is_two (shown_version row) && is_up_to LAST_NUMBER (shown_epoch row))

-- ---- a row of `ace`: node, protected, place, form, principal, invert, deny, mask

abbrev pub is_spelled : Row → Bool
is_spelled row = is_form (shown_form row) (shown_principal row) && (is_value_below 2 (shown_invert row) && (is_value_below 2 (shown_deny row) && is_value_below 512 (shown_mask row)))

abbrev pub is_entry_row : Row → Bool
is_entry_row row = is_value_below 2 (shown_protected row) && (is_natural (shown_place row) && is_spelled row)

-- the entry that the row tells
abbrev pub entry_in : Row → Entry
entry_in row = entry_told (shown_form row) (shown_principal row) (shown_invert row) (shown_deny row) (shown_mask row)

-- it is in one of the two lists of its node, and is spelled in the one way
pub record IsSpelledEntry (row : Row) : Type 0 where
  pub protected : shown_protected row ≡ flag (flag_in (shown_protected row))
  pub place : shown_place row ≡ Int (pos (number_in (shown_place row)))
  pub spelled : (shown_form row ∷ shown_principal row ∷ shown_invert row ∷ shown_deny row ∷ shown_mask row ∷ []) ≡ entry_values (entry_in row)
