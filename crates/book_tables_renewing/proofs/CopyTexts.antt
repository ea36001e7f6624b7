-- What the texts that copy the entries mean, and the values that they give.
use Rattle.std.proofs.Common.{◌≡◌, ◌⊎◌, inl, inr, ℕ, zero, suc, pos, ◌+◌, ◌*◌, ◌%◌, ◌<◌, Bool, true, false, ◌&&◌, List, [], ◌∷◌, refl, sym, ap, ◌∙◌, true≢false, arith}
use Rattle.std.specs.Ordering.{int_eq}
use Rattle.std.proofs.lemmas.Bool.{and_parts}
use Rattle.sqlite.specs.Collation.TheVariants.{Binary}
use Rattle.sqlite.specs.Command.{Command}
use Rattle.sqlite.specs.Command.TheVariants.{Insert}
use Rattle.sqlite.specs.Source.TheVariants as source
use Rattle.sqlite.specs.declared.types.Value.{Value}
use Rattle.sqlite.specs.declared.types.Value.TheVariants.{Int, Null, Real, Text, Blob}
use Rattle.sqlite.specs.Listing.{understood}
use Rattle.sqlite.specs.Ops.{binary}
use Rattle.sqlite.specs.Order.{Row, column}
use Rattle.sqlite.specs.Query.{Query}
use Rattle.sqlite.specs.Term.{Term, lit, col, op2}
use Rattle.sqlite.proofs.Callers.{IsPlain, command_of}
use Rattle.sqlite_sql.specs.declared.ops.ArithOp.TheVariants.{Add, Mul, Rem}
use Rattle.sqlite_sql.specs.declared.ops.BinaryOp.TheVariants.{Arith}
use Rattle.sqlite_tied.specs.Compute.{everything}
use Rattle.book_tables_rows.specs.Columns.{ace_deny, ace_form, ace_invert, ace_mask, ace_node, ace_place, ace_principal, ace_protected}
use Rattle.book_tables_rows.specs.Nodes.{number_in}
use Rattle.book_tables_rows.specs.Schema.{book_schema, ace_tree}
use Rattle.book_tables_rows.proofs.Ordering.{ordered_by}
use Rattle.book_tables_schema.specs.Layout.{former_tree}
use Rattle.book_tables_schema.specs.OtherReach.{schema_of}
use Rattle.book_tables_schema.specs.declared.layout.Generation.TheVariants.{Former}
use Rattle.book_tables_renewing.specs.Renewal.{copy_text}
use Rattle.book_tables_renewing.specs.Reordering.{back_text, move_text}

-- a row of entries with another mask
abbrev pub copied_row : (Row → Value) → Row → Row
copied_row mask row = column row 0 ∷ ace_node row ∷ ace_protected row ∷ ace_place row ∷ ace_form row ∷ ace_principal row ∷ ace_invert row ∷ ace_deny row ∷ mask row ∷ []

abbrev pub widened_mask : Row → Value
widened_mask row = Int (pos (number_in (ace_mask row) + 256 * (number_in (ace_mask row) % 2)))

abbrev pub mask_term : Term
mask_term = op2 (Arith Add) (col 1 8) (op2 (Arith Mul) (lit (Int (pos 256))) (op2 (Arith Rem) (col 1 8) (lit (Int (pos 2)))))

abbrev pub terms_with : Term → List Term
terms_with mask = col 1 0 ∷ col 1 1 ∷ col 1 2 ∷ col 1 3 ∷ col 1 4 ∷ col 1 5 ∷ col 1 6 ∷ col 1 7 ∷ mask ∷ []

-- with the widened mask, and with the same
abbrev pub copy_terms : List Term
copy_terms = terms_with mask_term

abbrev pub same_terms : List Term
same_terms = terms_with (col 1 8)

-- the rows of a table, in order of their numbers
abbrev pub copy_query : ℕ → List Term → Query
copy_query from terms = record (ordered_by from [] terms 0) { collations = Binary ∷ Binary ∷ Binary ∷ Binary ∷ Binary ∷ Binary ∷ Binary ∷ Binary ∷ Binary ∷ [] }

abbrev pub copy_command : ℕ → ℕ → List Term → Command
copy_command at from terms = Insert at (source.Query (record { lets = []; body = copy_query from terms }))

pub copy_is : command_of (understood book_schema copy_text) ≡ copy_command 5 ace_tree copy_terms
unfolding understood everything
copy_is = refl

pub copy_plain : IsPlain (understood book_schema copy_text)
unfolding understood everything
copy_plain = (refl, refl)

pub back_is : command_of (understood book_schema back_text) ≡ copy_command 5 ace_tree same_terms
unfolding understood everything
back_is = refl

pub back_plain : IsPlain (understood book_schema back_text)
unfolding understood everything
back_plain = (refl, refl)

pub move_is : command_of (understood (schema_of Former) move_text) ≡ copy_command 1 former_tree same_terms
unfolding understood everything
move_is = refl

pub move_plain : IsPlain (understood (schema_of Former) move_text)
unfolding understood everything
move_plain = (refl, refl)

-- ---- the widened mask

all_below : (ℕ → Bool) → ℕ → Bool
all_below p zero = true
all_below p (suc n) = p n && all_below p n

same_or_below : (m n : ℕ) → m < suc n → (m < n) ⊎ (m ≡ n)
same_or_below zero zero lt = inr refl
same_or_below zero (suc n) lt = inl (omega arith)
same_or_below (suc m) zero lt = absurd (omega (arith, lt))
same_or_below (suc m) (suc n) lt = elim (same_or_below m n (omega (arith, lt))) [ inl less ↦ inl (omega (arith, less)) | inr is ↦ inr (ap suc is) ]

below_tells : (p : ℕ → Bool) (n m : ℕ) → all_below p n ≡ true → m < n → p m ≡ true
unfolding all_below
below_tells p zero m h lt = absurd (omega (arith, lt))
below_tells p (suc n) m h lt =
    let both = and_parts (p n) (all_below p n) h in
    elim (same_or_below m n lt) [ inl less ↦ below_tells p n m both.1 less | inr is ↦ ap p is ∙ both.0 ]

abbrev mask_value : Value → Value
mask_value v = binary (Arith Add) v (binary (Arith Mul) (Int (pos 256)) (binary (Arith Rem) v (Int (pos 2))))

is_int_of : ℕ → Value → Bool
is_int_of n (Int m) = int_eq m (pos n)
is_int_of n Null = false
is_int_of n (Real x) = false
is_int_of n (Text t) = false
is_int_of n (Blob b) = false

int_told : (n : ℕ) (v : Value) → is_int_of n v ≡ true → v ≡ Int (pos n)
unfolding is_int_of
int_told n (Int m) h = ap Int (grind (arith, h))
int_told n Null h = absurd (true≢false (sym h))
int_told n (Real x) h = absurd (true≢false (sym h))
int_told n (Text t) h = absurd (true≢false (sym h))
int_told n (Blob b) h = absurd (true≢false (sym h))

widens : ℕ → Bool
widens m = is_int_of (m + 256 * (m % 2)) (mask_value (Int (pos m)))

all_widen : all_below widens 256 ≡ true
unfolding all_below widens is_int_of everything binary
all_widen = refl

pub mask_widened : (m : ℕ) → m < 256 → mask_value (Int (pos m)) ≡ Int (pos (m + 256 * (m % 2)))
unfolding widens
mask_widened m below = int_told (m + 256 * (m % 2)) (mask_value (Int (pos m))) (below_tells widens 256 m all_widen below)
