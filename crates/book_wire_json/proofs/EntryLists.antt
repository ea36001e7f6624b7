-- Lists of entries, item by item.
use Rattle.book_wire_json.proofs.Common.{ℕ, ◌<◌, List, [], ◌∷◌, ◌++◌, length, get_or, None, Some, arith, Data, null, items_of, AreEntries}
use Rattle.std.proofs.Common.{zero, suc, inl, inr}
use Rattle.book_lists.specs.declared.submitted.Submitted.{Submitted}
use Rattle.book_wire_json.specs.Entries.{IsEntry, HasNoEntry}

pub entries_more : (ds : List Data) (es : List Submitted) (d : Data) (e : Submitted) → AreEntries (items_of ds) es → IsEntry d (Some e)
    → AreEntries (items_of (ds ++ d ∷ [])) (es ++ e ∷ [])
entries_more [] [] d e all is = (is, tt)
entries_more [] (x ∷ es) d e all is = absurd all
entries_more (y ∷ ds) [] d e all is = absurd all
entries_more (y ∷ ds) (x ∷ es) d e all is = (all.0, entries_more ds es d e all.1 is)

pub no_entry_at : (ds : List Data) (i : ℕ) → i < length ds → IsEntry (get_or ds i null) None → HasNoEntry (items_of ds)
no_entry_at [] i lt none = absurd (omega (arith, lt))
no_entry_at (d ∷ ds) zero lt none = inl none
no_entry_at (d ∷ ds) (suc i) lt none = inr (no_entry_at ds i (omega (arith, lt)) none)
