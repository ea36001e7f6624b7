-- Rows give one sound Office at most.
use Rattle.book_tables.proofs.Common.{◌≡◌, inl, inr, ℕ, List, Option, None, option_and_then, sym, ap, ◌∙◌, get, Database, Row, Has, Book, Office, Path, IsPath, by_option, Leftover, whole, resource_at, removed_at, unless_mapped, IsSound, resources_stand_in_place, book_schema, Rows, rows_of, IsBook, Gives, Stands}
use Rattle.book_office_adopting.proofs.KeptPairs.{both_within}
use Rattle.book_office.specs.Keeping.{broken}
use Rattle.book_office.proofs.SameOffices.{same_office}
use Rattle.book_tables_rows.specs.Writes.{IsMeta}
use Rattle.book_tables_schema.specs.Layout.{tables_of}
use Rattle.book_tables_schema.specs.declared.layout.Generation.TheVariants.{Second}
use Rattle.book_tables_schema.specs.OtherReach.{HasBase}
use Rattle.book_tables_schema.proofs.DroppedReach.{book_beside}
use Rattle.sqlite.specs.Table.{Table}
use Rattle.book_tables.specs.Stands.{IsKept, LeftBy}

pub epoch_is : (meta : List Row) (a b : ℕ) → IsMeta meta a → IsMeta meta b → a ≡ b
epoch_is meta a b (i, e) (j, f) = let same = sym e ∙ f in cc

-- what is at a path that is none, in a sound Office
none_there : (o : Office) → IsSound o → (q : Path) → (IsPath q → ⊥) → resource_at o q ≡ None
none_there o sound q none = by_option (resource_at o q) (λ e. e) (λ r e. absurd (none (resources_stand_in_place o sound q r e).named))

abbrev removed_from : List ℕ → Book → Option ℕ
removed_from name k = unless_mapped (get k.cards name) (get k.changes.last name)

module _ (rows : Rows) (o p : Office) (gives : Gives rows o) (gives' : Gives rows p) (sound : IsSound o) (sound' : IsSound p) where
  resources : (q : Path) → resource_at o q ≡ resource_at p q
  resources q = by_option (resource_at o q)
      (λ none. by_option (resource_at p q) (λ none'. none ∙ sym none')
      (λ r e. let named = (resources_stand_in_place p sound' q r e).named in sym (gives.resources q named) ∙ gives'.resources q named))
      (λ r e. let named = (resources_stand_in_place o sound q r e).named in sym (gives.resources q named) ∙ gives'.resources q named)

  removed : (b name : List ℕ) → removed_at o b name ≡ removed_at p b name
  removed b name = by_option (get o.books b)
      (λ none. by_option (get p.books b)
      (λ none'. ap (option_and_then (removed_from name)) none ∙ sym (ap (option_and_then (removed_from name)) none'))
      (λ book e. let named = (sound'.books b book e).0 in sym (gives.gone b name named) ∙ gives'.gone b name named))
      (λ book e. let named = (sound.books b book e).0 in sym (gives.gone b name named) ∙ gives'.gone b name named)

  pub one_office : o ≡ p
  one_office = same_office o p sound sound' resources (both_within o.pairs p.pairs (λ m h. sym (sym (gives.members m) ∙ gives'.members m) ∙ h) (λ m h. sym (gives.members m) ∙ gives'.members m ∙ h)) removed (epoch_is rows.meta o.epoch p.epoch gives.meta gives'.meta)

-- what stands for an Office leaves that one alone
pub only_left : (db : Database) (o : Office) (left : Leftover) → Stands db o → LeftBy db.trees left → left ≡ whole o
only_left db o (whole other) st by = ap whole (one_office (rows_of db.trees) other o by.1.gives st.gives by.1.sound st.sound)
only_left db o broken st by = absurd (by db.schema o st)

pub base_of : (db : Database) → IsBook db → HasBase db
base_of db book = record { schema = book_beside db.schema book.schema; rules = book.rules; rising = λ t there. book.rising t (within t there); former = book.former }
  where
    within : (t : Table) → Has (tables_of Second) t → Has book_schema.tables t
    within t (inl is) = inl is
    within t (inr (inl is)) = inr (inl is)
    within t (inr (inr (inl is))) = inr (inr (inl is))
    within t (inr (inr (inr (inl is)))) = inr (inr (inr (inl is)))
    within t (inr (inr (inr (inr (inl is))))) = inr (inr (inr (inr (inl is))))
    within t (inr (inr (inr (inr (inr (inl is)))))) = inr (inr (inr (inr (inr (inl is)))))
    within t (inr (inr (inr (inr (inr (inr none)))))) = absurd none

-- tables that are kept stand for their Office
pub kept_stands : (db : Database) (o : Office) → IsKept db o → Stands db o
kept_stands db o kept = record { base = base_of db kept.book; gives = kept.gives; sound = kept.sound }
