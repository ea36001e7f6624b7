-- A value of a strict column is not changed by what its column makes of it.
use Rattle.book_tables_rows.proofs.Common.{◌≡◌, ℕ, suc, ◌+◌, Bool, true, false, cond, List, [], ◌∷◌, drop, Option, Some, slice_get, refl, sym, ap, subst, ◌∙◌, true≢false, arith, if◌then◌else◌, and_parts, Value, Null, Int, Real, Text, Blob, Row, is_null, is_of, Trees, Has, all_has, node_kind, node_label, node_number, node_owner, node_parent, node_path, node_text, book_schema, node_table}
use Rattle.std.proofs.Common.{zero}
use Rattle.sqlite.specs.Order.{column}
use Rattle.sqlite.specs.Ops.{unary}
use Rattle.sqlite.specs.Kind.TheVariants as kinds
use Rattle.sqlite.specs.Cast.{cast}
use Rattle.sqlite_schema.specs.declared.schema.Column.{Column}
use Rattle.sqlite_schema.specs.Names.{is_key}
use Rattle.sqlite_schema.specs.Rules.{suits, are_typed}
use Rattle.sqlite_schema.specs.declared.schema.Constraint.TheVariants.{Datatype}
use Rattle.sqlite_catalog.specs.Listing.{IsSound}

pub either : (b : Bool) (x : Value) → cond b x x ≡ x
either true x = refl
either false x = refl

pub cast_integer : (v : Value) → is_of kinds.Integer v ≡ true → cast kinds.Integer v ≡ v
unfolding unary
cast_integer Null h = either _ Null
cast_integer (Int n) h = either _ (Int n)
cast_integer (Real x) h = absurd (true≢false (sym h))
cast_integer (Text t) h = absurd (true≢false (sym h))
cast_integer (Blob b) h = absurd (true≢false (sym h))

pub cast_text : (v : Value) → is_of kinds.Text v ≡ true → cast kinds.Text v ≡ v
cast_text Null h = refl
cast_text (Int n) h = absurd (true≢false (sym h))
cast_text (Real x) h = absurd (true≢false (sym h))
cast_text (Text t) h = refl
cast_text (Blob b) h = absurd (true≢false (sym h))

-- a column that is no key has a value of its type, or NULL
pub typed_at : (key : Option ℕ) (at : ℕ) (cs : List Column) (vs : Row) (i : ℕ) (c : Column) → are_typed key at cs vs ≡ true → slice_get cs i ≡ Some c → is_key key (at + i) ≡ false → suits c Null ≡ true
    → suits c (column vs i) ≡ true
typed_at key at [] vs i c h here free null = absurd (cc)
typed_at key at (d ∷ cs) [] i c h here free null = null
typed_at key at (d ∷ cs) (v ∷ vs) zero c h here free null =
    let same : d ≡ c = cc in
    let first : (if is_key key at then is_null v else suits d v) ≡ true = (and_parts _ _ h).0 in
    let open_at : is_key key at ≡ false = ap (is_key key) (omega arith) ∙ free in
    subst (λ k. suits k v ≡ true) same (rw open_at at first)
typed_at key at (d ∷ cs) (v ∷ vs) (suc i) c h here free null =
    typed_at key (at + 1) cs vs i c (and_parts _ _ h).1 here (ap (is_key key) (omega arith) ∙ free) null

pub past_first : (r : Row) (i : ℕ) → column (drop 1 r) i ≡ column r (suc i)
past_first [] i = refl
past_first (v ∷ r) i = refl

-- the columns of a row of `node`
pub record TypedNode (r : Row) : Type 0 where
  pub path : is_of kinds.Text (node_path r) ≡ true
  pub parent : is_of kinds.Integer (node_parent r) ≡ true
  pub kind : is_of kinds.Integer (node_kind r) ≡ true
  pub owner : is_of kinds.Text (node_owner r) ≡ true
  pub label : is_of kinds.Text (node_label r) ≡ true
  pub text : is_of kinds.Text (node_text r) ≡ true
  pub number : is_of kinds.Integer (node_number r) ≡ true

pub typed_node : (db : Trees) (r : Row) → IsSound book_schema db → Has (db 0) r → TypedNode r
typed_node db r sound there =
    let typed = (and_parts _ _ (all_has _ (db 0) r (sound.obeys.rules Datatype).0 there)).0 in
    let at = λ (i : ℕ) (c : Column). typed_at (Some 0) 0 node_table.columns (drop 1 r) i c typed in
    record {
      path = ap (is_of kinds.Text) (sym (past_first r 1)) ∙ at 1 _ refl refl refl;
      parent = ap (is_of kinds.Integer) (sym (past_first r 2)) ∙ at 2 _ refl refl refl;
      kind = ap (is_of kinds.Integer) (sym (past_first r 3)) ∙ at 3 _ refl refl refl;
      owner = ap (is_of kinds.Text) (sym (past_first r 4)) ∙ at 4 _ refl refl refl;
      label = ap (is_of kinds.Text) (sym (past_first r 5)) ∙ at 5 _ refl refl refl;
      text = ap (is_of kinds.Text) (sym (past_first r 6)) ∙ at 6 _ refl refl refl;
      number = ap (is_of kinds.Integer) (sym (past_first r 7)) ∙ at 7 _ refl refl refl;
    }
