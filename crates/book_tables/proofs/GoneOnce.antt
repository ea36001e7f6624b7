-- A book has a removed name once, as the key of `gone` says.
use Rattle.book_tables.proofs.Common.{◌≡◌, inl, inr, ℕ, true, false, List, [], ◌∷◌, refl, sym, subst, ◌∙◌, true≢false, and_parts, false_from_ne_true, Value, Text, Database, IsDatabase, Row, gone_book_place, gone_name_place, rows_of, has, IsBook, book_schema, is_gone, PassesOnce}
use Rattle.sqlite_value.specs.Keys.{plain}
use Rattle.sqlite_value.proofs.KeyLemmas.{first_key-plain}
use Rattle.sqlite_schema.specs.Rules.{agree}
use Rattle.sqlite_rules.proofs.KeyLemmas.{agree_back, agree_chain}
use Rattle.sqlite_keyed.proofs.ListLemmas.{ascending_weaker}
use Rattle.sqlite_catalog.proofs.AlterLemmas.{keys_are_unique}
use Rattle.book_tables_rows.specs.Schema.{gone_table}
use Rattle.book_tables_rows.proofs.Entries.{all_distinct}

abbrev keys : List ℕ
keys = 1 ∷ 2 ∷ []

same_name : (id : Value) (name : List ℕ) (a b : Row) → is_gone id name a ≡ true → is_gone id name b ≡ true → agree plain keys a keys b ≡ true
same_name id name a b p q =
    let key : Row = id ∷ Text name ∷ [] in
    let pa : (has gone_book_place id a ≡ true) × (has gone_name_place (Text name) a ≡ true) = and_parts (has gone_book_place id a) (has gone_name_place (Text name) a) p in
    let pb : (has gone_book_place id b ≡ true) × (has gone_name_place (Text name) b ≡ true) = and_parts (has gone_book_place id b) (has gone_name_place (Text name) b) q in
    let first : agree plain keys a (0 ∷ 1 ∷ []) key ≡ true = rw (first_key-plain, pa.0, pa.1) refl in
    let second : agree plain keys b (0 ∷ 1 ∷ []) key ≡ true = rw (first_key-plain, pb.0, pb.1) refl in
    agree_chain plain keys (0 ∷ 1 ∷ []) keys a key b first (agree_back plain keys (0 ∷ 1 ∷ []) b key second)

pub gone_once : (db : Database) → IsBook db → (id : Value) (name : List ℕ) → PassesOnce (is_gone id name) (rows_of db.trees).gone
gone_once db book id name =
    let rules = subst (λ k. IsDatabase (record { schema = k; trees = db.trees })) book.schema book.rules in
    let shaped = book.rising gone_table (inr (inr (inr (inl refl)))) in
    let distinct = all_distinct keys (db.trees 6) (λ row there. keys_are_unique book_schema db.trees _ 0 keys row rules (inr (inr (inr (inl refl)))) refl there) (db.trees 6) (λ r t. t) shaped.0 shaped.1 in
    ascending_weaker (λ a b. agree plain keys a keys b ≡ false) (λ a b. is_gone id name a ≡ true → is_gone id name b ≡ false)
    (λ a b apart p. false_from_ne_true (is_gone id name b) (λ q. true≢false (sym (same_name id name a b p q) ∙ apart))) (db.trees 6) distinct
