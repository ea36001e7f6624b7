-- Rows that give an Office: where a row stands, and which rows stay when one is written.
use Rattle.book_tables.proofs.Common.{◌≡◌, ◌≢◌, inl, inr, ℕ, ℤ, Bool, true, false, cond, List, [], ◌∷◌, ◌++◌, find, Option, Some, None, refl, sym, ap, ◌∙◌, option_or, AllByRecursion, find-append, tied_itself, Value, Int, Text, id_in, Row, value_cmp, rowid, IsShaped, Has, all_has, value_cmp_total, Path, path_text, parent_of, update_where, same, is_same, by_names, gone_book, node_parent, node_path, Rows, is_at, row_at, IsParent, IsNode, IsEntry, IsRemoved}
use Rattle.sqlite_trees.specs.Tree.{IsTable}
use Rattle.sqlite_trees.specs.declared.store.Shape.TheVariants.{Table as TableShape}
use Rattle.book_office_values.specs.declared.paths.Path.TheVariants as path
use Rattle.book_tables_rows.proofs.Shapes.{int_of}
use Rattle.book_tables.proofs.Looking.{found_has, has_text}

pub apart : (a b : List ℕ) → a ≢ b → same a b ≡ false
apart a b h = by_names a b (λ t. t ≡ false) (λ is. absurd (h is)) (λ _. refl)

-- rows of one number are one
pub same_rowid : (rows : List Row) (r s : Row) → IsTable rows → Has rows r → Has rows s → rowid r ≡ rowid s → r ≡ s
same_rowid [] r s table in_r in_s is = absurd in_r
same_rowid (x ∷ rows) r s table (inl a) (inl b) is = a ∙ sym b
same_rowid (x ∷ rows) r s table (inl a) (inr b) is =
    absurd (let less = sym (ap (λ v. value_cmp v (rowid s)) (ap rowid (sym a) ∙ is)) ∙ all_has _ rows s table.0 b in let tie = sym less ∙ tied_itself value_cmp_total (rowid s) in cc)
same_rowid (x ∷ rows) r s table (inr a) (inl b) is =
    absurd (let less = sym (ap (λ v. value_cmp v (rowid r)) (ap rowid (sym b) ∙ sym is)) ∙ all_has _ rows r table.0 a in let tie = sym less ∙ tied_itself value_cmp_total (rowid r) in cc)
same_rowid (x ∷ rows) r s table (inr a) (inr b) is = same_rowid rows r s table.1 a b is

pub or_none : {A : Type 0} (x : Option A) → option_or x None ≡ x
or_none None = refl
or_none (Some a) = refl

-- a row is added at a path where none was
pub row_added : (nodes : List Row) (new : Row) (at t : List ℕ) → node_path new ≡ Text at → find (is_at at) nodes ≡ None
    → find (is_at t) (nodes ++ new ∷ []) ≡ cond (same at t) (Some new) (find (is_at t) nodes)
row_added nodes new at t is none =
    find-append (is_at t) nodes (new ∷ []) ∙ ap (λ b. option_or (find (is_at t) nodes) (cond b (Some new) None)) (has_text 2 new at t is)
    ∙ by_names at t (λ b. option_or (find (is_at t) nodes) (cond b (Some new) None) ≡ cond b (Some new) (find (is_at t) nodes))
    (λ here. ap (λ x. option_or x (Some new)) (ap (λ u. find (is_at u) nodes) (sym here) ∙ none))
    (λ _. or_none (find (is_at t) nodes))

-- each row that is found is found afterwards, with its number
abbrev pub KeepsNumbers : Rows → Rows → Type 0
KeepsNumbers rows after = (t : List ℕ) (r : Row) → row_at rows t ≡ Some r → (s : Row) × (row_at after t ≡ Some s) × (rowid s ≡ rowid r)

pub kept_parent : (rows after : Rows) → KeepsNumbers rows after → (v : Value) (above : Option Path) → IsParent rows v above → IsParent after v above
kept_parent rows after keeps v None h = h
kept_parent rows after keeps v (Some p) (r, found, is) = let k = keeps (path_text p) r found in (k.0, k.1, is ∙ sym k.2)

pub has_updated : (p : Row → Bool) (f : Row → Row) → ((x : Row) → rowid (f x) ≡ rowid x) → (xs : List Row) (x : Row) → Has xs x
    → (y : Row) × Has (update_where p f xs) y × (rowid y ≡ rowid x)
has_updated p f keeps [] x h = absurd h
has_updated p f keeps (z ∷ xs) x (inl is) =
    (cond (p z) (f z) z, inl refl, (elim (p z) as (λ b. rowid (cond b (f z) z) ≡ rowid z) [ true ↦ keeps z | false ↦ refl ]) ∙ ap rowid (sym is))
has_updated p f keeps (z ∷ xs) x (inr h) = let rest = has_updated p f keeps xs x h in (rest.0, inr rest.1, rest.2)

pub has_appended : (xs ys : List Row) (x : Row) → Has xs x → Has (xs ++ ys) x
has_appended [] ys x h = absurd h
has_appended (z ∷ xs) ys x (inl is) = inl is
has_appended (z ∷ xs) ys x (inr h) = inr (has_appended xs ys x h)

pub all_updated : (P : Row → Type 0) (p : Row → Bool) (f : Row → Row) → ((x : Row) → P x → P (f x)) → (xs : List Row) → AllByRecursion P xs → AllByRecursion P (update_where p f xs)
all_updated P p f keeps [] all = tt
all_updated P p f keeps (x ∷ xs) all =
    ((elim (p x) as (λ b. P (cond b (f x) x)) [ true ↦ keeps x all.0 | false ↦ all.0 ]), all_updated P p f keeps xs all.1)

pub all_from_has : (P : Row → Type 0) (xs : List Row) → ((x : Row) → Has xs x → P x) → AllByRecursion P xs
all_from_has P [] h = tt
all_from_has P (x ∷ xs) h = (h x (inl refl), all_from_has P xs (λ y there. h y (inr there)))

-- each row stays, by its number
abbrev pub KeepsRows : Rows → Rows → Type 0
KeepsRows rows after = (x : Row) → Has rows.nodes x → (y : Row) × Has after.nodes y × (rowid y ≡ rowid x)

pub kept_node : (rows after : Rows) → KeepsNumbers rows after → (row : Row) → IsNode rows row → IsNode after row
kept_node rows after keeps row (p, n) = (p, record { named = n.named; path = n.path; parent = kept_parent rows after keeps (node_parent row) (parent_of p) n.parent; kind = n.kind; number = n.number })

pub kept_entry : (rows after : Rows) → KeepsRows rows after → (row : Row) → IsEntry rows row → IsEntry after row
kept_entry rows after keeps row e =
    let k = keeps e.node e.there in
    record { node = k.0; there = k.1; its = e.its ∙ sym k.2; list = e.list; protected = e.protected; place = e.place; spelled = e.spelled }

pub kept_removed : (rows after : Rows) → KeepsNumbers rows after → (row : Row) → IsRemoved rows row → IsRemoved after row
kept_removed rows after keeps row r =
    record { book = r.book; named = r.named; there = kept_parent rows after keeps (gone_book row) (Some (path.Book r.book)) r.there; name = r.name; spelled = r.spelled; number = r.number }

-- the number of a row
pub row_number : (rows : Rows) → IsShaped TableShape rows.nodes → (x : Row) → Has rows.nodes x → Int (id_in (rowid x)) ≡ rowid x
row_number rows shaped x there = let k = int_of (rowid x) (all_has _ rows.nodes x shaped.1 there) in ap (λ v. Int (id_in v)) k.1 ∙ sym k.1

module _ (rows : Rows) (nodes : AllByRecursion (IsNode rows) rows.nodes) (shaped : IsShaped TableShape rows.nodes) where
  -- the row that is found at a text has it
  pub found_at : (t : List ℕ) (r : Row) → row_at rows t ≡ Some r → node_path r ≡ Text t
  found_at t r found =
      let there = found_has (is_at t) rows.nodes r found in
      let node = all_has (IsNode rows) rows.nodes r nodes there.0 in
      node.1.path ∙ ap Text (is_same (path_text node.0) t (sym (has_text 2 r (path_text node.0) t node.1.path) ∙ there.1))

  pub is_at_found : (t u : List ℕ) (r : Row) → row_at rows t ≡ Some r → is_at u r ≡ same t u
  is_at_found t u r found = has_text 2 r t u (found_at t r found)

  pub number_of_row : (t : List ℕ) (r : Row) → row_at rows t ≡ Some r → (n : ℤ) × (rowid r ≡ Int n)
  number_of_row t r found = int_of (rowid r) (all_has _ rows.nodes r shaped.1 (found_has (is_at t) rows.nodes r found).0)

  -- rows at different texts have different numbers
  pub numbers_apart : (t u : List ℕ) (r s : Row) → row_at rows t ≡ Some r → row_at rows u ≡ Some s → rowid r ≡ rowid s → t ≡ u
  numbers_apart t u r s at_t at_u is =
      let one = same_rowid rows.nodes r s shaped.0 (found_has (is_at t) rows.nodes r at_t).0 (found_has (is_at u) rows.nodes s at_u).0 is in
      is_same t u (sym (is_at_found t u r at_t) ∙ ap (is_at u) one ∙ (found_has (is_at u) rows.nodes s at_u).1)
