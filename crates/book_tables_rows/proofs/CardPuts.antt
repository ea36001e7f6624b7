-- A card is found and put, step by step.
use Rattle.book_tables_rows.proofs.Common.{◌≡◌, ℕ, Bool, true, false, cond, List, [], ◌∷◌, find, Option, Some, None, option_map, refl, sym, ap, ◌∙◌, Row, State, FoundNode, Rows, rows_of, IsBook, update_where, is_at, is_mapped, told, told_of, Becomes}
use Rattle.std.proofs.Common.{is_some}

-- one write after another
pub becomes_then : (a b c : State) (f g : Rows → Rows) → Becomes a b f → Becomes b c g → Becomes a c (λ rows. g (f rows))
becomes_then a b c f g first second = record {
  inside = second.inside;
  was_open = first.was_open;
  is_open = second.is_open;
  rows = λ book. let x = first.rows book in let y = second.rows x.0 in (y.0, y.1 ∙ ap g x.1);
}

pub told_row : (f : FoundNode) (found : Option Row) → Some (told f) ≡ option_map told_of found → (row : Row) × (found ≡ Some row) × (told_of row ≡ told f)
told_row f None e = absurd cc
told_row f (Some row) e = (row, refl, (let same : told_of row ≡ told f = cc in same))

-- where no row is picked, none is changed
none_updated : (p : Row → Bool) (f : Row → Row) (xs : List Row) → find p xs ≡ None → update_where p f xs ≡ xs
none_updated p f [] none = refl
none_updated p f (x ∷ xs) none = elim (p x) as (λ b. cond b (Some x) (find p xs) ≡ None → cond b (f x) x ∷ update_where p f xs ≡ x ∷ xs) [
  | true ↦ λ is. absurd (let e = is in cc)
  | false ↦ λ is. ap (λ more. x ∷ more) (none_updated p f xs is)
] none

none_there : (found : Option Row) → is_some found ≡ false → found ≡ None
none_there None is = refl
none_there (Some r) is = absurd cc

-- a row is written where one is at a path, and else added: the answer of the first statement tells which
module _ (old mid : State) (at : List ℕ) (change : Row → Row) (write : Bool → Rows → Rows) (there : Bool)
    (updated : Becomes old mid (λ rows. record rows { nodes = update_where (is_at at) change rows.nodes })) (tells : IsBook old.now → there ≡ is_mapped at (rows_of old.now.trees)) where
  pub writes_new : (new : State) → there ≡ false → Becomes mid new (write false) → Becomes old new (λ rows. write (is_mapped at rows) rows)
  writes_new new is added = record {
    inside = added.inside;
    was_open = updated.was_open;
    is_open = added.is_open;
    rows = λ book.
        let rows = rows_of old.now.trees in
        let first = updated.rows book in
        let done = added.rows first.0 in
        let none = none_there (find (is_at at) rows.nodes) (sym (tells book) ∙ is) in
        let same : rows_of mid.now.trees ≡ rows = first.1 ∙ ap (λ nodes. record rows { nodes = nodes }) (none_updated (is_at at) change rows.nodes none) in
        (done.0, done.1 ∙ ap (write false) same ∙ ap (λ b. write b rows) (sym is ∙ tells book));
  }
